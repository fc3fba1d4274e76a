use Rattle.std.proofs.Common.{◌∙◌, ◌<◌, drop, slice_index_or, slice_set, false, length, sym, ap, subst}
use Rattle.qm_ideal.specs.Drawings.{with_outcome}
use Rattle.qm_ideal.specs.UnderWay.{IsByTapes}
use Rattle.qm_ideal.proofs.TapeLemmas.{by_tapes_next}
use Rattle.qm_ideal.proofs.feed.TapesFeed.give.Goals as goal

pub returns-clause-ok : goal.returns-clause-ok
returns-clause-ok c p d h =
    let input = c.args.self.now.input.now in
    let used = c.args.self.now.used in
    let asked = c.requires in
    let known : c.args.rank < length p.ranks = subst (λ q. c.args.rank < length q.ranks) (sym asked.2.same ∙ h.same) asked.3 in
    let u = slice_index_or used c.from.result 0 in
    let own_so = c.own-own.ensures.value in
    subst (λ k. IsByTapes input (slice_set used k c.used_after.result) p (with_outcome d c.args.rank c.args.arg3 c.outcome_at.result)) (sym c.from-2.ensures)
    (by_tapes_next input used p d h c.args.rank u c.used_after.result c.args.arg3 c.outcome_at.result known (ap (λ k. slice_index_or used k 0) c.from.ensures)
    (c.outcome_at.ensures ∙ ap (λ own. slice_index_or own u false) own_so)
    (ap (drop c.used_after.result) (sym own_so) ∙ c.used_after.ensures ∙ ap (λ own. drop 1 (drop u own)) own_so))
