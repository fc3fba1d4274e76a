use Rattle.std.proofs.Common.{◌∙◌, ◌==◌, [], ◌∷◌, get_or, take, sym, ap}
use Rattle.std.proofs.lemmas.List.{map_more}
use Rattle.qm_instr.specs.Programs.{Programs}
use Rattle.qm_expand.specs.Drafts.{with_outcomes}
use Rattle.qm_expand.proofs.OutcomeLemmas.{with_outcomes-more}
use Rattle.qm_expand.proofs.WalkLemmas.{same_Ok}
use Rattle.qm_expand.proofs.OutcomeLemmas.{ones}
use Rattle.qm_expand.proofs.draft.Draft.append.Goals as goal

pub loop-digit-preserved : goal.loop-digit-preserved
loop-digit-preserved c =
    let p = c.args.self.now.input in
    let k = c.loop-digit.digit-index in
    let digits = c.args.digits.now in
    let m = get_or digits k 0 == 49 in
    record {
      input =
          sym (same_Ok _ _ c.in_ok-push_outcome.ensures.answers)
          ∙ ap (λ (q : Programs). with_outcomes c.args.own c.args.rank (m ∷ []) q) c.loop-digit.invariant.input
          ∙ with_outcomes-more c.args.own c.args.rank p (ones (take k digits)) (m ∷ []) c.requires
          ∙ ap (λ ms. with_outcomes c.args.own c.args.rank ms p) (sym (map_more (λ d. d == 49) digits k 0 c.loop-digit-test.true));
    }
