use Rattle.std.proofs.Common.{rules, ◌≡◌, ◌∙◌, ◌+◌, [], ◌∷◌, length, length-append, sym, ap}
use Rattle.std.specs.Prelude.{slice_get}
use Rattle.qm_lock.specs.Passes.{IsReady, IsNew}
use Rattle.qm_lock.proofs.Places.{each_push}
use Rattle.qm_ranks.specs.Workers.{IsDone, AreNew}
use Rattle.qm_ranks.proofs.NewPasses.{last_is_ready, last_is_new, others_are_new}
use Rattle.qm_ranks.proofs.workers.+fn-work_all-join+arg3+work_all.Goals as goal

pub join-last-requires-after_bounds : goal.join-last-requires-after_bounds
join-last-requires-after_bounds g t c κs within =
    let passes = c.requires.passes in
    let all = c.in-Some.ensures.some in
    let ready : IsReady c.args.desk.now c.in-Some.rank c.in-Some.pass = last_is_ready _ _ _ _ _ passes all c.in-Some.ensures.place in
    let new : IsNew c.in-Some.pass = last_is_new c.args.desk.now _ _ _ passes all in
    let others : AreNew c.args.desk.now c.take_last.new.all.items = others_are_new _ _ _ _ passes all in
    let count : length c.args.passes.items ≡ length c.take_last.new.all.items + 1 = ap (λ ps. length ps) all ∙ length-append c.take_last.new.all.items (c.in-Some.pass ∷ []) in
    search rules

pub returns-clause-done : goal.returns-clause-done
returns-clause-done g t c = λ k d e. each_push (IsDone c.args.desk.now)
    c.join-last.result.1.items c.join-last.result.0 c.join-last.ensures.second.1.1 (search rules) k d (ap (λ l. slice_get l k) (sym c.push_reserved.ensures.items) ∙ e)
