use Rattle.std.proofs.Common.{◌≡◌, ◌∙◌, List, ℕ, ap, subst}
use Rattle.qm_instr.specs.Programs.{Programs}
use Rattle.qm_lock.specs.Lists.{times}
use Rattle.qm_lock.specs.Passes.{pass_count, pass_seen}
use Rattle.qm_ranks.specs.Workers.{StepsTo}
use Rattle.qm_ranks.proofs.TakingTurns.{took_turn}
use Rattle.qm_ranks.proofs.desk.take_turn.Goals as goal

pub returns-clause-turn : goal.returns-clause-turn
returns-clause-turn g c =
    let took = c.take-playing.ensures in
    let mid = c.take-playing.new.pass in
    let stepped = c.step_once-stepped in
    let number = took.number ∙ c.requires.ready.number in
    let own = subst (λ n. times n (pass_seen mid) ≡ pass_count mid) number took.own in
    let steps = subst (λ (q : Programs). StepsTo q (pass_seen mid) c.args.rank stepped.result.stayed stepped.new.machine.schedule) (ap (λ (o : List ℕ × Programs). o.1) took.opening)
    (subst (λ xs. StepsTo c.take-playing.result.0.machine.programs xs c.args.rank stepped.result.stayed stepped.new.machine.schedule) took.turns stepped.ensures.step) in
    took_turn _ c.args.rank _ mid c.give.new.pass stepped.new.machine.schedule number took.count own
    stepped.result c.is_none.result c.is_none.ensures steps stepped.ensures.at stepped.ensures.short c.give.ensures.count c.give.ensures.seen
