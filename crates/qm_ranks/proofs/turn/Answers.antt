use Rattle.std.proofs.Common.{◌∙◌, ◌+◌, ◌%◌, ◌<◌, ◌≤◌, length, ap, subst}
use Rattle.std.proofs.Math.Nat.{mod-lt}
use Rattle.qm_instr.specs.Programs.{Programs}
use Rattle.qm_ranks.proofs.Turning.{waits_at_first, idle_waits, did_turns, halted_turns, all_turns}
use Rattle.qm_ranks.proofs.turn.Goals as goal

pub loop-steps-init : goal.loop-steps-init
loop-steps-init g c = waits_at_first g.A.Amps.store _ _

pub returns-in-Did : goal.returns-in-Did
returns-in-Did g c =
    let ranks = c.from-ranks.ensures ∙ c.ranks.ensures.value ∙ ap (λ (p : Programs). length p.ranks) (c.input.ensures.value ∙ c.ready.ensures) in
    did_turns g.A.Amps.store _ _ _ _ _ _ c.loop-steps.invariant (ap (λ n. (c.args.word % n + c.loop-steps.steps) % n) ranks) _
    (subst (λ n. c.loop-steps.steps < n) ranks c.loop-steps-test.true) c.in-Did.ensures.step

pub returns-in-Halted : goal.returns-in-Halted
returns-in-Halted g c =
    let ranks = c.from-ranks.ensures ∙ c.ranks.ensures.value ∙ ap (λ (p : Programs). length p.ranks) (c.input.ensures.value ∙ c.ready.ensures) in
    halted_turns g.A.Amps.store _ _ _ _ _ _ c.loop-steps.invariant (ap (λ n. (c.args.word % n + c.loop-steps.steps) % n) ranks)
    (subst (λ n. c.loop-steps.steps < n) ranks c.loop-steps-test.true) c.in-Halted.ensures.step

pub loop-steps-preserved : goal.loop-steps-preserved
loop-steps-preserved g c =
    let ranks = c.from-ranks.ensures ∙ c.ranks.ensures.value ∙ ap (λ (p : Programs). length p.ranks) (c.input.ensures.value ∙ c.ready.ensures) in
    idle_waits g.A.Amps.store _ _ _ _ _ _ c.loop-steps.invariant (ap (λ n. (c.args.word % n + c.loop-steps.steps) % n) ranks) _ c.in-Blocked.is c.step.ensures.step

pub returns : goal.returns
returns g c =
    let ranks = c.from-ranks.ensures ∙ c.ranks.ensures.value ∙ ap (λ (p : Programs). length p.ranks) (c.input.ensures.value ∙ c.ready.ensures) in
    let some : 1 ≤ length c.args.machine.now.programs.ranks =
    subst (λ (p : Programs). 1 ≤ length p.ranks) (c.input.ensures.value ∙ c.ready.ensures) c.ranks.ensures.in_range.some_ranks in
    all_turns g.A.Amps.store _ _ _ _ c.loop-steps.invariant (mod-lt c.args.word some) (subst (λ n. n ≤ c.loop-steps.steps) ranks c.loop-steps-test.false)
