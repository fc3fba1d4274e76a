use Rattle.qm_ideal.specs.OneCircuits.{slot_of}
use Rattle.qm_instr.specs.Programs.{rank_of}
use Rattle.qm_print.specs.Slots.{rank_slots, slot_lines}
use Rattle.std.proofs.Common.{◌≡◌, ◌<◌, length, arith, subst}
use Rattle.qm_print.specs.Below.{text_below}
use Rattle.qm_print.specs.Gathering.{Added}
use Rattle.qm_print.proofs.GatherLemmas.{Added-nothing, Gathers-stop}
use Rattle.qm_print.proofs.BelowLemmas.{Added-below, Stopped-below, slots_below-lines}
use Rattle.qm_print.proofs.circuit.add_slots.Goals as goal

pub returns-in_err-add_rank_slots : goal.returns-in_err-add_rank_slots
returns-in_err-add_rank_slots g c =
    let known : c.loop-rank.rank < length c.args.input.now.ranks = omega (arith, c.ranks-rank-end.ensures.value) in
    rw (← slots_below-lines c.args.input.now (length c.args.input.now.ranks) (slot_of c.args.mono.now)) (Gathers-stop _ _ _ _ _ _ _ c.from_residual.ensures.1 (Stopped-below (λ r. slot_lines (rank_slots r (rank_of c.args.input.now r).qubits (slot_of c.args.mono.now r))) _ _ _ _ _ c.loop-rank.rank (length c.args.input.now.ranks) known c.loop-rank.invariant (rw c.qubits.ensures at c.in_err-add_rank_slots.ensures)))

pub loop-rank-init : goal.loop-rank-init
loop-rank-init g c = Added-nothing _ _

pub loop-rank-preserved : goal.loop-rank-preserved
loop-rank-preserved g c = Added-below (λ r. slot_lines (rank_slots r (rank_of c.args.input.now r).qubits (slot_of c.args.mono.now r))) _ _ _ _ _ c.loop-rank.rank _ c.loop-rank.invariant (rw c.qubits.ensures at c.in_ok-add_rank_slots.ensures)

pub returns : goal.returns
returns g c =
    let all : c.loop-rank.rank ≡ length c.args.input.now.ranks = omega (arith, c.ranks-rank-end.ensures.value) in
    rw (← slots_below-lines c.args.input.now (length c.args.input.now.ranks) (slot_of c.args.mono.now)) (subst (λ n. Added (g.O.Sink.seen c.args.sink.now) (g.O.Sink.seen c.loop-rank.sink) c.args.page.now c.loop-rank.page (text_below (λ r. slot_lines (rank_slots r (rank_of c.args.input.now r).qubits (slot_of c.args.mono.now r))) n)) all c.loop-rank.invariant)
