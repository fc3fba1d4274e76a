use Rattle.qm_ideal.specs.OneCircuits.{slot_of}
use Rattle.qm_print.specs.Slots.{slot_if, slot_lines}
use Rattle.std.proofs.Common.{◌≡◌, ◌<◌, arith, subst}
use Rattle.qm_print.specs.Below.{text_below}
use Rattle.qm_print.specs.Gathering.{Added}
use Rattle.qm_print.proofs.GatherLemmas.{Added-nothing, Gathers-stop}
use Rattle.qm_print.proofs.BelowLemmas.{Added-below, Stopped-below, rank_slots-lines}
use Rattle.qm_print.proofs.circuit.add_rank_slots.Goals as goal

pub returns-in_err-add_slot_if : goal.returns-in_err-add_slot_if
returns-in_err-add_slot_if g c =
    let known : c.loop-slot.slot < c.args.slots = omega arith in
    rw (← rank_slots-lines c.args.rank c.args.slots (slot_of c.args.mono.now c.args.rank)) (Gathers-stop _ _ _ _ _ _ _ c.from_residual.ensures.1 (Stopped-below (λ q. slot_lines (slot_if c.args.rank q (slot_of c.args.mono.now c.args.rank q))) _ _ _ _ _ c.loop-slot.slot (c.args.slots) known c.loop-slot.invariant (rw c.slot.ensures at c.in_err-add_slot_if.ensures)))

pub loop-slot-init : goal.loop-slot-init
loop-slot-init g c = Added-nothing _ _

pub loop-slot-preserved : goal.loop-slot-preserved
loop-slot-preserved g c = Added-below (λ q. slot_lines (slot_if c.args.rank q (slot_of c.args.mono.now c.args.rank q))) _ _ _ _ _ c.loop-slot.slot _ c.loop-slot.invariant (rw c.slot.ensures at c.in_ok-add_slot_if.ensures)

pub returns : goal.returns
returns g c =
    let all : c.loop-slot.slot ≡ c.args.slots = omega arith in
    rw (← rank_slots-lines c.args.rank c.args.slots (slot_of c.args.mono.now c.args.rank)) (subst (λ n. Added (g.O.Sink.seen c.args.sink.now) (g.O.Sink.seen c.loop-slot.sink) c.args.page.now c.loop-slot.page (text_below (λ q. slot_lines (slot_if c.args.rank q (slot_of c.args.mono.now c.args.rank q))) n)) all c.loop-slot.invariant)
