use Rattle.qm_print.specs.Slots.{slot_text}
use Rattle.qm_print.proofs.GatherLemmas.{Added-nothing, Added-each, Stopped-each, Gathers-stop}
use Rattle.qm_print.proofs.state.add_slots.Goals as goal

pub returns-in_err-add_slot : goal.returns-in_err-add_slot
returns-in_err-add_slot g c =
    Gathers-stop _ _ _ _ _ _ _ c.from_residual.ensures.1
    (Stopped-each slot_text _ _ _ _ _ c.args.slots.now c.loop-full.full-index _ c.loop-full-test.true c.loop-full.invariant c.in_err-add_slot.ensures)

pub loop-full-init : goal.loop-full-init
loop-full-init g c = Added-nothing _ _

pub loop-full-preserved : goal.loop-full-preserved
loop-full-preserved g c = Added-each slot_text _ _ _ _ _ c.args.slots.now c.loop-full.full-index _ c.loop-full-test.true _ c.loop-full.invariant c.in_ok-add_slot.ensures
