use Rattle.std.proofs.Common.{sym, ap, subst, ◌∙◌}
use Rattle.qm_instr.specs.Programs.{Programs}
use Rattle.qm_machine.specs.Keeps.{state_of}
use Rattle.qm_print.specs.Slots.{AreLive, full_slots}
use Rattle.qm_tool.proofs.FullSlots.{machine_slots_are_live}
use Rattle.qm_tool.proofs.running.Run.of.Goals as goal

pub returns-clause-may_put : goal.returns-clause-may_put
returns-clause-may_put g c =
    let m = c.args.machine in
    let live = machine_slots_are_live g.A.Amps.store m c.halt_of-halt.ensures.kept in
    let full = c.in_ok-live.ensures.slots ∙ ap (λ (p : Programs). full_slots p (state_of m).tables.slots) (c.input.ensures.value ∙ c.ready-2.ensures) in
    record { few = c.head_of-head.ensures.few; live = subst (AreLive _) (sym full) live }
