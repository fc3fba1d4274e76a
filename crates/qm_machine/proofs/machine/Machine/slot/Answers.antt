use Rattle.std.proofs.Common.{◌<◌, length, sym, arith}
use Rattle.qm_machine.proofs.Starts.{no_slot_elsewhere}
use Rattle.qm_machine.proofs.machine.Machine.slot.Goals as goal

pub returns-else-rank-from : goal.returns-else-rank-from
returns-else-rank-from g c =
    let unknown : ¬ (c.args.rank < length c.self.inside.ready.ranks) =
    λ known. let ranks = rw c.input.ensures.value at c.ranks.ensures.value in
    let no : ⊥ = omega (arith, c.if-rank-from.false, c.from.ensures, ranks, known) in no in
    rw (← c.self.view_is) (sym (no_slot_elsewhere c.self.invariant c.args.rank c.args.q unknown))
