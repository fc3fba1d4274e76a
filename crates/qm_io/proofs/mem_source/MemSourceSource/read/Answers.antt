use Rattle.std.proofs.Common.{ℕ, drop, arith, ap, refl, length-take, Some}
use Rattle.qm_io.proofs.EndLemmas.{front_copied}
use Rattle.qm_io.proofs.mem_source.MemSourceSource.read.Goals as goal

pub returns-clause-ok : goal.returns-clause-ok
returns-clause-ok c =
    let copied = c.copy_from_slice in
    let given = front_copied c.self.inside.bytes.items copied.new.self (drop c.min-n.result c.args.piece.now) c.self.inside.at c.min-n.result _ (rw c.deref-2.ensures.value at copied.ensures.after) (omega arith) (omega (arith, copied.ensures.len, length-take {A = ℕ})) in
    rw (← c.self.view_is) record { left = ap Some given; faults = refl }
