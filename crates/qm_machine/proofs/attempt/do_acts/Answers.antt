use Rattle.std.proofs.Common.{[], ◌∷◌}
use Rattle.qm_machine.proofs.Chains.{did_both}
use Rattle.qm_machine.proofs.Acting.{quiet_sure, three_sure}
use Rattle.qm_machine.proofs.attempt.do_acts.Goals as goal

pub do_sure-requires-in-Three-3-clause-grow : goal.do_sure-requires-in-Three-3-clause-grow
do_sure-requires-in-Three-3-clause-grow g c =
    let sure = rw c.in-Three.is at c.requires.sure in
    λ e. absurd (let h = (three_sure c.in-Three.a c.in-Three.b c.in-Three.c sure).2 in let k : ⊥ = cc in k)

pub do_sure-requires-in-Three-3-clause-sure : goal.do_sure-requires-in-Three-3-clause-sure
do_sure-requires-in-Three-3-clause-sure g c =
    let sure = rw c.in-Three.is at c.requires.sure in
    quiet_sure c.in-Three.c (three_sure c.in-Three.a c.in-Three.b c.in-Three.c sure).2

pub returns-in-Two-clause-ok : goal.returns-in-Two-clause-ok
returns-in-Two-clause-ok g c = rw c.in-Two.is (did_both _ _ _ _ (c.in-Two.a ∷ []) (c.in-Two.b ∷ []) c.do_sure.ensures c.do_sure-in-Two.ensures)

pub returns-in-Three-clause-ok : goal.returns-in-Three-clause-ok
returns-in-Three-clause-ok g c =
    let t = c.in-Three in
    rw t.is
    (did_both _ _ _ _ (t.a ∷ []) (t.b ∷ t.c ∷ []) c.do_sure-in-Three.ensures
    (did_both _ _ _ _ (t.b ∷ []) (t.c ∷ []) c.do_sure-in-Three-2.ensures c.do_sure-in-Three-3.ensures))
