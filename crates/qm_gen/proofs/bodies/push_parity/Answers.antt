use Rattle.std.proofs.Common.{append_assoc}
use Rattle.qm_gen.proofs.bodies.push_parity.Goals as goal

pub returns-in_ok-extend_from_slice-3 : goal.returns-in_ok-extend_from_slice-3
returns-in_ok-extend_from_slice-3 c =
    rw (c.if-rank-eq0.true, c.in_ok-extend_from_slice-3.ensures.items, c.in_ok-extend_from_slice-2.ensures.items, c.in_ok-push_numbered.ensures, c.in_ok-extend_from_slice.ensures.items) (simp append_assoc)
