use Rattle.std.proofs.Common.{refl}
use Rattle.qm_machine.proofs.body.do_letter.Goals as goal

-- the letter never overflows
pub unreachable-requires : goal.unreachable-requires
unreachable-requires g c = c.requires.never (c.apply.ensures.overflow.0 (rw c.in-Err.is refl))
