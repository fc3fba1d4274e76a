use Rattle.std.proofs.Common.{rules, arith, length-append, length-take}
use Rattle.qm_io.proofs.EndLemmas.{Gave-join}
use Rattle.qm_io.proofs.intake.read_all.Goals as goal

pub returns-then-n-len : goal.returns-then-n-len
returns-then-n-len g c = record {
  text = _;
  gave = Gave-join _ _ _ _ _ c.loop.invariant.gave c.in-Ok.ensures.ok;
  long = simp (length-append, length-take) (omega (arith, c.in-Ok.ensures.within, c.read.auto.piece));
}

pub returns-in_default : goal.returns-in_default
returns-in_default g c = search rules
