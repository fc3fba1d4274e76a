use Rattle.std.proofs.Common.{length, ◌-◌, ◌*◌}
use Rattle.qm_zomega.specs.Numbers.{IsDivisible}
use Rattle.qm_denot.specs.LettersByPlace.{had_at}
use Rattle.qm_kernels.specs.Blocks.{SoFar}
use Rattle.qm_kernels.specs.Done.{AllHeld}
use Rattle.qm_kernels.proofs.halving.had_divides.Given as goal

abbrev pub invariant-loop-start : goal.invariant-loop-start
invariant-loop-start g l = SoFar (λ xs us. AllHeld g.Z.Numerator.meaning IsDivisible (had_at l.place) xs) (2 * l.half) l.list l.list l.start

abbrev pub decreases-loop-start : goal.decreases-loop-start
decreases-loop-start g l = length l.initial.list - l.start
