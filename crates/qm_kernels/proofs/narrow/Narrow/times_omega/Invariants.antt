use Rattle.std.proofs.Common.{◌≡◌}
use Rattle.qm_zomega.specs.Numbers.{omega_times}
use Rattle.qm_kernels.specs.Narrow.{narrow_value}
use Rattle.qm_kernels.proofs.narrow.Narrow.times_omega.Given as goal

abbrev pub invariant-loop-i : goal.invariant-loop-i
invariant-loop-i l = narrow_value l.z ≡ omega_times l.i (narrow_value l.fn.self)
