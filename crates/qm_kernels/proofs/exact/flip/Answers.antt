use Rattle.std.proofs.Common.{refl}
use Rattle.qm_zomega.specs.Zw.{value_of}
use Rattle.qm_kernels.proofs.MovedLaws.{flip_meant}
use Rattle.qm_kernels.specs.ZwZero.{zero_zw}
use Rattle.qm_kernels.proofs.exact.flip.Goals as goal

pub returns : goal.returns
returns c = flip_meant value_of zero_zw refl _ _ c.args.place c.flip.ensures.moved
