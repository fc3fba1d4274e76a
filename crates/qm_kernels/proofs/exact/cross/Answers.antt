use Rattle.std.proofs.Common.{refl}
use Rattle.qm_zomega.specs.Zw.{value_of}
use Rattle.qm_kernels.proofs.MovedLaws.{cross_meant}
use Rattle.qm_kernels.specs.ZwZero.{zero_zw}
use Rattle.qm_kernels.proofs.exact.cross.Goals as goal

pub returns : goal.returns
returns c = cross_meant value_of zero_zw refl _ _ c.args.control c.args.target c.cross.ensures.moved
