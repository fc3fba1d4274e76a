use Rattle.std.proofs.Common.{refl}
use Rattle.qm_zomega.specs.Zw.{value_of}
use Rattle.qm_kernels.proofs.MovedLaws.{keep_meant}
use Rattle.qm_kernels.specs.ZwZero.{zero_zw}
use Rattle.qm_kernels.proofs.exact.keep.Goals as goal

pub returns : goal.returns
returns c = keep_meant value_of zero_zw refl _ _ _ refl c.args.place c.args.m c.keep.ensures.moved
