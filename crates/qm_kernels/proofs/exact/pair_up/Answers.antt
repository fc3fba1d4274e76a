use Rattle.std.proofs.Common.{refl}
use Rattle.qm_zomega.specs.Zw.{value_of}
use Rattle.qm_kernels.proofs.MovedLaws.{pair_meant}
use Rattle.qm_kernels.specs.ZwZero.{zero_zw}
use Rattle.qm_kernels.proofs.exact.pair_up.Goals as goal

pub returns : goal.returns
returns c = pair_meant value_of zero_zw refl _ _ c.args.n c.requires.size c.pair_up.ensures.size c.pair_up.ensures.kept c.pair_up.ensures.copied c.requires.rest
