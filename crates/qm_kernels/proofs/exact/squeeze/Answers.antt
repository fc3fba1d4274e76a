use Rattle.std.proofs.Common.{refl}
use Rattle.qm_zomega.specs.Zw.{value_of}
use Rattle.qm_kernels.proofs.MovedLaws.{take_meant, rest_meant}
use Rattle.qm_kernels.specs.ZwZero.{zero_zw}
use Rattle.qm_kernels.proofs.exact.squeeze.Goals as goal

pub returns-clause-taken : goal.returns-clause-taken
returns-clause-taken c = take_meant value_of zero_zw refl _ _ c.args.place c.args.m _ c.squeeze.ensures.taken

pub returns-clause-rest : goal.returns-clause-rest
returns-clause-rest c = rest_meant value_of zero_zw refl _ _ _ refl _ c.squeeze.ensures.size c.squeeze.ensures.rest
