use Rattle.std.proofs.Common.{rules}
use Rattle.qm_zomega.proofs.Zw.times_omega.Goals as goal

pub returns : goal.returns
returns c = search rules
