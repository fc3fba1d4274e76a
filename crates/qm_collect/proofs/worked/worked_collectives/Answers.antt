use Rattle.std.proofs.Common.{refl}
use Rattle.qm_instr.specs.Lanes.{is_lane}
use Rattle.qm_collect.proofs.worked.worked_collectives.Goals as goal

pub returns : goal.returns
unfolding is_lane
returns c = record { bcast = refl; unbcast = refl; scatter = refl; gather = refl; unscatter = refl; ungather = refl; reduce = refl; unreduce = refl }
