use Rattle.std.proofs.Common.{refl}
use Rattle.qm_instr.specs.Lanes.{is_lane}
use Rattle.qm_tree.proofs.worked.worked_letters.Goals as goal

pub returns : goal.returns
unfolding is_lane
returns c = record { cast = refl; uncast = refl; root_alone = refl }
