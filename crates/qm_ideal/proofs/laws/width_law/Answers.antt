use Rattle.qm_ideal.proofs.RoomLemmas as room
use Rattle.qm_ideal.proofs.laws.width_law.Goals as goal

pub returns : goal.returns
returns c = room.width_law
