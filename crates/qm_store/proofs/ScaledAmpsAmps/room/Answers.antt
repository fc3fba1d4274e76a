use Rattle.std.proofs.Common.{rules}
use Rattle.qm_store.proofs.ScaledAmpsAmps.room.Goals as goal

pub returns : goal.returns
returns c = search rules
