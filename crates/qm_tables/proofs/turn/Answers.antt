use Rattle.std.proofs.Common.{rules}
use Rattle.qm_tables.proofs.turn.Goals as goal

pub returns : goal.returns
returns g c = search rules
