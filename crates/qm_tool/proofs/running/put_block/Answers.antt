use Rattle.std.proofs.Common.{rules}
use Rattle.qm_tool.proofs.running.put_block.Goals as goal

pub returns-in-TurnsOfStop : goal.returns-in-TurnsOfStop
returns-in-TurnsOfStop g c = search rules
