use Rattle.std.proofs.Common.{rules}
use Rattle.qm_tool.proofs.running.stop_line.Goals as goal

pub returns : goal.returns
returns c = search rules
