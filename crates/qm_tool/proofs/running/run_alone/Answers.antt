use Rattle.std.proofs.Common.{rules}
use Rattle.qm_tool.proofs.running.run_alone.Goals as goal

pub of-requires : goal.of-requires
of-requires c = search rules
