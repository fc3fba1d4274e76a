use Rattle.std.proofs.Common.{rules}
use Rattle.qm_instr.proofs.counts.own_count.Goals as goal

pub returns-in-Measure : goal.returns-in-Measure
returns-in-Measure c = search rules
