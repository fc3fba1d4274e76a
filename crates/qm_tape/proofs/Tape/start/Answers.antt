use Rattle.std.proofs.Common.{rules}
use Rattle.qm_tape.proofs.Tape.start.Goals as goal

pub returns : goal.returns
returns c = search rules
