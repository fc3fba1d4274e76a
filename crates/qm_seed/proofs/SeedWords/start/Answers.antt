use Rattle.std.proofs.Common.{rules}
use Rattle.qm_seed.proofs.SeedWords.start.Goals as goal

pub returns : goal.returns
returns c = search rules
