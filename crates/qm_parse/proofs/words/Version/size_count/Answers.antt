use Rattle.std.proofs.Common.{rules}
use Rattle.qm_parse.proofs.words.Version.size_count.Goals as goal

pub returns-in-Two : goal.returns-in-Two
returns-in-Two c = search rules
