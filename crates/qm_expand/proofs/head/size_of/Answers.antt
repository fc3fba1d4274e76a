use Rattle.std.proofs.Common.{rules}
use Rattle.qm_expand.proofs.head.size_of.Goals as goal

pub size_in-requires-in-Two : goal.size_in-requires-in-Two
size_in-requires-in-Two c = search rules
