use Rattle.std.proofs.Common.{rules}
use Rattle.qm_ideal.proofs.width.prepare.Goals as goal

pub returns-in_ok-make_fresh-in-Rename : goal.returns-in_ok-make_fresh-in-Rename
returns-in_ok-make_fresh-in-Rename c = search rules
