use Rattle.std.proofs.Common.{arith}
use Rattle.qm_machine.specs.Views.{tables}
use Rattle.qm_machine.proofs.RankTables.{part_read}
use Rattle.qm_machine.proofs.books.Books.rank.Goals as goal

pub index-requires : goal.index-requires
unfolding tables
index-requires c = let e = c.args.self.now.ranks.ok.0 in let h = c.requires in omega arith

pub returns : goal.returns
unfolding tables
returns c = part_read c.args.self.now.ranks.items c.from.result c.args.rank c.index.result.now c.from.ensures c.requires c.index.ensures
