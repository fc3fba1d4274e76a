use Rattle.std.proofs.Common.{arith, length-set, refl}
use Rattle.qm_proto.specs.Model.State.{Part}
use Rattle.qm_machine.specs.Views.{facts, tables}
use Rattle.qm_machine.proofs.RankTables.{tables_changed}
use Rattle.qm_machine.proofs.Squares.{same_beside, did_keep}
use Rattle.qm_machine.proofs.body.Body.keep_first.Goals as goal

pub index_mut-requires : goal.index_mut-requires
unfolding tables
index_mut-requires g c = let e = c.args.self.now.books.ranks.ok.0 in let h = c.requires.known in omega arith

pub returns : goal.returns
unfolding tables
returns g c =
    let f = facts g.A.Amps.store c.args.self.now in
    let b = c.args.self.now.books in
    let i = c.from.result in
    let new = c.keep_first.new.self in
    did_keep _ _ c.args.rank
    (same_beside f _ _ _ c.requires.sound.placing refl (length-set b.ranks.items i new)) c.args.m c.requires
    (tables_changed b i c.args.rank c.index_mut.result.now new (λ (x : Part). record x { first = c.args.m }) c.from.ensures c.requires.known c.index_mut.ensures.value
    c.keep_first.ensures)
