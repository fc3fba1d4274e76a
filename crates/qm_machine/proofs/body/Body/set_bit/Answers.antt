use Rattle.std.proofs.Common.{arith, length-set, slice_set, refl}
use Rattle.qm_proto.specs.Model.State.{Part}
use Rattle.qm_machine.specs.Views.{facts, tables}
use Rattle.qm_machine.proofs.RankTables.{tables_changed}
use Rattle.qm_machine.proofs.Squares.{same_beside, did_set}
use Rattle.qm_machine.proofs.body.Body.set_bit.Goals as goal

pub index_mut-requires : goal.index_mut-requires
unfolding tables
index_mut-requires g c = let e = c.args.self.now.books.ranks.ok.0 in let h = c.requires.known in omega arith

pub returns : goal.returns
unfolding tables
returns g c =
    let f = facts g.A.Amps.store c.args.self.now in
    let b = c.args.self.now.books in
    let i = c.from.result in
    let new = c.set_bit.new.self in
    did_set _ _ c.args.rank
    (same_beside f _ _ _ c.requires.sound.placing refl (length-set b.ranks.items i new)) c.args.b c.args.v c.requires
    (tables_changed b i c.args.rank c.index_mut.result.now new (λ (x : Part). record x { bits = slice_set x.bits c.args.b c.args.v }) c.from.ensures c.requires.known c.index_mut.ensures.value
    c.set_bit.ensures)
