use Rattle.std.proofs.Common.{ap, arith, length-set, length, drop, refl}
use Rattle.qm_proto.specs.Model.State.{Part}
use Rattle.qm_machine.specs.Views.{facts, tables}
use Rattle.qm_machine.proofs.RankTables.{part_read, tables_changed}
use Rattle.qm_machine.proofs.Squares.{same_beside, did_use_own}
use Rattle.qm_machine.proofs.body.Body.use_own.Goals as goal

pub index_mut-requires : goal.index_mut-requires
unfolding tables
index_mut-requires g c = let e = c.args.self.now.books.ranks.ok.0 in let h = c.requires.known in omega arith

pub use_own-requires : goal.use_own-requires
unfolding tables
use_own-requires g c =
    let read = part_read c.args.self.now.books.ranks.items c.from.result c.args.rank c.index_mut.result.now c.from.ensures c.requires.known c.index_mut.ensures.value in
    let left = ap (λ (x : Part). length x.own) read in
    let h = c.requires.may.0 in
    rw left h

pub returns : goal.returns
unfolding tables
returns g c =
    let f = facts g.A.Amps.store c.args.self.now in
    let b = c.args.self.now.books in
    let i = c.from.result in
    let new = c.use_own.new.self in
    did_use_own _ _ c.args.rank
    (same_beside f _ _ _ c.requires.sound.placing refl (length-set b.ranks.items i new)) c.requires
    (tables_changed b i c.args.rank c.index_mut.result.now new (λ (x : Part). record x { own = drop 1 x.own }) c.from.ensures c.requires.known c.index_mut.ensures.value
    c.use_own.ensures)
