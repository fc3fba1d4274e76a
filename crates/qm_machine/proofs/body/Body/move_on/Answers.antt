use Rattle.std.proofs.Common.{◌∙◌, ℕ, length, slice_set, ap, arith, length-set}
use Rattle.qm_proto.specs.Model.State.{Part, with_at}
use Rattle.qm_proto.specs.Model.Runs.{part_after_event}
use Rattle.qm_machine.specs.Facts.{Facts}
use Rattle.qm_machine.specs.Views.{facts, tables}
use Rattle.qm_machine.proofs.RankTables.{part_read, parts_changed}
use Rattle.qm_machine.proofs.body.Body.move_on.Goals as goal

pub index_mut-requires : goal.index_mut-requires
unfolding tables
index_mut-requires g c = let e = c.args.self.now.books.ranks.ok.0 in let h = c.requires.known in omega arith

pub move_on-requires-clause-at : goal.move_on-requires-clause-at
unfolding tables
move_on-requires-clause-at g c =
    let read = part_read c.args.self.now.books.ranks.items c.from.result c.args.rank c.index_mut.result.now c.from.ensures c.requires.known c.index_mut.ensures.value in
    let at = ap (λ (x : Part). x.at) read in
    let h = c.requires.at in
    rw at h

pub move_on-requires-clause-stage : goal.move_on-requires-clause-stage
unfolding tables
move_on-requires-clause-stage g c =
    let read = part_read c.args.self.now.books.ranks.items c.from.result c.args.rank c.index_mut.result.now c.from.ensures c.requires.known c.index_mut.ensures.value in
    let stage = ap (λ (x : Part). x.stage) read in
    let h = c.requires.stage in
    rw stage h

pub returns : goal.returns
unfolding tables
returns g c =
    let ranks = c.args.self.now.books.ranks.items in
    let f = facts g.A.Amps.store c.args.self.now in
    let t = f.tables in
    let r = c.args.rank in
    let n = c.args.events in
    let i = c.from.result in
    let new = c.move_on.new.self in
    let parts = parts_changed ranks i r c.index_mut.result.now new (part_after_event n) c.from.ensures c.requires.known c.index_mut.ensures.value c.move_on.ensures in
    let with : (ℕ → Part) → ℕ → Facts = λ x k. record f { tables = record t { parts = x }; ranks = k } in
    ap (λ (x : ℕ → Part). with x (length (slice_set ranks i new))) parts
    ∙ ap (with (with_at t.parts r (part_after_event n (t.parts r)))) (length-set ranks i new)
