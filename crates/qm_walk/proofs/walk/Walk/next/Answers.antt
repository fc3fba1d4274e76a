use Rattle.std.proofs.Common.{slice_set, sym, subst}
use Rattle.qm_proto.specs.Model.Runs.{next_tables}
use Rattle.qm_walk.specs.Notes.{AreStanding}
use Rattle.qm_walk.proofs.Standing.{note_step, walk_step}
use Rattle.qm_walk.proofs.walk.Walk.next.Goals as goal

pub returns-clause-note : goal.returns-clause-note
returns-clause-note c = λ t so.
    let here : AreStanding c.args.input.now t c.self.inside.places.items = subst (λ xs. AreStanding c.args.input.now t xs) (sym c.self.view_is) so in
    note_step c.args.input.now c.self.inside.places.items c.args.rank c.requires.known t here c.index-place.result.now c.in-Some.i c.in-Some-note.note
    (rw c.from.ensures at c.index-place.ensures) c.in-Some.ensures c.in-Some-note.ensures

pub returns-clause-walk : goal.returns-clause-walk
returns-clause-walk c = λ t so.
    let here : AreStanding c.args.input.now t c.self.inside.places.items = subst (λ xs. AreStanding c.args.input.now t xs) (sym c.self.view_is) so in
    subst (λ k. AreStanding c.args.input.now (next_tables c.args.input.now t c.args.rank) (slice_set c.self.inside.places.items k c.behind.result)) (sym c.from-2.ensures)
    (walk_step c.args.input.now c.self.inside.places.items c.args.rank c.requires.known t here c.index-place.result.now c.in-Some.i c.in-Some-note.note
    (rw c.from.ensures at c.index-place.ensures) c.in-Some.ensures c.in-Some-note.ensures c.event_count.result c.behind.result c.event_count.ensures
    c.behind.ensures)
