-- A rank that has an instruction left stands before one of its events
use Rattle.std.proofs.Common.{◌≡◌, ◌≢◌, ℕ, ◌+◌, ◌<◌, nat_lt, Bool, true, false, List, Some, refl, sym, ap, subst, ◌∙◌}
use Rattle.std.proofs.lemmas.Bool.{ltb-true}
use Rattle.std.proofs.lemmas.Option.{same_Some}
use Rattle.qm_instr.specs.declared.Instr.{Instr}
use Rattle.qm_instr.specs.Counts.{events_of}
use Rattle.qm_instr.specs.Programs.{Programs}
use Rattle.qm_proto.specs.Model.Acts.{list_of}
use Rattle.qm_proto.specs.Model.Rows.{instr_at, current}
use Rattle.qm_proto.specs.Model.Runs.{next_tables}
use Rattle.qm_proto.specs.Model.Schedules.{replay, IsLegal}
use Rattle.qm_proto.specs.Model.State.{Part, Tables}
use Rattle.qm_proto.proofs.Replays.{over_legal}
use Rattle.qm_proto.proofs.Lines.{some_events}
use Rattle.qm_safety.proofs.Tables.NextEvents.{IsLineNext, line_next, line_is, event_done, stage_on, stage_ended, part_elsewhere}
use Rattle.qm_proto.proofs.Changes.{by_number}

abbrev pub IsWithin : Programs → Tables → ℕ → Type 0
IsWithin p t r = (i : Instr) → current p t r ≡ Some i → (t.parts r).stage < events_of i

module _ (p : Programs) (t : Tables) (r : ℕ) (within : (k : ℕ) → IsWithin p t k) (here : IsLineNext p t r) where
  abbrev after : Tables
  after = event_done (events_of here.i) r (list_of here.w.acts) t

  own_within : (b : Bool) → nat_lt (here.s + 1) (events_of here.i) ≡ b → IsWithin p after r
  own_within true more j read =
      let place = stage_on (events_of here.i) here.s r (list_of here.w.acts) t here.next.stage more in
      let same : here.i ≡ j = same_Some here.i j (sym here.next.read ∙ sym (ap (instr_at p r) place.at) ∙ read) in
      let below : here.s + 1 < events_of here.i = ltb-true (here.s + 1) (events_of here.i) more in
      subst (λ k. k < events_of j) (sym place.stage) (subst (λ i. here.s + 1 < events_of i) same below)
  own_within false last j read =
      let place = stage_ended (events_of here.i) here.s r (list_of here.w.acts) t here.next.stage last in
      subst (λ k. k < events_of j) (sym place.stage) (some_events j)

  other_within : (k : ℕ) → k ≢ r → IsWithin p after k
  other_within k other j read =
      let same = part_elsewhere (events_of here.i) r k (list_of here.w.acts) t other in
      subst (λ (v : Part). v.stage < events_of j) (sym same) (within k j (sym (ap (λ (v : Part). instr_at p k v.at) same) ∙ read))

  within_after : (k : ℕ) → IsWithin p (next_tables p t r) k
  within_after k = subst (λ u. IsWithin p u k) (sym (line_is p t r here)) (by_number (IsWithin p after) r (own_within (nat_lt (here.s + 1) (events_of here.i)) refl) other_within k)

pub within : (p : Programs) (rs : List ℕ) → IsLegal p rs → (r : ℕ) → IsWithin p (replay p rs).tables r
within p rs legal =
    over_legal p (λ s. (r : ℕ) → IsWithin p s.tables r) (λ r i _. some_events i)
    (λ s r h may. within_after p s.tables r h (line_next p s.tables r may.known may.able)) rs legal
