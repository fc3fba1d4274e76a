-- After each event a rank that keeps the half that it took has it in hand
use Rattle.std.proofs.Common.{◌≡◌, ◌≢◌, ℕ, ◌+◌, nat_lt, Bool, true, false, ◌⊎◌, inl, inr, List, [], ◌∷◌, slice_get, Some, refl, sym, ap, subst, ◌∙◌}
use Rattle.qm_denot.specs.declared.Letter.{Letter}
use Rattle.qm_denot.specs.declared.Letter.TheVariants.{Flip}
use Rattle.qm_denot.specs.declared.Wire.{Wire}
use Rattle.qm_denot.specs.Wires.{Wires, has}
use Rattle.qm_instr.specs.declared.Instr.{Instr}
use Rattle.qm_instr.specs.declared.Instr.TheVariants as instr
use Rattle.qm_instr.specs.declared.Kind.TheVariants as kind
use Rattle.qm_instr.specs.declared.Lane.{Lane}
use Rattle.qm_instr.specs.Counts.{events_of}
use Rattle.qm_instr.specs.Lanes.{lane}
use Rattle.qm_instr.specs.Programs.{Programs}
use Rattle.qm_denot.specs.declared.Parcel.{Parcel}
use Rattle.qm_proto.specs.declared.Row.{Row}
use Rattle.qm_proto.specs.declared.Act.{Act}
use Rattle.qm_proto.specs.declared.Act.TheVariants.{Twin, FarOut, Settle, Receives}
use Rattle.qm_proto.specs.Model.State.{Part, Tables, far_made, front, wire_of, first_bit}
use Rattle.qm_proto.specs.Model.Acts.{list_of, after_act, after_acts}
use Rattle.qm_proto.specs.Model.Rows.{instr_at, current, rows, letter, few_if}
use Rattle.qm_proto.specs.Model.Places.{FarOf}
use Rattle.qm_proto.specs.Model.Tidy.{IsTidy, IsInHand, Carries, IsCarried}
use Rattle.qm_proto.proofs.Changes.{with_at-here, with_at-elsewhere, by_number}
use Rattle.qm_proto.proofs.Positions.{all_stage_kept}
use Rattle.qm_proto.proofs.TidyActs.{far_made_absent, received_in_hand}
use Rattle.qm_proto.proofs.TidyChanges.{stays_more}
use Rattle.qm_proto.proofs.TidyLanes.{carried_before_push, carried_before_fill, carried_before_take}
use Rattle.qm_safety.specs.Tables.Well.{keeps_half, IsLaneWell}
use Rattle.qm_safety.proofs.Tables.NextEvents.{IsNext, event_done, part_on, part_elsewhere, stage_on, stage_ended}
use Rattle.qm_safety.proofs.Tables.FarSteps.{front_wire}
use Rattle.qm_safety.proofs.Tables.LaneShapes.{LaneCase, Still, Puts, Tells, Takes, lanes_by, IsLaneCase, lane_case}
use Rattle.qm_proto.proofs.Lines.{EachFrom, at_stage}

-- a half in hand is so in tables with the same halves and lanes
hand_same : (t u : Tables) (r : ℕ) (f : Wire) → u.far ≡ t.far → u.lanes ≡ t.lanes → IsInHand t r f → IsInHand u r f
hand_same t u r f far lanes hand =
    record {
      half = subst (λ (g : ℕ → Wires). has (g r) f ≡ true) (sym far) hand.half;
      free = λ (c, k, h). hand.free (
        c,
        k,
        record { parcel = h.parcel; there = ap (λ (g : Lane → List Parcel). slice_get (g c) k) (sym lanes) ∙ h.there; wire = h.wire },
      );
    }

-- rank r keeps the half that it took last in hand
abbrev pub IsHeld : Programs → Tables → ℕ → Type 0
IsHeld p t r = keeps_half (current p t r) ≡ true → nat_lt 0 (t.parts r).stage ≡ true → IsInHand t r (wire_of (t.parts r).taken)

-- ---- another rank
-- its far halves stay
module _ (r k : ℕ) (other : k ≢ r) (f : Wire) where
  far_stays : (act : Act) (t : Tables) → has (t.far k) f ≡ true → has ((after_act r act t).far k) f ≡ true
  far_stays (Twin to) t h = stays_more t.far to (far_made t r) f k h
  far_stays (FarOut g m) t h = subst (λ ws. has ws f ≡ true) (sym (with_at-elsewhere t.far r _ k other)) h
  far_stays (Settle g q) t h = subst (λ ws. has ws f ≡ true) (sym (with_at-elsewhere t.far r _ k other)) h
  far_stays _ t h = h

  all_far_stay : (acts : List Act) (t : Tables) → has (t.far k) f ≡ true → has ((after_acts r acts t).far k) f ≡ true
  all_far_stay [] t h = h
  all_far_stay (a ∷ acts) t h = all_far_stay acts (after_act r a t) (far_stays a t h)

module _ (p : Programs) (t : Tables) (r : ℕ) (i : Instr) (s : ℕ) (w : Row) where
  -- a parcel carries what one carried before, or the new far half
  carried_before : (c : LaneCase) → IsLaneCase p t r i s w c → (b : Lane) (k : ℕ) (f : Wire) → Carries (record t { lanes = lanes_by c t.lanes }) b k f
      → IsCarried t f ⊎ (f ≡ far_made t r)
  carried_before Still so b k f h = inl (b, k, record { parcel = h.parcel; there = h.there; wire = h.wire })
  carried_before (Puts a x) (from, posts, before, later, waits, wired, new) b k f h =
      elim (carried_before_push t a x b k f h) [ inl old ↦ inl (b, k, old) | inr put ↦ inr (new f put.2) ]
  carried_before (Tells a m) so b k f h = inl (b, k, carried_before_fill t a m b k f h)
  carried_before (Takes a) so b k f h =
      elim (carried_before_take t a b k f h) [ inl old ↦ inl (b, _, old.1) | inr old ↦ inl (b, k, old.1) ]

module _ (p : Programs) (t : Tables) (r : ℕ) (tidy : IsTidy t) (lanes : (b : Lane) → IsLaneWell p t b) (held : (k : ℕ) → IsHeld p t k) where
  -- ---- the acting rank: a line of an instruction that keeps the half leaves it in hand, where the instruction goes on
  pub record KeepsHand (i : Instr) (s : ℕ) (w : Row) : Type 0 where
    pub so : IsNext p t r i s → nat_lt (s + 1) (events_of i) ≡ true
        → (let u = after_acts r (list_of w.acts) t in IsInHand u r (wire_of (u.parts r).taken))

  hand_if : (b : Bool) (l : Letter) → IsInHand t r (wire_of (t.parts r).taken)
      → (let u = after_acts r (list_of (few_if b (letter l))) t in IsInHand u r (wire_of (u.parts r).taken))
  hand_if true l h = h
  hand_if false l h = h

  received : (a : Lane) → a.to ≡ r → (front t a).wire ≡ Some (wire_of (front t a))
      → (let u = after_acts r (Receives a ∷ []) t in IsInHand u r (wire_of (u.parts r).taken))
  received a to wire =
      let x = front t a in
      let after : Part = record (t.parts r) { taken = x } in
      let hand : IsInHand (after_act r (Receives a) t) r (wire_of x) = subst (λ k. IsInHand (after_act k (Receives a) t) k (wire_of x)) to (received_in_hand t a (wire_of x) tidy wire) in
      subst (λ (v : Part). IsInHand (after_act r (Receives a) t) r (wire_of v.taken)) (sym (with_at-here t.parts r after)) hand

  hand_table : (i : Instr) → keeps_half (Some i) ≡ true → EachFrom (KeepsHand i) 0 (rows p t r i)
  hand_table (instr.ReachFrom q from tag) keeps =
      let a = lane from r kind.Reach tag in
      let x = (t.parts r).taken in (
        record { so = λ next more. received a refl (front_wire (t.lanes a) ((lanes a).wired refl) next.holds) },
        (
          record { so = λ next more. hand_if (first_bit x) (Flip (wire_of x)) (held r (ap keeps_half next.read) (ap (nat_lt 0) next.stage)) },
          (
            record { so = λ next more. held r (ap keeps_half next.read) (ap (nat_lt 0) next.stage) },
            (
              record { so = λ next more. held r (ap keeps_half next.read) (ap (nat_lt 0) next.stage) },
              (record { so = λ next more. cc }, tt),
            ),
          ),
        ),
      )
  hand_table _ keeps = cc

  module _ (i : Instr) (s : ℕ) (w : Row) (next : IsNext p t r i s) (line : slice_get (rows p t r i) s ≡ Some w) where
    own_held : IsHeld p (event_done (events_of i) r (list_of w.acts) t) r
    own_held keeps begun = by_end (nat_lt (s + 1) (events_of i)) refl
      where
        by_end : (b : Bool) → nat_lt (s + 1) (events_of i) ≡ b
            → (let u = event_done (events_of i) r (list_of w.acts) t in IsInHand u r (wire_of (u.parts r).taken))
        by_end true more =
            let acts = list_of w.acts in
            let v = after_acts r acts t in
            let u = event_done (events_of i) r acts t in
            let place = stage_on (events_of i) s r acts t next.stage more in
            let read : current p u r ≡ Some i = ap (instr_at p r) place.at ∙ next.read in
            let hand = (at_stage (KeepsHand i) (rows p t r i) s w (hand_table i (sym (ap keeps_half read) ∙ keeps)) line).so next more in
            let part = part_on (events_of i) s r acts t (v.parts r) refl (all_stage_kept r r acts t ∙ next.stage) more in
            subst (λ (x : Part). IsInHand u r (wire_of x.taken)) (sym part) (hand_same v u r (wire_of (v.parts r).taken) refl refl hand)
        by_end false last =
            let place = stage_ended (events_of i) s r (list_of w.acts) t next.stage last in
            let n : nat_lt 0 0 ≡ true = ap (nat_lt 0) (sym place.stage) ∙ begun in cc

    other_held : (k : ℕ) → k ≢ r → IsHeld p (event_done (events_of i) r (list_of w.acts) t) k
    other_held k other keeps begun =
        let acts = list_of w.acts in
        let u = event_done (events_of i) r acts t in
        let same : u.parts k ≡ t.parts k = part_elsewhere (events_of i) r k acts t other in
        let f = wire_of (t.parts k).taken in
        let old : IsInHand t k f = held k (ap (λ (v : Part). keeps_half (instr_at p k v.at)) (sym same) ∙ keeps) (ap (λ (v : Part). nat_lt 0 v.stage) (sym same) ∙ begun) in
        let does = lane_case p t r i s w line in
        let now : IsInHand u k f = record {
          half = all_far_stay r k other f acts t old.half;
          free = λ (c, j, h).
              let before = carried_before p t r i s w does.case does.so c j f
              (record { parcel = h.parcel; there = ap (λ (g : Lane → List Parcel). slice_get (g c) j) (sym does.lanes) ∙ h.there; wire = h.wire }) in
              elim before [
                | inl carried ↦ old.free carried
                | inr new ↦ far_made_absent t tidy r (FarOf k, subst (λ v. has (t.far k) v ≡ true) new old.half)
              ];
        } in
        subst (λ (v : Part). IsInHand u k (wire_of v.taken)) (sym same) now

    -- every event of every instruction
    pub held_event : (k : ℕ) → IsHeld p (event_done (events_of i) r (list_of w.acts) t) k
    held_event = by_number (IsHeld p (event_done (events_of i) r (list_of w.acts) t)) r own_held other_held
