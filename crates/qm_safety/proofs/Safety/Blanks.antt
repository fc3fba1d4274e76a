-- A wire that has no place is blank in the circuit
use Rattle.std.proofs.Common.{◌≡◌, ◌≢◌, ℕ, Bool, true, false, List, [], ◌∷◌, ◌++◌, Option, Some, None, unwrap_or, refl, sym, ap, subst, ◌∙◌, append_assoc}
use Rattle.std.proofs.Common.{append-nil}
use Rattle.qm_denot.specs.declared.Letter.{Letter}
use Rattle.qm_denot.specs.declared.Letter.TheVariants.{Phase, Flip, Had, Cx, Cz, Pair, Keep, Take, Rename}
use Rattle.qm_denot.specs.declared.Wire.{Wire}
use Rattle.qm_denot.specs.Circuits.{Circuit, amp, IsBlank}
use Rattle.qm_denot.specs.Weights.{operands}
use Rattle.qm_denot.specs.WireLists.{Lacks}
use Rattle.qm_denot.specs.Wires.{Wires, is_wire, has, put}
use Rattle.qm_denot.proofs.Agreement.{apart_one}
use Rattle.qm_denot.proofs.Amplitudes.{amp-push}
use Rattle.qm_denot.proofs.Sets.{same_from_is, not_empty}
use Rattle.qm_denot.proofs.NameLists.{other_from_is}
use Rattle.qm_denot.proofs.Support.{IsBlank-append, IsBlankIn-take}
use Rattle.qm_instr.specs.Counts.{events_of}
use Rattle.qm_instr.specs.Programs.{Programs, IsInRange}
use Rattle.qm_check.specs.Checks.{IsReady}
use Rattle.qm_proto.specs.declared.Act.{Act}
use Rattle.qm_proto.specs.declared.Act.TheVariants.{Fresh, Twin, Apply, SlotOut, NearOut, FarOut, Settle, Posts, Fills, Receives, OwnUsed, ProtocolUsed, FirstKept, BitSet}
use Rattle.qm_proto.specs.Model.Acts.{list_of, after_act, after_acts, act_letters, acts_letters}
use Rattle.qm_proto.specs.May.{Limits, MayLetter, MayDoAct, AllMay, limits_after}
use Rattle.qm_proto.specs.Model.Places.{InSlot, NearOf, FarOf, IsPlaced, IsOwn}
use Rattle.qm_proto.specs.Model.Runs.{next, next_tables, next_letters, row_letters}
use Rattle.qm_proto.specs.Model.Schedules.{tables_at_start, replay, IsLegal, MayStep}
use Rattle.qm_proto.specs.Model.State.{Tables, with_slot, no_wire, wire_in, far_made, near_made, near_last}
use Rattle.qm_proto.proofs.Changes.{by_slot, with_at-here, with_slot-here}
use Rattle.qm_proto.proofs.Replays.{over_runs}
use Rattle.qm_proto.proofs.TidyPlaces.{has_new}
use Rattle.qm_proto.proofs.TidyChanges.{stays_more, stays_less}
use Rattle.qm_safety.specs.Safety.Legal.{IsLegalRun}
use Rattle.qm_safety.specs.Safety.Wires.{PlacesLaw}
use Rattle.qm_safety.proofs.Safety.Mayings.{roomy_limits, next_here, may_acts, next_row}
use Rattle.qm_safety.proofs.Tables.NextEvents.{event_done, line_is}
use Rattle.qm_safety.proofs.Tables.Standing.{well}

-- each wire without a place is blank
abbrev pub BlankElsewhere : Tables → Circuit → Type 0
BlankElsewhere t c = (w : Wire) → ¬ IsPlaced t w → IsBlank c w

-- ---- letters
-- a letter that doesn't name a wire leaves it blank
unnamed : (c : Circuit) (l : Letter) (w : Wire) → Lacks (operands l) w → IsBlank c w → IsBlank (c ++ l ∷ []) w
unnamed c l w lacks blank = IsBlank-append c (l ∷ []) w (apart_one (operands l) w lacks, tt) blank

-- a wire that was taken is blank
taken_blank : (c : Circuit) (w : Wire) (m : Bool) → IsBlank (c ++ Take w m ∷ []) w
taken_blank c w m x h = amp-push c (Take w m) x ∙ IsBlankIn-take (amp c) w m x h

-- an own wire has a place
placed_own : (t : Tables) (r : ℕ) {w : Wire} → IsOwn t r w → IsPlaced t w
placed_own t r own = (own.0, own.1)

-- a letter moves no wire that has no place
apart_placed : (t : Tables) (r : ℕ) (l : Letter) → MayLetter r l t → (w : Wire) → ¬ IsPlaced t w → Lacks (operands l) w
apart_placed t r (Phase k v) may w none = ((λ e. none (subst (IsPlaced t) e (placed_own t r may.1))), tt)
apart_placed t r (Flip v) may w none = ((λ e. none (subst (IsPlaced t) e (placed_own t r may))), tt)
apart_placed t r (Had v) may w none = ((λ e. none (subst (IsPlaced t) e (placed_own t r may))), tt)
apart_placed t r (Cx c v) may w none = ((λ e. none (subst (IsPlaced t) e (placed_own t r may.first))), ((λ e. none (subst (IsPlaced t) e (placed_own t r may.second))), tt))
apart_placed t r (Cz c v) may w none = ((λ e. none (subst (IsPlaced t) e (placed_own t r may.first))), ((λ e. none (subst (IsPlaced t) e (placed_own t r may.second))), tt))
apart_placed t r (Keep v m) may w none = ((λ e. none (subst (IsPlaced t) e (placed_own t r may))), tt)
apart_placed t r (Pair a b) may w none = absurd may
apart_placed t r (Take v m) may w none = absurd may
apart_placed t r (Rename a b) may w none = absurd may

-- ---- a wire that goes out
module _ (t u : Tables) (c : Circuit) (v : Wire) (m : Bool) (stays : (w : Wire) → w ≢ v → IsPlaced t w → IsPlaced u w) (old : BlankElsewhere t c) where
  out_blank : BlankElsewhere u (c ++ Take v m ∷ [])
  out_blank w none = by_is (is_wire w v) refl
    where
      by_is : (b : Bool) → is_wire w v ≡ b → IsBlank (c ++ Take v m ∷ []) w
      by_is true e = subst (IsBlank (c ++ Take v m ∷ [])) (sym (same_from_is w v e)) (taken_blank c v m)
      by_is false e =
          let other = other_from_is w v e in
          unnamed c (Take v m) w ((λ same. other (sym same)), tt) (old w (λ placed. none (stays w other placed)))

-- ---- acts
module _ (r : ℕ) (t : Tables) (w : Wire) where
  stays_emptied : (q : ℕ) (m : Bool) → w ≢ wire_in t r q → IsPlaced t w → IsPlaced (after_act r (SlotOut q m) t) w
  stays_emptied q m other (InSlot k j, h) = (
    InSlot k j,
    by_slot (λ x. x ≡ Some w) t.slots r q None k j
        (λ s. absurd (other (sym (ap (λ o. unwrap_or o no_wire) (sym (ap (λ i. t.slots i j) s.rank ∙ ap (t.slots r) s.slot) ∙ h))))) (λ _. h),
  )
  stays_emptied q m other (NearOf k, h) = (NearOf k, h)
  stays_emptied q m other (FarOf k, h) = (FarOf k, h)

  stays_near : (m : Bool) → w ≢ near_last t r → IsPlaced t w → IsPlaced (after_act r (NearOut m) t) w
  stays_near m other (InSlot k j, h) = (InSlot k j, h)
  stays_near m other (NearOf k, h) = (NearOf k, stays_less t.near r (near_last t r) w k other h)
  stays_near m other (FarOf k, h) = (FarOf k, h)

  stays_far : (f : Wire) (m : Bool) → w ≢ f → IsPlaced t w → IsPlaced (after_act r (FarOut f m) t) w
  stays_far f m other (InSlot k j, h) = (InSlot k j, h)
  stays_far f m other (NearOf k, h) = (NearOf k, h)
  stays_far f m other (FarOf k, h) = (FarOf k, stays_less t.far r f w k other h)

  stays_filled : (f : ℕ → ℕ → Option Wire) (q : ℕ) (v : Wire) → f r q ≡ None → (k j : ℕ) → f k j ≡ Some w → with_slot f r q (Some v) k j ≡ Some w
  stays_filled f q v empty k j h =
      by_slot (λ x. x ≡ Some w) f r q (Some v) k j
      (λ s. absurd (let gone : f k j ≡ None = ap (λ i. f i j) s.rank ∙ ap (f r) s.slot ∙ empty in let n : None ≡ Some w = sym gone ∙ h in cc)) (λ _. h)

  stays_fresh : (q : ℕ) → t.slots r q ≡ None → IsPlaced t w → IsPlaced (after_act r (Fresh q) t) w
  stays_fresh q empty (InSlot k j, h) = (InSlot k j, stays_filled t.slots q (far_made t r) empty k j h)
  stays_fresh q empty (NearOf k, h) = (NearOf k, h)
  stays_fresh q empty (FarOf k, h) = (FarOf k, h)

  stays_twin : (to : ℕ) → IsPlaced t w → IsPlaced (after_act r (Twin to) t) w
  stays_twin to (InSlot k j, h) = (InSlot k j, h)
  stays_twin to (NearOf k, h) = (NearOf k, stays_more t.near r (near_made t r) w k h)
  stays_twin to (FarOf k, h) = (FarOf k, stays_more t.far to (far_made t r) w k h)

  -- the half that goes into a slot is placed there
  stays_settled : (f : Wire) (q : ℕ) → t.slots r q ≡ None → IsPlaced t w → IsPlaced (after_act r (Settle f q) t) w
  stays_settled f q empty (InSlot k j, h) = (InSlot k j, stays_filled t.slots q f empty k j h)
  stays_settled f q empty (NearOf k, h) = (NearOf k, h)
  stays_settled f q empty (FarOf k, h) = by_is (is_wire w f) refl
    where
      by_is : (b : Bool) → is_wire w f ≡ b → IsPlaced (after_act r (Settle f q) t) w
      by_is true e = (InSlot r q, with_slot-here t.slots r q (Some f) ∙ ap (λ (v : Wire). Some v) (sym (same_from_is w f e)))
      by_is false e = (FarOf k, stays_less t.far r f w k (other_from_is w f e) h)

  -- where no place changes
  stays_same : (u : Tables) → u.slots ≡ t.slots → u.near ≡ t.near → u.far ≡ t.far → IsPlaced t w → IsPlaced u w
  stays_same u slots near far (InSlot k j, h) = (InSlot k j, ap (λ (f : ℕ → ℕ → Option Wire). f k j) slots ∙ h)
  stays_same u slots near far (NearOf k, h) = (NearOf k, ap (λ (f : ℕ → Wires). has (f k) w) near ∙ h)
  stays_same u slots near far (FarOf k, h) = (FarOf k, ap (λ (f : ℕ → Wires). has (f k) w) far ∙ h)

module _ (r : ℕ) (s : Limits) (t : Tables) (c : Circuit) (old : BlankElsewhere t c) where
  -- an act without letters after which each wire keeps a place
  quiet : (u : Tables) → ((w : Wire) → IsPlaced t w → IsPlaced u w) → BlankElsewhere u (c ++ [])
  quiet u stays w none = subst (λ d. IsBlank d w) (sym (append-nil c)) (old w (λ placed. none (stays w placed)))

  twin_blank : (to : ℕ) → BlankElsewhere (after_act r (Twin to) t) (c ++ Pair (near_made t r) (far_made t r) ∷ [])
  twin_blank to w none =
      let e = near_made t r in
      let f = far_made t r in
      let u = after_act r (Twin to) t in
      let near : IsPlaced u e = (NearOf r, ap (λ ws. has ws e) (with_at-here t.near r (put (t.near r) e true)) ∙ has_new (t.near r) e) in
      let far : IsPlaced u f = (FarOf to, ap (λ ws. has ws f) (with_at-here t.far to (put (t.far to) f true)) ∙ has_new (t.far to) f) in
      unnamed c (Pair e f) w ((λ same. none (subst (IsPlaced u) same near)), ((λ same. none (subst (IsPlaced u) same far)), tt))
      (old w (λ placed. none (stays_twin r t w to placed)))

  blank_done : (act : Act) → MayDoAct s r act t → BlankElsewhere (after_act r act t) (c ++ act_letters r act t)
  blank_done (Fresh q) may = quiet (after_act r (Fresh q) t) (λ w. stays_fresh r t w q may.empty)
  blank_done (Twin to) may = twin_blank to
  blank_done (Apply l) may = λ w none. unnamed c l w (apart_placed t r l may.0 w none) (old w none)
  blank_done (SlotOut q m) may = out_blank t (after_act r (SlotOut q m) t) c (wire_in t r q) m (λ w. stays_emptied r t w q m) old
  blank_done (NearOut m) may = out_blank t (after_act r (NearOut m) t) c (near_last t r) m (λ w. stays_near r t w m) old
  blank_done (FarOut f m) may = out_blank t (after_act r (FarOut f m) t) c f m (λ w. stays_far r t w f m) old
  blank_done (Settle f q) may = quiet (after_act r (Settle f q) t) (λ w. stays_settled r t w f q may.empty)
  blank_done (Posts a x) may = quiet (after_act r (Posts a x) t) (λ w. stays_same r t w (after_act r (Posts a x) t) refl refl refl)
  blank_done (Fills a b) may = quiet (after_act r (Fills a b) t) (λ w. stays_same r t w (after_act r (Fills a b) t) refl refl refl)
  blank_done (Receives a) may = quiet (after_act r (Receives a) t) (λ w. stays_same r t w (after_act r (Receives a) t) refl refl refl)
  blank_done OwnUsed may = quiet (after_act r OwnUsed t) (λ w. stays_same r t w (after_act r OwnUsed t) refl refl refl)
  blank_done ProtocolUsed may = quiet (after_act r ProtocolUsed t) (λ w. stays_same r t w (after_act r ProtocolUsed t) refl refl refl)
  blank_done (FirstKept m) may = quiet (after_act r (FirstKept m) t) (λ w. stays_same r t w (after_act r (FirstKept m) t) refl refl refl)
  blank_done (BitSet b v) may = quiet (after_act r (BitSet b v) t) (λ w. stays_same r t w (after_act r (BitSet b v) t) refl refl refl)

blank_all : (r : ℕ) (s : Limits) (acts : List Act) (t : Tables) (c : Circuit) → AllMay s r acts t → BlankElsewhere t c
    → BlankElsewhere (after_acts r acts t) (c ++ acts_letters r acts t)
blank_all r s [] t c may old = λ w none. subst (λ d. IsBlank d w) (sym (append-nil c)) (old w none)
blank_all r s (a ∷ acts) t c may old = λ w none.
    subst (λ d. IsBlank d w) (append_assoc c (act_letters r a t) (acts_letters r acts (after_act r a t)))
    (blank_all r (limits_after a s) acts (after_act r a t) (c ++ act_letters r a t) may.1 (blank_done r s t c old a may.0) w none)

-- ---- runs
module _ (p : Programs) (ready : IsReady p) (ranges : IsInRange p) where
  blank_next : (qs : List ℕ) (r : ℕ) → IsLegal p qs → MayStep p (replay p qs) r → (let x = replay p qs in BlankElsewhere x.tables x.circuit)
      → (let x = next p (replay p qs) r in BlankElsewhere x.tables x.circuit)
  blank_next qs r legal may old w none =
      let run : IsLegalRun p qs = record { ready = ready; in_range = ranges; legal = legal } in
      let t = (replay p qs).tables in
      let c = (replay p qs).circuit in
      let here = next_here p qs run r may.known may.able in
      let acts = list_of here.w.acts in
      let letters : next_letters p t r ≡ acts_letters r acts t = ap (λ o. row_letters r o t) (next_row p qs run r may.known may.able) in
      let tables : next_tables p t r ≡ event_done (events_of here.i) r acts t = line_is p t r here in
      subst (λ ls. IsBlank (c ++ ls) w) (sym letters)
      (blank_all r (roomy_limits p) acts t c (may_acts p qs run r may.known may.able) old w
      (λ placed. none (stays_same r (after_acts r acts t) w (next_tables p t r) (ap (λ (u : Tables). u.slots) tables) (ap (λ (u : Tables). u.near) tables) (ap (λ (u : Tables). u.far) tables) placed)))

  blank_start : BlankElsewhere (tables_at_start p) []
  unfolding amp
  blank_start w none x h = let e = not_empty x w h in rw e refl

  pub blank_elsewhere : (rs : List ℕ) → IsLegal p rs → (let x = replay p rs in BlankElsewhere x.tables x.circuit)
  blank_elsewhere rs legal = over_runs p (λ x. BlankElsewhere x.tables x.circuit) blank_start blank_next rs legal

pub places_law : PlacesLaw
places_law p schedule run =
    record {
      one_place = (well p run.ready run.in_range schedule run.legal).tidy.one_place;
      blank = blank_elsewhere p run.ready run.in_range schedule run.legal;
    }
