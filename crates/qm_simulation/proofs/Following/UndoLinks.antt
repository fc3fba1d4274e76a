-- An undo and its source wait for each other: what every event of every instruction keeps
use Rattle.std.proofs.Common.{◌≡◌, ◌≢◌, ℕ, zero, suc, ◌+◌, ◌<◌, ◌≤◌, nat_eq, nat_lt, Bool, true, false, ◌||◌, ◌&&◌, ◌⊎◌, ◌↔◌, inl, inr, List, [], ◌∷◌, ◌++◌, length, drop, Option, Some, None, is_some, slice_index_or, refl, sym, ap, ap₂, subst, ◌∙◌, arith, ⊎_elim, length-drop}
use Rattle.std.proofs.lemmas.Bool.{cases_eq, or_parts, and_parts, eqb-true}
use Rattle.std.proofs.lemmas.Option.{same_Some}
use Rattle.qm_denot.specs.declared.Letter.{Letter}
use Rattle.qm_instr.specs.declared.Instr.{Instr}
use Rattle.qm_instr.specs.declared.Instr.TheVariants as instr
use Rattle.qm_instr.specs.declared.Kind.{Kind}
use Rattle.qm_instr.specs.declared.Kind.TheVariants as kind
use Rattle.qm_instr.specs.declared.Lane.{Lane}
use Rattle.qm_instr.specs.Counts.{events_of}
use Rattle.qm_instr.specs.Lanes.{lane, is_kind, is_lane}
use Rattle.qm_instr.specs.Programs.{Programs}
use Rattle.qm_denot.specs.declared.Parcel.{Parcel}
use Rattle.qm_instr.proofs.LaneOrder.{same_lane, lane_itself}
use Rattle.qm_proto.specs.Model.State.{Part, Tables, no_parcel, front, protocol_next}
use Rattle.qm_proto.specs.declared.Act.{Act}
use Rattle.qm_proto.specs.declared.Act.TheVariants.{Fresh, Twin, Apply, SlotOut, NearOut, FarOut, Settle, Posts, Fills, Receives, OwnUsed, ProtocolUsed, FirstKept, BitSet}
use Rattle.qm_proto.specs.Model.Acts.{list_of, after_act, after_acts}
use Rattle.qm_proto.specs.Model.Rows.{current, instr_at, letter, few_if, bit_parcel}
use Rattle.qm_proto.specs.Model.Runs.{is_wanted, receives_on, row_holds}
use Rattle.qm_proto.proofs.Changes.{with_lane-here, with_lane-elsewhere}
use Rattle.qm_safety.specs.Tables.Lines.{row_at, acts_of}
use Rattle.qm_safety.proofs.Tables.NextEvents.{IsNext, event_done, part_elsewhere, stage_on, stage_ended}
use Rattle.qm_simulation.proofs.Following.Places.{IsIn}
use Rattle.std.proofs.lemmas.List.{nil_from_length}

-- ---- acts that touch no lane of a kind leave these lanes
abbrev pub touches : Kind → List Act → Bool
touches k [] = false
touches k (Posts a x ∷ acts) = is_kind a.kind k || touches k acts
touches k (Fills a b ∷ acts) = is_kind a.kind k || touches k acts
touches k (Receives a ∷ acts) = is_kind a.kind k || touches k acts
touches k (_ ∷ acts) = touches k acts

kind_itself : (k : Kind) → is_kind k k ≡ true
kind_itself kind.Bit = refl
kind_itself kind.Copy = refl
kind_itself kind.Move = refl
kind_itself kind.Undo = refl
kind_itself kind.Reach = refl
kind_itself kind.Back = refl

other_kind : (a b : Lane) (k : Kind) → is_kind a.kind k ≡ false → b.kind ≡ k → b ≢ a
other_kind a b k no_kind is same =
    let e : a.kind ≡ k = ap (λ (c : Lane). c.kind) (sym same) ∙ is in
    let h : is_kind k k ≡ false = subst (λ j. is_kind j k ≡ false) e no_kind in
    let i = kind_itself k in
    absurd (let n : ⊥ = cc in n)

pub untouched : (r : ℕ) (k : Kind) (acts : List Act) (t : Tables) (b : Lane) → touches k acts ≡ false → b.kind ≡ k → (after_acts r acts t).lanes b ≡ t.lanes b
untouched r k [] t b off is = refl
untouched r k (Posts a x ∷ acts) t b off is =
    let parts = or_parts (is_kind a.kind k) (touches k acts) off in
    untouched r k acts (after_act r (Posts a x) t) b parts.1 is ∙ with_lane-elsewhere t.lanes a _ b (other_kind a b k parts.0 is)
untouched r k (Fills a c ∷ acts) t b off is =
    let parts = or_parts (is_kind a.kind k) (touches k acts) off in
    untouched r k acts (after_act r (Fills a c) t) b parts.1 is ∙ with_lane-elsewhere t.lanes a _ b (other_kind a b k parts.0 is)
untouched r k (Receives a ∷ acts) t b off is =
    let parts = or_parts (is_kind a.kind k) (touches k acts) off in
    untouched r k acts (after_act r (Receives a) t) b parts.1 is ∙ with_lane-elsewhere t.lanes a _ b (other_kind a b k parts.0 is)
untouched r k (Fresh q ∷ acts) t b off is = untouched r k acts (after_act r (Fresh q) t) b off is
untouched r k (Twin to ∷ acts) t b off is = untouched r k acts (after_act r (Twin to) t) b off is
untouched r k (Apply l ∷ acts) t b off is = untouched r k acts (after_act r (Apply l) t) b off is
untouched r k (SlotOut q m ∷ acts) t b off is = untouched r k acts (after_act r (SlotOut q m) t) b off is
untouched r k (NearOut m ∷ acts) t b off is = untouched r k acts (after_act r (NearOut m) t) b off is
untouched r k (FarOut f m ∷ acts) t b off is = untouched r k acts (after_act r (FarOut f m) t) b off is
untouched r k (Settle f q ∷ acts) t b off is = untouched r k acts (after_act r (Settle f q) t) b off is
untouched r k (OwnUsed ∷ acts) t b off is = untouched r k acts (after_act r OwnUsed t) b off is
untouched r k (ProtocolUsed ∷ acts) t b off is = untouched r k acts (after_act r ProtocolUsed t) b off is
untouched r k (FirstKept m ∷ acts) t b off is = untouched r k acts (after_act r (FirstKept m) t) b off is
untouched r k (BitSet c v ∷ acts) t b off is = untouched r k acts (after_act r (BitSet c v) t) b off is

-- ---- which events touch undo lanes
pub letters_quiet : (k : Kind) (b : Bool) (l : Letter) → touches k (list_of (few_if b (letter l))) ≡ false
letters_quiet k true l = refl
letters_quiet k false l = refl

-- the Post of an undo, and the Deliver of its source
abbrev pub IsUndoing : Instr → ℕ → Type 0
IsUndoing (instr.UndoTo q to tag) s = s ≡ 1
IsUndoing (instr.UndoFrom q from tag) s = s ≡ 0
IsUndoing _ s = ⊥

pub quiet_or_undoing : (p : Programs) (t : Tables) (r : ℕ) (i : Instr) (s : ℕ) → (touches kind.Undo (acts_of (row_at p t r i s)) ≡ false) ⊎ IsUndoing i s
quiet_or_undoing p t r (instr.CopyTo q to tag) zero = inl refl
quiet_or_undoing p t r (instr.CopyTo q to tag) (suc zero) = inl refl
quiet_or_undoing p t r (instr.CopyTo q to tag) (suc (suc zero)) = inl refl
quiet_or_undoing p t r (instr.CopyTo q to tag) (suc (suc (suc s))) = inl refl
quiet_or_undoing p t r (instr.CopyFrom q from tag) zero = inl refl
quiet_or_undoing p t r (instr.CopyFrom q from tag) (suc zero) = inl (letters_quiet kind.Undo _ _)
quiet_or_undoing p t r (instr.CopyFrom q from tag) (suc (suc s)) = inl refl
quiet_or_undoing p t r (instr.UndoTo q to tag) zero = inl refl
quiet_or_undoing p t r (instr.UndoTo q to tag) (suc zero) = inr refl
quiet_or_undoing p t r (instr.UndoTo q to tag) (suc (suc s)) = inl refl
quiet_or_undoing p t r (instr.UndoFrom q from tag) zero = inr refl
quiet_or_undoing p t r (instr.UndoFrom q from tag) (suc zero) = inl (letters_quiet kind.Undo _ _)
quiet_or_undoing p t r (instr.UndoFrom q from tag) (suc (suc s)) = inl refl
quiet_or_undoing p t r (instr.MoveTo q to tag) zero = inl refl
quiet_or_undoing p t r (instr.MoveTo q to tag) (suc zero) = inl refl
quiet_or_undoing p t r (instr.MoveTo q to tag) (suc (suc zero)) = inl refl
quiet_or_undoing p t r (instr.MoveTo q to tag) (suc (suc (suc zero))) = inl refl
quiet_or_undoing p t r (instr.MoveTo q to tag) (suc (suc (suc (suc zero)))) = inl refl
quiet_or_undoing p t r (instr.MoveTo q to tag) (suc (suc (suc (suc (suc s))))) = inl refl
quiet_or_undoing p t r (instr.MoveFrom q from tag) zero = inl refl
quiet_or_undoing p t r (instr.MoveFrom q from tag) (suc zero) = inl (letters_quiet kind.Undo _ _)
quiet_or_undoing p t r (instr.MoveFrom q from tag) (suc (suc zero)) = inl (letters_quiet kind.Undo _ _)
quiet_or_undoing p t r (instr.MoveFrom q from tag) (suc (suc (suc s))) = inl refl
quiet_or_undoing p t r (instr.ReachTo q to tag) zero = inl refl
quiet_or_undoing p t r (instr.ReachTo q to tag) (suc zero) = inl refl
quiet_or_undoing p t r (instr.ReachTo q to tag) (suc (suc zero)) = inl refl
quiet_or_undoing p t r (instr.ReachTo q to tag) (suc (suc (suc zero))) = inl refl
quiet_or_undoing p t r (instr.ReachTo q to tag) (suc (suc (suc (suc zero)))) = inl (letters_quiet kind.Undo _ _)
quiet_or_undoing p t r (instr.ReachTo q to tag) (suc (suc (suc (suc (suc s))))) = inl refl
quiet_or_undoing p t r (instr.ReachFrom q from tag) zero = inl refl
quiet_or_undoing p t r (instr.ReachFrom q from tag) (suc zero) = inl (letters_quiet kind.Undo _ _)
quiet_or_undoing p t r (instr.ReachFrom q from tag) (suc (suc zero)) = inl refl
quiet_or_undoing p t r (instr.ReachFrom q from tag) (suc (suc (suc zero))) = inl refl
quiet_or_undoing p t r (instr.ReachFrom q from tag) (suc (suc (suc (suc zero)))) = inl refl
quiet_or_undoing p t r (instr.ReachFrom q from tag) (suc (suc (suc (suc (suc s))))) = inl refl
quiet_or_undoing p t r (instr.When b g) zero = inl (letters_quiet kind.Undo _ _)
quiet_or_undoing p t r (instr.When b g) (suc s) = inl refl
quiet_or_undoing p t r _ zero = inl refl
quiet_or_undoing p t r _ (suc s) = inl refl

-- ---- what an event makes of an undo lane

-- rank r has given its copy back on the lane, or taken an answer from it
pub record HasGiven (p : Programs) (t : Tables) (r : ℕ) (i : Instr) (s : ℕ) (a : Lane) : Type 0 where
  pub slot : ℕ
  pub instruction : i ≡ instr.UndoTo slot a.to a.tag
  pub stage : s ≡ 1
  pub from : a.from ≡ r
  pub answer : Parcel
  pub parcels : (event_done (events_of i) r (acts_of (row_at p t r i s)) t).lanes a ≡ t.lanes a ++ answer ∷ []

pub record HasTaken (p : Programs) (t : Tables) (r : ℕ) (i : Instr) (s : ℕ) (a : Lane) : Type 0 where
  pub slot : ℕ
  pub instruction : i ≡ instr.UndoFrom slot a.from a.tag
  pub stage : s ≡ 0
  pub to : a.to ≡ r
  pub parcels : (event_done (events_of i) r (acts_of (row_at p t r i s)) t).lanes a ≡ drop 1 (t.lanes a)

abbrev LaneCase : Programs → Tables → ℕ → Instr → ℕ → Lane → Type 0
LaneCase p t r i s a = ((event_done (events_of i) r (acts_of (row_at p t r i s)) t).lanes a ≡ t.lanes a) ⊎ (HasGiven p t r i s a ⊎ HasTaken p t r i s a)

module _ (p : Programs) (t : Tables) (r : ℕ) (a : Lane) where
  given : (q to tag : ℕ) (b : Bool) → is_lane a (lane r to kind.Undo tag) ≡ b → LaneCase p t r (instr.UndoTo q to tag) 1 a
  given q to tag false other =
      inl (with_lane-elsewhere t.lanes (lane r to kind.Undo tag) _ a (λ e. let z : is_lane a a ≡ false = subst (λ c. is_lane a c ≡ false) (sym e) other in let i = lane_itself a in let n : ⊥ = cc in n))
  given q to tag true same =
      let e = same_lane a (lane r to kind.Undo tag) same in
      inr (inl (record {
        slot = q;
        instruction = ap₂ (λ d g. instr.UndoTo q d g) (ap (λ (c : Lane). c.to) (sym e)) (ap (λ (c : Lane). c.tag) (sym e));
        stage = refl;
        from = ap (λ (c : Lane). c.from) e;
        answer = bit_parcel (protocol_next t r);
        parcels = subst (λ c. (event_done 2 r (acts_of (row_at p t r (instr.UndoTo q to tag) 1)) t).lanes c ≡ t.lanes c ++ bit_parcel (protocol_next t r) ∷ []) (sym e)
            (with_lane-here t.lanes (lane r to kind.Undo tag) _);
      }))

  taken : (q from tag : ℕ) (b : Bool) → is_lane a (lane from r kind.Undo tag) ≡ b → LaneCase p t r (instr.UndoFrom q from tag) 0 a
  taken q from tag false other =
      inl (with_lane-elsewhere t.lanes (lane from r kind.Undo tag) _ a (λ e. let z : is_lane a a ≡ false = subst (λ c. is_lane a c ≡ false) (sym e) other in let i = lane_itself a in let n : ⊥ = cc in n))
  taken q from tag true same =
      let e = same_lane a (lane from r kind.Undo tag) same in
      inr (inr (record {
        slot = q;
        instruction = ap₂ (λ d g. instr.UndoFrom q d g) (ap (λ (c : Lane). c.from) (sym e)) (ap (λ (c : Lane). c.tag) (sym e));
        stage = refl;
        to = ap (λ (c : Lane). c.to) e;
        parcels = subst (λ c. (event_done 2 r (acts_of (row_at p t r (instr.UndoFrom q from tag) 0)) t).lanes c ≡ drop 1 (t.lanes c)) (sym e)
            (with_lane-here t.lanes (lane from r kind.Undo tag) _);
      }))

  undoing : (i : Instr) (s : ℕ) → IsUndoing i s → LaneCase p t r i s a
  undoing (instr.UndoTo q to tag) s e = subst (λ k. LaneCase p t r (instr.UndoTo q to tag) k a) (sym e) (given q to tag (is_lane a (lane r to kind.Undo tag)) refl)
  undoing (instr.UndoFrom q from tag) s e = subst (λ k. LaneCase p t r (instr.UndoFrom q from tag) k a) (sym e) (taken q from tag (is_lane a (lane from r kind.Undo tag)) refl)
  undoing _ s e = absurd e

  pub lane_case : a.kind ≡ kind.Undo → (i : Instr) (s : ℕ) → LaneCase p t r i s a
  lane_case is i s =
      ⊎_elim (λ (quiet : touches kind.Undo (acts_of (row_at p t r i s)) ≡ false). inl (untouched r kind.Undo (acts_of (row_at p t r i s)) t a quiet is))
      (λ (e : IsUndoing i s). undoing i s e) (quiet_or_undoing p t r i s)

-- ---- where ranks stand after it
stands_elsewhere : (p : Programs) (t : Tables) (r : ℕ) (i : Instr) (s k : ℕ) (j : Instr) (m : ℕ) → k ≢ r
    → IsIn p (event_done (events_of i) r (acts_of (row_at p t r i s)) t) k j m ↔ IsIn p t k j m
stands_elsewhere p t r i s k j m other =
    let same = part_elsewhere (events_of i) r k (acts_of (row_at p t r i s)) t other in (
      (λ h. record { read = sym (ap (λ (v : Part). instr_at p k v.at) same) ∙ h.read; stage = sym (ap (λ (v : Part). v.stage) same) ∙ h.stage }),
      (λ h. record { read = ap (λ (v : Part). instr_at p k v.at) same ∙ h.read; stage = ap (λ (v : Part). v.stage) same ∙ h.stage }),
    )

-- the acting rank is in the middle of an instruction only if it was there before
record WasIn (i : Instr) (s : ℕ) (j : Instr) (m : ℕ) : Type 0 where
  same : j ≡ i
  stage : m ≡ s

stands_here : (p : Programs) (t : Tables) (r : ℕ) (i : Instr) (s : ℕ) → IsNext p t r i s → (j : Instr) (m : ℕ)
    → IsIn p (event_done (events_of i) r (acts_of (row_at p t r i s)) t) r j (m + 1) → WasIn i s j m
stands_here p t r i s next j m h = by_end (nat_lt (s + 1) (events_of i)) refl
  where
    acts : List Act
    acts = acts_of (row_at p t r i s)

    by_end : (b : Bool) → nat_lt (s + 1) (events_of i) ≡ b → WasIn i s j m
    by_end true more =
        let at = stage_on (events_of i) s r (acts_of (row_at p t r i s)) t next.stage more in
        let read : Some i ≡ Some j = sym next.read ∙ ap (instr_at p r) (sym at.at) ∙ h.read in
        record { same = sym (same_Some i j read); stage = omega (arith, at.stage, h.stage) }
    by_end false last =
        let at = stage_ended (events_of i) s r (acts_of (row_at p t r i s)) t next.stage last in
        absurd (omega (arith, at.stage, h.stage))

-- ---- the link
-- rank d stands ready to take a copy back from rank r
abbrev pub IsReady : Programs → Tables → ℕ → ℕ → ℕ → Type 0
IsReady p t d r tag = (q : ℕ) × IsIn p t d (instr.UndoFrom q r tag) 0

-- while rank r is in the middle of giving a copy back, the lane is empty and the source's rank stands ready; and so it does while the
-- answer, of which there is one at most, is on its way
pub record IsLinked (p : Programs) (t : Tables) (r d tag : ℕ) : Type 0 where
  pub held : (q : ℕ) → IsIn p t r (instr.UndoTo q d tag) 1 → (t.lanes (lane r d kind.Undo tag) ≡ []) × IsReady p t d r tag
  pub posted : 0 < length (t.lanes (lane r d kind.Undo tag)) → IsReady p t d r tag
  pub single : length (t.lanes (lane r d kind.Undo tag)) ≤ 1

other_receive : (a b : Lane) → is_lane a b ≡ true → a ≢ b → ⊥
other_receive a b e ne = ne (same_lane a b e)

-- a receive of an undo lane
pub receives_back : (d r tag : ℕ) (o : Option Instr) → receives_on d o (lane r d kind.Undo tag) ≡ true → (q : ℕ) × (o ≡ Some (instr.UndoFrom q r tag))
receives_back d r tag (Some (instr.UndoFrom q from g)) e =
    let same = same_lane (lane from d kind.Undo g) (lane r d kind.Undo tag) e in
    (q, ap₂ (λ f h. Some (instr.UndoFrom q f h)) (ap (λ (c : Lane). c.from) same) (ap (λ (c : Lane). c.tag) same))
receives_back d r tag (Some (instr.RecvBit b from g)) e = absurd (other_receive (lane from d kind.Bit g) (lane r d kind.Undo tag) e (λ s. let z = ap (λ (c : Lane). c.kind) s in let n : ⊥ = cc in n))
receives_back d r tag (Some (instr.CopyFrom b from g)) e = absurd (other_receive (lane from d kind.Copy g) (lane r d kind.Undo tag) e (λ s. let z = ap (λ (c : Lane). c.kind) s in let n : ⊥ = cc in n))
receives_back d r tag (Some (instr.MoveFrom b from g)) e = absurd (other_receive (lane from d kind.Move g) (lane r d kind.Undo tag) e (λ s. let z = ap (λ (c : Lane). c.kind) s in let n : ⊥ = cc in n))
receives_back d r tag (Some (instr.ReachFrom b from g)) e = absurd (other_receive (lane from d kind.Reach g) (lane r d kind.Undo tag) e (λ s. let z = ap (λ (c : Lane). c.kind) s in let n : ⊥ = cc in n))
receives_back d r tag None e = absurd (let n : ⊥ = cc in n)
receives_back d r tag (Some _) e = absurd (let n : ⊥ = cc in n)

pub no_front : (xs : List Parcel) → xs ≡ [] → is_some (slice_index_or xs 0 no_parcel).bits ≡ true → ⊥
no_front xs e h = let z : is_some no_parcel.bits ≡ true = subst (λ ys. is_some (slice_index_or ys 0 no_parcel).bits ≡ true) e h in cc

module _ (p : Programs) (t : Tables) (r0 : ℕ) (i : Instr) (s : ℕ) (next : IsNext p t r0 i s) (r d tag : ℕ) (apart : d ≢ r) (old : IsLinked p t r d tag) where
  a : Lane
  a = lane r d kind.Undo tag

  -- the source's rank stands ready after the event, if it isn't the one that acts
  ready_on : d ≢ r0 → IsReady p t d r tag → IsReady p (event_done (events_of i) r0 (acts_of (row_at p t r0 i s)) t) d r tag
  ready_on other (q, h) = (q, (stands_elsewhere p t r0 i s d (instr.UndoFrom q r tag) 0 other).1 h)

  -- where the source's rank acts and stands ready, its event takes an answer
  takes : d ≡ r0 → IsReady p t d r tag → (q : ℕ) × (i ≡ instr.UndoFrom q r tag) × (s ≡ 0)
  takes e (q, h) =
      let here : IsIn p t r0 (instr.UndoFrom q r tag) 0 = subst (λ k. IsIn p t k (instr.UndoFrom q r tag) 0) e h in
      (q, sym (same_Some (instr.UndoFrom q r tag) i (sym here.read ∙ next.read)), sym next.stage ∙ here.stage)

  holds_at : (j : Instr) (m : ℕ) → i ≡ j → s ≡ m → row_holds p t (row_at p t r0 j m) ≡ true
  holds_at j m e f = subst (λ k. row_holds p t (row_at p t r0 k m) ≡ true) e (subst (λ k. row_holds p t (row_at p t r0 i k) ≡ true) f next.holds)

  -- a lane that is empty is not taken from
  not_empty : d ≡ r0 → IsReady p t d r tag → t.lanes (lane r d kind.Undo tag) ≡ [] → ⊥
  not_empty e ready empty =
      let it = takes e ready in
      let bits : is_some (front t (lane r r0 kind.Undo tag)).bits ≡ true = holds_at (instr.UndoFrom it.0 r tag) 0 it.1 it.2 in
      let none : t.lanes (lane r r0 kind.Undo tag) ≡ [] = subst (λ k. t.lanes (lane r k kind.Undo tag) ≡ []) e empty in
      no_front (t.lanes (lane r r0 kind.Undo tag)) none bits

  -- the lane by the three cases
  module _ where
    single_after : length ((event_done (events_of i) r0 (acts_of (row_at p t r0 i s)) t).lanes (lane r d kind.Undo tag)) ≤ 1
    single_after = by_case (lane_case p t r0 (lane r d kind.Undo tag) refl i s)
      where
        by_case : LaneCase p t r0 i s (lane r d kind.Undo tag) → length ((event_done (events_of i) r0 (acts_of (row_at p t r0 i s)) t).lanes (lane r d kind.Undo tag)) ≤ 1
        by_case (inl e) = subst (λ (xs : List Parcel). length xs ≤ 1) (sym e) old.single
        by_case (inr (inl g)) =
            let here : IsIn p t r (instr.UndoTo g.slot d tag) 1 = subst (λ k. IsIn p t k (instr.UndoTo g.slot d tag) 1) (sym g.from)
            (record { read = next.read ∙ ap (λ j. Some j) g.instruction; stage = next.stage ∙ g.stage }) in
            let empty = (old.held g.slot here).0 in
            subst (λ (xs : List Parcel). length xs ≤ 1) (sym (g.parcels ∙ ap (λ (xs : List Parcel). xs ++ g.answer ∷ []) empty)) (omega arith)
        by_case (inr (inr k)) =
            subst (λ (xs : List Parcel). length xs ≤ 1) (sym k.parcels) (omega (arith, length-drop 1 (t.lanes (lane r d kind.Undo tag)), old.single))

    posted_after : 0 < length ((event_done (events_of i) r0 (acts_of (row_at p t r0 i s)) t).lanes (lane r d kind.Undo tag))
        → IsReady p (event_done (events_of i) r0 (acts_of (row_at p t r0 i s)) t) d r tag
    posted_after some = by_case (lane_case p t r0 (lane r d kind.Undo tag) refl i s) (cases_eq d r0)
      where
        u0 : Tables
        u0 = event_done (events_of i) r0 (acts_of (row_at p t r0 i s)) t

        -- the answer is taken, and was the only one
        left : (d ≡ r0) → IsReady p t d r tag → ⊥
        left e ready =
            let it = takes e ready in
            let sub : 0 < length ((event_done 2 r0 (acts_of (row_at p t r0 (instr.UndoFrom it.0 r tag) 0)) t).lanes (lane r d kind.Undo tag)) =
            subst (λ j. 0 < length ((event_done (events_of j) r0 (acts_of (row_at p t r0 j 0)) t).lanes (lane r d kind.Undo tag))) it.1
            (subst (λ m. 0 < length ((event_done (events_of i) r0 (acts_of (row_at p t r0 i m)) t).lanes (lane r d kind.Undo tag))) it.2 some) in
            let drops : (event_done 2 r0 (acts_of (row_at p t r0 (instr.UndoFrom it.0 r tag) 0)) t).lanes (lane r r0 kind.Undo tag) ≡ drop 1 (t.lanes (lane r r0 kind.Undo tag)) =
            with_lane-here t.lanes (lane r r0 kind.Undo tag) _ in
            let sub2 : 0 < length ((event_done 2 r0 (acts_of (row_at p t r0 (instr.UndoFrom it.0 r tag) 0)) t).lanes (lane r r0 kind.Undo tag)) =
            subst (λ k. 0 < length ((event_done 2 r0 (acts_of (row_at p t r0 (instr.UndoFrom it.0 r tag) 0)) t).lanes (lane r k kind.Undo tag))) e sub in
            let one : length (t.lanes (lane r r0 kind.Undo tag)) ≤ 1 = subst (λ k. length (t.lanes (lane r k kind.Undo tag)) ≤ 1) e old.single in
            let size : length ((event_done 2 r0 (acts_of (row_at p t r0 (instr.UndoFrom it.0 r tag) 0)) t).lanes (lane r r0 kind.Undo tag)) ≡ length (drop 1 (t.lanes (lane r r0 kind.Undo tag))) =
            ap (λ (xs : List Parcel). length xs) drops in
            omega (arith, length-drop 1 (t.lanes (lane r r0 kind.Undo tag)))

        by_case : LaneCase p t r0 i s (lane r d kind.Undo tag) → (d ≡ r0) ⊎ (d ≢ r0) → IsReady p (event_done (events_of i) r0 (acts_of (row_at p t r0 i s)) t) d r tag
        by_case (inl e) (inl same) =
            absurd (left same (old.posted (subst (λ (xs : List Parcel). 0 < length xs) e some)))
        by_case (inl e) (inr other) = ready_on other (old.posted (subst (λ (xs : List Parcel). 0 < length xs) e some))
        by_case (inr (inl g)) w =
            let here : IsIn p t r (instr.UndoTo g.slot d tag) 1 = subst (λ k. IsIn p t k (instr.UndoTo g.slot d tag) 1) (sym g.from)
            (record { read = next.read ∙ ap (λ j. Some j) g.instruction; stage = next.stage ∙ g.stage }) in
            ready_on (λ e. apart (e ∙ sym g.from)) (old.held g.slot here).1
        by_case (inr (inr k)) w =
            let more : 0 < length (drop 1 (t.lanes (lane r d kind.Undo tag))) = subst (λ (xs : List Parcel). 0 < length xs) k.parcels some in
            absurd (omega (arith, length-drop 1 (t.lanes (lane r d kind.Undo tag)), old.single))

    empty_after : t.lanes (lane r d kind.Undo tag) ≡ [] → ¬ HasGiven p t r0 i s (lane r d kind.Undo tag)
        → (event_done (events_of i) r0 (acts_of (row_at p t r0 i s)) t).lanes (lane r d kind.Undo tag) ≡ []
    empty_after empty not_given = by_case (lane_case p t r0 (lane r d kind.Undo tag) refl i s)
      where
        by_case : LaneCase p t r0 i s (lane r d kind.Undo tag) → (event_done (events_of i) r0 (acts_of (row_at p t r0 i s)) t).lanes (lane r d kind.Undo tag) ≡ []
        by_case (inl e) = e ∙ empty
        by_case (inr (inl g)) = absurd (not_given g)
        by_case (inr (inr k)) = k.parcels ∙ ap (λ (xs : List Parcel). drop 1 xs) empty

    held_after : (q : ℕ) → IsIn p (event_done (events_of i) r0 (acts_of (row_at p t r0 i s)) t) r (instr.UndoTo q d tag) 1
        → ((event_done (events_of i) r0 (acts_of (row_at p t r0 i s)) t).lanes (lane r d kind.Undo tag) ≡ [])
        × IsReady p (event_done (events_of i) r0 (acts_of (row_at p t r0 i s)) t) d r tag
    held_after q h = ⊎_elim (λ (e : r ≡ r0). own e) (λ (ne : r ≢ r0). others ne) (cases_eq r r0)
      where
        own : r ≡ r0 → ((event_done (events_of i) r0 (acts_of (row_at p t r0 i s)) t).lanes (lane r d kind.Undo tag) ≡ [])
            × IsReady p (event_done (events_of i) r0 (acts_of (row_at p t r0 i s)) t) d r tag
        own e =
            let was = stands_here p t r0 i s next (instr.UndoTo q d tag) 0 (subst (λ k. IsIn p (event_done (events_of i) r0 (acts_of (row_at p t r0 i s)) t) k (instr.UndoTo q d tag) 1) e h) in
            let wanted0 : is_wanted p t (lane r0 d kind.Undo tag) ≡ true = holds_at (instr.UndoTo q d tag) 0 (sym was.same) (sym was.stage) in
            let wanted : is_wanted p t (lane r d kind.Undo tag) ≡ true = subst (λ k. is_wanted p t (lane k d kind.Undo tag) ≡ true) (sym e) wanted0 in
            let one = and_parts (nat_eq (t.parts d).stage 0) (receives_on d (current p t d) (lane r d kind.Undo tag) && nat_eq (length (t.lanes (lane r d kind.Undo tag))) 0) wanted in
            let two = and_parts (receives_on d (current p t d) (lane r d kind.Undo tag)) (nat_eq (length (t.lanes (lane r d kind.Undo tag))) 0) one.1 in
            let empty = nil_from_length (t.lanes (lane r d kind.Undo tag)) (eqb-true (length (t.lanes (lane r d kind.Undo tag))) 0 two.1) in
            let back = receives_back d r tag (current p t d) two.0 in
            let ready : IsReady p t d r tag = (back.0, record { read = back.1; stage = eqb-true (t.parts d).stage 0 one.0 }) in
            (empty_after empty (λ g. let z : s ≡ 1 = g.stage in let y : 0 ≡ s = was.stage in absurd (omega arith)), ready_on (λ f. apart (f ∙ sym e)) ready)

        others : r ≢ r0 → ((event_done (events_of i) r0 (acts_of (row_at p t r0 i s)) t).lanes (lane r d kind.Undo tag) ≡ [])
            × IsReady p (event_done (events_of i) r0 (acts_of (row_at p t r0 i s)) t) d r tag
        others ne =
            let before = old.held q ((stands_elsewhere p t r0 i s r (instr.UndoTo q d tag) 1 ne).0 h) in (
              empty_after before.0 (λ g. ne g.from),
              ⊎_elim (λ (e : d ≡ r0). absurd (not_empty e before.1 before.0)) (λ (other : d ≢ r0). ready_on other before.1) (cases_eq d r0),
            )

  -- every event of every instruction keeps the link
  pub link_next : IsLinked p (event_done (events_of i) r0 (acts_of (row_at p t r0 i s)) t) r d tag
  link_next = record { held = held_after; posted = posted_after; single = single_after }
