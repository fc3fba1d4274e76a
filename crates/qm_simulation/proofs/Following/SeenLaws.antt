-- What the ideal machine sees of each event: its step, or nothing
use Rattle.std.proofs.Common.{◌≡◌, ◌≢◌, ℕ, ◌+◌, nat_lt, Bool, true, false, cond, ◌&&◌, List, [], ◌∷◌, ◌++◌, fold, Some, None, is_some, refl, sym, ap, ap₂, ◌∙◌}
use Rattle.qm_denot.specs.Parcels.{filled}
use Rattle.qm_instr.specs.declared.Instr.{Instr}
use Rattle.qm_instr.specs.declared.Kind.{Kind}
use Rattle.qm_instr.specs.declared.Lane.{Lane}
use Rattle.qm_instr.specs.Programs.{Programs}
use Rattle.qm_denot.specs.declared.Parcel.{Parcel}
use Rattle.qm_instr.specs.Lanes.{is_lane}
use Rattle.qm_instr.proofs.LaneOrder.{same_lane}
use Rattle.qm_proto.specs.Model.State.{Part, Tables, with_lane}
use Rattle.qm_proto.specs.declared.Act.{Act}
use Rattle.qm_proto.specs.Model.Acts.{after_acts}
use Rattle.qm_proto.specs.Model.Rows.{instr_at}
use Rattle.qm_proto.specs.Model.Ideal.{IdealPart, IdealTables, Load, IdealAct, Counts, SlotSet, Puts, Takes, OwnUsed, BitSet, ideal_after_act, ideal_past_instr}
use Rattle.qm_proto.proofs.Changes.{with_at-here, with_at-elsewhere, by_number}
use Rattle.qm_simulation.specs.Following.Seen.{part_seen, load_seen, is_seen, loads_seen, tables_seen}
use Rattle.qm_safety.proofs.Tables.NextEvents.{IsNext, event_done, part_on, part_ended, part_elsewhere}
use Rattle.qm_proto.proofs.IdealRuns.{tables_same}

-- ---- equal tables
-- ---- ideal acts of a rank leave other ranks as they are
ideal_elsewhere : (r k : ℕ) → k ≢ r → (acts : List IdealAct) (t : IdealTables) → (fold (ideal_after_act r) t acts).parts k ≡ t.parts k
ideal_elsewhere r k other [] t = refl
ideal_elsewhere r k other (a ∷ acts) t = ideal_elsewhere r k other acts (ideal_after_act r t a) ∙ one a
  where
    one : (a : IdealAct) → (ideal_after_act r t a).parts k ≡ t.parts k
    one Counts = with_at-elsewhere t.parts r _ k other
    one (SlotSet q w) = refl
    one (Puts b x) = refl
    one (Takes b) = refl
    one OwnUsed = with_at-elsewhere t.parts r _ k other
    one (BitSet b v) = with_at-elsewhere t.parts r _ k other

-- a rank past its instruction
abbrev pub past : IdealPart → IdealPart
past x = record x { at = x.at + 1 }

-- ---- the acting rank before and after its event
module _ (p : Programs) (t : Tables) (r : ℕ) (i : Instr) (s : ℕ) (next : IsNext p t r i s) where
  pub seen_before : (tables_seen p t).parts r ≡ part_seen (Some i) s (t.parts r)
  seen_before = ap₂ (λ o k. part_seen o k (t.parts r)) next.read next.stage

  module _ (n : ℕ) (acts : List Act) (v : Part) (after : (after_acts r acts t).parts r ≡ v) (at : v.at ≡ (t.parts r).at) (stage : v.stage ≡ s) where
    pub seen_on : nat_lt (s + 1) n ≡ true → (tables_seen p (event_done n r acts t)).parts r ≡ part_seen (Some i) (s + 1) v
    seen_on more =
        ap (λ (x : Part). part_seen (instr_at p r x.at) x.stage x) (part_on n s r acts t v after stage more)
        ∙ ap (λ o. part_seen o (s + 1) (record v { stage = s + 1 })) (ap (instr_at p r) at ∙ next.read)

    pub seen_ended : nat_lt (s + 1) n ≡ false → (tables_seen p (event_done n r acts t)).parts r ≡ past (part_seen None 0 v)
    seen_ended last = ap (λ (x : Part). part_seen (instr_at p r x.at) x.stage x) (part_ended n s r acts t v after stage last)

  -- the event is seen as nothing
  pub seen_same : (n : ℕ) (acts : List Act) → (let u = event_done n r acts t in
      (tables_seen p u).parts r ≡ part_seen (Some i) s (t.parts r)
      → ((k q : ℕ) → u.slots k q ≡ t.slots k q)
      → ((a : Lane) → loads_seen a.kind (u.lanes a) ≡ loads_seen a.kind (t.lanes a))
      → tables_seen p u ≡ tables_seen p t)
  seen_same n acts part slots lanes =
      let u = event_done n r acts t in
      tables_same (tables_seen p u) (tables_seen p t)
      (by_number (λ k. (tables_seen p u).parts k ≡ (tables_seen p t).parts k) r (part ∙ sym seen_before)
      (λ k other. ap (λ (x : Part). part_seen (instr_at p k x.at) x.stage x) (part_elsewhere n r k acts t other)))
      slots lanes

  -- the event is seen as a step
  pub seen_step : (n : ℕ) (acts : List Act) (steps : List IdealAct) (x : IdealPart) → (let u = event_done n r acts t in
      let w = fold (ideal_after_act r) (tables_seen p t) steps in
      (tables_seen p u).parts r ≡ past x → w.parts r ≡ x
      → ((k q : ℕ) → u.slots k q ≡ w.slots k q)
      → ((a : Lane) → loads_seen a.kind (u.lanes a) ≡ w.lanes a)
      → tables_seen p u ≡ ideal_past_instr w r)
  seen_step n acts steps x part here slots lanes =
      let u = event_done n r acts t in
      let w = fold (ideal_after_act r) (tables_seen p t) steps in
      tables_same (tables_seen p u) (ideal_past_instr w r)
      (by_number (λ k. (tables_seen p u).parts k ≡ (ideal_past_instr w r).parts k) r
      (part ∙ sym (with_at-here w.parts r (past (w.parts r)) ∙ ap past here))
      (λ k other.
      ap (λ (x : Part). part_seen (instr_at p k x.at) x.stage x) (part_elsewhere n r k acts t other)
      ∙ sym (with_at-elsewhere w.parts r (past (w.parts r)) k other ∙ ideal_elsewhere r k other steps (tables_seen p t))))
      slots lanes

-- ---- lanes
-- a lane with other parcels is seen with other loads
pub loads_changed : (f : Lane → List Parcel) (a : Lane) (xs : List Parcel) (ys : List Load) (b : Lane) → loads_seen a.kind xs ≡ ys
    → loads_seen b.kind (with_lane f a xs b) ≡ with_lane (λ c. loads_seen c.kind (f c)) a ys b
loads_changed f a xs ys b e = by_bool (is_lane b a) refl
  where
    by_bool : (t : Bool) → is_lane b a ≡ t → loads_seen b.kind (cond t xs (f b)) ≡ cond t ys (loads_seen b.kind (f b))
    by_bool true same = ap (λ (c : Lane). loads_seen c.kind xs) (same_lane b a same) ∙ e
    by_bool false other = refl

pub loads_kept : (f : Lane → List Parcel) (a : Lane) (xs : List Parcel) (b : Lane) → loads_seen a.kind xs ≡ loads_seen a.kind (f a)
    → loads_seen b.kind (with_lane f a xs b) ≡ loads_seen b.kind (f b)
loads_kept f a xs b e = by_bool (is_lane b a) refl
  where
    by_bool : (t : Bool) → is_lane b a ≡ t → loads_seen b.kind (cond t xs (f b)) ≡ loads_seen b.kind (f b)
    by_bool true same = ap (λ (c : Lane). loads_seen c.kind xs) (same_lane b a same) ∙ e ∙ ap (λ (c : Lane). loads_seen c.kind (f c)) (sym (same_lane b a same))
    by_bool false other = refl

-- a parcel is posted without bits, and one with bits
one_more : (b : Bool) (y : Load) (ys zs : List Load) → cond b (y ∷ (ys ++ zs)) (ys ++ zs) ≡ cond b (y ∷ ys) ys ++ zs
one_more true y ys zs = refl
one_more false y ys zs = refl

pub loads_posted : (k : Kind) (xs : List Parcel) (x : Parcel) → loads_seen k (xs ++ x ∷ []) ≡ loads_seen k xs ++ loads_seen k (x ∷ [])
loads_posted k [] x = refl
loads_posted k (y ∷ xs) x =
    ap (λ ys. cond (is_seen k && is_some y.bits) (load_seen k y ∷ ys) ys) (loads_posted k xs x)
    ∙ one_more (is_seen k && is_some y.bits) (load_seen k y) (loads_seen k xs) (loads_seen k (x ∷ []))

-- the last parcel is filled
pub filled_last : (xs : List Parcel) (x : Parcel) (b : Bool × Bool) → filled (xs ++ x ∷ []) b ≡ xs ++ record x { bits = Some b } ∷ []
filled_last [] x b = refl
filled_last (y ∷ []) x b = refl
filled_last (y ∷ z ∷ xs) x b = ap (λ ys. y ∷ ys) (filled_last (z ∷ xs) x b)
