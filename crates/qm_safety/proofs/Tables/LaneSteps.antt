-- Parcels that are posted, filled and taken, and the lanes of other tables
use Rattle.std.proofs.Common.{◌≡◌, ◌≢◌, ℕ, Bool, true, List, [], ◌∷◌, ◌++◌, length, drop, slice_index_or, All, Some, None, is_some, inl, inr, refl, sym, ap, subst, arith}
use Rattle.std.proofs.lemmas.Bool.{cases_eq}
use Rattle.std.proofs.lemmas.List.Elements.{All-nil, All-cons, All-head, All-tail}
use Rattle.qm_instr.specs.declared.Instr.{Instr}
use Rattle.qm_instr.specs.declared.Kind.{Kind}
use Rattle.qm_instr.specs.declared.Lane.{Lane}
use Rattle.qm_instr.specs.Lanes.{lane}
use Rattle.qm_instr.specs.Programs.{Programs, rank_of}
use Rattle.qm_check.proofs.Faultless.{IsStep}
use Rattle.qm_denot.specs.declared.Parcel.{Parcel}
use Rattle.qm_proto.specs.Model.State.{Part, Tables, no_parcel, front}
use Rattle.qm_proto.specs.declared.Act.{Act}
use Rattle.qm_denot.specs.Parcels.{IsFillable, filled}
use Rattle.qm_proto.specs.Model.Rows.{instr_at, current}
use Rattle.qm_safety.specs.Tables.Well.{IsLaneSound, IsLaneWell}
use Rattle.qm_safety.proofs.Tables.NextEvents.{IsNext, IsAtStage, event_done, part_elsewhere}

-- ---- parcels that are posted, filled and taken
-- the parcel carries a wire
abbrev pub HasWire : Parcel → Type 0
HasWire x = is_some x.wire ≡ true

pub fillable_push : (xs : List Parcel) (y : Parcel) → y.bits ≡ None → IsFillable (xs ++ y ∷ [])
fillable_push [] y e = e
fillable_push (x ∷ []) y e = e
fillable_push (x ∷ z ∷ xs) y e = fillable_push (z ∷ xs) y e

-- a front parcel with bits is not the one that waits for them
pub fillable_drop : (xs : List Parcel) → is_some (slice_index_or xs 0 no_parcel).bits ≡ true → IsFillable xs → IsFillable (drop 1 xs)
fillable_drop [] front h = absurd h
fillable_drop (x ∷ []) front h = let n : ⊥ = cc in absurd n
fillable_drop (x ∷ z ∷ xs) front h = h

pub length-filled : (xs : List Parcel) (b : Bool × Bool) → length (filled xs b) ≡ length xs
length-filled [] b = refl
length-filled (x ∷ []) b = refl
length-filled (x ∷ z ∷ xs) b = let e : length (filled (z ∷ xs) b) ≡ length (z ∷ xs) = length-filled (z ∷ xs) b in omega arith

pub wired_filled : (xs : List Parcel) (b : Bool × Bool) → All HasWire xs → All HasWire (filled xs b)
wired_filled [] b h = h
wired_filled (x ∷ []) b h = All-cons HasWire (record x { bits = Some b }) [] (All-head HasWire x [] h) (All-nil HasWire)
wired_filled (x ∷ z ∷ xs) b h =
    All-cons HasWire x (filled (z ∷ xs) b) (All-head HasWire x (z ∷ xs) h) (wired_filled (z ∷ xs) b (All-tail HasWire x (z ∷ xs) h))

-- ---- a lane of other tables, by where its sender stands and by its parcels
pub lane_by : (p : Programs) (u : Tables) (b : Lane) (k s : ℕ) → IsAtStage (u.parts b.from) k s
    → IsLaneSound b (rank_of p b.from) (instr_at p b.from k) k s (u.lanes b) → IsLaneWell p u b
lane_by p u b k s place h =
    let x = rank_of p b.from in
    let v = u.parts b.from in
    subst (λ j. IsLaneSound b x (instr_at p b.from j) j v.stage (u.lanes b)) (sym place.at)
    (subst (λ j. IsLaneSound b x (instr_at p b.from k) k j (u.lanes b)) (sym place.stage) h)

-- lanes of a rank, and those of others
pub by_sender : (P : Lane → Type 0) (r : ℕ) → ((to : ℕ) (k : Kind) (tag : ℕ) → P (lane r to k tag)) → ((b : Lane) → b.from ≢ r → P b) → (b : Lane) → P b
by_sender P r own others b =
    elim (cases_eq b.from r) [
      | inl same ↦ subst (λ f. P (lane f b.to b.kind b.tag)) (sym same) (own b.to b.kind b.tag)
      | inr other ↦ others b other
    ]

module _ (p : Programs) (t : Tables) (r : ℕ) (well : (b : Lane) → IsLaneWell p t b) (step : (i : Instr) → instr_at p r (t.parts r).at ≡ Some i → IsStep p r (t.parts r).at i) where
  -- a lane of another rank, with these parcels
  pub other_lane : (n : ℕ) (acts : List Act) (b : Lane) → b.from ≢ r
      → (let v = t.parts b.from in IsLaneSound b (rank_of p b.from) (current p t b.from) v.at v.stage ((event_done n r acts t).lanes b))
      → IsLaneWell p (event_done n r acts t) b
  other_lane n acts b other h =
      let same = part_elsewhere n r b.from acts t other in
      lane_by p (event_done n r acts t) b (t.parts b.from).at (t.parts b.from).stage
      (record { at = ap (λ (v : Part). v.at) same; stage = ap (λ (v : Part). v.stage) same }) h

  pub other_lane_same : (n : ℕ) (acts : List Act) (b : Lane) → b.from ≢ r → (event_done n r acts t).lanes b ≡ t.lanes b → IsLaneWell p (event_done n r acts t) b
  other_lane_same n acts b other same =
      let v = t.parts b.from in
      other_lane n acts b other (subst (λ xs. IsLaneSound b (rank_of p b.from) (current p t b.from) v.at v.stage xs) (sym same) (well b))

  -- a lane of the rank before its event
  pub own_lane : (i : Instr) (s : ℕ) → IsNext p t r i s → (to : ℕ) (k : Kind) (tag : ℕ)
      → IsLaneSound (lane r to k tag) (rank_of p r) (Some i) (t.parts r).at s (t.lanes (lane r to k tag))
  own_lane i s next to k tag =
      let v = t.parts r in
      let b = lane r to k tag in
      subst (λ j. IsLaneSound b (rank_of p r) (Some i) v.at j (t.lanes b)) next.stage
      (subst (λ o. IsLaneSound b (rank_of p r) o v.at v.stage (t.lanes b)) next.read (well b))
