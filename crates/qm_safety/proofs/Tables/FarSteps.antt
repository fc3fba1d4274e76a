-- After each event each rank has room for its far halves
use Rattle.std.proofs.Common.{◌≡◌, ℕ, ◌+◌, ◌<◌, ◌≤◌, nat_eq, nat_lt, Bool, true, false, ◌&&◌, ◌||◌, List, [], ◌∷◌, length, slice_index_or, All, Option, Some, None, is_some, inl, inr, refl, sym, ap, subst, ◌∙◌, arith}
use Rattle.std.proofs.lemmas.Bool.{and_parts, or_parts, or_cases, eqb-true, ltb-true, ltb-false, le-ltb}
use Rattle.std.proofs.lemmas.List.Elements.{All-head}
use Rattle.std.proofs.lemmas.Option.{same_Some}
use Rattle.qm_denot.specs.Wires.{no_wires, how_many}
use Rattle.qm_denot.proofs.Sets.{how_many-no_wires}
use Rattle.qm_instr.specs.declared.Instr.{Instr}
use Rattle.qm_instr.specs.declared.Instr.TheVariants as instr
use Rattle.qm_instr.specs.declared.Kind.TheVariants as kind
use Rattle.qm_instr.specs.declared.Lane.{Lane}
use Rattle.qm_instr.specs.Lanes.{lane}
use Rattle.qm_instr.specs.Programs.{Programs, rank_of}
use Rattle.qm_denot.specs.declared.Parcel.{Parcel}
use Rattle.qm_instr.proofs.LaneOrder.{same_lane}
use Rattle.qm_proto.specs.Model.State.{Part, Tables, no_parcel, no_wire, wire_of}
use Rattle.qm_proto.specs.Model.Rows.{instr_at, current, half_parcel}
use Rattle.qm_proto.specs.Model.Runs.{receives_on, is_wanted, halves}
use Rattle.qm_safety.specs.Tables.Well.{middle_at, has_near, one_if, near_of, is_half, half_lane, keeps_half, has_parcel, is_taking, IsRankWell, IsFarSound, IsFarWell, AreCounted}
use Rattle.qm_safety.proofs.Tables.RankSteps.{some_is}
use Rattle.qm_safety.proofs.Tables.LaneSteps.{HasWire}

-- ---- the front parcel of a lane of halves
pub front_wire : (xs : List Parcel) → All HasWire xs → is_some (slice_index_or xs 0 no_parcel).bits ≡ true
    → (slice_index_or xs 0 no_parcel).wire ≡ Some (wire_of (slice_index_or xs 0 no_parcel))
front_wire [] wired bits = cc
front_wire (x ∷ xs) wired bits = some_is x.wire no_wire (All-head HasWire x xs wired)

-- ---- whether a rank is taking a half
-- the lane from which a rank takes halves is one to it
half_lane_to : (r : ℕ) (o : Option Instr) (c : Lane) → half_lane r o ≡ Some c → c.to ≡ r
half_lane_to r (Some (instr.CopyFrom q from tag)) c e = sym (ap (λ (a : Lane). a.to) (same_Some (lane from r kind.Copy tag) c e))
half_lane_to r (Some (instr.MoveFrom q from tag)) c e = sym (ap (λ (a : Lane). a.to) (same_Some (lane from r kind.Move tag) c e))
half_lane_to r (Some (instr.ReachFrom q from tag)) c e = sym (ap (λ (a : Lane). a.to) (same_Some (lane from r kind.Reach tag) c e))
half_lane_to r _ c e = cc

-- a lane of halves that a rank receives is the one from which it takes them
wanted_takes : (r : ℕ) (o : Option Instr) (a : Lane) → is_half a.kind ≡ true → receives_on r o a ≡ true → half_lane r o ≡ Some a
wanted_takes r (Some (instr.CopyFrom q from tag)) a h e = ap (λ (c : Lane). Some c) (same_lane (lane from r kind.Copy tag) a e)
wanted_takes r (Some (instr.MoveFrom q from tag)) a h e = ap (λ (c : Lane). Some c) (same_lane (lane from r kind.Move tag) a e)
wanted_takes r (Some (instr.ReachFrom q from tag)) a h e = ap (λ (c : Lane). Some c) (same_lane (lane from r kind.Reach tag) a e)
wanted_takes r (Some (instr.RecvBit b from tag)) a h e =
    let k : false ≡ true = ap (λ (c : Lane). is_half c.kind) (same_lane (lane from r kind.Bit tag) a e) ∙ h in cc
wanted_takes r (Some (instr.UndoFrom q from tag)) a h e =
    let k : false ≡ true = ap (λ (c : Lane). is_half c.kind) (same_lane (lane from r kind.Undo tag) a e) ∙ h in cc
wanted_takes r _ a h e = cc

-- lanes with no fewer parcels
less_parcels : (lanes more : Lane → List Parcel) (o : Option Lane) → ((c : Lane) → o ≡ Some c → length (lanes c) ≤ length (more c))
    → has_parcel more o ≡ false → has_parcel lanes o ≡ false
less_parcels lanes more None h e = refl
less_parcels lanes more (Some c) h e =
    let few : length (more c) ≤ 0 = ltb-false 0 (length (more c)) e in
    let fewer : length (lanes c) ≤ length (more c) = h c refl in
    le-ltb 0 (length (lanes c)) (omega arith)

pub taking_before : (lanes more : Lane → List Parcel) (r : ℕ) (o : Option Instr) (s : ℕ) → ((c : Lane) → c.to ≡ r → length (lanes c) ≤ length (more c))
    → is_taking more r o s ≡ false → is_taking lanes r o s ≡ false
taking_before lanes more r o s h e =
    let parts = or_parts (nat_eq s 0 && has_parcel more (half_lane r o)) (nat_lt 0 s && keeps_half o) e in
    joined (nat_eq s 0) (has_parcel more (half_lane r o)) (has_parcel lanes (half_lane r o)) (nat_lt 0 s && keeps_half o)
    (less_parcels lanes more (half_lane r o) (λ c same. h c (half_lane_to r o c same))) parts.0 parts.1
  where
    joined : (a m l k : Bool) → (m ≡ false → l ≡ false) → (a && m) ≡ false → k ≡ false → ((a && l) || k) ≡ false
    joined true m l k less am none = ap (λ b. b || k) (less am) ∙ none
    joined false m l k less am none = none

-- a rank at the start of a receive of this lane is taking a half exactly where the lane has a parcel
pub taking_at_start : (lanes : Lane → List Parcel) (r : ℕ) (o : Option Instr) (s : ℕ) (a : Lane) → s ≡ 0 → half_lane r o ≡ Some a
    → is_taking lanes r o s ≡ (nat_lt 0 (length (lanes a)) || false)
taking_at_start lanes r o s a start takes =
    ap (λ k. is_taking lanes r o k) start ∙ ap (λ l. has_parcel lanes l || false) takes

-- a lane of halves that is wanted is empty, and its receiver stands at the start of a receive of it
pub record IsWantedSo (p : Programs) (t : Tables) (a : Lane) : Type 0 where
  pub start : (t.parts a.to).stage ≡ 0
  pub takes : half_lane a.to (current p t a.to) ≡ Some a
  pub none : length (t.lanes a) ≡ 0

pub is_wanted_so : (p : Programs) (t : Tables) (a : Lane) → is_half a.kind ≡ true → is_wanted p t a ≡ true → IsWantedSo p t a
is_wanted_so p t a half_parcel e =
    let o = current p t a.to in
    let one = and_parts (nat_eq (t.parts a.to).stage 0) _ e in
    let two = and_parts (receives_on a.to o a) (nat_eq (length (t.lanes a)) 0) one.1 in
    record {
      start = eqb-true (t.parts a.to).stage 0 one.0;
      takes = wanted_takes a.to o a half_parcel two.0;
      none = eqb-true (length (t.lanes a)) 0 two.1;
    }

pub wanted_not_taking : (p : Programs) (t : Tables) (a : Lane) → IsWantedSo p t a → is_taking t.lanes a.to (current p t a.to) (t.parts a.to).stage ≡ false
wanted_not_taking p t a w =
    taking_at_start t.lanes a.to (current p t a.to) (t.parts a.to).stage a w.start w.takes ∙ ap (λ k. nat_lt 0 k || false) w.none

-- a rank at the start of an instruction holds no near half
near_at_start : (p : Programs) (t : Tables) (r : ℕ) → IsRankWell p t r → (t.parts r).stage ≡ 0 → how_many (t.near r) ≡ 0
near_at_start p t r well start =
    let v = t.parts r in
    ap how_many (well.near_so ∙ ap (λ s. one_if (has_near (middle_at (current p t r)) s) (near_of r v)) start) ∙ how_many-no_wires

-- a rank to which a pair may send has room for one half more
pub room_before_pair : (p : Programs) (t : Tables) (a : Lane) → is_half a.kind ≡ true → IsFarWell p t a.to → IsRankWell p t a.to → AreCounted t a.to
    → (nat_lt (halves t a.to + 1) (rank_of p a.to).buffer || is_wanted p t a) ≡ true → halves t a.to < (rank_of p a.to).buffer
room_before_pair p t a half_parcel well rank counted free =
    elim (or_cases (nat_lt (halves t a.to + 1) (rank_of p a.to).buffer) _ free) [
      | inl h ↦ let below : halves t a.to + 1 < (rank_of p a.to).buffer = ltb-true (halves t a.to + 1) (rank_of p a.to).buffer h in omega arith
      | inr h ↦
          let wanted = is_wanted_so p t a half_parcel h in
          omega (arith, well.room (wanted_not_taking p t a wanted), near_at_start p t a.to rank wanted.start, counted)
    ]

-- ---- the events
-- a rank of other tables, by its part
pub far_by : (p : Programs) (u : Tables) (k : ℕ) (v : Part) → u.parts k ≡ v
    → IsFarSound u.lanes k (rank_of p k).buffer (instr_at p k v.at) v.stage (u.far k) → IsFarWell p u k
far_by p u k v same h = subst (λ (w : Part). IsFarSound u.lanes k (rank_of p k).buffer (instr_at p k w.at) w.stage (u.far k)) (sym same) h

-- one rank, and the others
-- all ranks, and those that there are not
pub record IsFarAll (p : Programs) (u : Tables) : Type 0 where
  pub well : (k : ℕ) → IsFarWell p u k
  pub known : (k : ℕ) → length p.ranks ≤ k → u.far k ≡ no_wires
