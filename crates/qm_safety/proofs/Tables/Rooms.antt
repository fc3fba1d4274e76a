-- A store with the programs' capacity has room for all wires that have places
use Rattle.std.proofs.Common.{◌≡◌, ℕ, zero, suc, ◌+◌, ◌<◌, ◌≤◌, ◌⊎◌, true, false, Option, Some, List, [], ◌∷◌, length, Contains, inl, inr, subst, refl, sym, ◌∙◌, arith}
use Rattle.std.proofs.lemmas.Option.{same_Some}
use Rattle.qm_denot.specs.declared.Wire.{Wire}
use Rattle.qm_denot.specs.Wires.{Wires, has, put, how_many}
use Rattle.qm_denot.specs.WireLists.{Lacks, Distinct}
use Rattle.qm_denot.proofs.Sets.{has-put_other, how_many-less}
use Rattle.qm_denot.proofs.LiveWires.{Lacks-from_absent, absent_where_lacked}
use Rattle.qm_instr.specs.Programs.{RankProgram, Programs, idle_rank, rank_of}
use Rattle.qm_check.specs.Checks.{capacity_of}
use Rattle.qm_proto.specs.Model.State.{Tables}
use Rattle.qm_proto.specs.Model.Runs.{halves}
use Rattle.qm_proto.specs.Model.Places.{InSlot, NearOf, FarOf, IsPlaced}
use Rattle.qm_safety.specs.Tables.Rooms.{IsRoomy}
use Rattle.qm_safety.specs.Tables.Well.{AreCounted}
use Rattle.qm_proto.proofs.Sums.{sum_by-is_below}
use Rattle.qm_proto.proofs.Meetings.{same_or_below}
use Rattle.qm_proto.specs.Model.Totals.{sum_below}

-- ---- at most so many wires are as P says
-- distinct wires that are as P says are n at most
abbrev pub AtMost : ℕ → (Wire → Type 0) → Type 0
AtMost n P = (ws : List Wire) → Distinct ws → ((w : Wire) → Contains ws w → P w) → length ws ≤ n

-- a list of distinct wires is parted by two facts
record Parted (P Q : Wire → Type 0) (ws : List Wire) : Type 0 where
  first : List Wire
  second : List Wire
  first_distinct : Distinct first
  second_distinct : Distinct second
  first_all : (w : Wire) → Contains first w → P w
  second_all : (w : Wire) → Contains second w → Q w
  first_of : (w : Wire) → Contains first w → Contains ws w
  second_of : (w : Wire) → Contains second w → Contains ws w
  size : length ws ≡ length first + length second

rest : (ws : List Wire) (w v : Wire) → Contains ws v → Contains (w ∷ ws) v
rest ws w v (k, below, is) = (suc k, omega arith, is)

more_all : (P : Wire → Type 0) (ws : List Wire) (w : Wire) → P w → ((v : Wire) → Contains ws v → P v) → (v : Wire) → Contains (w ∷ ws) v → P v
more_all P ws w here all v (zero, below, is) = subst P is here
more_all P ws w here all v (suc k, below, is) = all v (k, omega arith, is)

parted : (P Q : Wire → Type 0) (ws : List Wire) → Distinct ws → ((w : Wire) → Contains ws w → P w ⊎ Q w) → Parted P Q ws
parted P Q [] distinct either =
    record {
      first = [];
      second = [];
      first_distinct = tt;
      second_distinct = tt;
      first_all = λ w (k, below, is). absurd (omega arith);
      second_all = λ w (k, below, is). absurd (omega arith);
      first_of = λ w h. h;
      second_of = λ w h. h;
      size = refl;
    }
parted P Q (w ∷ ws) distinct either =
    let h = parted P Q ws distinct.1 (λ v c. either v (rest ws w v c)) in
    let lacks : (us : List Wire) → ((v : Wire) → Contains us v → Contains ws v) → Lacks us w =
    λ us within. Lacks-from_absent us w (λ c. absent_where_lacked ws w distinct.0 (within w c)) in
    elim (either w (0, omega arith, refl)) [
      | inl here ↦ record {
        first = w ∷ h.first;
        second = h.second;
        first_distinct = (lacks h.first h.first_of, h.first_distinct);
        second_distinct = h.second_distinct;
        first_all = more_all P h.first w here h.first_all;
        second_all = h.second_all;
        first_of = more_all (Contains (w ∷ ws)) h.first w (0, omega arith, refl) (λ v c. rest ws w v (h.first_of v c));
        second_of = λ v c. rest ws w v (h.second_of v c);
        size = omega (arith, h.size);
      }
      | inr here ↦ record {
        first = h.first;
        second = w ∷ h.second;
        first_distinct = h.first_distinct;
        second_distinct = (lacks h.second h.second_of, h.second_distinct);
        first_all = h.first_all;
        second_all = more_all Q h.second w here h.second_all;
        first_of = λ v c. rest ws w v (h.first_of v c);
        second_of = more_all (Contains (w ∷ ws)) h.second w (0, omega arith, refl) (λ v c. rest ws w v (h.second_of v c));
        size = omega (arith, h.size);
      }
    ]

-- of two facts, as many as of both together
at_most_either : (P Q : Wire → Type 0) (m n : ℕ) → AtMost m P → AtMost n Q → AtMost (m + n) (λ w. P w ⊎ Q w)
at_most_either P Q m n p q ws distinct either =
    let h = parted P Q ws distinct either in
    omega (arith, h.size, p h.first h.first_distinct h.first_all, q h.second h.second_distinct h.second_all)

-- none, and one
at_most_none : (P : Wire → Type 0) → ((w : Wire) → ¬ P w) → AtMost 0 P
at_most_none P none [] distinct all = omega arith
at_most_none P none (w ∷ ws) distinct all = absurd (none w (all w (0, omega arith, refl)))

at_most_one : (o : Option Wire) → AtMost 1 (λ w. o ≡ Some w)
at_most_one o [] distinct all = omega arith
at_most_one o (w ∷ []) distinct all = omega arith
at_most_one o (w ∷ v ∷ ws) distinct all =
    let same : v ≡ w = same_Some v w (sym (all v (1, omega arith, refl)) ∙ all w (0, omega arith, refl)) in
    absurd (distinct.0.0 same)

-- those of a finite set
at_most_set : (x : Wires) → AtMost (how_many x) (λ w. has x w ≡ true)
at_most_set x [] distinct all = omega arith
at_most_set x (w ∷ ws) distinct all =
    let less = how_many-less x w (all w (0, omega arith, refl)) in
    let others : (v : Wire) → Contains ws v → has (put x w false) v ≡ true = λ v c.
    has-put_other x w false v (λ e. absent_where_lacked ws w distinct.0 (subst (Contains ws) e c)) ∙ all v (rest ws w v c) in
    omega (arith, less, at_most_set (put x w false) ws distinct.1 others)

at_most_more : (P : Wire → Type 0) (m n : ℕ) → m ≤ n → AtMost m P → AtMost n P
at_most_more P m n more p ws distinct all = omega (arith, p ws distinct all)

at_most_where : (P Q : Wire → Type 0) (n : ℕ) → ((w : Wire) → P w → Q w) → AtMost n Q → AtMost n P
at_most_where P Q n follows q ws distinct all = q ws distinct (λ w c. follows w (all w c))

-- those that are as one of the first n facts says
at_most_below : (P : ℕ → Wire → Type 0) (f : ℕ → ℕ) (n : ℕ) → ((k : ℕ) → k < n → AtMost (f k) (P k)) → AtMost (sum_below f n) (λ w. (k : ℕ) × (k < n) × P k w)
at_most_below P f zero each = at_most_none (λ w. (k : ℕ) × (k < zero) × P k w) (λ w (k, below, h). omega arith)
at_most_below P f (suc n) each =
    at_most_where (λ w. (k : ℕ) × (k < suc n) × P k w) (λ w. ((k : ℕ) × (k < n) × P k w) ⊎ P n w) (sum_below f n + f n)
    (λ w (k, below, h). elim (same_or_below k n below) [ inl same ↦ inr (subst (λ j. P j w) same h) | inr less ↦ inl (k, less, h) ])
    (at_most_either (λ w. (k : ℕ) × (k < n) × P k w) (P n) (sum_below f n) (f n) (at_most_below P f n (λ k h. each k (omega arith))) (each n (omega arith)))

sum_of_ones : (n : ℕ) → sum_below (λ k. 1) n ≡ n
sum_of_ones zero = refl
sum_of_ones (suc n) = let e = sum_of_ones n in omega arith

-- ---- all wires that have places
-- how many slots and halves a rank may have
abbrev room_for : RankProgram → ℕ
room_for x = x.qubits + x.buffer

module _ (p : Programs) (t : Tables) (roomy : IsRoomy p t) (counted : (r : ℕ) → AreCounted t r) where
  -- the wire is in a slot of rank r
  abbrev InSlots : ℕ → Wire → Type 0
  InSlots r w = (q : ℕ) × (q < (rank_of p r).qubits) × (t.slots r q ≡ Some w)

  -- or one of its halves
  abbrev OfRank : ℕ → Wire → Type 0
  OfRank r w = InSlots r w ⊎ ((has (t.near r) w ≡ true) ⊎ (has (t.far r) w ≡ true))

  few_in_slots : (r : ℕ) → AtMost (rank_of p r).qubits (InSlots r)
  few_in_slots r =
      let n = (rank_of p r).qubits in
      at_most_more (InSlots r) (sum_below (λ k. 1) n) n (omega (arith, sum_of_ones n))
      (at_most_below (λ q w. t.slots r q ≡ Some w) (λ k. 1) n (λ q _. at_most_one (t.slots r q)))

  few_of_rank : (r : ℕ) → r < length p.ranks → AtMost (room_for (rank_of p r)) (OfRank r)
  few_of_rank r known =
      let n = (rank_of p r).qubits in
      let near = how_many (t.near r) in
      let far = how_many (t.far r) in
      let few : halves t r ≤ (rank_of p r).buffer = roomy.halves_few r known in
      at_most_more (OfRank r) (n + (near + far)) (room_for (rank_of p r)) (omega (arith, counted r))
      (at_most_either (InSlots r) (λ w. (has (t.near r) w ≡ true) ⊎ (has (t.far r) w ≡ true)) n (near + far) (few_in_slots r)
      (at_most_either (λ w. has (t.near r) w ≡ true) (λ w. has (t.far r) w ≡ true) near far (at_most_set (t.near r)) (at_most_set (t.far r))))

  placed_of : (w : Wire) → IsPlaced t w → (r : ℕ) × (r < length p.ranks) × OfRank r w
  placed_of w (InSlot r q, e) = let known = roomy.slot_known r q w e in (r, known.0, inl (q, known.1, e))
  placed_of w (NearOf r, h) = (r, roomy.near_known r w h, inr (inl h))
  placed_of w (FarOf r, h) = (r, roomy.far_known r w h, inr (inr h))

  -- distinct wires that have places are no more than the capacity of the programs
  pub few_places : AtMost (capacity_of p) (IsPlaced t)
  few_places =
      let n = length p.ranks in
      at_most_more (IsPlaced t) (sum_below (λ r. room_for (rank_of p r)) n) (capacity_of p) (omega (arith, sum_by-is_below room_for p.ranks idle_rank))
      (at_most_where (IsPlaced t) (λ w. (r : ℕ) × (r < n) × OfRank r w) (sum_below (λ r. room_for (rank_of p r)) n) placed_of
      (at_most_below OfRank (λ r. room_for (rank_of p r)) n few_of_rank))
