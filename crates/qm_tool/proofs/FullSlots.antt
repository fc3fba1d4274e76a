-- The full slots of all ranks: slot by slot, how many there are, and that they hold different live wires
use Rattle.std.proofs.Common.{◌≡◌, ◌≢◌, ℕ, zero, suc, ◌+◌, ◌<◌, ◌⊎◌, inl, inr, List, [], ◌∷◌, ◌++◌, ◌≤◌, length, map, take, take_all, sum_by, Option, Some, None, All, Contains, refl, ap, ◌∙◌, arith, add-one, append_assoc, length-append}
use Rattle.std.proofs.lemmas.List.{map-append, append-nil}
use Rattle.std.proofs.lemmas.List.Elements.{All-nil, All-cons, All-head, All-tail, All-append, All-map}
use Rattle.qm_denot.specs.declared.Wire.{Wire}
use Rattle.qm_denot.specs.WireLists.{Lacks, Distinct}
use Rattle.qm_denot.specs.Stores.{Store}
use Rattle.std.proofs.lemmas.List.Sums.{sum_by_more}
use Rattle.qm_instr.specs.Programs.{Programs, RankProgram, rank_of, idle_rank}
use Rattle.qm_check.specs.Checks.{IsReady, capacity_of}
use Rattle.qm_ideal.specs.OneCircuits.{OneView, slot_of}
use Rattle.qm_eval.specs.Holding.{HoldsCircuit}
use Rattle.qm_tool.proofs.Capacities.{ready_capacity}
use Rattle.qm_proto.specs.Model.Places.{InSlot}
use Rattle.qm_machine.specs.Keeps.{MachineView, Keeps, state_of}
use Rattle.qm_print.specs.declared.Live.{Live}
use Rattle.qm_print.specs.Slots.{AreLive, slot_if, rank_slots, slots_below, full_slots}
use Rattle.qm_denot.proofs.LiveWires.{Distinct-push}

-- ---- slot by slot
-- the full ones of one slot more, whose content was read
pub rank_slots-next : (old full : List Live) (r q : ℕ) (slots : ℕ → Option Wire) (content : Option Wire) → full ≡ old ++ rank_slots r q slots → content ≡ slots q
    → full ++ slot_if r q content ≡ old ++ rank_slots r (q + 1) slots
rank_slots-next old full r q slots content before read =
    rw (read, add-one q) (ap (λ (ss : List Live). ss ++ slot_if r q (slots q)) before ∙ append_assoc old (rank_slots r q slots) (slot_if r q (slots q)))

-- ---- different wires
abbrev wire_in : Live → Wire
wire_in s = s.wire

Lacks-append : (vs ws : List Wire) (w : Wire) → Lacks vs w → Lacks ws w → Lacks (vs ++ ws) w
Lacks-append [] ws w a b = b
Lacks-append (v ∷ vs) ws w a b = (a.0, Lacks-append vs ws w a.1 b)

Lacks-from_all : (ss : List Live) (w : Wire) → All (λ s. s.wire ≢ w) ss → Lacks (map wire_in ss) w
Lacks-from_all [] w a = tt
Lacks-from_all (s ∷ ss) w a = (All-head (λ (t : Live). t.wire ≢ w) s ss a, Lacks-from_all ss w (All-tail (λ (t : Live). t.wire ≢ w) s ss a))

-- slots in which each wire stands once
module _ (slots : ℕ → ℕ → Option Wire) (once : (r q k p : ℕ) (w : Wire) → slots r q ≡ Some w → slots k p ≡ Some w → (r ≡ k) × (q ≡ p)) where
  -- the slot stands before slot q of rank r, and its wire is in it
  record IsFullBefore (r q : ℕ) (s : Live) : Type 0 where
    full : slots s.rank s.slot ≡ Some s.wire
    before : (s.rank < r) ⊎ ((s.rank ≡ r) × (s.slot < q))

  record AreFullBefore (r q : ℕ) (ss : List Live) : Type 0 where
    each : All (IsFullBefore r q) ss
    distinct : Distinct (map wire_in ss)

  later : (r q k p : ℕ) (ss : List Live) → ((s : Live) → IsFullBefore r q s → IsFullBefore k p s) → AreFullBefore r q ss → AreFullBefore k p ss
  later r q k p ss h a = record { each = λ i d lt. h _ (a.each i d lt); distinct = a.distinct }

  one_slot_later : (r q : ℕ) (s : Live) → IsFullBefore r q s → IsFullBefore r (suc q) s
  one_slot_later r q s f = record { full = f.full; before = elim f.before [ inl h ↦ inl h | inr h ↦ inr (h.0, omega (arith, h.1)) ] }

  one_rank_later : (r q : ℕ) (s : Live) → IsFullBefore r q s → IsFullBefore (suc r) 0 s
  one_rank_later r q s f = record { full = f.full; before = inl (elim f.before [ inl h ↦ omega (arith, h) | inr h ↦ omega (arith, h.0) ]) }

  apart : (r q : ℕ) (w : Wire) (s : Live) → slots r q ≡ Some w → IsFullBefore r q s → s.wire ≢ w
  apart r q w s here f same =
      let place = once s.rank s.slot r q w (f.full ∙ ap Some same) here in
      elim f.before [ inl h ↦ omega (arith, h, place.0) | inr h ↦ omega (arith, h.1, place.1) ]

  next_slot : (r q : ℕ) (ss : List Live) (content : Option Wire) → slots r q ≡ content → AreFullBefore r q ss → AreFullBefore r (suc q) (ss ++ slot_if r q content)
  next_slot r q ss None e a = rw append-nil (later r q r (suc q) ss (one_slot_later r q) a)
  next_slot r q ss (Some w) e a =
      let s : Live = record { rank = r; slot = q; wire = w } in
      let here : IsFullBefore r (suc q) s = record { full = e; before = inr (refl, omega arith) } in
      record {
        each = All-append (IsFullBefore r (suc q)) ss (s ∷ []) (later r q r (suc q) ss (one_slot_later r q) a).each (All-cons (IsFullBefore r (suc q)) s [] here (All-nil (IsFullBefore r (suc q))));
        distinct = rw (map-append wire_in ss (s ∷ [])) (Distinct-push (map wire_in ss) w a.distinct (Lacks-from_all ss w (λ i d lt. apart r q w _ e (a.each i d lt))));
      }

  next_slots : (r n : ℕ) (ss : List Live) → AreFullBefore r 0 ss → AreFullBefore r n (ss ++ rank_slots r n (slots r))
  next_slots r zero ss a = rw append-nil a
  next_slots r (suc n) ss a = rw (← append_assoc ss (rank_slots r n (slots r)) (slot_if r n (slots r n))) (next_slot r n _ (slots r n) refl (next_slots r n ss a))

  below : (p : Programs) (r : ℕ) → AreFullBefore r 0 (slots_below p r slots)
  below p zero = record { each = All-nil (IsFullBefore 0 0); distinct = tt }
  below p (suc r) = let n = (rank_of p r).qubits in later r n (suc r) 0 _ (one_rank_later r n) (next_slots r n (slots_below p r slots) (below p r))

-- ---- how many
slot_if-few : (r q : ℕ) (content : Option Wire) → length (slot_if r q content) ≤ 1
slot_if-few r q None = omega arith
slot_if-few r q (Some w) = omega arith

rank_slots-few : (r n : ℕ) (slots : ℕ → Option Wire) → length (rank_slots r n slots) ≤ n
rank_slots-few r zero slots = omega arith
rank_slots-few r (suc n) slots =
    omega (arith, rank_slots-few r n slots, slot_if-few r n (slots n), length-append (rank_slots r n slots) (slot_if r n (slots n)))

slots_below-few : (p : Programs) (n : ℕ) (slots : ℕ → ℕ → Option Wire) → n ≤ length p.ranks → length (slots_below p n slots) ≤ sum_by (λ x. x.qubits + x.buffer) (take n p.ranks)
slots_below-few p zero slots h = omega arith
slots_below-few p (suc n) slots h =
    let size : RankProgram → ℕ = λ x. x.qubits + x.buffer in
    let more : sum_by size (take (suc n) p.ranks) ≡ sum_by size (take n p.ranks) + size (rank_of p n) =
    rw (add-one n) at (sum_by_more size p.ranks n idle_rank (omega (arith, h))) in
    omega (
      arith,
      slots_below-few p n slots (omega (arith, h)),
      rank_slots-few n (rank_of p n).qubits (slots n),
      length-append (slots_below p n slots) (rank_slots n (rank_of p n).qubits (slots n)),
      more,
    )

full_slots-few : (p : Programs) (slots : ℕ → ℕ → Option Wire) → IsReady p → length (full_slots p slots) ≤ 22
full_slots-few p slots ready =
    let size : RankProgram → ℕ = λ x. x.qubits + x.buffer in
    let few : capacity_of p ≤ 22 = ready_capacity p ready in
    let below = slots_below-few p (length p.ranks) slots (omega arith) in
    let all = ap (λ (xs : List RankProgram). sum_by size xs) (take_all (length p.ranks) p.ranks (omega arith)) in
    omega (arith, below, all, few)

-- ---- slots in which each wire stands once, and is live
module _ (p : Programs) (live : List Wire) (slots : ℕ → ℕ → Option Wire) where
  pub full_slots_are_live : IsReady p → ((r q k j : ℕ) (w : Wire) → slots r q ≡ Some w → slots k j ≡ Some w → (r ≡ k) × (q ≡ j))
      → ((r q : ℕ) (w : Wire) → slots r q ≡ Some w → Contains live w) → AreLive live (full_slots p slots)
  full_slots_are_live ready once here =
      let all = below slots once p (length p.ranks) in
      let ss = full_slots p slots in
      record {
        live_all = All-map (Contains live) wire_in ss (λ i d lt. here _ _ _ (all.each i d lt).full);
        distinct = all.distinct;
        few = full_slots-few p slots ready;
      }

-- the full slots of a machine hold different live wires
pub machine_slots_are_live : {A : Type 0} (store : A → Store) (m : MachineView A) → Keeps store m
    → AreLive (store m.amps).live (full_slots m.programs (state_of m).tables.slots)
machine_slots_are_live store m kept = full_slots_are_live m.programs (store m.amps).live (state_of m).tables.slots kept.ready once (λ r q w e. (kept.placed w).1 (InSlot r q, e))
  where
    once : (r q k j : ℕ) (w : Wire) → (state_of m).tables.slots r q ≡ Some w → (state_of m).tables.slots k j ≡ Some w → (r ≡ k) × (q ≡ j)
    once r q k j w a b = let e = kept.tidy.one_place w (InSlot r q) (InSlot k j) a b in (cc, cc)

-- and so do those of a store that holds the one circuit
pub circuit_slots_are_live : (p : Programs) (m : OneView) (s : Store) → IsReady p → HoldsCircuit m s → AreLive s.live (full_slots p (slot_of m))
circuit_slots_are_live p m s ready holds =
    full_slots_are_live p s.live (slot_of m) ready (λ r q k j w a b. let one = holds.once r q k j w a b in (one.rank, one.slot)) holds.live
