-- The wires in slots at the end: there are sixteen slots a rank at most, and each wire in one is in the list of them
use Rattle.std.proofs.Common.{◌≡◌, ℕ, zero, suc, ◌<◌, ◌⊎◌, inl, inr, Bool, true, false, ◌&&◌, ◌==◌, cond, List, [], ◌∷◌, ◌++◌, length, take, Option, Some, None, option_to_list, slice_get, refl, sym, ap, subst, ◌∙◌, arith, add-one}
use Rattle.std.proofs.lemmas.Bool.{eqb-true}
use Rattle.qm_denot.specs.declared.Wire.{Wire}
use Rattle.qm_denot.specs.WireLists.{lacks}
use Rattle.qm_denot.proofs.OperandFacts.{Each}
use Rattle.qm_instr.specs.declared.Instr.{Instr}
use Rattle.qm_instr.specs.Programs.{Programs, IsInRange, rank_of}
use Rattle.qm_check.specs.declared.Uses.{Uses}
use Rattle.qm_check.specs.declared.Uses.TheVariants.{Nothing, Fills, Keeps, Empties, Joins}
use Rattle.qm_check.specs.Operands.{uses_of}
use Rattle.qm_check.specs.Slots.{HasFewSlots, is_full_after, full_after}
use Rattle.qm_check.proofs.SlotLemmas.{instruction_slots-few, full_after_more}
use Rattle.qm_ideal.specs.OneCircuits.{wires_below, wires_in}
use Rattle.qm_eval.proofs.ListLemmas.{and_false, lacks-append}
use Rattle.qm_proto.proofs.Meetings.{same_or_below}
use Rattle.qm_denot.proofs.NameLists.{lacks-first}

-- ---- sixteen slots
few_fills : (s q : ℕ) (before : Bool) → s < 16 → cond (s == q) true before ≡ true → (before ≡ true) ⊎ (q < 16)
few_fills s q before few e = by_test (s == q) refl e
  where
    by_test : (b : Bool) → (s == q) ≡ b → cond b true before ≡ true → (before ≡ true) ⊎ (q < 16)
    by_test true same e = inr (subst (λ k. k < 16) (eqb-true s q same) few)
    by_test false same e = inl e

few_empties : (b before : Bool) → cond b false before ≡ true → before ≡ true
few_empties true before e = cc
few_empties false before e = e

few_full : (q : ℕ) (u : Uses) (before : Bool) → HasFewSlots u → is_full_after q before u ≡ true → (before ≡ true) ⊎ (q < 16)
few_full q (Fills s) before few e = few_fills s q before few e
few_full q (Empties s) before few e = inl (few_empties (s == q) before e)
few_full q Nothing before few e = inl e
few_full q (Keeps s) before few e = inl e
few_full q (Joins c t) before few e = inl e

none_first : (is : List Instr) (q : ℕ) → full_after (take 0 is) q ≡ false
none_first [] q = refl
none_first (i ∷ is) q = refl

past_end : (is : List Instr) (k : ℕ) → slice_get is k ≡ None → take (suc k) is ≡ take k is
past_end [] zero e = refl
past_end [] (suc k) e = refl
past_end (i ∷ is) zero e = cc
past_end (i ∷ is) (suc k) e = ap (λ js. i ∷ js) (past_end is k e)

-- a slot that is full after instructions of programs in range is below 16
module _ (p : Programs) (ranges : IsInRange p) (r : ℕ) (known : r < length p.ranks) (q : ℕ) where
  abbrev is : List Instr
  is = (rank_of p r).instructions

  pub full_below : (k : ℕ) → full_after (take k is) q ≡ true → q < 16
  full_below zero e = absurd (let n = none_first is q in let z : ⊥ = cc in z)
  full_below (suc k) e = by_read (full_below k) (slice_get is k) refl e
    where
      by_read : (full_after (take k is) q ≡ true → q < 16) → (o : Option Instr) → slice_get is k ≡ o → full_after (take (suc k) is) q ≡ true → q < 16
      by_read rest None read e = rest (subst (λ js. full_after js q ≡ true) (past_end is k read) e)
      by_read rest (Some i) read e =
          let more : is_full_after q (full_after (take k is) q) (uses_of i) ≡ true =
          sym (full_after_more is k q i read) ∙ ap (λ n. full_after (take n is) q) (add-one k) ∙ e in
          elim (few_full q (uses_of i) (full_after (take k is) q) (instruction_slots-few p r k i known ranges read) more) [ inl h ↦ rest h | inr h ↦ h ]

-- ---- the list of the wires in slots
module _ (f : ℕ → ℕ → Option Wire) where
  module _ (P : Wire → Type 0) (each : (r q : ℕ) (w : Wire) → f r q ≡ Some w → P w) where
    each-append : (ws vs : List Wire) → Each P ws → Each P vs → Each P (ws ++ vs)
    each-append [] vs h k = k
    each-append (w ∷ ws) vs h k = (h.0, each-append ws vs h.1 k)

    of_slot : (o : Option Wire) → ((w : Wire) → o ≡ Some w → P w) → Each P (option_to_list o)
    of_slot None h = tt
    of_slot (Some w) h = (h w refl, tt)

    of_row : (r n : ℕ) → Each P (wires_below (f r) n)
    of_row r zero = tt
    of_row r (suc n) = each-append (wires_below (f r) n) (option_to_list (f r n)) (of_row r n) (of_slot (f r n) (each r n))

    pub each_in : (n : ℕ) → Each P (wires_in f n)
    each_in zero = tt
    each_in (suc n) = each-append (wires_in f n) (wires_below (f n) 16) (each_in n) (of_row n 16)

  has_left : (xs ys : List Wire) (w : Wire) → lacks xs w ≡ false → lacks (xs ++ ys) w ≡ false
  has_left xs ys w e = lacks-append xs ys w ∙ ap (λ b. b && lacks ys w) e

  has_right : (xs ys : List Wire) (w : Wire) → lacks ys w ≡ false → lacks (xs ++ ys) w ≡ false
  has_right xs ys w e = lacks-append xs ys w ∙ ap (λ b. lacks xs w && b) e ∙ and_false (lacks xs w)

  row_has : (r q n : ℕ) (w : Wire) → f r q ≡ Some w → q < n → lacks (wires_below (f r) n) w ≡ false
  row_has r q zero w e below = absurd (omega (arith, below))
  row_has r q (suc n) w e below = elim (same_or_below q n below) [
    | inl same ↦
        has_right (wires_below (f r) n) (option_to_list (f r n)) w
        (ap (λ o. lacks (option_to_list o) w) (ap (f r) (sym same) ∙ e) ∙ lacks-first [] w)
    | inr less ↦ has_left (wires_below (f r) n) (option_to_list (f r n)) w (row_has r q n w e less)
  ]

  pub slots_have : (r q n : ℕ) (w : Wire) → f r q ≡ Some w → r < n → q < 16 → lacks (wires_in f n) w ≡ false
  slots_have r q zero w e known few = absurd (omega (arith, known))
  slots_have r q (suc n) w e known few = elim (same_or_below r n known) [
    | inl same ↦
        has_right (wires_in f n) (wires_below (f n) 16) w (subst (λ k. lacks (wires_below (f k) 16) w ≡ false) same (row_has r q 16 w e few))
    | inr less ↦ has_left (wires_in f n) (wires_below (f n) 16) w (slots_have r q n w e less few)
  ]
