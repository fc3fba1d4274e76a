-- What the tallies of all passes say, in the order of their numbers
use Rattle.std.proofs.Common.{◌≡◌, ℕ, zero, suc, ◌+◌, ◌-◌, ◌<◌, ◌≤◌, ◌==◌, List, [], ◌∷◌, ◌++◌, map, length, sym, refl, ap, ◌∙◌, subst, arith, length-append}
use Rattle.std.proofs.lemmas.List.{length-map}
use Rattle.std.specs.Prelude.{Option, Some, slice_get}
use Rattle.qm_lock.specs.declared.views.Tally.{Tally}
use Rattle.qm_lock.specs.declared.views.View.{View}
use Rattle.qm_lock.specs.declared.views.Stage.TheVariants.{Idle}
use Rattle.qm_lock.specs.declared.desk.Pass.{Pass}
use Rattle.qm_lock.specs.Lists.{times, when, StartsWith}
use Rattle.qm_lock.specs.Views.{view, fresh, counted, AllSeen}
use Rattle.qm_lock.specs.Rule.{Ended}
use Rattle.qm_lock.specs.Passes.{pass_tally, pass_number, pass_count, pass_seen}
use Rattle.qm_lock.proofs.Totals.{none_if, all_if}
use Rattle.qm_lock.proofs.Journal.{counted-append}
use Rattle.qm_lock.proofs.Making.{none_fresh, fresh_length}

seen_past : (journal : List ℕ) (ts us : List Tally) → AllSeen journal (ts ++ us) → AllSeen journal us
seen_past journal [] us h = h
seen_past journal (t ∷ ts) us h = seen_past journal ts us h.1

-- the tallies that are left when n passes were made
pub left_tallies : {V : Type 0} (vs : List (View V)) (v : View V) (o : Option V) (n : ℕ) → vs ≡ v ∷ [] → vs ≡ view o (fresh n (16 - n)) Idle ∷ [] → v.tallies ≡ fresh n (16 - n)
left_tallies vs v o n e f = ap tallies (sym e ∙ f)
  where
    tallies : {V : Type 0} → List (View V) → List Tally
    tallies [] = []
    tallies (u ∷ us) = u.tallies

module _ {V : Type 0} where
  seen_at : (journal : List ℕ) (ps : List (Pass V)) (k : ℕ) (p : Pass V) → AllSeen journal (map pass_tally ps) → slice_get ps k ≡ Some p → StartsWith journal (pass_seen p)
  seen_at journal [] k p h e = absurd (cc)
  seen_at journal (q ∷ ps) zero p h e = let i : q ≡ p = cc in subst (λ (z : Pass V). StartsWith journal (pass_seen z)) i h.0
  seen_at journal (q ∷ ps) (suc k) p h e = seen_at journal ps k p h.1 e

  -- these passes have the numbers from n on
  abbrev pub InOrder : ℕ → List (Pass V) → Type 0
  InOrder n ps = (k : ℕ) (p : Pass V) → slice_get ps k ≡ Some p → pass_number p ≡ n + k

  later : (n : ℕ) (q : Pass V) (ps : List (Pass V)) → InOrder n (q ∷ ps) → InOrder (n + 1) ps
  later n q ps h k p e = let a = h (suc k) p e in omega arith

  none_before : (r n : ℕ) (ps : List (Pass V)) → InOrder n ps → r < n → counted r (map pass_tally ps) ≡ 0
  none_before r n [] h l = refl
  none_before r n (q ∷ ps) h l = let a = h 0 q refl in let b : when (pass_number q == r) (pass_count q) ≡ 0 = none_if (pass_number q) r (pass_count q) (λ e. omega arith) in
      let z = none_before r (n + 1) ps (later n q ps h) (omega arith) in omega arith

  none_after : (r n : ℕ) (ps : List (Pass V)) → InOrder n ps → n + length ps ≤ r → counted r (map pass_tally ps) ≡ 0
  none_after r n [] h l = refl
  none_after r n (q ∷ ps) h l = let a = h 0 q refl in let b : when (pass_number q == r) (pass_count q) ≡ 0 = none_if (pass_number q) r (pass_count q) (λ e. omega arith) in
      let z = none_after r (n + 1) ps (later n q ps h) (omega arith) in omega arith

  count_at : (r n : ℕ) (ps : List (Pass V)) (k : ℕ) (p : Pass V) → InOrder n ps → slice_get ps k ≡ Some p → r ≡ n + k → counted r (map pass_tally ps) ≡ pass_count p
  count_at r n [] k p h e i = absurd (cc)
  count_at r n (q ∷ ps) zero p h e i = let a = h 0 q refl in let s : q ≡ p = cc in let c = ap (λ (z : Pass V). pass_count z) s in
      let b : when (pass_number q == r) (pass_count q) ≡ pass_count q = all_if (pass_number q) r (pass_count q) (omega arith) in
      let z = none_before r (n + 1) ps (later n q ps h) (omega arith) in omega arith
  count_at r n (q ∷ ps) (suc k) p h e i = let a = h 0 q refl in let b : when (pass_number q == r) (pass_count q) ≡ 0 = none_if (pass_number q) r (pass_count q) (λ e. omega arith) in
      let z = count_at r (n + 1) ps k p (later n q ps h) e (omega arith) in omega arith

  -- the tallies at the end
  module _ {O : Type 0} (op : V → O) (tn : V → List ℕ) (o : V) (n : ℕ) (ps : List (Pass V)) (ts : List Tally) (x : V) (is : ts ≡ fresh n (16 - n) ++ map pass_tally ps) (end : Ended op tn o ts x) where
    pub end_seen : (k : ℕ) (p : Pass V) → slice_get ps k ≡ Some p → StartsWith (tn x) (pass_seen p)
    end_seen k p e = seen_at (tn x) ps k p (seen_past (tn x) (fresh n (16 - n)) (map pass_tally ps) (subst (AllSeen (tn x)) is end.all_seen)) e

    whole : (r : ℕ) → times r (tn x) ≡ counted r (map pass_tally ps)
    whole r = let a = end.counts r in let b = ap (counted r) is in let c = counted-append r (fresh n (16 - n)) (map pass_tally ps) in let d = none_fresh r n (16 - n) in omega arith

    pub end_count : InOrder 0 ps → (k : ℕ) (p : Pass V) → slice_get ps k ≡ Some p → times k (tn x) ≡ pass_count p
    end_count h k p e = whole k ∙ count_at k 0 ps k p h e (omega arith)

    pub end_others : InOrder 0 ps → (k : ℕ) → length ps ≤ k → times k (tn x) ≡ 0
    end_others h k l = whole k ∙ none_after k 0 ps h (omega arith)

  pub all_parts : (n : ℕ) (ps : List (Pass V)) → n ≤ 16 → length ps ≡ n → length (fresh n (16 - n) ++ map pass_tally ps) ≡ 16
  all_parts n ps h e = let a = length-append (fresh n (16 - n)) (map pass_tally ps) in let b = fresh_length n (16 - n) in let c = length-map ps pass_tally in omega arith

  pub in_order : (ps : List (Pass V)) → ((k : ℕ) (p : Pass V) → slice_get ps k ≡ Some p → pass_number p ≡ k) → InOrder 0 ps
  in_order ps h k p e = let a = h k p e in omega arith
