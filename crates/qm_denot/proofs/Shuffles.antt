-- Letters with keys: where each wire belongs to at most one key, two orders of the letters that keep the order within each key
-- make the same amplitudes
use Rattle.std.proofs.Common.{◌≡◌, ◌≢◌, ◌+◌, Bool, true, false, cond, Option, Some, List, [], ◌∷◌, refl, sym, ap, subst, ◌∙◌, arith}
use mathlib.Core.Path.{fun_ext}
use Rattle.qm_denot.specs.declared.Wire.{Wire}
use Rattle.qm_denot.specs.declared.Letter.{Letter}
use Rattle.qm_denot.specs.WireLists.{Lacks}
use Rattle.qm_denot.specs.Weights.{operands}
use Rattle.qm_denot.specs.Circuits.{Amplitudes, with_letter, with_letters, halves_of, halvings}
use Rattle.qm_denot.specs.Tags.{Tagged, letters_of, letters_with}
use Rattle.qm_denot.proofs.Agreement.{Apart}
use Rattle.qm_denot.proofs.Commuting.{with_letter_swap}

-- each wire of the list belongs to k
abbrev pub BelongTo : {K : Type 0} → (Wire → Option K) → K → List Wire → Type 0
BelongTo owner k [] = Unit {0}
BelongTo owner k (w ∷ ws) = (owner w ≡ Some k) × BelongTo owner k ws

-- each letter's operands belong to its key
abbrev pub IsParted : {K : Type 0} → (Wire → Option K) → Tagged K → Type 0
IsParted owner [] = Unit {0}
IsParted owner (t ∷ ts) = BelongTo owner t.0 (operands t.1) × IsParted owner ts

abbrev rest : List Letter → List Letter
rest [] = []
rest (l ∷ ls) = ls

-- the list without its first letter with the key k
abbrev without_first : {K : Type 0} → (K → K → Bool) → K → Tagged K → Tagged K
without_first same k [] = []
without_first same k (t ∷ ts) = cond (same k t.0) ts (t ∷ without_first same k ts)

module _ {K : Type 0} (owner : Wire → Option K) (j k : K) (ne : j ≢ k) where
  lacks_foreign : (w : Wire) (vs : List Wire) → owner w ≡ Some j → BelongTo owner k vs → Lacks vs w
  lacks_foreign w [] e b = tt
  lacks_foreign w (v ∷ vs) e b = ((λ s. ne (let f : owner v ≡ Some j = ap owner s ∙ e in let g = b.0 in cc)), lacks_foreign w vs e b.1)

  -- wires of different keys are different
  pub apart_foreign : (ws vs : List Wire) → BelongTo owner j ws → BelongTo owner k vs → Apart ws vs
  apart_foreign [] vs a b = tt
  apart_foreign (w ∷ ws) vs a b = (lacks_foreign w vs a.0 b, apart_foreign ws vs a.1 b)

-- what is left of the letters with the key i, where one with the key k may have gone
rest_where : (b : Bool) (l : Letter) (ls : List Letter) → ls ≡ cond b (rest (cond b (l ∷ ls) ls)) (cond b (l ∷ ls) ls)
rest_where true l ls = refl
rest_where false l ls = refl

-- both ways are the same
pub either_way : (b : Bool) (ls : List Letter) → ls ≡ cond b ls ls
either_way true ls = refl
either_way false ls = refl

-- the same behind a letter with another key
rest_behind : (b a : Bool) → (b ≡ true → a ≡ false) → (l : Letter) (ls : List Letter)
    → cond a (l ∷ cond b (rest ls) ls) (cond b (rest ls) ls) ≡ cond b (rest (cond a (l ∷ ls) ls)) (cond a (l ∷ ls) ls)
rest_behind true true h l ls = let e = h refl in absurd (let n : ⊥ = cc in n)
rest_behind true false h l ls = refl
rest_behind false a h l ls = refl

module _ {K : Type 0} (same : K → K → Bool) (tells : (j k : K) → same j k ≡ true → j ≡ k) (itself : (k : K) → same k k ≡ true) where
  -- keys that the test tells apart are different
  pub different_keys : (j k : K) → same j k ≡ false → j ≢ k
  different_keys j k e s = let i : same j k ≡ true = subst (λ m. same j m ≡ true) s (itself j) in let n : ⊥ = cc in n

  with-without_first : (i k : K) (ts : Tagged K)
      → letters_with same i (without_first same k ts) ≡ cond (same i k) (rest (letters_with same i ts)) (letters_with same i ts)
  with-without_first i k [] = either_way (same i k) []
  with-without_first i k (t ∷ ts) = by_key (same k t.0) refl (with-without_first i k ts)
    where
      by_key : (b : Bool) → same k t.0 ≡ b
          → letters_with same i (without_first same k ts) ≡ cond (same i k) (rest (letters_with same i ts)) (letters_with same i ts)
          → letters_with same i (cond b ts (t ∷ without_first same k ts)) ≡ cond (same i k) (rest (letters_with same i (t ∷ ts))) (letters_with same i (t ∷ ts))
      by_key true e below =
          subst (λ m. letters_with same i ts ≡ cond (same i m) (rest (letters_with same i (t ∷ ts))) (letters_with same i (t ∷ ts))) (sym (tells k t.0 e))
          (rest_where (same i t.0) t.1 (letters_with same i ts))
      by_key false e below =
          rw below (rest_behind (same i k) (same i t.0) (λ f. subst (λ m. same m t.0 ≡ false) (sym (tells i k f)) e) t.1 (letters_with same i ts))

  module _ (owner : Wire → Option K) where
    IsParted-without_first : (k : K) (ts : Tagged K) → IsParted owner ts → IsParted owner (without_first same k ts)
    IsParted-without_first k [] p = tt
    IsParted-without_first k (t ∷ ts) p =
        elim (same k t.0) as (λ b. IsParted owner (cond b ts (t ∷ without_first same k ts))) [ true ↦ p.1 | false ↦ (p.0, IsParted-without_first k ts p.1) ]

    -- the first letter with the key k may come before the others
    first_to_front : (k : K) (l : Letter) (ls : List Letter) → BelongTo owner k (operands l) → (ts : Tagged K) → IsParted owner ts
        → letters_with same k ts ≡ l ∷ ls → (f : Amplitudes)
        → with_letters (letters_of ts) f ≡ with_letters (letters_of (without_first same k ts)) (with_letter l f)
    first_to_front k l ls own [] parted has f = absurd (let n : ⊥ = cc in n)
    first_to_front k l ls own (t ∷ ts) parted has f = by_key (same k t.0) refl (λ has. first_to_front k l ls own ts parted.1 has (with_letter t.1 f)) has
      where
        by_key : (b : Bool) → same k t.0 ≡ b
            → (letters_with same k ts ≡ l ∷ ls
            → with_letters (letters_of ts) (with_letter t.1 f) ≡ with_letters (letters_of (without_first same k ts)) (with_letter l (with_letter t.1 f)))
            → cond b (t.1 ∷ letters_with same k ts) (letters_with same k ts) ≡ l ∷ ls
            → with_letters (letters_of ts) (with_letter t.1 f) ≡ with_letters (letters_of (cond b ts (t ∷ without_first same k ts))) (with_letter l f)
        by_key true e later has = let s : t.1 ≡ l = cc in ap (λ m. with_letters (letters_of ts) (with_letter m f)) s
        by_key false e later has =
            let ne : t.0 ≢ k = λ s. different_keys k t.0 e (sym s) in
            let apart = apart_foreign owner t.0 k ne (operands t.1) (operands l) parted.0 own in
            later has ∙ ap (with_letters (letters_of (without_first same k ts))) (fun_ext (with_letter_swap t.1 l apart f))

    halvings-first : (k : K) (l : Letter) (ls : List Letter) (ts : Tagged K) → letters_with same k ts ≡ l ∷ ls
        → halvings (letters_of ts) ≡ halves_of l + halvings (letters_of (without_first same k ts))
    halvings-first k l ls [] has = absurd (let n : ⊥ = cc in n)
    halvings-first k l ls (t ∷ ts) has = by_key (same k t.0) (halvings-first k l ls ts) has
      where
        by_key : (b : Bool)
            → (letters_with same k ts ≡ l ∷ ls → halvings (letters_of ts) ≡ halves_of l + halvings (letters_of (without_first same k ts)))
            → cond b (t.1 ∷ letters_with same k ts) (letters_with same k ts) ≡ l ∷ ls
            → halves_of t.1 + halvings (letters_of ts) ≡ halves_of l + halvings (letters_of (cond b ts (t ∷ without_first same k ts)))
        by_key true later has = let s : t.1 ≡ l = cc in ap (λ m. halves_of m + halvings (letters_of ts)) s
        by_key false later has = let e = later has in omega arith

    -- what two orders of letters have in common where each key has the same letters in the same order
    pub shuffle : (ds es : Tagged K) → IsParted owner ds → IsParted owner es → ((k : K) → letters_with same k ds ≡ letters_with same k es)
        → ((f : Amplitudes) → with_letters (letters_of ds) f ≡ with_letters (letters_of es) f) × (halvings (letters_of ds) ≡ halvings (letters_of es))
    shuffle [] [] p q each = ((λ f. refl), refl)
    shuffle [] (t ∷ ts) p q each = let i = itself t.0 in let e = rw i at (each t.0) in absurd (let n : ⊥ = cc in n)
    shuffle (d ∷ ds) es p q each =
        let i = itself d.0 in
        let has : letters_with same d.0 es ≡ d.1 ∷ letters_with same d.0 ds = sym (each d.0) ∙ rw i refl in
        let left : (k : K) → letters_with same k ds ≡ letters_with same k (without_first same d.0 es) =
        λ k. rest_where (same k d.0) d.1 (letters_with same k ds) ∙ ap (λ ls. cond (same k d.0) (rest ls) ls) (each k) ∙ sym (with-without_first k d.0 es) in
        let later = shuffle ds (without_first same d.0 es) p.1 (IsParted-without_first d.0 es q) left in (
          (λ f. later.0 (with_letter d.1 f) ∙ sym (first_to_front d.0 d.1 (letters_with same d.0 ds) p.0 es q has f)),
          ap (λ n. halves_of d.1 + n) later.1 ∙ sym (halvings-first d.0 d.1 (letters_with same d.0 ds) es has),
        )
