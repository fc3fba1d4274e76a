-- Letters with keys that stand after a circuit: the letters of one key may come first, and be replaced there
use Rattle.std.proofs.Common.{◌≡◌, ◌≢◌, ℕ, ◌+◌, Bool, true, false, cond, Option, List, [], ◌∷◌, ◌++◌, refl, sym, ap, ap₂, subst, ◌∙◌, append_assoc, append-nil, add-zero, arith}
use Rattle.qm_denot.specs.declared.Wire.{Wire}
use Rattle.qm_denot.specs.declared.Letter.{Letter}
use Rattle.qm_denot.specs.Weights.{operands}
use Rattle.qm_denot.specs.Circuits.{Amplitudes, Circuit, with_letter, with_letters, amp, halves_of, halvings, IsEqualUpTo}
use Rattle.qm_denot.specs.Tags.{Tagged, letters_of, letters_with, tagged, without_key}
use Rattle.qm_denot.proofs.Agreement.{LettersApart}
use Rattle.qm_denot.proofs.Amplitudes.{with_letters-append, halvings-append}
use Rattle.qm_denot.proofs.Commuting.{with_letters_swap-one}
use Rattle.qm_denot.proofs.EqualUpTo.{equal_append, equal_trans, equal_after_same}
use Rattle.qm_denot.proofs.Shuffles.{BelongTo, IsParted, apart_foreign, different_keys, either_way}

-- the letters of a list and of one after it
pub letters_of-append : {K : Type 0} (ds es : Tagged K) → letters_of (ds ++ es) ≡ letters_of ds ++ letters_of es
letters_of-append [] es = refl
letters_of-append (d ∷ ds) es = ap (λ ls. d.1 ∷ ls) (letters_of-append ds es)

-- the letters that were given a key
pub letters_of-tagged : {K : Type 0} (k : K) (ls : List Letter) → letters_of (tagged k ls) ≡ ls
letters_of-tagged k [] = refl
letters_of-tagged k (l ∷ ls) = ap (λ ms. l ∷ ms) (letters_of-tagged k ls)

module _ {K : Type 0} (same : K → K → Bool) where
  -- the letters of one key, of a list and of one after it
  pub letters_with-append : (k : K) (ds es : Tagged K) → letters_with same k (ds ++ es) ≡ letters_with same k ds ++ letters_with same k es
  letters_with-append k [] es = refl
  letters_with-append k (d ∷ ds) es =
      let all = letters_with same k (ds ++ es) in
      let mine = letters_with same k ds in
      let later = letters_with-append k ds es in
      elim (same k d.0) as (λ b. cond b (d.1 ∷ all) all ≡ cond b (d.1 ∷ mine) mine ++ letters_with same k es) [
        | true ↦ ap (λ ls. d.1 ∷ ls) later
        | false ↦ later
      ]

  -- the letters of other keys, of a list and of one after it
  pub without_key-append : (k : K) (ds es : Tagged K) → without_key same k (ds ++ es) ≡ without_key same k ds ++ without_key same k es
  without_key-append k [] es = refl
  without_key-append k (d ∷ ds) es =
      let all = without_key same k (ds ++ es) in
      let others = without_key same k ds in
      let later = without_key-append k ds es in
      elim (same k d.0) as (λ b. cond b all (d ∷ all) ≡ cond b others (d ∷ others) ++ without_key same k es) [
        | true ↦ later
        | false ↦ ap (λ ts. d ∷ ts) later
      ]

gone : (b : Bool) (l : Letter) (ls : List Letter) → cond b [] ls ≡ cond b [] (cond b (l ∷ ls) ls)
gone true l ls = refl
gone false l ls = refl

left_behind : (b a : Bool) → (b ≡ true → a ≡ false) → (l : Letter) (ls : List Letter)
    → cond a (l ∷ cond b [] ls) (cond b [] ls) ≡ cond b [] (cond a (l ∷ ls) ls)
left_behind true true h l ls = let e = h refl in absurd (let n : ⊥ = cc in n)
left_behind true false h l ls = refl
left_behind false a h l ls = refl

-- each letter's operands belong to k
abbrev pub AllBelongTo : {K : Type 0} → (Wire → Option K) → K → List Letter → Type 0
AllBelongTo owner k [] = Unit {0}
AllBelongTo owner k (l ∷ ls) = BelongTo owner k (operands l) × AllBelongTo owner k ls

module _ {K : Type 0} (same : K → K → Bool) (tells : (j k : K) → same j k ≡ true → j ≡ k) (itself : (k : K) → same k k ≡ true) where
  letters_with-tagged : (k : K) (ls : List Letter) → letters_with same k (tagged k ls) ≡ ls
  letters_with-tagged k [] = refl
  letters_with-tagged k (l ∷ ls) = let i = itself k in rw i (ap (λ ms. l ∷ ms) (letters_with-tagged k ls))

  without_key-tagged : (k : K) (ls : List Letter) → without_key same k (tagged k ls) ≡ []
  without_key-tagged k [] = refl
  without_key-tagged k (l ∷ ls) = let i = itself k in rw i (without_key-tagged k ls)

  -- the letters of each key that are left without those of k
  pub letters_with-without_key : (i k : K) (ts : Tagged K) → letters_with same i (without_key same k ts) ≡ cond (same i k) [] (letters_with same i ts)
  letters_with-without_key i k [] = either_way (same i k) []
  letters_with-without_key i k (t ∷ ts) = by_key (same k t.0) refl (letters_with-without_key i k ts)
    where
      by_key : (b : Bool) → same k t.0 ≡ b
          → letters_with same i (without_key same k ts) ≡ cond (same i k) [] (letters_with same i ts)
          → letters_with same i (cond b (without_key same k ts) (t ∷ without_key same k ts)) ≡ cond (same i k) [] (letters_with same i (t ∷ ts))
      by_key true e later =
          subst (λ m. letters_with same i (without_key same k ts) ≡ cond (same i k) [] (cond (same i m) (t.1 ∷ letters_with same i ts) (letters_with same i ts)))
          (tells k t.0 e) (later ∙ gone (same i k) t.1 (letters_with same i ts))
      by_key false e later =
          rw later (left_behind (same i k) (same i t.0) (λ f. subst (λ m. same m t.0 ≡ false) (sym (tells i k f)) e) t.1 (letters_with same i ts))

  -- letters are parted where those of each key have operands of that key
  pub IsParted-from_keys : (owner : Wire → Option K) (ts : Tagged K) → ((k : K) → AllBelongTo owner k (letters_with same k ts)) → IsParted owner ts
  IsParted-from_keys owner [] each = tt
  IsParted-from_keys owner (t ∷ ts) each = (
    (let i = itself t.0 in rw i at (each t.0)).0,
    IsParted-from_keys owner ts (λ k. of_rest (same k t.0) k (letters_with same k ts) (each k)),
  )
    where
      of_rest : (b : Bool) (k : K) (ls : List Letter) → AllBelongTo owner k (cond b (t.1 ∷ ls) ls) → AllBelongTo owner k ls
      of_rest true k ls all = all.1
      of_rest false k ls all = all

  module _ (owner : Wire → Option K) (k : K) where
    -- the letters of k have no operand of another key
    apart_with : (j : K) → k ≢ j → (vs : List Wire) → BelongTo owner j vs → (ts : Tagged K) → IsParted owner ts → LettersApart (letters_with same k ts) vs
    apart_with j ne vs own [] parted = tt
    apart_with j ne vs own (t ∷ ts) parted =
        elim (same k t.0) as (λ b. same k t.0 ≡ b → LettersApart (cond b (t.1 ∷ letters_with same k ts) (letters_with same k ts)) vs) [
          | true ↦ λ e. (apart_foreign owner t.0 j (λ s. ne (tells k t.0 e ∙ s)) (operands t.1) vs parted.0 own, apart_with j ne vs own ts parted.1)
          | false ↦ λ e. apart_with j ne vs own ts parted.1
        ] refl

    -- the letters of one key may come before all others
    pub key_first : (ts : Tagged K) → IsParted owner ts → (f : Amplitudes)
        → with_letters (letters_of ts) f ≡ with_letters (letters_with same k ts ++ letters_of (without_key same k ts)) f
    key_first [] parted f = refl
    key_first (t ∷ ts) parted f = by_key (same k t.0) refl (key_first ts parted.1 (with_letter t.1 f))
      where
        by_key : (b : Bool) → same k t.0 ≡ b
            → with_letters (letters_of ts) (with_letter t.1 f) ≡ with_letters (letters_with same k ts ++ letters_of (without_key same k ts)) (with_letter t.1 f)
            → with_letters (letters_of ts) (with_letter t.1 f)
            ≡ with_letters (cond b (t.1 ∷ letters_with same k ts) (letters_with same k ts) ++ letters_of (cond b (without_key same k ts) (t ∷ without_key same k ts))) f
        by_key true e later = later
        by_key false e later =
            let mine = letters_with same k ts in
            let others = letters_of (without_key same k ts) in
            let apart = apart_with t.0 (different_keys same tells itself k t.0 e) (operands t.1) parted.0 ts parted.1 in
            later ∙ with_letters-append mine others (with_letter t.1 f)
            ∙ ap (with_letters others) (sym (with_letters_swap-one t.1 mine apart f))
            ∙ sym (with_letters-append mine (t.1 ∷ others) f)

    -- and have as many halvings there
    pub halvings-key_first : (ts : Tagged K) → halvings (letters_of ts) ≡ halvings (letters_with same k ts ++ letters_of (without_key same k ts))
    halvings-key_first [] = refl
    halvings-key_first (t ∷ ts) =
        let mine = letters_with same k ts in
        let left = without_key same k ts in
        let later = halvings-key_first ts in
        elim (same k t.0) as (λ b. halves_of t.1 + halvings (letters_of ts) ≡ halvings (cond b (t.1 ∷ mine) mine ++ letters_of (cond b left (t ∷ left)))) [
          | true ↦ omega arith
          | false ↦ omega (arith, halvings-append mine (t.1 ∷ letters_of left), halvings-append mine (letters_of left))
        ]

    -- letters ls with the key k are added after G, which is I and the letters of ds up to r. Where a law makes ms and the letters of es
    -- of those that k has then, G and ls are I and ms and the letters of es and of the other keys
    pub equal_rewritten : (ds es : Tagged K) (ls ms : List Letter) → IsParted owner (ds ++ tagged k ls) → (r j : ℕ) (g i : Circuit)
        → IsEqualUpTo r g (i ++ letters_of ds)
        → IsEqualUpTo j (i ++ (letters_with same k ds ++ ls)) (i ++ (ms ++ letters_of es))
        → IsEqualUpTo (r + j) (g ++ ls) ((i ++ ms) ++ letters_of (es ++ without_key same k ds))
    equal_rewritten ds es ls ms parted r j g i equal law =
        let all = ds ++ tagged k ls in
        let mine = letters_with same k ds in
        let others = without_key same k ds in
        let added : (i ++ letters_of ds) ++ ls ≡ i ++ letters_of all =
        append_assoc i (letters_of ds) ls
        ∙ ap (λ ks. i ++ ks) (sym (letters_of-append ds (tagged k ls) ∙ ap (λ ks. letters_of ds ++ ks) (letters_of-tagged k ls))) in
        let own : letters_with same k all ≡ mine ++ ls =
        letters_with-append same k ds (tagged k ls) ∙ ap (λ ks. mine ++ ks) (letters_with-tagged k ls) in
        let rest : without_key same k all ≡ others =
        without_key-append same k ds (tagged k ls) ∙ ap (λ ts. others ++ ts) (without_key-tagged k ls) ∙ append-nil others in
        let first : IsEqualUpTo r (g ++ ls) (i ++ letters_of all) = rw added at (equal_append r g (i ++ letters_of ds) ls equal) in
        let sorted : IsEqualUpTo 0 (i ++ letters_of all) (i ++ (letters_with same k all ++ letters_of (without_key same k all))) =
        equal_after_same i (letters_of all) _ 0 (halvings-key_first all ∙ sym (add-zero _)) (λ x. ap (λ (f : Amplitudes). f x) (key_first all parted (amp i))) in
        let moved : i ++ (letters_with same k all ++ letters_of (without_key same k all)) ≡ (i ++ (mine ++ ls)) ++ letters_of others =
        ap₂ (λ a b. i ++ (a ++ letters_of b)) own rest ∙ sym (append_assoc i (mine ++ ls) (letters_of others)) in
        let last : (i ++ (ms ++ letters_of es)) ++ letters_of others ≡ (i ++ ms) ++ letters_of (es ++ others) =
        ap (λ ks. ks ++ letters_of others) (sym (append_assoc i ms (letters_of es))) ∙ append_assoc (i ++ ms) (letters_of es) (letters_of others)
        ∙ ap (λ ks. (i ++ ms) ++ ks) (sym (letters_of-append es others)) in
        let second : IsEqualUpTo 0 (i ++ letters_of all) ((i ++ (mine ++ ls)) ++ letters_of others) = rw moved at sorted in
        let third : IsEqualUpTo j ((i ++ (mine ++ ls)) ++ letters_of others) ((i ++ ms) ++ letters_of (es ++ others)) =
        rw last at (equal_append j _ _ (letters_of others) law) in
        let sum : (r + 0) + j ≡ r + j = omega arith in
        rw sum at (equal_trans (r + 0) j _ _ _ (equal_trans r 0 _ _ _ first second) third)
