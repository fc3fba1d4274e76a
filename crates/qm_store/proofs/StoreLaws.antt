-- Places of different wires, lists of which some number leaves the range, and lists of the same numbers
use Rattle.std.proofs.Common.{◌≡◌, ◌≢◌, ℕ, zero, suc, ◌+◌, ◌*◌, ◌<◌, ◌^◌, ◌⊎◌, inl, inr, List, [], ◌∷◌, cond, Contains, sym, ap, subst, ◌∙◌, arith}
use mathlib.Core.Path.{fun_ext}
use Rattle.std.proofs.lemmas.Bool.{cases_lt}
use Rattle.std.proofs.lemmas.Nat.{pow-add}
use Rattle.std.specs.Prelude.{unsigned_abs}
use Rattle.qm_zomega.specs.declared.Zw.{Zw}
use Rattle.qm_zomega.specs.Numbers.{Number, zero_number}
use Rattle.qm_zomega.specs.NumberLists.{number_at}
use Rattle.qm_zomega.specs.Range.{FitsZw}
use Rattle.qm_denot.specs.declared.Wire.{Wire}
use Rattle.qm_denot.specs.Places.{IsFirstAt, is_within, index_of}
use Rattle.qm_denot.specs.Circuits.{Amplitudes, IsBlankIn}
use Rattle.qm_denot.specs.Stores.{Store}
use Rattle.qm_denot.specs.ListStores.{listed_value, listed_store}
use Rattle.qm_denot.specs.Sound.{Keeps, DivisibleOver}

-- ---- places
same_first : (ws : List Wire) (p : ℕ) (v w : Wire) → IsFirstAt ws p v → IsFirstAt ws p w → v ≡ w
same_first [] p v w a b = absurd a
same_first (u ∷ ws) zero v w a b = sym a ∙ b
same_first (u ∷ ws) (suc p) v w a b = same_first ws p v w a.1 b.1

pub places_differ : (ws : List Wire) (p q : ℕ) (v w : Wire) → IsFirstAt ws p v → IsFirstAt ws q w → v ≢ w → p ≢ q
places_differ ws p q v w a b ne e = ne (same_first ws q v w (subst (λ n. IsFirstAt ws n v) e a) b)

-- ---- four times as many numbers, the new ones zero
pub four_times : (n size : ℕ) → size ≡ 2 ^ n → 4 * size ≡ 2 ^ (n + 2)
four_times n size e = let p = pow-add 2 n 2 in omega arith

-- ---- whether all numbers of a list stay in the range
in_range_or_not : (x : ℕ) → (x < 2 ^ 127) ⊎ (x < 2 ^ 127 → ⊥)
in_range_or_not x = elim (cases_lt x (2 ^ 127)) [ inl lt ↦ inl lt | inr le ↦ inr (λ lt. omega arith) ]

fits_or_not : (z : Number) → FitsZw z ⊎ (FitsZw z → ⊥)
fits_or_not z = elim (in_range_or_not (unsigned_abs z.a)) [
  | inr out ↦ inr (λ f. out f.a_fits)
  | inl a ↦ elim (in_range_or_not (unsigned_abs z.b)) [
    | inr out ↦ inr (λ f. out f.b_fits)
    | inl b ↦ elim (in_range_or_not (unsigned_abs z.c)) [
      | inr out ↦ inr (λ f. out f.c_fits)
      | inl c ↦ elim (in_range_or_not (unsigned_abs z.d)) [
        | inr out ↦ inr (λ f. out f.d_fits)
        | inl d ↦ inl (record { a_fits = a; b_fits = b; c_fits = c; d_fits = d })
      ]
    ]
  ]
]

all_or_unfit : (n : ℕ) (g : ℕ → Number) → ((i : ℕ) → i < n → FitsZw (g i)) ⊎ ((i : ℕ) × (i < n) × (¬ (FitsZw (g i))))
all_or_unfit zero g = inl (λ i h. absurd (omega arith))
all_or_unfit (suc n) g = elim (all_or_unfit n g) [
  | inr some ↦ inr (some.0, (let h = some.1 in omega arith), some.2)
  | inl all ↦ elim (fits_or_not (g n)) [
    | inr out ↦ inr (n, omega arith, out)
    | inl here ↦ inl (λ i h. elim (cases_lt i n) [ inl lt ↦ all i lt | inr le ↦ let e : n ≡ i = omega arith in subst (λ k. FitsZw (g k)) e here ])
  ]
]

pub some_unfit : (n : ℕ) (g : ℕ → Number) → (((i : ℕ) → i < n → FitsZw (g i)) → ⊥) → (i : ℕ) × (i < n) × (¬ (FitsZw (g i)))
some_unfit n g never = elim (all_or_unfit n g) [ inr some ↦ some | inl all ↦ absurd (never all) ]

-- ---- lists of the same numbers
same_values : (live : List Wire) (zs ys : List Zw) → ((i : ℕ) → number_at ys i ≡ number_at zs i) → listed_value live ys ≡ listed_value live zs
same_values live zs ys same =
    let all : number_at ys ≡ number_at zs = fun_ext same in
    fun_ext (λ x. ap (λ (f : ℕ → Number). cond (is_within x live) (f (index_of live x)) zero_number) all)

pub keeps_same : (live : List Wire) (zs ys : List Zw) (k : ℕ) → ((i : ℕ) → number_at ys i ≡ number_at zs i) → Keeps live zs k → Keeps live ys k
keeps_same live zs ys k same kept =
    let e : listed_value live zs ≡ listed_value live ys = sym (same_values live zs ys same) in
    record {
      distinct = kept.distinct;
      blank = subst (λ (f : Amplitudes). (w : Wire) → ¬ (Contains live w) → IsBlankIn f w) e kept.blank;
      reduced = subst (λ (f : Amplitudes). k ≢ 0 → ¬ (DivisibleOver live f)) e kept.reduced;
    }

abbrev the_store : ℕ → List Wire → ℕ → Amplitudes → Store
the_store n live k f = record { capacity = n; live = live; exponent = k; value = f }

pub store_same : (n : ℕ) (live : List Wire) (zs ys : List Zw) (k : ℕ) → ((i : ℕ) → number_at ys i ≡ number_at zs i) → listed_store n live k ys ≡ listed_store n live k zs
store_same n live zs ys k same =
    ap (λ (f : Amplitudes). the_store n live k f) (same_values live zs ys same)
