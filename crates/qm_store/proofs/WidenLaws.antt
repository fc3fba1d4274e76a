-- Narrow numbers as wide ones
use Rattle.std.proofs.Common.{◌≡◌, ℕ, zero, suc, ◌+◌, ◌-◌, ◌<◌, ◌≤◌, ◌++◌, Bool, true, false, cond, inl, inr, List, [], ◌∷◌, length, refl, sym, ap, subst, ◌∙◌, arith}
use mathlib.Core.Path.{fun_ext}
use Rattle.std.proofs.lemmas.Bool.{cases_lt}
use Rattle.qm_zomega.specs.declared.Zw.{Zw}
use Rattle.qm_zomega.specs.Zw.{value_of}
use Rattle.qm_zomega.specs.Numbers.{Number, zero_number, one_number}
use Rattle.qm_zomega.specs.NumberLists.{number_at, meant_at, IsListOf, IsListBy, Reduces, ReducesBy}
use Rattle.qm_zomega.specs.Range.{FitsZw, IsBelow}
use Rattle.qm_denot.specs.LettersByPlace.{had_at}
use Rattle.qm_kernels.specs.Done.{IsComputed}
use Rattle.qm_kernels.specs.Below.{AllBelow}
use Rattle.qm_kernels.specs.HadReduced.{HadReduces}
use Rattle.qm_kernels.proofs.BelowLaws.{below-zero, below-more, below-had}
use Rattle.qm_zomega.specs.Numbers.{root2_times}
use Rattle.qm_zomega.proofs.Laws.Ring.{same}
use Rattle.qm_zomega.proofs.Laws.Powers.{root2_times-zero}
use Rattle.qm_kernels.specs.declared.narrow.Narrow.{Narrow}
use Rattle.qm_kernels.specs.Narrow.{narrow_value}
use Rattle.qm_zomega.proofs.SeenLaws.{seen-past}
use Rattle.qm_denot.proofs.Numerators.{items-pushed, number_past}
use Rattle.qm_store.specs.Numerators.{widen, widened}

pub length-widened : (xs : List Narrow) → length (widened xs) ≡ length xs
length-widened [] = refl
length-widened (x ∷ xs) = ap suc (length-widened xs)

pub number_at-widened : (xs : List Narrow) (k : ℕ) → number_at (widened xs) k ≡ meant_at narrow_value xs k
number_at-widened [] k = refl
number_at-widened (x ∷ xs) zero = refl
number_at-widened (x ∷ xs) (suc k) = number_at-widened xs k

pub numbers-widened : (xs : List Narrow) → number_at (widened xs) ≡ meant_at narrow_value xs
numbers-widened xs = fun_ext (number_at-widened xs)

-- a list of narrow numbers that an operation makes is the list of wide ones that it makes
pub listed : (op : (ℕ → Number) → ℕ → Number) (size : ℕ → ℕ) (old new : List Narrow)
    → IsListBy narrow_value zero_number new (size (length old)) (op (meant_at narrow_value old))
    → IsListOf (widened new) (size (length (widened old))) (op (number_at (widened old)))
listed op size old new made = record {
  size = length-widened new ∙ made.size ∙ sym (ap size (length-widened old));
  numbers = λ k h.
      number_at-widened new k ∙ made.numbers k (subst (λ n. k < size n) (length-widened old) h)
      ∙ ap (λ (f : ℕ → Number). op f k) (sym (numbers-widened old));
}

pub computed : (op : (ℕ → Number) → ℕ → Number) (old new : List Narrow) → IsComputed narrow_value op old new
    → IsListOf (widened new) (length (widened old)) (op (number_at (widened old)))
computed op old new made = listed op (λ n. n) old new made

pub reduced : (old new : List Narrow) (k m : ℕ) → ReducesBy narrow_value old k new m → Reduces (widened old) k (widened new) m
reduced old new k m r = record {
  size = length-widened new ∙ r.size ∙ sym (length-widened old);
  lower = r.lower;
  same = λ i. rw (number_at-widened new i, number_at-widened old i) (r.same i);
  reduced = rw (numbers-widened new) r.reduced;
}

-- ---- the numbers that are kept, where they are narrow
true≢false : true ≡ false → ⊥
true≢false e = cc

module _ (ws : List Zw) where
  pub narrow_size : (b : Bool) (ns : List Narrow) → b ≡ false → length (cond b ws (widened ns)) ≡ length ns
  narrow_size true ns e = absurd (true≢false e)
  narrow_size false ns e = length-widened ns

  pub narrow_number : (b : Bool) (ns : List Narrow) (k : ℕ) → b ≡ false → number_at (cond b ws (widened ns)) k ≡ meant_at narrow_value ns k
  narrow_number true ns k e = absurd (true≢false e)
  narrow_number false ns k e = number_at-widened ns k

  -- what holds of the narrow numbers holds of those that are kept
  pub as_narrow : (P : ℕ → (ℕ → Number) → Type 0) (b : Bool) (ns : List Narrow) → b ≡ false
      → P (length ns) (meant_at narrow_value ns) → P (length (cond b ws (widened ns))) (number_at (cond b ws (widened ns)))
  as_narrow P true ns e p = absurd (true≢false e)
  as_narrow P false ns e p =
      subst (λ n. P n (number_at (widened ns))) (sym (length-widened ns)) (subst (λ (f : ℕ → Number). P (length ns) f) (sym (numbers-widened ns)) p)

  pub narrow_done : (op : (ℕ → Number) → ℕ → Number) (size : ℕ → ℕ) (b : Bool) (old new : List Narrow) → b ≡ false
      → IsListBy narrow_value zero_number new (size (length old)) (op (meant_at narrow_value old))
      → IsListOf (cond b ws (widened new)) (size (length (cond b ws (widened old)))) (op (number_at (cond b ws (widened old))))
  narrow_done op size true old new e made = absurd (true≢false e)
  narrow_done op size false old new e made = listed op size old new made

  pub narrow_reduced : (b : Bool) (old new : List Narrow) (k m : ℕ) → b ≡ false → ReducesBy narrow_value old k new m
      → Reduces (cond b ws (widened old)) k (cond b ws (widened new)) m
  narrow_reduced true old new k m e r = absurd (true≢false e)
  narrow_reduced false old new k m e r = reduced old new k m r

-- ---- single numbers
pub one_widened : (r : Bool) (xs zs : List Narrow) (z : Narrow) → zs ≡ cond r (xs ++ z ∷ []) xs → r ≡ true → xs ≡ [] → narrow_value z ≡ one_number
    → (w : Zw) × (widened zs ≡ w ∷ []) × (value_of w ≡ one_number)
one_widened r xs zs z pushed ok empty is =
    (widen z, ap widened (items-pushed r xs zs z pushed ok ∙ ap (λ ys. ys ++ z ∷ []) empty), is)

pub all_numbers : (ws : List Zw) (ns : List Narrow) → IsListOf ws (length ns) (meant_at narrow_value ns) → (i : ℕ) → number_at ws i ≡ meant_at narrow_value ns i
all_numbers ws ns made i = elim (cases_lt i (length ns)) [
  | inl lt ↦ made.numbers i lt
  | inr le ↦ number_past ws i (let s = made.size in omega (arith, le, s)) ∙ sym (seen-past narrow_value zero_number ns i le)
]

-- ---- the bound on narrow numbers
-- all narrow numbers are below 2^30
pub all_narrow : (xs : List Narrow) → AllBelow narrow_value 30 xs
all_narrow [] i = below-zero 30
all_narrow (x ∷ xs) zero = record { a_below = x.a_fits; b_below = x.b_fits; c_below = x.c_fits; d_below = x.d_fits }
all_narrow (x ∷ xs) (suc i) = all_narrow xs i

-- the bound after a Hadamard, where it was n
pub bound_after : (n m : ℕ) (xs : List Narrow) → n ≤ 30 → (n < 30 → m ≡ n + 1) → (n ≡ 30 → m ≡ 30) → AllBelow narrow_value (n + 1) xs → AllBelow narrow_value m xs
bound_after n m xs small more end all = elim (cases_lt n 30) [
  | inl lt ↦ subst (λ k. AllBelow narrow_value k xs) (sym (more lt)) all
  | inr le ↦ let e : n ≡ 30 = omega arith in subst (λ k. AllBelow narrow_value k xs) (sym (end e)) (all_narrow xs)
]

-- ---- a Hadamard
fits_where_below : (z : Number) → IsBelow 31 z → FitsZw z
fits_where_below z b = record {
  a_fits = omega (arith, b.a_below);
  b_fits = omega (arith, b.b_below);
  c_fits = omega (arith, b.c_below);
  d_fits = omega (arith, b.d_below);
}

-- lists of the same numbers become the same list
pub same_list : (op : (ℕ → Number) → ℕ → Number) (old mid new : List Zw) → length mid ≡ length old → ((i : ℕ) → number_at mid i ≡ number_at old i)
    → IsListOf new (length mid) (op (number_at mid)) → IsListOf new (length old) (op (number_at old))
same_list op old mid new size same made =
    subst (λ n. IsListOf new n (op (number_at old))) size (subst (λ (f : ℕ → Number). IsListOf new (length mid) (op f)) (fun_ext same) made)

-- the sums of narrow numbers are in the range
pub had_in_range : (f g : ℕ → Number) (p n : ℕ) → n ≤ 30 → ((i : ℕ) → IsBelow n (f i)) → ((i : ℕ) → g i ≡ f i) → (i : ℕ) → FitsZw (had_at p g i)
had_in_range f g p n small all same i =
    let eq : f ≡ g = sym (fun_ext same) in
    subst (λ (h : ℕ → Number). FitsZw (had_at p h i)) eq (fits_where_below _ (below-more (n + 1) 31 _ (omega (arith, small)) (below-had n f all p i)))

-- ---- a Hadamard with its reduction
zw_of : (z : Number) → FitsZw z → Zw
zw_of z f = record { a = z.a; b = z.b; c = z.c; d = z.d; a_fits = f.a_fits; b_fits = f.b_fits; c_fits = f.c_fits; d_fits = f.d_fits }

zw_of-is : (z : Number) (f : FitsZw z) → value_of (zw_of z f) ≡ z
unfolding zw_of
zw_of-is z f = same _ _ refl refl refl refl

-- the list of n numbers that are in the range
tabulated : (n : ℕ) (g : ℕ → Number) → ((i : ℕ) → FitsZw (g i)) → List Zw
tabulated zero g f = []
tabulated (suc n) g f = zw_of (g 0) (f 0) ∷ tabulated n (λ i. g (suc i)) (λ i. f (suc i))

length-tabulated : (n : ℕ) (g : ℕ → Number) (f : (i : ℕ) → FitsZw (g i)) → length (tabulated n g f) ≡ n
unfolding tabulated
length-tabulated zero g f = refl
length-tabulated (suc n) g f = ap suc (length-tabulated n (λ i. g (suc i)) (λ i. f (suc i)))

number_at-tabulated : (n : ℕ) (g : ℕ → Number) (f : (i : ℕ) → FitsZw (g i)) (k : ℕ) → k < n → number_at (tabulated n g f) k ≡ g k
unfolding tabulated
number_at-tabulated zero g f k h = absurd (omega arith)
number_at-tabulated (suc n) g f zero h = zw_of-is (g 0) (f 0)
number_at-tabulated (suc n) g f (suc k) h = number_at-tabulated n (λ i. g (suc i)) (λ i. f (suc i)) k (omega arith)

-- what `Had` makes of zs, and its reduced form new
abbrev pub HadInto : ℕ → List Zw → ℕ → List Zw → ℕ → Type 0
HadInto p zs k new m = (mid : List Zw) × IsListOf mid (length zs) (had_at p (number_at zs)) × Reduces mid (k + 1) new m

narrow_had_into : (p : ℕ) (zs : List Zw) (old new : List Narrow) (k m : ℕ) → length zs ≡ length old → ((i : ℕ) → number_at zs i ≡ meant_at narrow_value old i)
    → ((i : ℕ) → FitsZw (had_at p (number_at zs) i)) → HadReduces narrow_value p old k new m → HadInto p zs k (widened new) m
narrow_had_into p zs old new k m size same_numbers fits r =
    let g = had_at p (number_at zs) in
    let n = length zs in
    let mid = tabulated n g fits in
    let all : number_at zs ≡ meant_at narrow_value old = fun_ext same_numbers in (
      mid,
      record { size = length-tabulated n g fits; numbers = number_at-tabulated n g fits },
      record {
        size = length-widened new ∙ r.size ∙ sym size ∙ sym (length-tabulated n g fits);
        lower = r.lower;
        same = λ i. elim (cases_lt i n) [
          | inl lt ↦
              ap (root2_times (k + 1 - m)) (number_at-widened new i) ∙ r.same i (omega (arith, lt, size))
              ∙ ap (λ (f : ℕ → Number). had_at p f i) (sym all) ∙ sym (number_at-tabulated n g fits i lt)
          | inr le ↦
              let past : number_at (widened new) i ≡ zero_number = number_past (widened new) i (let s = r.size in let w = length-widened new in omega (arith, le, size, s, w)) in
              ap (root2_times (k + 1 - m)) past ∙ root2_times-zero (k + 1 - m) ∙ sym (number_past mid i (let s = length-tabulated n g fits in omega (arith, le, s)))
        ];
        reduced = rw (numbers-widened new) r.reduced;
      },
    )

pub narrow_had : (p : ℕ) (zs ws : List Zw) (b : Bool) (old new : List Narrow) (k m : ℕ) → b ≡ false → length zs ≡ length old
    → ((i : ℕ) → number_at zs i ≡ meant_at narrow_value old i) → ((i : ℕ) → FitsZw (had_at p (number_at zs) i)) → HadReduces narrow_value p old k new m
    → HadInto p zs k (cond b ws (widened new)) m
narrow_had p zs ws true old new k m e size same_numbers fits r = absurd (true≢false e)
narrow_had p zs ws false old new k m e size same_numbers fits r = narrow_had_into p zs old new k m size same_numbers fits r
