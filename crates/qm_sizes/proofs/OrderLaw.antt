-- The test by signs and squares is an order of the numbers A + B root2
use Rattle.std.proofs.Common.{◌≡◌, ◌∙◌, ◌⊎◌, inl, inr, ℕ, zero, suc, ◌+◌, ◌-◌, ◌*◌, ◌<◌, ◌≤◌, true, ℤ, pos, negsuc, ◌+ℤ◌, ◌*ℤ◌, neg_ℤ, refl, sym, ap, ap₂, subst, arith, mul-le-mul}
use Rattle.std.proofs.Math.IntN.{suc_ℤ-*ℤ, zero-*ℤ, *ℤ-zero, *ℤ_comm}
use Rattle.std.proofs.lemmas.Int.{ints}
use Rattle.qm_sizes.specs.Surds.{Surd, nought, negative, is_positive, OrderLaw}
use Rattle.qm_sizes.proofs.Irrational.{no_root2}
use Rattle.qm_sizes.proofs.Orders.{same}
use Rattle.qm_sizes.proofs.Positive.{IsAbove, Both, Whole, Root, from_signs, to_signs, sum_above}
use Rattle.qm_sizes.proofs.Squares.{times_neg}

-- ---- each number but 0, or its negative
order : (m n : ℕ) → (m ≡ n) ⊎ ((m < n) ⊎ (n < m))
order m n = grind arith

abbrev Each : ℤ → ℤ → Type 0
Each a b = ((a ≡ pos 0) × (b ≡ pos 0)) ⊎ (IsAbove a b ⊎ IsAbove (neg_ℤ a) (neg_ℤ b))

none_or_some : (a b : ℕ) → ((a ≡ 0) × (b ≡ 0)) ⊎ (0 < a + b)
none_or_some zero zero = inl (refl, refl)
none_or_some (suc a) b = inr (omega arith)
none_or_some zero (suc b) = inr (omega arith)

each : (a b : ℤ) → Each a b
each (pos a) (pos b) = elim (none_or_some a b) [ inl (e, f) ↦ inl (ap pos e, ap pos f) | inr h ↦ inr (inl (Both a b refl refl h)) ]
each (pos a) (negsuc b) = elim (order (2 * (suc b * suc b)) (a * a)) [
  | inl e ↦ absurd (no_root2 a (suc b) (omega arith) (sym e))
  | inr (inl h) ↦ inr (inl (Whole a (suc b) refl refl h))
  | inr (inr h) ↦ inr (inr (Root a (suc b) refl refl h))
]
each (negsuc a) (pos zero) = inr (inr (Both (suc a) 0 refl refl (omega arith)))
each (negsuc a) (pos (suc b)) = elim (order (suc a * suc a) (2 * (suc b * suc b))) [
  | inl e ↦ absurd (no_root2 (suc a) (suc b) (omega arith) e)
  | inr (inl h) ↦ inr (inl (Root (suc a) (suc b) refl refl h))
  | inr (inr h) ↦ inr (inr (Whole (suc a) (suc b) refl refl h))
]
each (negsuc a) (negsuc b) = inr (inr (Both (suc a) (suc b) refl refl (omega arith)))

-- ---- 0 isn't positive
zero_root : (x : ℕ) → neg_ℤ (pos x) ≡ pos 0 → x ≡ 0
zero_root x e = omega (arith, ints, e)

not_nought : (a b : ℤ) → a ≡ pos 0 → b ≡ pos 0 → IsAbove a b → ⊥
not_nought a b e f (Both x y g h k) = let i : x ≡ 0 = omega (arith, ints, e, g) in let j : y ≡ 0 = omega (arith, ints, f, h) in omega (arith, i, j, k)
not_nought a b e f (Whole x y g h k) = let i : x ≡ 0 = omega (arith, ints, e, g) in let l = subst (λ x. 2 * (y * y) < x * x) i k in omega (arith, l)
not_nought a b e f (Root x y g h k) = let i : y ≡ 0 = omega (arith, ints, f, h) in let l = subst (λ y. x * x < 2 * (y * y)) i k in omega (arith, l)

-- ---- products
-- root2 times a positive number
root_above : (c d : ℤ) → IsAbove c d → IsAbove (pos 2 *ℤ d) c
root_above c d (Both x y e f h) = Both (2 * y) x (omega (arith, ints, f)) e (omega (arith, h))
root_above c d (Whole x y e f h) = Root (2 * y) x (omega (arith, ints, f)) e (omega (arith, h))
root_above c d (Root x y e f h) = Whole (2 * y) x (omega (arith, ints, f)) e (omega (arith, h))

scaled_less : (n i j : ℕ) → 0 < n → i < j → (n * n) * i < (n * n) * j
scaled_less n i j some less =
    let m : (n * n) * (i + 1) ≤ (n * n) * j = mul-le-mul (let r : n * n ≤ n * n = omega arith in r) (let l : i + 1 ≤ j = omega (arith, less) in l) in
    let k : 1 * 1 ≤ n * n = mul-le-mul some some in omega (arith, m, k)

-- n times a positive number
scaled_above : (n : ℕ) (c d : ℤ) → 0 < n → IsAbove c d → IsAbove (pos n *ℤ c) (pos n *ℤ d)
scaled_above n c d some (Both x y e f h) =
    Both (n * x) (n * y) (ap (λ t. pos n *ℤ t) e) (ap (λ t. pos n *ℤ t) f)
    (let m : 1 * 1 ≤ n * (x + y) = mul-le-mul some h in omega (arith, m))
scaled_above n c d some (Whole x y e f h) =
    Whole (n * x) (n * y) (ap (λ t. pos n *ℤ t) e) (ap (λ t. pos n *ℤ t) f ∙ times_neg (pos n) (pos y))
    (let m = scaled_less n (2 * (y * y)) (x * x) some h in omega (arith, m))
scaled_above n c d some (Root x y e f h) =
    Root (n * x) (n * y) (ap (λ t. pos n *ℤ t) e ∙ times_neg (pos n) (pos x)) (ap (λ t. pos n *ℤ t) f)
    (let m = scaled_less n (x * x) (2 * (y * y)) some h in omega (arith, m))

right_none : (x y : ℤ) → y ≡ pos 0 → x ≡ x +ℤ y
right_none x y e = omega (arith, ints, e)

left_none : (x y : ℤ) → y ≡ pos 0 → x ≡ y +ℤ x
left_none x y e = omega (arith, ints, e)

-- ---- multiples
more : (n : ℕ) (c : ℤ) → pos (suc n) *ℤ c ≡ pos n *ℤ c +ℤ c
more n c = suc_ℤ-*ℤ (pos n) c

multiple_plus : (m n : ℕ) (c : ℤ) → pos (m + n) *ℤ c ≡ pos m *ℤ c +ℤ pos n *ℤ c
multiple_plus zero n c = ap (λ k. pos k *ℤ c) (let e : 0 + n ≡ n = omega arith in e) ∙ left_none (pos n *ℤ c) (pos 0 *ℤ c) (zero-*ℤ c)
multiple_plus (suc m) n c =
    ap (λ k. pos k *ℤ c) (let e : suc m + n ≡ suc (m + n) = omega arith in e) ∙ more (m + n) c ∙ ap (λ t. t +ℤ c) (multiple_plus m n c)
    ∙ turn (pos m *ℤ c) (pos n *ℤ c) c ∙ ap (λ t. t +ℤ pos n *ℤ c) (sym (more m c))
  where
    turn : (x y z : ℤ) → (x +ℤ y) +ℤ z ≡ (x +ℤ z) +ℤ y
    turn x y z = omega (arith, ints)

multiple_sum : (n : ℕ) (c d : ℤ) → pos n *ℤ (c +ℤ d) ≡ pos n *ℤ c +ℤ pos n *ℤ d
multiple_sum zero c d = zero-*ℤ (c +ℤ d) ∙ ap₂ (λ x y. x +ℤ y) (sym (zero-*ℤ c)) (sym (zero-*ℤ d))
multiple_sum (suc n) c d =
    more n (c +ℤ d) ∙ ap (λ t. t +ℤ (c +ℤ d)) (multiple_sum n c d) ∙ turn (pos n *ℤ c) (pos n *ℤ d) c d
    ∙ ap₂ (λ x y. x +ℤ y) (sym (more n c)) (sym (more n d))
  where
    turn : (x y z w : ℤ) → (x +ℤ y) +ℤ (z +ℤ w) ≡ (x +ℤ z) +ℤ (y +ℤ w)
    turn x y z w = omega (arith, ints)

multiple_twice : (m n : ℕ) (c : ℤ) → pos m *ℤ (pos n *ℤ c) ≡ pos (m * n) *ℤ c
multiple_twice zero n c = zero-*ℤ (pos n *ℤ c) ∙ sym (zero-*ℤ c) ∙ ap (λ k. pos k *ℤ c) (let e : 0 ≡ 0 * n = omega arith in e)
multiple_twice (suc m) n c =
    more m (pos n *ℤ c) ∙ ap (λ t. t +ℤ pos n *ℤ c) (multiple_twice m n c) ∙ sym (multiple_plus (m * n) n c)
    ∙ ap (λ k. pos k *ℤ c) (let e : m * n + n ≡ suc m * n = omega arith in e)

multiple_of : (m n k : ℕ) (c : ℤ) → m * n ≡ k → pos m *ℤ (pos n *ℤ c) ≡ pos k *ℤ c
multiple_of m n k c e = multiple_twice m n c ∙ ap (λ j. pos j *ℤ c) e

neg_multiple : (n : ℕ) (c : ℤ) → neg_ℤ (pos n) *ℤ c ≡ neg_ℤ (pos n *ℤ c)
neg_multiple n c = *ℤ_comm (neg_ℤ (pos n)) c ∙ times_neg c (pos n) ∙ ap neg_ℤ (*ℤ_comm c (pos n))

turned : (n : ℕ) (d : ℤ) → pos (suc n) *ℤ (pos 2 *ℤ d) ≡ pos 2 *ℤ (pos (suc n) *ℤ d)
turned n d = multiple_of (suc n) 2 (2 * suc n) d (omega arith) ∙ sym (multiple_twice 2 (suc n) d)

-- a number without a minus sign times a positive one
both_above : (m n : ℕ) (c d : ℤ) → 0 < m + n → IsAbove c d → IsAbove (pos m *ℤ c +ℤ pos 2 *ℤ (pos n *ℤ d)) (pos m *ℤ d +ℤ pos n *ℤ c)
both_above zero zero c d some h = absurd (omega (arith, some))
both_above (suc m) zero c d some h =
    let l = scaled_above (suc m) c d (omega arith) h in
    let none : pos 2 *ℤ (pos 0 *ℤ d) ≡ pos 0 = multiple_of 2 0 0 d (omega arith) ∙ zero-*ℤ d in
    subst (λ t. IsAbove t (pos (suc m) *ℤ d +ℤ pos 0 *ℤ c)) (right_none (pos (suc m) *ℤ c) _ none) (subst (λ t. IsAbove (pos (suc m) *ℤ c) t) (right_none (pos (suc m) *ℤ d) _ (zero-*ℤ c)) l)
both_above zero (suc n) c d some h =
    let l = scaled_above (suc n) (pos 2 *ℤ d) c (omega arith) (root_above c d h) in
    subst (λ t. IsAbove t (pos 0 *ℤ d +ℤ pos (suc n) *ℤ c)) (turned n d ∙ left_none _ _ (zero-*ℤ c)) (subst (λ t. IsAbove (pos (suc n) *ℤ (pos 2 *ℤ d)) t) (left_none (pos (suc n) *ℤ c) _ (zero-*ℤ d)) l)
both_above (suc m) (suc n) c d some h =
    let l = sum_above _ _ _ _ (scaled_above (suc m) c d (omega arith) h) (scaled_above (suc n) (pos 2 *ℤ d) c (omega arith) (root_above c d h)) in
    subst (λ t. IsAbove t (pos (suc m) *ℤ d +ℤ pos (suc n) *ℤ c)) (ap (λ t. pos (suc m) *ℤ c +ℤ t) (turned n d)) l

-- a product that becomes a multiple of a positive number, where it is multiplied by a number without a minus sign, is positive
by_multiple : (m n k : ℕ) (c d w r : ℤ) → 0 < m + n → 0 < k → IsAbove c d → pos m *ℤ w +ℤ pos 2 *ℤ (pos n *ℤ r) ≡ pos k *ℤ c → pos m *ℤ r +ℤ pos n *ℤ w ≡ pos k *ℤ d
    → IsAbove w r
by_multiple m n k c d w r some more h e f =
    let up = scaled_above k c d more h in
    elim (each w r) [
      | inl (z, y) ↦ absurd (not_nought (pos k *ℤ c) (pos k *ℤ d)
          (sym e ∙ ap₂ (λ w r. pos m *ℤ w +ℤ pos 2 *ℤ (pos n *ℤ r)) z y ∙ two_none _ _ (*ℤ-zero (pos m)) (ap (λ t. pos 2 *ℤ t) (*ℤ-zero (pos n))))
          (sym f ∙ ap₂ (λ w r. pos m *ℤ r +ℤ pos n *ℤ w) z y ∙ two_none _ _ (*ℤ-zero (pos m)) (*ℤ-zero (pos n))) up)
      | inr (inl above) ↦ above
      | inr (inr below) ↦ absurd (
          let down = both_above m n (neg_ℤ w) (neg_ℤ r) some below in
          let two : pos 2 *ℤ (pos n *ℤ neg_ℤ r) ≡ neg_ℤ (pos 2 *ℤ (pos n *ℤ r)) = ap (λ t. pos 2 *ℤ t) (times_neg (pos n) r) ∙ times_neg (pos 2) (pos n *ℤ r) in
          not_nought _ _ (cancel _ _ _ _ _ e (times_neg (pos m) w) two) (cancel _ _ _ _ _ f (times_neg (pos m) r) (times_neg (pos n) w)) (sum_above _ _ _ _ up down))
    ]
  where
    two_none : (x y : ℤ) → x ≡ pos 0 → y ≡ pos 0 → x +ℤ y ≡ pos 0
    two_none x y e f = omega (arith, ints, e, f)

    cancel : (x y k u v : ℤ) → x +ℤ y ≡ k → u ≡ neg_ℤ x → v ≡ neg_ℤ y → k +ℤ (u +ℤ v) ≡ pos 0
    cancel x y k u v e f g = omega (arith, ints, e, f, g)

-- ---- products, by the signs of the first number
combine : (x y z w t u : ℤ) → x +ℤ y ≡ t → z +ℤ w ≡ y → t ≡ w +ℤ u → x +ℤ z ≡ u
combine x y z w t u e f g = omega (arith, ints, e, f, g)

combine_back : (x y z w t u : ℤ) → x +ℤ w ≡ y → z +ℤ y ≡ t → t ≡ w +ℤ u → x +ℤ z ≡ u
combine_back x y z w t u e f g = omega (arith, ints, e, f, g)

-- a multiple of a sum that is told
multiple_told : (m : ℕ) (w x y u v : ℤ) → w +ℤ x ≡ y → pos m *ℤ x ≡ u → pos m *ℤ y ≡ v → pos m *ℤ w +ℤ u ≡ v
multiple_told m w x y u v e f g = ap (λ t. pos m *ℤ w +ℤ t) (sym f) ∙ sym (multiple_sum m w x) ∙ ap (λ t. pos m *ℤ t) e ∙ g

module _ (m n k : ℕ) (c d w r : ℤ) where
  whole_times : m * m ≡ 2 * (n * n) + k → 0 < k → 0 < m + n → IsAbove c d → w +ℤ pos 2 *ℤ (pos n *ℤ d) ≡ pos m *ℤ c → r +ℤ pos n *ℤ c ≡ pos m *ℤ d → IsAbove w r
  whole_times size some sum h e f =
      by_multiple m n k c d w r sum some h
      (combine (pos m *ℤ w) (pos (2 * (m * n)) *ℤ d) (pos 2 *ℤ (pos n *ℤ r)) (pos (2 * (n * n)) *ℤ c) (pos (m * m) *ℤ c) (pos k *ℤ c)
      (multiple_told m w _ _ _ _ e (ap (λ t. pos m *ℤ t) (multiple_twice 2 n d) ∙ multiple_of m (2 * n) (2 * (m * n)) d (omega arith)) (multiple_twice m m c))
      (multiple_told 2 (pos n *ℤ r) (pos (n * n) *ℤ c) (pos (n * m) *ℤ d) _ _ (multiple_told n r _ _ _ _ f (multiple_twice n n c) (multiple_twice n m d)) (multiple_twice 2 (n * n) c) (multiple_of 2 (n * m) (2 * (m * n)) d (omega arith)))
      (ap (λ j. pos j *ℤ c) size ∙ multiple_plus (2 * (n * n)) k c))
      (combine (pos m *ℤ r) (pos (m * n) *ℤ c) (pos n *ℤ w) (pos (2 * (n * n)) *ℤ d) (pos (m * m) *ℤ d) (pos k *ℤ d)
      (multiple_told m r _ _ _ _ f (multiple_twice m n c) (multiple_twice m m d))
      (multiple_told n w _ _ _ _ e (ap (λ t. pos n *ℤ t) (multiple_twice 2 n d) ∙ multiple_of n (2 * n) (2 * (n * n)) d (omega arith)) (multiple_of n m (m * n) c (omega arith)))
      (ap (λ j. pos j *ℤ d) size ∙ multiple_plus (2 * (n * n)) k d))

  root_times : 2 * (n * n) ≡ m * m + k → 0 < k → 0 < m + n → IsAbove c d → w +ℤ pos m *ℤ c ≡ pos 2 *ℤ (pos n *ℤ d) → r +ℤ pos m *ℤ d ≡ pos n *ℤ c → IsAbove w r
  root_times size some sum h e f =
      by_multiple m n k c d w r sum some h
      (combine_back (pos m *ℤ w) (pos (2 * (m * n)) *ℤ d) (pos 2 *ℤ (pos n *ℤ r)) (pos (m * m) *ℤ c) (pos (2 * (n * n)) *ℤ c) (pos k *ℤ c)
      (multiple_told m w _ _ _ _ e (multiple_twice m m c) (ap (λ t. pos m *ℤ t) (multiple_twice 2 n d) ∙ multiple_of m (2 * n) (2 * (m * n)) d (omega arith)))
      (multiple_told 2 (pos n *ℤ r) (pos (n * m) *ℤ d) (pos (n * n) *ℤ c) _ _ (multiple_told n r _ _ _ _ f (multiple_twice n m d) (multiple_twice n n c)) (multiple_of 2 (n * m) (2 * (m * n)) d (omega arith)) (multiple_twice 2 (n * n) c))
      (ap (λ j. pos j *ℤ c) size ∙ multiple_plus (m * m) k c))
      (combine_back (pos m *ℤ r) (pos (m * n) *ℤ c) (pos n *ℤ w) (pos (m * m) *ℤ d) (pos (2 * (n * n)) *ℤ d) (pos k *ℤ d)
      (multiple_told m r _ _ _ _ f (multiple_twice m m d) (multiple_twice m n c))
      (multiple_told n w _ _ _ _ e (multiple_of n m (m * n) c (omega arith)) (ap (λ t. pos n *ℤ t) (multiple_twice 2 n d) ∙ multiple_of n (2 * n) (2 * (n * n)) d (omega arith)))
      (ap (λ j. pos j *ℤ d) size ∙ multiple_plus (m * m) k d))

above_by : (i j : ℕ) → i < j → (k : ℕ) × (j ≡ i + k) × (0 < k)
above_by i j h = (j - i, omega (arith, h), omega (arith, h))

undo : (x y z : ℤ) → z ≡ neg_ℤ y → (x +ℤ z) +ℤ y ≡ x
undo x y z e = omega (arith, ints, e)

undo_left : (x y z : ℤ) → z ≡ neg_ℤ y → (z +ℤ x) +ℤ y ≡ x
undo_left x y z e = omega (arith, ints, e)

pub product_above : (a b c d : ℤ) → IsAbove a b → IsAbove c d → IsAbove (a *ℤ c +ℤ pos 2 *ℤ (b *ℤ d)) (a *ℤ d +ℤ b *ℤ c)
product_above a b c d (Both x y e f h) k = rw (e, f) (both_above x y c d h k)
product_above a b c d (Whole x y e f h) k =
    let by = above_by (2 * (y * y)) (x * x) h in
    let some : 0 < x + y = some_sum x y h in
    rw (e, f) (whole_times x y by.0 c d _ _ by.1 by.2 some k
    (undo (pos x *ℤ c) (pos 2 *ℤ (pos y *ℤ d)) _ (ap (λ t. pos 2 *ℤ t) (neg_multiple y d) ∙ times_neg (pos 2) (pos y *ℤ d)))
    (undo (pos x *ℤ d) (pos y *ℤ c) _ (neg_multiple y c)))
  where
    some_sum : (x y : ℕ) → 2 * (y * y) < x * x → 0 < x + y
    some_sum zero y h = absurd (omega (arith, h))
    some_sum (suc x) y h = omega arith
product_above a b c d (Root x y e f h) k =
    let by = above_by (x * x) (2 * (y * y)) h in
    let some : 0 < x + y = some_sum x y h in
    rw (e, f) (root_times x y by.0 c d _ _ by.1 by.2 some k
    (undo_left (pos 2 *ℤ (pos y *ℤ d)) (pos x *ℤ c) _ (neg_multiple x c))
    (undo_left (pos y *ℤ c) (pos x *ℤ d) _ (neg_multiple x d)))
  where
    some_sum : (x y : ℕ) → x * x < 2 * (y * y) → 0 < x + y
    some_sum x zero h = absurd (omega (arith, h))
    some_sum x (suc y) h = omega arith

-- ---- the law
either : (x : Surd) → (x ≡ nought) ⊎ ((is_positive x ≡ true) ⊎ (is_positive (negative x) ≡ true))
either x = elim (each x.whole x.root) [
  | inl (e, f) ↦ inl (same e f)
  | inr (inl h) ↦ inr (inl (to_signs x.whole x.root h))
  | inr (inr h) ↦ inr (inr (to_signs (neg_ℤ x.whole) (neg_ℤ x.root) h))
]

pub order_law : OrderLaw
order_law =
    record {
      none = refl;
      each = either;
      sums = λ x y e f. to_signs _ _ (sum_above x.whole x.root y.whole y.root (from_signs x.whole x.root e) (from_signs y.whole y.root f));
      products = λ x y e f. to_signs _ _ (product_above x.whole x.root y.whole y.root (from_signs x.whole x.root e) (from_signs y.whole y.root f));
      root = refl;
    }
