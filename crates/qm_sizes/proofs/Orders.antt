-- An order of the numbers A + B root2 in which root2 is positive is told by signs and squares
use Rattle.std.proofs.Common.{◌≡◌, ◌∙◌, ◌⊎◌, inl, inr, ℕ, zero, suc, ◌+◌, ◌-◌, ◌*◌, ◌<◌, ◌≤◌, nat_lt, Bool, true, false, ℤ, pos, negsuc, ◌+ℤ◌, ◌-ℤ◌, ◌*ℤ◌, neg_ℤ, refl, sym, ap, subst, arith}
use Rattle.std.proofs.lemmas.Bool.{cases_lt}
use Rattle.std.proofs.lemmas.Int.{ints}
use Rattle.qm_sizes.specs.Surds.{Surd, surd, nought, unit, plus, negative, times, by_signs, IsOrder, OneOrderLaw}

pub same : {a b c d : ℤ} → a ≡ c → b ≡ d → surd a b ≡ surd c d
same {a} {b} {c} {d} e f = ap (λ t. surd t b) e ∙ ap (λ t. surd c t) f

below_told : (m n : ℕ) → m < n → nat_lt m n ≡ true
below_told m n h = grind arith

not_below_told : (m n : ℕ) → n ≤ m → nat_lt m n ≡ false
not_below_told m n h = grind arith

neg_times : (a b : ℕ) → neg_ℤ (pos a) *ℤ pos b ≡ neg_ℤ (pos (a * b))
neg_times zero b = omega (arith, ints)
neg_times (suc a) b = refl

weaker : {m n : ℕ} → m < n → m ≤ n
weaker h = omega arith

some_more : (a b : ℕ) → 0 < a + suc b
some_more a b = omega arith

some_less : (a b : ℕ) → 0 < suc a + b
some_less a b = omega arith

module _ (above : Surd → Bool) (order : IsOrder above) where
  not_nought : (x : Surd) → x ≡ nought → above x ≡ true → ⊥
  not_nought x e h = let none = order.none in let there = subst (λ y. above y ≡ true) e h in cc

  unit_above : above unit ≡ true
  unit_above = elim (order.each unit) [
    | inl e ↦ absurd (let w = ap (λ (x : Surd). x.whole) e in omega (arith, ints))
    | inr (inl h) ↦ h
    | inr (inr h) ↦ order.products (negative unit) (negative unit) h h
  ]

  wholes : (n : ℕ) → above (surd (pos (suc n)) (pos 0)) ≡ true
  wholes zero = unit_above
  wholes (suc n) = subst (λ x. above x ≡ true) (same (omega (arith, ints)) refl) (order.sums (surd (pos (suc n)) (pos 0)) unit (wholes n) unit_above)

  roots : (n : ℕ) → above (surd (pos 0) (pos (suc n))) ≡ true
  roots zero = order.root
  roots (suc n) = subst (λ x. above x ≡ true) (same refl (omega (arith, ints))) (order.sums (surd (pos 0) (pos (suc n))) (surd (pos 0) (pos 1)) (roots n) order.root)

  -- a number without a minus sign is positive, but for 0
  both : (a b : ℕ) → 0 < a + b → above (surd (pos a) (pos b)) ≡ true
  both zero zero h = absurd (omega arith)
  both (suc a) zero h = wholes a
  both zero (suc b) h = roots b
  both (suc a) (suc b) h =
      subst (λ x. above x ≡ true) (same (omega (arith, ints)) (omega (arith, ints))) (order.sums (surd (pos (suc a)) (pos 0)) (surd (pos 0) (pos (suc b))) (wholes a) (roots b))

  -- a product of positive numbers is no whole number that is 0 or below
  no_whole : (k : ℕ) → above (surd (neg_ℤ (pos k)) (pos 0)) ≡ true → ⊥
  no_whole zero h = not_nought _ refl h
  no_whole (suc k) h = not_nought _ (same (omega (arith, ints)) refl) (order.sums (surd (negsuc k) (pos 0)) (surd (pos (suc k)) (pos 0)) h (wholes k))

  at_most : (x y : Surd) (n m : ℕ) → times x y ≡ surd (pos n -ℤ pos m) (pos 0) → n ≤ m → above x ≡ true → above y ≡ true → ⊥
  at_most x y n m e h fx fy =
      let low : pos n -ℤ pos m ≡ neg_ℤ (pos (m - n)) = omega (arith, ints) in
      no_whole (m - n) (subst (λ z. above z ≡ true) (e ∙ same low refl) (order.products x y fx fy))

  -- where neither x nor a number that isn't positive is, the test says so
  or_false : (b : Bool) → (b ≡ true → ⊥) → b ≡ false
  or_false true n = absurd (n refl)
  or_false false n = refl

  or_true : (x : Surd) → (x ≡ nought → ⊥) → (above (negative x) ≡ true → ⊥) → above x ≡ true
  or_true x some other = elim (order.each x) [ inl e ↦ absurd (some e) | inr (inl h) ↦ h | inr (inr h) ↦ absurd (other h) ]

  some_above : (a b : ℕ) (below : (0 < a + b) ⊎ (a + b ≤ 0)) → above (surd (pos a) (pos b)) ≡ nat_lt 0 (a + b)
  some_above a b (inl h) = both a b h ∙ sym (below_told 0 (a + b) h)
  some_above a b (inr h) =
      let z : surd (pos a) (pos b) ≡ nought = same (ap pos (let e : a ≡ 0 = omega arith in e)) (ap pos (let e : b ≡ 0 = omega arith in e)) in
      ap above z ∙ order.none ∙ sym (not_below_told 0 (a + b) h)

  -- a whole part above 0, and the other below it
  whole_above : (a b : ℕ) → (2 * (suc b * suc b) < a * a) ⊎ (a * a ≤ 2 * (suc b * suc b)) → above (surd (pos a) (negsuc b)) ≡ nat_lt (2 * (suc b * suc b)) (a * a)
  whole_above a b (inl h) =
      let x = surd (pos a) (negsuc b) in
      let y = surd (pos a) (pos (suc b)) in
      let e : times (negative x) y ≡ surd (pos (2 * (suc b * suc b)) -ℤ pos (a * a)) (pos 0) =
      same (ap (λ u. u +ℤ pos 2 *ℤ (pos (suc b) *ℤ pos (suc b))) (neg_times a a) ∙ omega (arith, ints))
      (ap (λ u. u +ℤ pos (suc b) *ℤ pos a) (neg_times a (suc b)) ∙ omega (arith, ints)) in
      or_true x (λ z. let w = ap (λ (x : Surd). x.root) z in omega (arith, ints)) (λ n. at_most (negative x) y (2 * (suc b * suc b)) (a * a) e (weaker h) n (both a (suc b) (some_more a b)))
      ∙ sym (below_told (2 * (suc b * suc b)) (a * a) h)
  whole_above a b (inr h) =
      let x = surd (pos a) (negsuc b) in
      let y = surd (pos a) (pos (suc b)) in
      let e : times x y ≡ surd (pos (a * a) -ℤ pos (2 * (suc b * suc b))) (pos 0) = same (omega (arith, ints)) (omega (arith, ints)) in
      or_false (above x) (λ n. at_most x y (a * a) (2 * (suc b * suc b)) e h n (both a (suc b) (some_more a b))) ∙ sym (not_below_told (2 * (suc b * suc b)) (a * a) h)

  -- and the other way round
  root_above : (a b : ℕ) → (suc a * suc a < 2 * (b * b)) ⊎ (2 * (b * b) ≤ suc a * suc a) → above (surd (negsuc a) (pos b)) ≡ nat_lt (suc a * suc a) (2 * (b * b))
  root_above a b (inl h) =
      let x = surd (negsuc a) (pos b) in
      let y = surd (pos (suc a)) (pos b) in
      let e : times (negative x) y ≡ surd (pos (suc a * suc a) -ℤ pos (2 * (b * b))) (pos 0) =
      same (ap (λ u. pos (suc a) *ℤ pos (suc a) +ℤ pos 2 *ℤ u) (neg_times b b) ∙ omega (arith, ints))
      (ap (λ u. pos (suc a) *ℤ pos b +ℤ u) (neg_times b (suc a)) ∙ omega (arith, ints)) in
      or_true x (λ z. let w = ap (λ (x : Surd). x.whole) z in omega (arith, ints)) (λ n. at_most (negative x) y (suc a * suc a) (2 * (b * b)) e (weaker h) n (both (suc a) b (some_less a b)))
      ∙ sym (below_told (suc a * suc a) (2 * (b * b)) h)
  root_above a b (inr h) =
      let x = surd (negsuc a) (pos b) in
      let y = surd (pos (suc a)) (pos b) in
      let e : times x y ≡ surd (pos (2 * (b * b)) -ℤ pos (suc a * suc a)) (pos 0) = same (omega (arith, ints)) (omega (arith, ints)) in
      or_false (above x) (λ n. at_most x y (2 * (b * b)) (suc a * suc a) e h n (both (suc a) b (some_less a b))) ∙ sym (not_below_told (suc a * suc a) (2 * (b * b)) h)

  none_above : (a b : ℕ) → above (surd (negsuc a) (negsuc b)) ≡ false
  none_above a b =
      let x = surd (negsuc a) (negsuc b) in
      let y = surd (pos (suc a)) (pos (suc b)) in
      or_false (above x) (λ h. not_nought (plus x y) (same (omega (arith, ints)) (omega (arith, ints))) (order.sums x y h (both (suc a) (suc b) (omega arith))))

  by_parts : (a b : ℤ) → above (surd a b) ≡ by_signs a b
  by_parts (pos a) (pos b) = some_above a b (cases_lt 0 (a + b))
  by_parts (pos a) (negsuc b) = whole_above a b (cases_lt (2 * (suc b * suc b)) (a * a))
  by_parts (negsuc a) (pos b) = root_above a b (cases_lt (suc a * suc a) (2 * (b * b)))
  by_parts (negsuc a) (negsuc b) = none_above a b

pub one_order_law : OneOrderLaw
one_order_law above order x = by_parts above order x.whole x.root
