-- The size of components after each letter
use Rattle.std.proofs.Common.{ℕ, zero, suc, ◌+◌, ◌-◌, ◌<◌, ◌≤◌, ◌^◌, ℤ, neg_ℤ, ◌+ℤ◌, ◌-ℤ◌, Bool, true, false, cond, ◌&&◌, inl, inr, List, length, sym, subst, arith}
use Rattle.std.specs.Prelude.{unsigned_abs}
use Rattle.std.proofs.Math.Pow.{pow_mono}
use Rattle.std.proofs.lemmas.Nat.{pow_pos, pow-add}
use Rattle.std.proofs.lemmas.Bool.{cases_lt}
use Rattle.std.proofs.lemmas.Int.{ints}
use Rattle.qm_zomega.specs.Numbers.{Number, zero_number, plus, ◌⊕◌, minus, ◌⊖◌, negative, turned, omega_times, root2_of, root2_times}
use Rattle.qm_zomega.specs.NumberLists.{meant_at, IsListBy, ReducesBy}
use Rattle.qm_zomega.specs.Range.{IsBelow}
use Rattle.qm_zomega.proofs.SeenLaws.{seen-past}
use Rattle.qm_denot.specs.Circuits.{same_bit}
use Rattle.qm_denot.specs.Places.{has_place}
use Rattle.qm_denot.specs.LettersByPlace.{phase_at, flip_at, had_at, cross_at, sign_at, keep_at, pair_at}
use Rattle.qm_kernels.specs.Done.{AllHeld}
use Rattle.qm_kernels.specs.Below.{AllBelow}

-- ---- one number
pub below-zero : (n : ℕ) → IsBelow n zero_number
below-zero n = let p = pow_pos n in record { a_below = omega (arith, ints, p); b_below = omega (arith, ints, p); c_below = omega (arith, ints, p); d_below = omega (arith, ints, p) }

part_more : (m n : ℕ) (x : ℤ) → m ≤ n → unsigned_abs x < 2 ^ m → unsigned_abs x < 2 ^ n
part_more m n x h l = let p : 2 ^ m ≤ 2 ^ n = pow_mono h in omega (arith, p, l)

pub below-more : (m n : ℕ) (z : Number) → m ≤ n → IsBelow m z → IsBelow n z
below-more m n z h b = record { a_below = part_more m n z.a h b.a_below; b_below = part_more m n z.b h b.b_below; c_below = part_more m n z.c h b.c_below; d_below = part_more m n z.d h b.d_below }

part_negative : (n : ℕ) (x : ℤ) → unsigned_abs x < 2 ^ n → unsigned_abs (neg_ℤ x) < 2 ^ n
part_negative n x l = omega (arith, ints, l)

below-negative : (n : ℕ) (z : Number) → IsBelow n z → IsBelow n (negative z)
unfolding negative
below-negative n z b = record { a_below = part_negative n z.a b.a_below; b_below = part_negative n z.b b.b_below; c_below = part_negative n z.c b.c_below; d_below = part_negative n z.d b.d_below }

below-turned : (n : ℕ) (z : Number) → IsBelow n z → IsBelow n (turned z)
unfolding turned
below-turned n z b = record { a_below = part_negative n z.d b.d_below; b_below = b.a_below; c_below = b.b_below; d_below = b.c_below }

below-omega : (n e : ℕ) (z : Number) → IsBelow n z → IsBelow n (omega_times e z)
below-omega n zero z b = b
below-omega n (suc e) z b = below-turned n _ (below-omega n e z b)

part_sum : (n : ℕ) (x y : ℤ) → unsigned_abs x < 2 ^ n → unsigned_abs y < 2 ^ n → unsigned_abs (x +ℤ y) < 2 ^ (n + 1)
part_sum n x y k l = let p = pow-add 2 n 1 in omega (arith, ints, k, l, p)

part_difference : (n : ℕ) (x y : ℤ) → unsigned_abs x < 2 ^ n → unsigned_abs y < 2 ^ n → unsigned_abs (x -ℤ y) < 2 ^ (n + 1)
part_difference n x y k l = let p = pow-add 2 n 1 in omega (arith, ints, k, l, p)

below-plus : (n : ℕ) (z w : Number) → IsBelow n z → IsBelow n w → IsBelow (n + 1) (z ⊕ w)
unfolding plus
below-plus n z w s t = record { a_below = part_sum n z.a w.a s.a_below t.a_below; b_below = part_sum n z.b w.b s.b_below t.b_below; c_below = part_sum n z.c w.c s.c_below t.c_below; d_below = part_sum n z.d w.d s.d_below t.d_below }

below-minus : (n : ℕ) (z w : Number) → IsBelow n z → IsBelow n w → IsBelow (n + 1) (z ⊖ w)
unfolding minus
below-minus n z w s t = record { a_below = part_difference n z.a w.a s.a_below t.a_below; b_below = part_difference n z.b w.b s.b_below t.b_below; c_below = part_difference n z.c w.c s.c_below t.c_below; d_below = part_difference n z.d w.d s.d_below t.d_below }

part_half : (m : ℕ) (x y : ℤ) → unsigned_abs (x +ℤ y) < m → unsigned_abs (y -ℤ x) < m → unsigned_abs y < m
part_half m x y k l = omega (arith, ints, k, l)

part_other_half : (m : ℕ) (x y : ℤ) → unsigned_abs (x +ℤ y) < m → unsigned_abs (y -ℤ x) < m → unsigned_abs x < m
part_other_half m x y k l = omega (arith, ints, k, l)

part_half_back : (m : ℕ) (x y : ℤ) → unsigned_abs (x +ℤ y) < m → unsigned_abs (x -ℤ y) < m → unsigned_abs y < m
part_half_back m x y k l = omega (arith, ints, k, l)

part_other_half_back : (m : ℕ) (x y : ℤ) → unsigned_abs (x +ℤ y) < m → unsigned_abs (x -ℤ y) < m → unsigned_abs x < m
part_other_half_back m x y k l = omega (arith, ints, k, l)

-- the quotient by root2 has no larger components
below-root2 : (n : ℕ) (z : Number) → IsBelow n (root2_of z) → IsBelow n z
unfolding root2_of
below-root2 n z b = record {
  a_below = part_other_half (2 ^ n) z.a z.c b.b_below b.d_below;
  b_below = part_other_half_back (2 ^ n) z.b z.d b.c_below b.a_below;
  c_below = part_half (2 ^ n) z.a z.c b.b_below b.d_below;
  d_below = part_half_back (2 ^ n) z.b z.d b.c_below b.a_below;
}

pub below-root2_times : (n e : ℕ) (z : Number) → IsBelow n (root2_times e z) → IsBelow n z
below-root2_times n zero z b = b
below-root2_times n (suc e) z b = below-root2_times n e z (below-root2 n _ b)

-- ---- letters
below_cond : (n : ℕ) (b : Bool) (z w : Number) → IsBelow n z → IsBelow n w → IsBelow n (cond b z w)
below_cond n true z w s t = s
below_cond n false z w s t = t

module _ (n : ℕ) (f : ℕ → Number) (all : (i : ℕ) → IsBelow n (f i)) where
  pub below-phase : (k p i : ℕ) → IsBelow n (phase_at k p f i)
  below-phase k p i = below_cond n (has_place p i) _ _ (below-omega n k _ (all i)) (all i)

  pub below-flip : (p i : ℕ) → IsBelow n (flip_at p f i)
  below-flip p i = all _

  pub below-cross : (c t i : ℕ) → IsBelow n (cross_at c t f i)
  below-cross c t i = below_cond n (has_place c i) _ _ (all _) (all i)

  pub below-sign : (p q i : ℕ) → IsBelow n (sign_at p q f i)
  below-sign p q i = below_cond n (has_place p i && has_place q i) _ _ (below-negative n _ (all i)) (all i)

  pub below-keep : (p : ℕ) (m : Bool) (i : ℕ) → IsBelow n (keep_at zero_number p m f i)
  below-keep p m i = below_cond n (same_bit (has_place p i) m) _ _ (all i) (below-zero n)

  pub below-pair : (m i : ℕ) → IsBelow n (pair_at zero_number m f i)
  below-pair m i = below_cond n (same_bit (has_place m i) (has_place (m + 1) i)) _ _ (all _) (below-zero n)

  pub below-had : (p i : ℕ) → IsBelow (n + 1) (had_at p f i)
  below-had p i = below_cond (n + 1) (has_place p i) _ _ (below-minus n _ _ (all _) (all i)) (below-plus n _ _ (all i) (all _))

-- ---- lists
module _ {A : Type 0} (meaning : A → Number) where
  pub everywhere_below : (n : ℕ) (xs : List A) → ((i : ℕ) → i < length xs → IsBelow n (meant_at meaning xs i)) → AllBelow meaning n xs
  everywhere_below n xs each i = elim (cases_lt i (length xs)) [
    | inl lt ↦ each i lt
    | inr le ↦ subst (IsBelow n) (sym (seen-past meaning zero_number xs i le)) (below-zero n)
  ]

  pub made_below : (n m : ℕ) (xs : List A) (g : ℕ → Number) → IsListBy meaning zero_number xs m g → ((i : ℕ) → IsBelow n (g i)) → AllBelow meaning n xs
  made_below n m xs g made all =
      everywhere_below n xs (λ i h. subst (IsBelow n) (sym (made.numbers i (let s = made.size in omega (arith, h, s)))) (all i))

  pub reduced_below : (n : ℕ) (old new : List A) (k m : ℕ) → ReducesBy meaning old k new m → AllBelow meaning n old → AllBelow meaning n new
  reduced_below n old new k m reduces all i = below-root2_times n (k - m) _ (subst (IsBelow n) (sym (reduces.same i)) (all i))

  -- where the double of a bound can be held, what `Had` makes can be held
  pub had_held : (holds : Number → Type 0) (most n : ℕ) → ((z : Number) → IsBelow most z → holds z) → n < most → (xs : List A) → AllBelow meaning n xs
      → (p : ℕ) → AllHeld meaning holds (had_at p) xs
  had_held holds most n held few xs all p i h =
      let l : n + 1 ≤ most = omega arith in
      held _ (below-more (n + 1) most _ l (below-had n _ all p i))
