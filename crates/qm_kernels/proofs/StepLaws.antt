-- What the steps do to the two halves of a block
use Rattle.std.proofs.Common.{◌≡◌, ℕ, ◌+◌, ◌-◌, ◌*◌, ◌<◌, ◌^◌, Bool, true, false, not, cond, ◌&&◌, inl, inr, List, ◌++◌, length, length-append, refl, sym, ap, ap₂, subst, ◌∙◌, arith}
use mathlib.Core.Path.{fun_ext}
use Rattle.std.proofs.lemmas.Bool.{cases_lt}
use Rattle.qm_zomega.specs.Numbers.{Number, zero_number, ◌⊕◌, ◌⊖◌, negative, omega_times}
use Rattle.qm_zomega.specs.NumberLists.{seen_at, meant_at, IsListBy}
use Rattle.qm_zomega.proofs.Laws.Powers.{omega4}
use Rattle.qm_denot.specs.Circuits.{same_bit}
use Rattle.qm_denot.specs.Places.{has_place, set_place}
use Rattle.qm_denot.specs.LettersByPlace.{phase_at, flip_at, had_at, cross_at, sign_at, keep_at}
use Rattle.qm_kernels.specs.Done.{IsDone, IsComputed, AllHeld}
use Rattle.qm_kernels.specs.IndexLaws.{has_place-above, low_bit, high_bit, low_raised, high_lowered}
use Rattle.qm_kernels.specs.DoneLaws.{seen-front, seen-back, listed_parts}
use Rattle.qm_kernels.specs.LocalLaws.{flip_local}

-- ---- one block
module _ {A B : Type 0} (see : A → B) (past : B) (p : ℕ) (low high low2 high2 : List A)
    (low_half : length low ≡ 2 ^ p) (high_half : length high ≡ 2 ^ p) (low_same : length low2 ≡ length low) (high_same : length high2 ≡ length high) where
  abbrev block : ℕ → B
  block = seen_at see past (low ++ high)

  pub block-low : (i : ℕ) → i < 2 ^ p → block i ≡ seen_at see past low i
  block-low i h = seen-front see past low high i (omega arith)

  pub block-high : (r : ℕ) → block (2 ^ p + r) ≡ seen_at see past high r
  block-high r = seen-back see past low high (2 ^ p) r low_half

  halves_done : (op : (ℕ → B) → ℕ → B) → ((i : ℕ) → i < 2 ^ p → seen_at see past low2 i ≡ op block i) → ((r : ℕ) → r < 2 ^ p → seen_at see past high2 r ≡ op block (2 ^ p + r))
      → IsDone see past op (low ++ high) (low2 ++ high2)
  halves_done op at_low at_high =
      let sum : length (low ++ high) ≡ 2 ^ p + 2 ^ p = omega (arith, length-append low high) in
      rw sum (listed_parts see past low2 high2 (2 ^ p) (2 ^ p) (op block) (omega arith) (omega arith) at_low at_high)

  -- the halves change places
  pub swap_done : low2 ≡ high → high2 ≡ low → IsDone see past (flip_at p) (low ++ high) (low2 ++ high2)
  swap_done e f = halves_done (flip_at p)
      (λ i h.
      let bit = low_bit p i h in
      let up = low_raised p i h in
      ap (λ zs. seen_at see past zs i) e ∙ sym (block-high i) ∙ ap block (sym up) ∙ ap (λ b. block (set_place p (not b) i)) (sym bit))
      (λ r h.
      let bit = high_bit p r h in
      let down = high_lowered p r h in
      ap (λ zs. seen_at see past zs r) f ∙ sym (block-low r h) ∙ ap block (sym down) ∙ ap (λ b. block (set_place p (not b) (2 ^ p + r))) (sym bit))

  -- one half is cleared
  pub clear_done : (o : B) (m : Bool) → ((i : ℕ) → i < 2 ^ p → seen_at see past low2 i ≡ cond m o (seen_at see past low i))
      → ((r : ℕ) → r < 2 ^ p → seen_at see past high2 r ≡ cond m (seen_at see past high r) o)
      → IsDone see past (keep_at o p m) (low ++ high) (low2 ++ high2)
  clear_done o m at_low at_high = halves_done (keep_at o p m)
      (λ i h. at_low i h ∙ ap (cond m o) (sym (block-low i h)) ∙ as_not m (block i) ∙ ap (λ b. cond (same_bit b m) (block i) o) (sym (low_bit p i h)))
      (λ r h. at_high r h ∙ ap (λ z. cond m z o) (sym (block-high r)) ∙ ap (λ b. cond (same_bit b m) (block (2 ^ p + r)) o) (sym (high_bit p r h)))
    where
      as_not : (m : Bool) (z : B) → cond m o z ≡ cond (not m) z o
      as_not true z = refl
      as_not false z = refl

  -- entries with the bit of place c change places
  pub exchange_done : (c : ℕ) → c < p
      → ((i : ℕ) → i < 2 ^ p → seen_at see past low2 i ≡ cond (has_place c i) (seen_at see past high i) (seen_at see past low i))
      → ((r : ℕ) → r < 2 ^ p → seen_at see past high2 r ≡ cond (has_place c r) (seen_at see past low r) (seen_at see past high r))
      → IsDone see past (cross_at c p) (low ++ high) (low2 ++ high2)
  exchange_done c below at_low at_high = halves_done (cross_at c p)
      (λ i h.
      let bit = low_bit p i h in
      let up = low_raised p i h in
      at_low i h
      ∙ ap₂ (λ y z. cond (has_place c i) y z) (sym (block-high i) ∙ ap block (sym up) ∙ ap (λ b. block (set_place p (not b) i)) (sym bit)) (sym (block-low i h)))
      (λ r h.
      let bit = high_bit p r h in
      let down = high_lowered p r h in
      let k = 2 ^ p + r in
      let one : 1 * 2 ^ p + r ≡ k = omega arith in
      let other : has_place c k ≡ has_place c r = subst (λ n. has_place c n ≡ has_place c r) one (has_place-above c p 1 r below) in
      at_high r h
      ∙ ap₂ (λ y z. cond (has_place c r) y z) (sym (block-low r h) ∙ ap block (sym down) ∙ ap (λ b. block (set_place p (not b) k)) (sym bit)) (sym (block-high r))
      ∙ ap (λ b. cond b (flip_at p block k) (block k)) (sym other))

  -- the upper half is flipped at place t
  pub cross_done : (t : ℕ) → t < p → low2 ≡ low → IsDone see past (flip_at t) high high2 → IsDone see past (cross_at p t) (low ++ high) (low2 ++ high2)
  cross_done t below same done = halves_done (cross_at p t)
      (λ i h. ap (λ zs. seen_at see past zs i) same ∙ sym (block-low i h) ∙ ap (λ b. cond b (flip_at t block i) (block i)) (sym (low_bit p i h)))
      (λ r h.
      let k = 2 ^ p + r in
      let up : (λ (j : ℕ). block (1 * 2 ^ p + j)) ≡ seen_at see past high = fun_ext (λ j. let n : 1 * 2 ^ p + j ≡ 2 ^ p + j = omega arith in rw n (block-high j)) in
      let one : 1 * 2 ^ p + r ≡ k = omega arith in
      done.numbers r (omega arith) ∙ ap (λ (f : ℕ → B). flip_at t f r) (sym up) ∙ sym ((flip_local p t below).shifted block 1 r) ∙ ap (flip_at t block) one
      ∙ ap (λ b. cond b (flip_at t block k) (block k)) (sym (high_bit p r h)))

module _ {A : Type 0} (meaning : A → Number) (p : ℕ) (low high low2 high2 : List A)
    (low_half : length low ≡ 2 ^ p) (high_half : length high ≡ 2 ^ p) where
  abbrev whole : ℕ → Number
  whole = meant_at meaning (low ++ high)

  at_low : (i : ℕ) → i < 2 ^ p → whole i ≡ meant_at meaning low i
  at_low i h = seen-front meaning zero_number low high i (omega arith)

  at_high : (r : ℕ) → whole (2 ^ p + r) ≡ meant_at meaning high r
  at_high r = seen-back meaning zero_number low high (2 ^ p) r low_half

  in_halves : (op : (ℕ → Number) → ℕ → Number) → length low2 ≡ 2 ^ p → length high2 ≡ 2 ^ p
      → ((i : ℕ) → i < 2 ^ p → meant_at meaning low2 i ≡ op whole i) → ((r : ℕ) → r < 2 ^ p → meant_at meaning high2 r ≡ op whole (2 ^ p + r))
      → IsComputed meaning op (low ++ high) (low2 ++ high2)
  in_halves op size_low size_high first second =
      let sum : length (low ++ high) ≡ 2 ^ p + 2 ^ p = omega (arith, length-append low high) in
      rw sum (listed_parts meaning zero_number low2 high2 (2 ^ p) (2 ^ p) (op whole) size_low size_high first second)

  -- the upper half is turned
  pub turn_done : (k : ℕ) → low2 ≡ low → IsListBy meaning zero_number high2 (length high) (λ i. omega_times k (meant_at meaning high i))
      → IsComputed meaning (phase_at k p) (low ++ high) (low2 ++ high2)
  turn_done k same done = in_halves (phase_at k p) (ap length same ∙ low_half) (done.size ∙ high_half)
      (λ i h. ap (λ zs. meant_at meaning zs i) same ∙ sym (at_low i h) ∙ ap (λ b. cond b (omega_times k (whole i)) (whole i)) (sym (low_bit p i h)))
      (λ r h.
      done.numbers r (omega arith) ∙ ap (omega_times k) (sym (at_high r))
      ∙ ap (λ b. cond b (omega_times k (whole (2 ^ p + r))) (whole (2 ^ p + r))) (sym (high_bit p r h)))

  -- the upper half has a sign at place q
  pub sign_done : (q : ℕ) → q < p → low2 ≡ low → IsComputed meaning (phase_at 4 q) high high2 → IsComputed meaning (sign_at p q) (low ++ high) (low2 ++ high2)
  sign_done q below same done = in_halves (sign_at p q) (ap length same ∙ low_half) (done.size ∙ high_half)
      (λ i h. ap (λ zs. meant_at meaning zs i) same ∙ sym (at_low i h) ∙ ap (λ b. cond (b && has_place q i) (negative (whole i)) (whole i)) (sym (low_bit p i h)))
      (λ r h.
      let k = 2 ^ p + r in
      let one : 1 * 2 ^ p + r ≡ k = omega arith in
      let other : has_place q k ≡ has_place q r = subst (λ n. has_place q n ≡ has_place q r) one (has_place-above q p 1 r below) in
      let z = meant_at meaning high r in
      done.numbers r (omega arith) ∙ ap (λ y. cond (has_place q r) y z) (omega4 z)
      ∙ ap (λ y. cond (has_place q r) (negative y) y) (sym (at_high r))
      ∙ ap₂ (λ a b. cond (a && b) (negative (whole k)) (whole k)) (sym (high_bit p r h)) (sym other))

  -- sums below, differences above
  sum_at : (i : ℕ) → i < 2 ^ p → meant_at meaning low i ⊕ meant_at meaning high i ≡ had_at p whole i
  sum_at i h =
      ap₂ (λ y z. y ⊕ z) (sym (at_low i h)) (sym (at_high i) ∙ ap whole (sym (low_raised p i h)))
      ∙ ap (λ b. cond b (whole (set_place p false i) ⊖ whole i) (whole i ⊕ whole (set_place p true i))) (sym (low_bit p i h))

  difference_at : (r : ℕ) → r < 2 ^ p → meant_at meaning low r ⊖ meant_at meaning high r ≡ had_at p whole (2 ^ p + r)
  difference_at r h =
      let k = 2 ^ p + r in
      ap₂ (λ y z. y ⊖ z) (sym (at_low r h) ∙ ap whole (sym (high_lowered p r h))) (sym (at_high r))
      ∙ ap (λ b. cond b (whole (set_place p false k) ⊖ whole k) (whole k ⊕ whole (set_place p true k))) (sym (high_bit p r h))

  pub mix_done : IsListBy meaning zero_number low2 (length low) (λ i. meant_at meaning low i ⊕ meant_at meaning high i)
      → IsListBy meaning zero_number high2 (length low) (λ i. meant_at meaning low i ⊖ meant_at meaning high i)
      → IsComputed meaning (had_at p) (low ++ high) (low2 ++ high2)
  mix_done sums differences = in_halves (had_at p) (sums.size ∙ low_half) (differences.size ∙ low_half)
      (λ i h. sums.numbers i (omega arith) ∙ sum_at i h) (λ r h. differences.numbers r (omega arith) ∙ difference_at r h)

  -- and each fits exactly where the sums and differences do
  pub mix_held : (holds : Number → Type 0) → AllHeld meaning holds (had_at p) (low ++ high) → (i : ℕ) → i < length low
      → holds (meant_at meaning low i ⊕ meant_at meaning high i) × holds (meant_at meaning low i ⊖ meant_at meaning high i)
  mix_held holds all i h =
      let size = length-append low high in
      (subst holds (sym (sum_at i (omega arith))) (all i (omega arith)), subst holds (sym (difference_at i (omega arith))) (all (2 ^ p + i) (omega arith)))

  pub held_mix : (holds : Number → Type 0)
      → ((i : ℕ) → i < length low → holds (meant_at meaning low i ⊕ meant_at meaning high i) × holds (meant_at meaning low i ⊖ meant_at meaning high i))
      → AllHeld meaning holds (had_at p) (low ++ high)
  held_mix holds each i h = elim (cases_lt i (2 ^ p)) [
    | inl lt ↦ subst holds (sum_at i lt) (each i (omega arith)).0
    | inr le ↦
        let r = i - 2 ^ p in
        let size = length-append low high in
        let small : r < 2 ^ p = omega arith in
        let back : 2 ^ p + r ≡ i = omega arith in
        subst (λ j. holds (had_at p whole j)) back (subst holds (difference_at r small) (each r (omega arith)).1)
  ]
