-- What is done to two lists of blocks is done to both together, letter by letter
use Rattle.std.proofs.Common.{◌≡◌, ℕ, suc, ◌*◌, ◌<◌, ◌^◌, Bool, List, ◌++◌, length, sym, ◌∙◌, arith}
use Rattle.std.proofs.Math.Nat.{pow-suc}
use Rattle.qm_zomega.specs.Numbers.{Number, zero_number}
use Rattle.qm_denot.specs.LettersByPlace.{phase_at, flip_at, had_at, cross_at, sign_at, keep_at}
use Rattle.qm_kernels.specs.Done.{IsDone, IsMoved, IsComputed, AllHeld}
use Rattle.qm_kernels.specs.DoneLaws.{IsLocal, done_joined, parts_held, both_held}
use Rattle.qm_kernels.specs.LocalLaws.{flip_local, phase_local, had_local, cross_local, sign_local, keep_local}

-- a block of place p has 2^(p + 1) entries
block_size : (m p n : ℕ) → n ≡ m * (2 * 2 ^ p) → n ≡ m * 2 ^ suc p
block_size m p n e = let q = pow-suc 2 p in let r : m * (2 ^ p * 2) ≡ m * (2 * 2 ^ p) = omega arith in rw q (e ∙ sym r)

module _ {A B : Type 0} (see : A → B) (past : B) (p : ℕ) (op : (ℕ → B) → ℕ → B) (local : IsLocal (2 ^ suc p) op) where
  pub blocks_joined : (m : ℕ) (xs ys us vs : List A) → length xs ≡ m * (2 * 2 ^ p) → IsDone see past op xs us → IsDone see past op ys vs
      → IsDone see past op (xs ++ ys) (us ++ vs)
  blocks_joined m xs ys us vs size = done_joined see past (2 ^ suc p) op local m xs ys us vs (block_size m p _ size)

module _ {A : Type 0} (meaning : A → Number) (holds : Number → Type 0) (p : ℕ) where
  pub blocks_held : (m : ℕ) (xs ys : List A) → length xs ≡ m * (2 * 2 ^ p) → AllHeld meaning holds (had_at p) (xs ++ ys)
      → AllHeld meaning holds (had_at p) xs × AllHeld meaning holds (had_at p) ys
  blocks_held m xs ys size =
      parts_held meaning zero_number (2 ^ suc p) (had_at p) (had_local (suc p) p (omega arith)) holds m xs ys (block_size m p _ size)

-- ---- the laws of the steps
module _ {A : Type 0} (p : ℕ) where
  pub flip_joined : (m : ℕ) (xs ys us vs : List A) → length xs ≡ m * (2 * 2 ^ p) → length us ≡ length xs
      → IsMoved (flip_at p) xs us → IsMoved (flip_at p) ys vs
      → IsMoved (flip_at p) (xs ++ ys) (us ++ vs)
  flip_joined m xs ys us vs size same first second =
      λ past. blocks_joined (λ x. x) past p (flip_at p) (flip_local (suc p) p (omega arith)) m xs ys us vs size (first past) (second past)

  pub keep_joined : (o : A) (b : Bool) (m : ℕ) (xs ys us vs : List A) → length xs ≡ m * (2 * 2 ^ p) → length us ≡ length xs
      → IsMoved (keep_at o p b) xs us → IsMoved (keep_at o p b) ys vs → IsMoved (keep_at o p b) (xs ++ ys) (us ++ vs)
  keep_joined o b m xs ys us vs size same first second =
      λ past. blocks_joined (λ x. x) past p (keep_at o p b) (keep_local (suc p) o p b (omega arith)) m xs ys us vs size
      (first past) (second past)

  pub cross_joined : (c t : ℕ) → c < suc p → t < suc p → (m : ℕ) (xs ys us vs : List A)
      → length xs ≡ m * (2 * 2 ^ p) → length us ≡ length xs
      → IsMoved (cross_at c t) xs us → IsMoved (cross_at c t) ys vs → IsMoved (cross_at c t) (xs ++ ys) (us ++ vs)
  cross_joined c t hc ht m xs ys us vs size same first second =
      λ past. blocks_joined (λ x. x) past p (cross_at c t) (cross_local (suc p) c t hc ht) m xs ys us vs size (first past) (second past)

  module _ (meaning : A → Number) where
    pub phase_joined : (k m : ℕ) (xs ys us vs : List A) → length xs ≡ m * (2 * 2 ^ p) → length us ≡ length xs
        → IsComputed meaning (phase_at k p) xs us → IsComputed meaning (phase_at k p) ys vs
        → IsComputed meaning (phase_at k p) (xs ++ ys) (us ++ vs)
    phase_joined k m xs ys us vs size same =
        blocks_joined meaning zero_number p (phase_at k p) (phase_local (suc p) k p (omega arith)) m xs ys us vs size

    pub sign_joined : (q : ℕ) → q < p → (m : ℕ) (xs ys us vs : List A) → length xs ≡ m * (2 * 2 ^ p) → length us ≡ length xs
        → IsComputed meaning (sign_at p q) xs us → IsComputed meaning (sign_at p q) ys vs
        → IsComputed meaning (sign_at p q) (xs ++ ys) (us ++ vs)
    sign_joined q h m xs ys us vs size same =
        blocks_joined meaning zero_number p (sign_at p q) (sign_local (suc p) p q (omega arith) (omega arith)) m xs ys us vs size

    pub had_joined : (m : ℕ) (xs ys us vs : List A) → length xs ≡ m * (2 * 2 ^ p) → length us ≡ length xs
        → IsComputed meaning (had_at p) xs us → IsComputed meaning (had_at p) ys vs → IsComputed meaning (had_at p) (xs ++ ys) (us ++ vs)
    had_joined m xs ys us vs size same =
        blocks_joined meaning zero_number p (had_at p) (had_local (suc p) p (omega arith)) m xs ys us vs size

-- the two cases of `Cx`: the control at the higher place, or the target
pub upper_joined : {A : Type 0} (c t m : ℕ) (xs ys us vs : List A) → length xs ≡ m * (2 * 2 ^ c) → length us ≡ length xs
    → (t < c → IsMoved (cross_at c t) xs us) → (t < c → IsMoved (cross_at c t) ys vs) → t < c → IsMoved (cross_at c t) (xs ++ ys) (us ++ vs)
upper_joined c t m xs ys us vs size same first second below =
    cross_joined c c t (omega arith) (omega arith) m xs ys us vs size same (first below) (second below)

pub lower_joined : {A : Type 0} (c t m : ℕ) (xs ys us vs : List A) → length xs ≡ m * (2 * 2 ^ t) → length us ≡ length xs
    → (c < t → IsMoved (cross_at c t) xs us) → (c < t → IsMoved (cross_at c t) ys vs) → c < t → IsMoved (cross_at c t) (xs ++ ys) (us ++ vs)
lower_joined c t m xs ys us vs size same first second below =
    cross_joined t c t (omega arith) (omega arith) m xs ys us vs size same (first below) (second below)

-- what is held in two lists of blocks is held in both together
pub held_joined : {A : Type 0} (meaning : A → Number) (holds : Number → Type 0) (p m : ℕ) (xs ys : List A) → length xs ≡ m * (2 * 2 ^ p)
    → AllHeld meaning holds (had_at p) xs → AllHeld meaning holds (had_at p) ys → AllHeld meaning holds (had_at p) (xs ++ ys)
held_joined meaning holds p m xs ys size first second =
    both_held meaning zero_number (2 ^ suc p) (had_at p) (had_local (suc p) p (omega arith)) holds m xs ys (block_size m p _ size)
    first second

-- `Cz`, with the place q below p
pub below_joined : {A : Type 0} (meaning : A → Number) (p q m : ℕ) (xs ys us vs : List A)
    → length xs ≡ m * (2 * 2 ^ p) → length us ≡ length xs
    → (q < p → IsComputed meaning (sign_at p q) xs us) → (q < p → IsComputed meaning (sign_at p q) ys vs)
    → q < p → IsComputed meaning (sign_at p q) (xs ++ ys) (us ++ vs)
below_joined meaning p q m xs ys us vs size same first second below =
    sign_joined p meaning q below m xs ys us vs size same (first below) (second below)
