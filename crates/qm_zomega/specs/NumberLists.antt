-- Lists that stand for numbers of Z[omega], and vectors over powers of root2
use Rattle.std.specs.Prelude.{◌≡◌, ◌≢◌, ℕ, ◌-◌, ◌<◌, ◌≤◌, List, [], ◌∷◌, length}
use Rattle.std.proofs.Common.{zero, suc}
use Rattle.qm_zomega.specs.declared.Zw.{Zw}
use Rattle.qm_zomega.specs.Numbers.{Number, zero_number, root2_times, IsDivisible}
use Rattle.qm_zomega.specs.Zw.{value_of}

-- what the entry at index k is seen as, and `past` past the end
abbrev pub seen_at : {A B : Type 0} → (A → B) → B → List A → ℕ → B
seen_at see past [] k = past
seen_at see past (x ∷ xs) zero = see x
seen_at see past (x ∷ xs) (suc k) = seen_at see past xs k

-- the number at index k of a list whose entries have this meaning, and zero past the end
abbrev pub meant_at : {A : Type 0} → (A → Number) → List A → ℕ → Number
meant_at meaning zs k = seen_at meaning zero_number zs k

-- the number at index k, and zero past the end
abbrev pub number_at : List Zw → ℕ → Number
number_at zs k = meant_at value_of zs k

-- seen so, xs is the list of n entries whose k-th is g k
pub record IsListBy {A B : Type 0} (see : A → B) (past : B) (xs : List A) (n : ℕ) (g : ℕ → B) : Type 0 where
  pub size : length xs ≡ n
  pub numbers : (k : ℕ) → k < n → seen_at see past xs k ≡ g k

-- zs is the list of n numbers whose k-th is g k
abbrev pub IsListOf : List Zw → ℕ → (ℕ → Number) → Type 0
IsListOf zs n g = IsListBy value_of zero_number zs n g

-- root2 divides every number
abbrev pub AreDivisible : (ℕ → Number) → Type 0
AreDivisible f = (i : ℕ) → IsDivisible (f i)

-- the exponent is 0, or root2 does not divide every number
abbrev pub AreReduced : (ℕ → Number) → ℕ → Type 0
AreReduced f k = k ≢ 0 → ¬ (AreDivisible f)

-- root2 divides every number of the list
abbrev pub AllDivisible : List Zw → Type 0
AllDivisible zs = AreDivisible (number_at zs)

-- the list over root2^k is reduced
abbrev pub IsReducedList : List Zw → ℕ → Type 0
IsReducedList zs k = AreReduced (number_at zs) k

-- entries with this meaning: new over root2^m is old over root2^k, reduced
pub record ReducesBy {A : Type 0} (meaning : A → Number) (old : List A) (k : ℕ) (new : List A) (m : ℕ) : Type 0 where
  pub size : length new ≡ length old
  pub lower : m ≤ k
  pub same : (i : ℕ) → root2_times (k - m) (meant_at meaning new i) ≡ meant_at meaning old i
  pub reduced : AreReduced (meant_at meaning new) m

-- new over root2^m is old over root2^k, reduced
abbrev pub Reduces : List Zw → ℕ → List Zw → ℕ → Type 0
Reduces old k new m = ReducesBy value_of old k new m
