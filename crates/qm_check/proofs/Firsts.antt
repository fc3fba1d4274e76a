-- The first fault, found in the order of the sites
use Rattle.std.proofs.Common.{◌≡◌, ℕ, ◌+◌, ◌<◌, ◌≤◌, ◌⊎◌, true, Option, Some, None, is_some, ap, ◌∙◌, ⊎_elim, below_more}
use Rattle.std.proofs.lemmas.Bool.{cases_lt}
use Rattle.std.specs.Option.{option_or}
use Rattle.qm_check.specs.declared.Fault.{Fault}
use Rattle.qm_check.specs.Faults.{IsFirst, IsBelow, IsEarlierStep}

-- the first of the faults at sites below number n, where there is one
abbrev pub IsFoundBelow : (ℕ → Option Fault) → ℕ → Option Fault → Type 0
IsFoundBelow fault_at n None = (k : ℕ) → k < n → fault_at k ≡ None
IsFoundBelow fault_at n (Some f) = IsFirst IsBelow fault_at (Some f)

-- one site more
pub found_more : (fault_at : ℕ → Option Fault) (n : ℕ) (o x : Option Fault)
    → IsFoundBelow fault_at n o → fault_at n ≡ x → IsFoundBelow fault_at (n + 1) (option_or o x)
found_more fault_at n None None found here = below_more (λ (k : ℕ). fault_at k ≡ None) n found here
found_more fault_at n None (Some f) found here = (n, here, found)
found_more fault_at n (Some g) x found here = found

-- no site is left
pub found_all : (fault_at : ℕ → Option Fault) (n : ℕ) (o : Option Fault)
    → IsFoundBelow fault_at n o → ((k : ℕ) → n ≤ k → fault_at k ≡ None)
    → IsFirst IsBelow fault_at o
found_all fault_at n None found past = λ k. ⊎_elim (found k) (past k) (cases_lt k n)
found_all fault_at n (Some f) found past = found

-- no site in a row before number r has a fault
abbrev pub NoneBefore : {A : Type 0} → (ℕ → A → Option Fault) → ℕ → Type 0
NoneBefore {A} fault_at r = (s : ℕ) → s < r → (a : A) → fault_at s a ≡ None

-- the first of the faults in the rows before number r, where there is one
abbrev pub IsFoundInRows : {A : Type 0} → (ℕ × A → ℕ × A → Type 0) → (ℕ → A → Option Fault) → ℕ → Option Fault → Type 0
IsFoundInRows IsBefore fault_at r None = NoneBefore fault_at r
IsFoundInRows IsBefore fault_at r (Some f) = IsFirst IsBefore (λ s. fault_at s.0 s.1) (Some f)

-- sites in rows: one is before another by its row, or in the order of a row
module _ {A : Type 0} (IsEarlier : A → A → Type 0) (IsBefore : ℕ × A → ℕ × A → Type 0)
    (parts : (a b : ℕ × A) → IsBefore a b → (a.0 < b.0) ⊎ ((a.0 ≡ b.0) × IsEarlier a.1 b.1)) (fault_at : ℕ → A → Option Fault) where
  -- the first fault of a row is the first of all, if the rows before it have none
  first_of_row : (r : ℕ) (f : Fault) → IsFirst IsEarlier (fault_at r) (Some f) → NoneBefore fault_at r
      → IsFirst IsBefore (λ s. fault_at s.0 s.1) (Some f)
  first_of_row r f row none =
      let earlier : (b : ℕ × A) → IsBefore b (r, row.0) → fault_at b.0 b.1 ≡ None = λ b e. ⊎_elim (λ lower. none b.0 lower b.1) (λ same. ap (λ (s : ℕ). fault_at s b.1) same.0 ∙ row.2 b.1 same.1) (parts b (r, row.0) e) in
      ((r, row.0), row.1, earlier)

  -- one row more
  pub rows_more : (r : ℕ) (o x : Option Fault) → IsFoundInRows IsBefore fault_at r o → IsFirst IsEarlier (fault_at r) x
      → IsFoundInRows IsBefore fault_at (r + 1) (option_or o x)
  rows_more r None None found row = below_more (λ (s : ℕ). (a : A) → fault_at s a ≡ None) r found row
  rows_more r None (Some f) found row = first_of_row r f row found
  rows_more r (Some g) x found row = found

pub first_in_row : (fault_at : ℕ → ℕ → Option Fault) (r : ℕ) (o : Option Fault)
    → IsFirst IsBelow (fault_at r) o → is_some o ≡ true → NoneBefore fault_at r
    → IsFirst IsEarlierStep (λ s. fault_at s.0 s.1) o
first_in_row fault_at r None row some before = cc
first_in_row fault_at r (Some f) row some before = first_of_row IsBelow IsEarlierStep (λ a b h. h) fault_at r f row before
