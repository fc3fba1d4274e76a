-- What an operation on entries by index makes of a list
use Rattle.std.specs.Prelude.{◌≡◌, ℕ, ◌*◌, ◌<◌, ◌≤◌, Bool, List, length, cond}
use Rattle.qm_denot.specs.LettersByPlace.{take_at}
use Rattle.qm_denot.specs.Places.{has_place}
use Rattle.qm_zomega.specs.Numbers.{Number, zero_number}
use Rattle.qm_zomega.specs.NumberLists.{seen_at, meant_at, IsListBy}

-- seen so, new is old with the operation done
abbrev pub IsDone : {A B : Type 0} → (A → B) → B → ((ℕ → B) → ℕ → B) → List A → List A → Type 0
IsDone see past op old new = IsListBy see past new (length old) (op (seen_at see past old))

-- new is old with the operation done, whatever stands past the end
abbrev pub IsMoved : {A : Type 0} → ((ℕ → A) → ℕ → A) → List A → List A → Type 0
IsMoved {A} op old new = (past : A) → IsDone (λ x. x) past op old new

-- the numbers of new are those of old with the operation done
abbrev pub IsComputed : {A : Type 0} → (A → Number) → ((ℕ → Number) → ℕ → Number) → List A → List A → Type 0
IsComputed meaning op old new = IsDone meaning zero_number op old new

-- each number that the operation makes of the list is one of those that can be held
abbrev pub AllHeld : {A : Type 0} → (A → Number) → (Number → Type 0) → ((ℕ → Number) → ℕ → Number) → List A → Type 0
AllHeld meaning holds op xs = (i : ℕ) → i < length xs → holds (op (meant_at meaning xs) i)

-- how far a loop that writes a list entry by entry has come: before index i stands g, and from there on what was there
pub record WrittenTo {A B : Type 0} (see : A → B) (past : B) (g : ℕ → B) (old now : List A) (i : ℕ) : Type 0 where
  pub size : length now ≡ length old
  pub before : (j : ℕ) → j < i → seen_at see past now j ≡ g j
  pub after : (j : ℕ) → i ≤ j → seen_at see past now j ≡ seen_at see past old j

-- how far a loop that exchanges the entries of two lists where they have the bit of a place has come, in the first of them
pub record ExchangedTo {A : Type 0} (past : A) (place : ℕ) (one other now : List A) (start : ℕ) : Type 0 where
  pub size : length now ≡ length one
  pub before : (i : ℕ) → i < start
      → seen_at (λ x. x) past now i ≡ cond (has_place place i) (seen_at (λ x. x) past other i) (seen_at (λ x. x) past one i)
  pub after : (i : ℕ) → start ≤ i → seen_at (λ x. x) past now i ≡ seen_at (λ x. x) past one i

-- new is the first of two lists whose entries changed places where they have the bit of a place
pub record IsExchanged {A : Type 0} (place : ℕ) (one other new : List A) : Type 0 where
  pub size : length new ≡ length one
  pub entries : (past : A) (i : ℕ) → i < length one
      → seen_at (λ x. x) past new i ≡ cond (has_place place i) (seen_at (λ x. x) past other i) (seen_at (λ x. x) past one i)

-- how far a loop that gathers the entries whose place is m has come: start of them stand in front, and those to come are as they were
pub record GatheredTo {A : Type 0} (past : A) (place : ℕ) (m : Bool) (old now : List A) (start : ℕ) : Type 0 where
  pub before : (i : ℕ) → i < start → seen_at (λ x. x) past now i ≡ take_at place m (seen_at (λ x. x) past old) i
  pub after : (i : ℕ) → 2 * start ≤ i → seen_at (λ x. x) past now i ≡ seen_at (λ x. x) past old i
