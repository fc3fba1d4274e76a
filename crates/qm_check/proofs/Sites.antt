-- The first fault of all, from the first of each kind of sites
use Rattle.std.proofs.Common.{◌≡◌, ℕ, ◌<◌, ◌≤◌, ◌⊎◌, Bool, Option, Some, None, inl, inr, arith}
use Rattle.std.specs.Option.{option_or}
use Rattle.qm_instr.specs.declared.Lane.{Lane}
use Rattle.qm_instr.specs.Programs.{Programs}
use Rattle.qm_check.specs.declared.Fault.{Fault}
use Rattle.qm_check.specs.Faults.{IsFirst, IsEarlierStep, IsEarlierTape}
use Rattle.qm_check.specs.Messages.{IsLower, lane_fault}
use Rattle.qm_check.specs.Slots.{step_fault}
use Rattle.qm_check.specs.Tapes.{tape_fault}
use Rattle.qm_check.specs.Checks.{Site, AllRanks, AtInstr, OnLane, OnTape, fault_at, IsBefore}

-- what is so of each site, by its kind
by_kind : (P : Site → Type 0) → P AllRanks → ((s : ℕ × ℕ) → P (AtInstr s.0 s.1)) → ((a : Lane) → P (OnLane a))
    → ((t : ℕ × Bool) → P (OnTape t.0 t.1)) → (a : Site) → P a
by_kind P all step lane tape AllRanks = all
by_kind P all step lane tape (AtInstr r k) = step (r, k)
by_kind P all step lane tape (OnLane a) = lane a
by_kind P all step lane tape (OnTape r own) = tape (r, own)

-- a site of stage m is before one of stage n, which isn't higher, only by the order of their kind
not_lower : {A X : Type 0} (m n : ℕ) → n ≤ m → (A → X) → (m < n) ⊎ A → X
not_lower m n few alike (inl lower) = absurd (omega arith)
not_lower m n few alike (inr before) = alike before

module _ (p : Programs) where
  -- where site b is before site a, it has no fault
  abbrev IsPassed : Site → Site → Type 0
  IsPassed a b = IsBefore b a → fault_at p b ≡ None

  -- the first fault of all
  pub first_of_all : (w s l t : Option Fault) → fault_at p AllRanks ≡ w
      → IsFirst IsEarlierStep (λ x. step_fault p x.0 x.1) s → IsFirst IsLower (lane_fault p) l
      → IsFirst IsEarlierTape (λ x. tape_fault p x.0 x.1) t
      → IsFirst IsBefore (fault_at p) (option_or (option_or (option_or w s) l) t)
  first_of_all (Some f) s l t width steps lanes tapes =
      let after : (b : Site) → IsPassed AllRanks b = by_kind (IsPassed AllRanks) (not_lower 0 0 (omega arith) absurd) (λ x. not_lower 1 0 (omega arith) absurd) (λ x. not_lower 2 0 (omega arith) absurd) (λ x. not_lower 3 0 (omega arith) absurd) in
      (AllRanks, width, after)
  first_of_all None (Some f) l t width steps lanes tapes =
      let here = AtInstr steps.0.0 steps.0.1 in
      let passed : (b : Site) → IsPassed here b = by_kind (IsPassed here) (λ _. width) (λ x. not_lower 1 1 (omega arith) (steps.2 x)) (λ x. not_lower 2 1 (omega arith) absurd) (λ x. not_lower 3 1 (omega arith) absurd) in
      (here, steps.1, passed)
  first_of_all None None (Some f) t width steps lanes tapes =
      let here = OnLane lanes.0 in
      let passed : (b : Site) → IsPassed here b = by_kind (IsPassed here) (λ _. width) (λ x _. steps x) (λ a. not_lower 2 2 (omega arith) (lanes.2 a)) (λ x. not_lower 3 2 (omega arith) absurd) in
      (here, lanes.1, passed)
  first_of_all None None None (Some f) width steps lanes tapes =
      let here = OnTape tapes.0.0 tapes.0.1 in
      let passed : (b : Site) → IsPassed here b = by_kind (IsPassed here) (λ _. width) (λ x _. steps x) (λ a _. lanes a) (λ x. not_lower 3 3 (omega arith) (tapes.2 x)) in
      (here, tapes.1, passed)
  first_of_all None None None None width steps lanes tapes = by_kind (λ a. fault_at p a ≡ None) width steps lanes tapes
