-- The capacity of ready programs, for which a store has room
use Rattle.std.proofs.Common.{◌≡◌, ℕ, ◌≤◌, nat_lt, ◌==◌, Bool, true, false, if◌then◌else◌, None, refl, arith}
use Rattle.std.proofs.lemmas.Bool.{ltb-false}
use Rattle.qm_instr.specs.Programs.{Programs}
use Rattle.qm_check.specs.Checks.{IsReady, AllRanks, capacity_of, most_capacity, width_fault}

none_too_wide : (version capacity : ℕ) → width_fault version capacity ≡ None → capacity ≤ most_capacity version
none_too_wide version capacity e = by_test (nat_lt (most_capacity version) capacity) refl
  where
    by_test : (wide : Bool) → nat_lt (most_capacity version) capacity ≡ wide → capacity ≤ most_capacity version
    by_test true w = let too_wide = rw w at e in cc
    by_test false w = ltb-false _ _ w

most_capacity-few : (version : ℕ) → most_capacity version ≤ 22
most_capacity-few version = by_test (version == 1)
  where
    by_test : (first : Bool) → (if first then 20 else 22) ≤ 22
    by_test true = omega arith
    by_test false = omega arith

pub ready_capacity : (p : Programs) → IsReady p → capacity_of p ≤ 22
ready_capacity p ready = omega (arith, none_too_wide p.version (capacity_of p) (ready AllRanks), most_capacity-few p.version)
