-- Capacities of ranks with unequal sizes, and both sides of each version's bound, by computation
use Rattle.std.specs.Prelude.{◌≡◌, [], ◌∷◌, Some, None, refl}
use Rattle.qm_instr.specs.Programs.{Programs, idle_rank}
use Rattle.qm_check.specs.declared.Fault.TheVariants as fault
use Rattle.qm_check.specs.Checks.{capacity_of, width_fault}

-- three ranks, no two of which have the same sizes
abbrev uneven : Programs
uneven = record {
  version = 2;
  ranks = record idle_rank { qubits = 5; buffer = 4 } ∷ record idle_rank { qubits = 1; buffer = 8 } ∷ record idle_rank { qubits = 2; buffer = 1 } ∷ [];
}

all_sizes : capacity_of uneven ≡ 21
all_sizes = refl

twenty_in_version_1 : width_fault 1 20 ≡ None
twenty_in_version_1 = refl

twenty_one_in_version_1 : width_fault 1 21 ≡ Some (fault.TooWide 21)
twenty_one_in_version_1 = refl

twenty_two_in_version_2 : width_fault 2 22 ≡ None
twenty_two_in_version_2 = refl

twenty_three_in_version_2 : width_fault 2 23 ≡ Some (fault.TooWide 23)
twenty_three_in_version_2 = refl
