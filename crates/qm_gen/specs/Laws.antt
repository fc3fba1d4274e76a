-- Each made text is read, and nothing in it is refused
use Rattle.std.specs.Prelude.{ℕ, ◌≤◌, List, length, Ok}
use Rattle.qm_instr.specs.Programs.{Programs, IsInRange}
use Rattle.qm_check.specs.Checks.{IsReady}
use Rattle.qm_limits.specs.declared.TheConstants.{MOST_BYTES}
use Rattle.qm_expand.specs.Reading.{Reads}
use Rattle.qm_gen.specs.declared.GenKind.{GenKind}
use Rattle.qm_seed.specs.Seeds.{seed_words}
use Rattle.qm_gen.specs.Sizes.{IsSize}
use Rattle.qm_gen.specs.Made.{made_text}

-- the text is short enough to be read, and it is that of programs without a fault
pub record IsReadyText (text : List ℕ) : Type 0 where
  pub short : length text ≤ MOST_BYTES
  pub programs : Programs
  pub reads : Reads text (Ok programs)
  pub ready : IsReady programs
  pub in_range : IsInRange programs

-- whatever the kind, the size and the number
abbrev pub MadeReady : Type 0
MadeReady =
    (kind : GenKind) (size number : ℕ) → IsSize kind size
    → IsReadyText (made_text kind size (seed_words number))
