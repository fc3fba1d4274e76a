-- What is assumed where the books are read beside the programs
use Rattle.std.specs.Prelude.{◌≡◌, ℕ, ◌<◌, length}
use Rattle.qm_instr.specs.Programs.{Programs}
use Rattle.qm_check.specs.Checks.{IsReady}
use Rattle.qm_proto.specs.declared.Rule.{Rule}
use Rattle.qm_proto.specs.declared.Rule.TheVariants.{Always, PairRoom, Engaged, Filled}
use Rattle.qm_machine.specs.declared.books.Books.{Books}
use Rattle.qm_machine.specs.Facts.{sizes_of}
use Rattle.qm_machine.specs.Views.{rank_count, sizes}

-- the rank whose buffer or place a rule asks about is below n
abbrev pub IsRuleKnown : ℕ → Rule → Type 0
IsRuleKnown n Always = Unit {0}
IsRuleKnown n (PairRoom a) = a.to < n
IsRuleKnown n (Engaged a) = a.to < n
IsRuleKnown n (Filled a) = Unit {0}

-- r is one of the programs' ranks, of which the books have as many
pub record IsRank (p : Programs) (b : Books) (r : ℕ) : Type 0 where
  pub known : r < length p.ranks
  pub same : rank_count b ≡ length p.ranks

-- the programs are ready, and the books have as many ranks, with buffers of their sizes
pub record AreRanks (p : Programs) (b : Books) : Type 0 where
  pub ready : IsReady p
  pub same : rank_count b ≡ length p.ranks
  pub sizes : sizes b ≡ sizes_of p

-- r is one of the ranks of ready programs, of which the books have as many, with buffers of their sizes
pub record IsReadyRank (p : Programs) (b : Books) (r : ℕ) : Type 0 where
  pub ready : IsReady p
  pub known : r < length p.ranks
  pub same : rank_count b ≡ length p.ranks
  pub sizes : sizes b ≡ sizes_of p

-- the rank that a rule asks about is one of the programs', of which the books have as many, with buffers of their sizes
pub record IsRuleRead (p : Programs) (b : Books) (rule : Rule) : Type 0 where
  pub known : IsRuleKnown (length p.ranks) rule
  pub same : rank_count b ≡ length p.ranks
  pub sizes : sizes b ≡ sizes_of p
