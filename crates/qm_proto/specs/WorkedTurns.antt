-- Orders of turns that were worked out by hand
use Rattle.std.specs.Prelude.{[], ◌∷◌}
use Rattle.std.proofs.Common.{zero, suc}
use Rattle.qm_proto.specs.WorkedPrograms.{three_programs}
use Rattle.qm_proto.specs.Model.Orders.{Words, IsOrderFrom}
use Rattle.qm_proto.specs.Model.Schedules.{state_at_start}

-- words that are all 4
abbrev pub words_of_four : Words
words_of_four k = 4

-- the words 5, 1, and then 0
abbrev pub falling_words : Words
falling_words zero = 5
falling_words (suc zero) = 1
falling_words (suc (suc k)) = 0

-- with three ranks the word 4 begins at rank 1, goes on to rank 2, and round to rank 0; each turn takes the next word
pub record WorkedTurns : Type 0 where
  pub around : IsOrderFrom three_programs (state_at_start three_programs) words_of_four (1 ∷ 2 ∷ 0 ∷ [])
  pub by_words : IsOrderFrom three_programs (state_at_start three_programs) falling_words (2 ∷ 1 ∷ 0 ∷ [])
