-- The outcomes that words give
use Rattle.std.specs.Prelude.{ℕ, zero, suc, ◌%◌, ◌==◌, Bool, if◌then◌else◌, List, [], ◌∷◌, map}
use Rattle.qm_seed.specs.Seeds.{Words, words_after}

-- the words after so many
abbrev pub words_past : ℕ → Words → Words
words_past zero w = w
words_past (suc n) w = words_past n (words_after w)

-- the outcome of a word is its lowest bit
abbrev pub outcome_of : ℕ → Bool
outcome_of word = word % 2 == 1

-- the outcomes of so many words
abbrev pub outcomes : ℕ → Words → List Bool
outcomes zero w = []
outcomes (suc n) w = outcome_of (w 0) ∷ outcomes n (words_after w)

-- outcomes are written as digits
abbrev pub outcome_digit : Bool → ℕ
outcome_digit m = if m then 49 else 48

abbrev pub outcome_digits : List Bool → List ℕ
outcome_digits ms = map outcome_digit ms
