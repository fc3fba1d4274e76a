-- The words of a seed
use Rattle.std.specs.Prelude.{ℕ, zero, suc}
use Rattle.rand_pcg.specs.Lcg.{Lcg, started, increment_of}
use Rattle.rand_pcg.specs.Pcg.{multiplier_64, pcg32}

-- numbers without end
abbrev pub Words : Type 0
Words = ℕ → ℕ

-- the words after the first one
abbrev pub words_after : Words → Words
words_after w k = w (suc k)

-- the words that a generator gives, one after another
abbrev pub words_of : Lcg → Words
words_of g zero = (pcg32 g).0
words_of g (suc k) = words_of (pcg32 g).1 k

-- the generator of a seed, on stream 1
abbrev pub generator_of : ℕ → Lcg
generator_of seed = started 64 multiplier_64 seed (increment_of 64 1)

-- the words of a seed
abbrev pub seed_words : ℕ → Words
seed_words seed = words_of (generator_of seed)
