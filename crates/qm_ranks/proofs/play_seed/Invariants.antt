use Rattle.std.proofs.Common.{◌-◌, length}
use Rattle.qm_seed.specs.Seeds.{seed_words, words_of}
use Rattle.qm_ranks.proofs.Playing.{PlaysSoFar}
use Rattle.qm_ranks.proofs.play_seed.Given as goal

abbrev pub invariant-loop-words : goal.invariant-loop-words
invariant-loop-words g l = PlaysSoFar g.A.Amps.store l.fn.machine l.machine (seed_words l.seed) (words_of l.words)

abbrev pub decreases-loop-words : goal.decreases-loop-words
decreases-loop-words g l = 500001 - length l.machine.schedule
