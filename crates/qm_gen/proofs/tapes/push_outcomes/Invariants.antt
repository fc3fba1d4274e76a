use Rattle.std.proofs.Common.{◌-◌, ◌++◌}
use Rattle.qm_seed.specs.Seeds.{words_of}
use Rattle.qm_gen.specs.Outcomes.{words_past, outcomes, outcome_digits}
use Rattle.qm_gen.proofs.DrawnLemmas.{Draws}
use Rattle.qm_gen.proofs.tapes.push_outcomes.Given as goal

-- the digits so far with those of the words that are left are all
abbrev pub invariant-loop : goal.invariant-loop
invariant-loop l = Draws l.text.items (words_of l.words) (l.len - l.counter) (l.fn.text.items ++ outcome_digits (outcomes l.len (words_of l.fn.words))) (words_past l.len (words_of l.fn.words))
