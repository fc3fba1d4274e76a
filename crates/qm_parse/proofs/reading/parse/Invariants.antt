use Rattle.qm_lex.specs.Lexing.{token_list}
use Rattle.qm_parse.specs.Signs.{signs_of}
use Rattle.qm_parse.specs.Places.{place_of}
use Rattle.qm_parse.proofs.LoopLemmas.{Going, left_of}
use Rattle.qm_parse.proofs.reading.parse.Given as goal

abbrev pub invariant-loop-goal : goal.invariant-loop-goal
invariant-loop-goal l = Going (signs_of l.text (token_list l.tokens)) (place_of l.reading)

abbrev pub decreases-loop-goal : goal.decreases-loop-goal
decreases-loop-goal l = left_of (signs_of l.text (token_list l.tokens)) (place_of l.reading)
