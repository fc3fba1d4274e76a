use Rattle.qm_eval.proofs.LetterLemmas.{HasDone}
use Rattle.qm_eval.proofs.letters.do_letters.Given as goal

abbrev pub invariant-loop-at : goal.invariant-loop-at
invariant-loop-at g l = HasDone (g.A.Amps.store l.fn.amps) (g.A.Amps.store l.amps) l.letters l.at
