use Rattle.std.proofs.Common.{arith}
use Rattle.std.proofs.lemmas.Int.{ints}
use Rattle.qm_zomega.specs.Numbers.{turned}
use Rattle.qm_zomega.proofs.Laws.{same}
use Rattle.qm_tables.proofs.laws.turn_law.Goals as goal

pub returns-clause-omega : goal.returns-clause-omega
unfolding turned
returns-clause-omega c = λ z. same _ _ (omega (arith, ints)) (omega (arith, ints)) (omega (arith, ints)) (omega (arith, ints))

pub returns-clause-omega2 : goal.returns-clause-omega2
unfolding turned
returns-clause-omega2 c = λ z. same _ _ (omega (arith, ints)) (omega (arith, ints)) (omega (arith, ints)) (omega (arith, ints))

pub returns-clause-omega3 : goal.returns-clause-omega3
unfolding turned
returns-clause-omega3 c = λ z. same _ _ (omega (arith, ints)) (omega (arith, ints)) (omega (arith, ints)) (omega (arith, ints))

pub returns-clause-omega4 : goal.returns-clause-omega4
unfolding turned
returns-clause-omega4 c = λ z. same _ _ (omega (arith, ints)) (omega (arith, ints)) (omega (arith, ints)) (omega (arith, ints))

pub returns-clause-omega5 : goal.returns-clause-omega5
unfolding turned
returns-clause-omega5 c = λ z. same _ _ (omega (arith, ints)) (omega (arith, ints)) (omega (arith, ints)) (omega (arith, ints))

pub returns-clause-omega6 : goal.returns-clause-omega6
unfolding turned
returns-clause-omega6 c = λ z. same _ _ (omega (arith, ints)) (omega (arith, ints)) (omega (arith, ints)) (omega (arith, ints))

pub returns-clause-omega7 : goal.returns-clause-omega7
unfolding turned
returns-clause-omega7 c = λ z. same _ _ (omega (arith, ints)) (omega (arith, ints)) (omega (arith, ints)) (omega (arith, ints))
