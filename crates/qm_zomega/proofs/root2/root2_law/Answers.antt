use Rattle.std.proofs.Common.{arith}
use Rattle.std.proofs.lemmas.Int.{ints}
use Rattle.qm_zomega.specs.Numbers.{minus, turned, root2_of}
use Rattle.qm_zomega.proofs.Laws.{same}
use Rattle.qm_zomega.proofs.Laws.Powers.{root2-root2}
use Rattle.qm_zomega.proofs.root2.root2_law.Goals as goal

pub returns-clause-value : goal.returns-clause-value
unfolding minus turned root2_of
returns-clause-value c = λ z. same _ _ (omega (arith, ints)) (omega (arith, ints)) (omega (arith, ints)) (omega (arith, ints))

pub returns-clause-square : goal.returns-clause-square
returns-clause-square c = λ z. root2-root2 z
