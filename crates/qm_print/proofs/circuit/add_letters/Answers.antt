use Rattle.qm_print.specs.CircuitText.{letter_line}
use Rattle.qm_print.proofs.GatherLemmas.{Added-nothing, Added-each, Stopped-each, Gathers-stop}
use Rattle.qm_print.proofs.circuit.add_letters.Goals as goal

pub returns-in_err-add_letter : goal.returns-in_err-add_letter
returns-in_err-add_letter g c =
    Gathers-stop _ _ _ _ _ _ _ c.from_residual.ensures.1
    (Stopped-each letter_line _ _ _ _ _ c.args.letters.now c.loop-letter.letter-index _ c.loop-letter-test.true c.loop-letter.invariant c.in_err-add_letter.ensures)

pub loop-letter-init : goal.loop-letter-init
loop-letter-init g c = Added-nothing _ _

pub loop-letter-preserved : goal.loop-letter-preserved
loop-letter-preserved g c = Added-each letter_line _ _ _ _ _ c.args.letters.now c.loop-letter.letter-index _ c.loop-letter-test.true _ c.loop-letter.invariant c.in_ok-add_letter.ensures
