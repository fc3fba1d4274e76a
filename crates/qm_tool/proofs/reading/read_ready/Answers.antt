use Rattle.std.proofs.Common.{Result, IfErr}
use Rattle.qm_instr.specs.Programs.{Programs}
use Rattle.qm_tool.specs.declared.refusal.Refusal.{Refusal}
use Rattle.qm_tool.specs.Reading.{IsUnready}
use Rattle.qm_tool.proofs.AnswerLemmas.{at_exit}
use Rattle.qm_tool.proofs.ReadingLaws.{misread-unready, faulty-unready}
use Rattle.qm_tool.proofs.reading.read_ready.Goals as goal

pub returns-in_err-input-clause-err : goal.returns-in_err-input-clause-err
returns-in_err-input-clause-err c =
    at_exit (λ (r : Result Programs Refusal). IfErr r (IsUnready c.args.text.now)) _ _ c.from_residual.ensures.1 (misread-unready c.args.text.now _ c.in_err-input.ensures)

pub returns-in_err-check-clause-err : goal.returns-in_err-check-clause-err
returns-in_err-check-clause-err c =
    at_exit (λ (r : Result Programs Refusal). IfErr r (IsUnready c.args.text.now)) _ _ c.from_residual-in_err-check.ensures.1
    (faulty-unready c.args.text.now c.in_ok-input.input _ c.in_ok-input.ensures c.in_err-check.ensures.err)
