use Rattle.std.proofs.Common.{refl, sym, ap, subst, ◌∙◌, arith}
use Rattle.qm_instr.specs.Programs.{Programs, IsInRange}
use Rattle.qm_ideal.specs.OneCircuits.{slot_of}
use Rattle.qm_print.specs.declared.FaultLine.TheVariants as line
use Rattle.qm_print.specs.FaultText.{fault_text}
use Rattle.qm_print.specs.Slots.{AreLive, full_slots}
use Rattle.qm_tool.specs.declared.command.Command.TheVariants as command
use Rattle.qm_tool.specs.Answers.{AnswersReady}
use Rattle.qm_tool.specs.Due.{Values, TooWide, Overflows}
use Rattle.qm_tool.proofs.AnswerLemmas.{amplitudes-answer, at_exit}
use Rattle.qm_tool.proofs.EndLemmas.{exponent-few}
use Rattle.qm_tool.proofs.FullSlots.{circuit_slots_are_live}
use Rattle.qm_tool.proofs.circuits.values_of.Goals as goal

pub overflow_add-exponent : goal.overflow_add-exponent
overflow_add-exponent c =
    let ranges = subst IsInRange c.input.ensures.value c.full_slots.ensures.in_range in
    let few = exponent-few c.args.ready.now c.args.circuit.now _ ranges c.requires.one c.in_ok-amps.ensures.ok in
    omega (arith, few, c.exponent.ensures, c.protocol_total.ensures)

pub returns-then-width-most_width : goal.returns-then-width-most_width
returns-then-width-most_width c = record {
  may_put = tt;
  due = TooWide (record {
    circuit = c.args.circuit.now;
    one = c.requires.one;
    wide = omega (arith, c.width-width.ensures, c.most_width.ensures, c.if-width-most_width.true);
    whole = ap (λ n. fault_text (line.Wide n)) c.width-width.ensures;
  });
}

pub returns-in_err-amps : goal.returns-in_err-amps
returns-in_err-amps c =
    at_exit (AnswersReady _ c.args.ready.now command.MonoAmps) _ _ c.from_residual-in_err-amps.ensures.1 (record {
      may_put = tt;
      due = Overflows (record {
        circuit = c.args.circuit.now;
        one = c.requires.one;
        narrow = omega (arith, c.width-width.ensures, c.most_width.ensures, c.if-width-most_width.false);
        at = c.in_err-amps.field-0.0.at;
        first = c.in_err-amps.ensures.err;
        whole = refl;
      });
    })

pub returns : goal.returns
returns c =
    let full = c.in_ok-live.ensures.slots ∙ ap (λ (p : Programs). full_slots p (slot_of c.args.circuit.now)) c.input.ensures.value in
    record {
      may_put = record {
        few = c.head_of-head.ensures.few;
        live = subst (AreLive _) (sym full) (circuit_slots_are_live c.args.ready.now c.args.circuit.now _ c.requires.ready c.in_ok-amps.ensures.ok);
      };
      due = Values (
          amplitudes-answer c.args.ready.now c.args.circuit.now c.requires.one _ _ _ _ (omega (arith, c.width-width.ensures, c.most_width.ensures, c.if-width-most_width.false)) c.in_ok-amps.ensures.ok
          (omega (arith, c.exponent.ensures, c.protocol_total.ensures)) c.head_of-head.ensures full
          );
    }
