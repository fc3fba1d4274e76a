use Rattle.std.proofs.Common.{◌∙◌, ap, ◌++◌, length, codes}
use Rattle.qm_instr.specs.Programs.{Programs}
use Rattle.qm_proto.specs.Model.Schedules.{protocol_total}
use Rattle.qm_instr.specs.Bits.{number_of_bits}
use Rattle.qm_ideal.specs.OneCircuits.{bits_of, slot_of}
use Rattle.qm_print.specs.Bits.{bits_lines}
use Rattle.qm_print.specs.CircuitText.{circuit_head, letters_head, letter_lines}
use Rattle.qm_print.specs.Slots.{full_slots, slot_lines}
use Rattle.qm_print.proofs.GatherLemmas.{Added-gathers, Added-join, Gathers-stop, Stopped-more, Stopped-next}
use Rattle.qm_print.proofs.circuit.add_circuit.Goals as goal

pub returns-in_err-add_head : goal.returns-in_err-add_head
returns-in_err-add_head g c =
    Gathers-stop _ _ _ _ _ _ _ c.from_residual.ensures.1
    (Stopped-more _ _ _ (circuit_head (length c.args.ready.now.ranks) (protocol_total c.args.ready.now) ++ bits_lines (length c.args.ready.now.ranks) (λ r. number_of_bits (bits_of c.args.mono.now r)) ++ letters_head (length c.args.mono.now.letters) ++ letter_lines c.args.mono.now.letters ++ slot_lines (full_slots c.args.ready.now (slot_of c.args.mono.now))) (codes "end\n") (Stopped-more _ _ _ (circuit_head (length c.args.ready.now.ranks) (protocol_total c.args.ready.now) ++ bits_lines (length c.args.ready.now.ranks) (λ r. number_of_bits (bits_of c.args.mono.now r)) ++ letters_head (length c.args.mono.now.letters) ++ letter_lines c.args.mono.now.letters) (slot_lines (full_slots c.args.ready.now (slot_of c.args.mono.now))) (Stopped-more _ _ _ (circuit_head (length c.args.ready.now.ranks) (protocol_total c.args.ready.now) ++ bits_lines (length c.args.ready.now.ranks) (λ r. number_of_bits (bits_of c.args.mono.now r)) ++ letters_head (length c.args.mono.now.letters)) (letter_lines c.args.mono.now.letters) (Stopped-more _ _ _ (circuit_head (length c.args.ready.now.ranks) (protocol_total c.args.ready.now) ++ bits_lines (length c.args.ready.now.ranks) (λ r. number_of_bits (bits_of c.args.mono.now r))) (letters_head (length c.args.mono.now.letters)) (Stopped-more _ _ _ (circuit_head (length c.args.ready.now.ranks) (protocol_total c.args.ready.now)) (bits_lines (length c.args.ready.now.ranks) (λ r. number_of_bits (bits_of c.args.mono.now r))) (rw (c.ranks.ensures.value ∙ ap (λ (q : Programs). length q.ranks) c.input-input.ensures.value, c.protocol_total.ensures) at c.in_err-add_head.ensures))))))

pub returns-in_err-add_bits : goal.returns-in_err-add_bits
returns-in_err-add_bits g c =
    Gathers-stop _ _ _ _ _ _ _ c.from_residual-in_err-add_bits.ensures.1
    (Stopped-more _ _ _ (circuit_head (length c.args.ready.now.ranks) (protocol_total c.args.ready.now) ++ bits_lines (length c.args.ready.now.ranks) (λ r. number_of_bits (bits_of c.args.mono.now r)) ++ letters_head (length c.args.mono.now.letters) ++ letter_lines c.args.mono.now.letters ++ slot_lines (full_slots c.args.ready.now (slot_of c.args.mono.now))) (codes "end\n") (Stopped-more _ _ _ (circuit_head (length c.args.ready.now.ranks) (protocol_total c.args.ready.now) ++ bits_lines (length c.args.ready.now.ranks) (λ r. number_of_bits (bits_of c.args.mono.now r)) ++ letters_head (length c.args.mono.now.letters) ++ letter_lines c.args.mono.now.letters) (slot_lines (full_slots c.args.ready.now (slot_of c.args.mono.now))) (Stopped-more _ _ _ (circuit_head (length c.args.ready.now.ranks) (protocol_total c.args.ready.now) ++ bits_lines (length c.args.ready.now.ranks) (λ r. number_of_bits (bits_of c.args.mono.now r)) ++ letters_head (length c.args.mono.now.letters)) (letter_lines c.args.mono.now.letters) (Stopped-more _ _ _ (circuit_head (length c.args.ready.now.ranks) (protocol_total c.args.ready.now) ++ bits_lines (length c.args.ready.now.ranks) (λ r. number_of_bits (bits_of c.args.mono.now r))) (letters_head (length c.args.mono.now.letters)) (Stopped-next _ _ _ _ _ (circuit_head (length c.args.ready.now.ranks) (protocol_total c.args.ready.now)) (bits_lines (length c.args.ready.now.ranks) (λ r. number_of_bits (bits_of c.args.mono.now r))) (rw (c.ranks.ensures.value ∙ ap (λ (q : Programs). length q.ranks) c.input-input.ensures.value, c.protocol_total.ensures) at c.in_ok-add_head.ensures) (rw (c.ranks-2.ensures.value ∙ ap (λ (q : Programs). length q.ranks) c.input-input.ensures.value) at c.in_err-add_bits.ensures))))))

pub returns-in_err-add_letters_head : goal.returns-in_err-add_letters_head
returns-in_err-add_letters_head g c =
    Gathers-stop _ _ _ _ _ _ _ c.from_residual-in_err-add_letters_head.ensures.1
    (Stopped-more _ _ _ (circuit_head (length c.args.ready.now.ranks) (protocol_total c.args.ready.now) ++ bits_lines (length c.args.ready.now.ranks) (λ r. number_of_bits (bits_of c.args.mono.now r)) ++ letters_head (length c.args.mono.now.letters) ++ letter_lines c.args.mono.now.letters ++ slot_lines (full_slots c.args.ready.now (slot_of c.args.mono.now))) (codes "end\n") (Stopped-more _ _ _ (circuit_head (length c.args.ready.now.ranks) (protocol_total c.args.ready.now) ++ bits_lines (length c.args.ready.now.ranks) (λ r. number_of_bits (bits_of c.args.mono.now r)) ++ letters_head (length c.args.mono.now.letters) ++ letter_lines c.args.mono.now.letters) (slot_lines (full_slots c.args.ready.now (slot_of c.args.mono.now))) (Stopped-more _ _ _ (circuit_head (length c.args.ready.now.ranks) (protocol_total c.args.ready.now) ++ bits_lines (length c.args.ready.now.ranks) (λ r. number_of_bits (bits_of c.args.mono.now r)) ++ letters_head (length c.args.mono.now.letters)) (letter_lines c.args.mono.now.letters) (Stopped-next _ _ _ _ _ (circuit_head (length c.args.ready.now.ranks) (protocol_total c.args.ready.now) ++ bits_lines (length c.args.ready.now.ranks) (λ r. number_of_bits (bits_of c.args.mono.now r))) (letters_head (length c.args.mono.now.letters)) (Added-join _ _ _ _ _ _ (circuit_head (length c.args.ready.now.ranks) (protocol_total c.args.ready.now)) (bits_lines (length c.args.ready.now.ranks) (λ r. number_of_bits (bits_of c.args.mono.now r))) (rw (c.ranks.ensures.value ∙ ap (λ (q : Programs). length q.ranks) c.input-input.ensures.value, c.protocol_total.ensures) at c.in_ok-add_head.ensures) (rw (c.ranks-2.ensures.value ∙ ap (λ (q : Programs). length q.ranks) c.input-input.ensures.value) at c.in_ok-add_bits.ensures)) (rw c.letters.ensures at c.in_err-add_letters_head.ensures)))))

pub returns-in_err-add_letters : goal.returns-in_err-add_letters
returns-in_err-add_letters g c =
    Gathers-stop _ _ _ _ _ _ _ c.from_residual-in_err-add_letters.ensures.1
    (Stopped-more _ _ _ (circuit_head (length c.args.ready.now.ranks) (protocol_total c.args.ready.now) ++ bits_lines (length c.args.ready.now.ranks) (λ r. number_of_bits (bits_of c.args.mono.now r)) ++ letters_head (length c.args.mono.now.letters) ++ letter_lines c.args.mono.now.letters ++ slot_lines (full_slots c.args.ready.now (slot_of c.args.mono.now))) (codes "end\n") (Stopped-more _ _ _ (circuit_head (length c.args.ready.now.ranks) (protocol_total c.args.ready.now) ++ bits_lines (length c.args.ready.now.ranks) (λ r. number_of_bits (bits_of c.args.mono.now r)) ++ letters_head (length c.args.mono.now.letters) ++ letter_lines c.args.mono.now.letters) (slot_lines (full_slots c.args.ready.now (slot_of c.args.mono.now))) (Stopped-next _ _ _ _ _ (circuit_head (length c.args.ready.now.ranks) (protocol_total c.args.ready.now) ++ bits_lines (length c.args.ready.now.ranks) (λ r. number_of_bits (bits_of c.args.mono.now r)) ++ letters_head (length c.args.mono.now.letters)) (letter_lines c.args.mono.now.letters) (Added-join _ _ _ _ _ _ (circuit_head (length c.args.ready.now.ranks) (protocol_total c.args.ready.now) ++ bits_lines (length c.args.ready.now.ranks) (λ r. number_of_bits (bits_of c.args.mono.now r))) (letters_head (length c.args.mono.now.letters)) (Added-join _ _ _ _ _ _ (circuit_head (length c.args.ready.now.ranks) (protocol_total c.args.ready.now)) (bits_lines (length c.args.ready.now.ranks) (λ r. number_of_bits (bits_of c.args.mono.now r))) (rw (c.ranks.ensures.value ∙ ap (λ (q : Programs). length q.ranks) c.input-input.ensures.value, c.protocol_total.ensures) at c.in_ok-add_head.ensures) (rw (c.ranks-2.ensures.value ∙ ap (λ (q : Programs). length q.ranks) c.input-input.ensures.value) at c.in_ok-add_bits.ensures)) (rw c.letters.ensures at c.in_ok-add_letters_head.ensures)) (rw c.letters-2.ensures at c.in_err-add_letters.ensures))))

pub returns-in_err-add_slots : goal.returns-in_err-add_slots
returns-in_err-add_slots g c =
    Gathers-stop _ _ _ _ _ _ _ c.from_residual-in_err-add_slots.ensures.1
    (Stopped-more _ _ _ (circuit_head (length c.args.ready.now.ranks) (protocol_total c.args.ready.now) ++ bits_lines (length c.args.ready.now.ranks) (λ r. number_of_bits (bits_of c.args.mono.now r)) ++ letters_head (length c.args.mono.now.letters) ++ letter_lines c.args.mono.now.letters ++ slot_lines (full_slots c.args.ready.now (slot_of c.args.mono.now))) (codes "end\n") (Stopped-next _ _ _ _ _ (circuit_head (length c.args.ready.now.ranks) (protocol_total c.args.ready.now) ++ bits_lines (length c.args.ready.now.ranks) (λ r. number_of_bits (bits_of c.args.mono.now r)) ++ letters_head (length c.args.mono.now.letters) ++ letter_lines c.args.mono.now.letters) (slot_lines (full_slots c.args.ready.now (slot_of c.args.mono.now))) (Added-join _ _ _ _ _ _ (circuit_head (length c.args.ready.now.ranks) (protocol_total c.args.ready.now) ++ bits_lines (length c.args.ready.now.ranks) (λ r. number_of_bits (bits_of c.args.mono.now r)) ++ letters_head (length c.args.mono.now.letters)) (letter_lines c.args.mono.now.letters) (Added-join _ _ _ _ _ _ (circuit_head (length c.args.ready.now.ranks) (protocol_total c.args.ready.now) ++ bits_lines (length c.args.ready.now.ranks) (λ r. number_of_bits (bits_of c.args.mono.now r))) (letters_head (length c.args.mono.now.letters)) (Added-join _ _ _ _ _ _ (circuit_head (length c.args.ready.now.ranks) (protocol_total c.args.ready.now)) (bits_lines (length c.args.ready.now.ranks) (λ r. number_of_bits (bits_of c.args.mono.now r))) (rw (c.ranks.ensures.value ∙ ap (λ (q : Programs). length q.ranks) c.input-input.ensures.value, c.protocol_total.ensures) at c.in_ok-add_head.ensures) (rw (c.ranks-2.ensures.value ∙ ap (λ (q : Programs). length q.ranks) c.input-input.ensures.value) at c.in_ok-add_bits.ensures)) (rw c.letters.ensures at c.in_ok-add_letters_head.ensures)) (rw c.letters-2.ensures at c.in_ok-add_letters.ensures)) (rw c.input-input.ensures.value at c.in_err-add_slots.ensures)))

pub returns : goal.returns
returns g c =
    Added-gathers _ _ _ _ _ _ (circuit_head (length c.args.ready.now.ranks) (protocol_total c.args.ready.now) ++ bits_lines (length c.args.ready.now.ranks) (λ r. number_of_bits (bits_of c.args.mono.now r)) ++ letters_head (length c.args.mono.now.letters) ++ letter_lines c.args.mono.now.letters ++ slot_lines (full_slots c.args.ready.now (slot_of c.args.mono.now))) (codes "end\n") _
    (Added-join _ _ _ _ _ _ (circuit_head (length c.args.ready.now.ranks) (protocol_total c.args.ready.now) ++ bits_lines (length c.args.ready.now.ranks) (λ r. number_of_bits (bits_of c.args.mono.now r)) ++ letters_head (length c.args.mono.now.letters) ++ letter_lines c.args.mono.now.letters) (slot_lines (full_slots c.args.ready.now (slot_of c.args.mono.now))) (Added-join _ _ _ _ _ _ (circuit_head (length c.args.ready.now.ranks) (protocol_total c.args.ready.now) ++ bits_lines (length c.args.ready.now.ranks) (λ r. number_of_bits (bits_of c.args.mono.now r)) ++ letters_head (length c.args.mono.now.letters)) (letter_lines c.args.mono.now.letters) (Added-join _ _ _ _ _ _ (circuit_head (length c.args.ready.now.ranks) (protocol_total c.args.ready.now) ++ bits_lines (length c.args.ready.now.ranks) (λ r. number_of_bits (bits_of c.args.mono.now r))) (letters_head (length c.args.mono.now.letters)) (Added-join _ _ _ _ _ _ (circuit_head (length c.args.ready.now.ranks) (protocol_total c.args.ready.now)) (bits_lines (length c.args.ready.now.ranks) (λ r. number_of_bits (bits_of c.args.mono.now r))) (rw (c.ranks.ensures.value ∙ ap (λ (q : Programs). length q.ranks) c.input-input.ensures.value, c.protocol_total.ensures) at c.in_ok-add_head.ensures) (rw (c.ranks-2.ensures.value ∙ ap (λ (q : Programs). length q.ranks) c.input-input.ensures.value) at c.in_ok-add_bits.ensures)) (rw c.letters.ensures at c.in_ok-add_letters_head.ensures)) (rw c.letters-2.ensures at c.in_ok-add_letters.ensures)) (rw c.input-input.ensures.value at c.in_ok-add_slots.ensures))
    c.put.ensures
