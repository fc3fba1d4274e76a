use Rattle.std.proofs.Common.{ℕ, ◌+◌, false, get_or, ap, sym, subst, ◌∙◌, arith}
use Rattle.qm_check.specs.Slots.{HasFewSlots, is_full_after}
use Rattle.qm_check.specs.Tallies.{tally_in}
use Rattle.qm_check.proofs.SlotLemmas.{IsWalked, instruction_slots-few, walked_fault, walked_more, walked_all}
use Rattle.qm_check.proofs.TallyLemmas.{rank_tally_more}
use Rattle.qm_check.proofs.TotalLemmas.{totals_of_more}
use Rattle.qm_check.proofs.reading.read_rank.Goals as goal

pub fault_of_instruction-requires : goal.fault_of_instruction-requires
fault_of_instruction-requires c =
    instruction_slots-few c.args.input.now c.args.rank c.loop-at.at c.in-Some.i c.requires.known c.ranks.ensures.in_range (sym c.in-Some.ensures)

pub note_slots-requires : goal.note_slots-requires
note_slots-requires c =
    subst HasFewSlots (sym c.slot_uses.ensures) (instruction_slots-few c.args.input.now c.args.rank c.loop-at.at c.in-Some.i c.requires.known c.ranks.ensures.in_range (sym c.in-Some.ensures))

pub loop-at-preserved : goal.loop-at-preserved
loop-at-preserved c =
    let p = c.args.input.now in
    let r = c.args.rank in
    let k = c.loop-at.at in
    let i = c.in-Some.i in
    let read = sym c.in-Some.ensures in
    let so_far = c.loop-at.invariant in
    let full = λ (q : ℕ). get_or c.loop-at.full q false in
    let next = λ (q : ℕ). get_or c.note_slots.new.full q false in
    let here = walked_fault p r k c.ranks.result full i c.loop-at.fault _ c.requires.known c.ranks.ensures.in_range so_far.walked c.ranks.ensures.value read c.fault_of_instruction.ensures in
    let walked : IsWalked p r (k + 1) next _ = walked_more p r k full next i c.loop-at.fault _ so_far.walked read here (λ q few. c.note_slots.ensures q few ∙ ap (is_full_after q (full q)) c.slot_uses.ensures) in
    record {
      messages =
          λ a. rank_tally_more c.loop-at.tallies c.note_instruction.new.tallies (tally_in c.args.tallies.now a) r k _ i a (so_far.messages a) read (c.in_ok-note_instruction.ensures a);
      walked = subst (IsWalked p r (k + 1) next) (sym c.or-fault.ensures) walked;
      counted =
          totals_of_more _ k i c.loop-at.totals c.of.result c.plus-totals.result so_far.counted read
          (record { events = c.of.ensures.events; protocol = c.of.ensures.protocol; own = c.of.ensures.own })
          (record { events = c.plus-totals.ensures.events; protocol = c.plus-totals.ensures.protocol; own = c.plus-totals.ensures.own });
    }

pub returns-clause-fault : goal.returns-clause-fault
returns-clause-fault c = walked_all _ _ c.loop-at.at _ _ c.loop-at.invariant.walked (omega arith)
