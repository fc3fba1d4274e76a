use Rattle.qm_gen.proofs.DrawnLemmas.{tape_written}
use Rattle.qm_gen.proofs.tapes.push_tape.Goals as goal

pub returns-clause-lines : goal.returns-clause-lines
returns-clause-lines c =
    tape_written _ _ _ _ _ _ c.args.own c.args.rank c.args.len _ c.if-len-eq0.false c.in_ok-push_tape_word.ensures c.in_ok-push_number.ensures c.in_ok-extend_from_slice.ensures.items c.in_ok-push_outcomes.ensures.digits c.in_ok-push.ensures.items
