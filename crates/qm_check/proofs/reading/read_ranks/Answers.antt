use Rattle.std.proofs.Common.{◌+◌, sym, ap, subst, ◌∙◌, arith}
use Rattle.std.specs.Option.{option_or}
use Rattle.qm_check.specs.Slots.{step_fault}
use Rattle.qm_check.specs.Tallies.{tally_in}
use Rattle.qm_check.specs.Tapes.{tape_fault}
use Rattle.qm_check.specs.Faults.{IsBelow, IsEarlierStep, IsEarlierTape}
use Rattle.qm_check.proofs.Firsts.{IsFoundInRows, rows_more}
use Rattle.qm_check.proofs.TallyLemmas.{tally_below_more}
use Rattle.qm_check.proofs.TapeLemmas.{IsOwnFirst, tape_parts, tapes_of_rank}
use Rattle.qm_check.proofs.TotalLemmas.{totals_over_more}
use Rattle.qm_check.proofs.reading.read_ranks.Goals as goal

pub loop-rank-preserved : goal.loop-rank-preserved
loop-rank-preserved c =
    let p = c.args.input.now in
    let r = c.loop-rank.rank in
    let so_far = c.loop-rank.invariant in
    let read = c.in_ok-read.ensures in
    record {
      messages =
          λ a. tally_below_more p r (tally_in c.loop-rank.tallies a) (tally_in c.read_rank.new.tallies a) a (so_far.messages a) (read.messages a);
      step =
          subst (IsFoundInRows IsEarlierStep (step_fault p) (r + 1)) (sym c.or-step.ensures) (rows_more IsBelow IsEarlierStep (λ a b h. h) (step_fault p) r c.loop-rank.step c.in_ok-read.read.fault so_far.step read.fault);
      tape =
          subst (IsFoundInRows IsEarlierTape (tape_fault p) (r + 1)) (sym (c.or-tape.ensures ∙ ap (option_or c.loop-rank.tape) c.fault_of_tapes.ensures)) (rows_more IsOwnFirst IsEarlierTape tape_parts (tape_fault p) r c.loop-rank.tape _ so_far.tape (tapes_of_rank (tape_fault p r)));
      counted =
          totals_over_more p.ranks r c.loop-rank.totals c.in_ok-read.read.totals c.plus-totals.result (omega arith) so_far.counted read.totals read.few
          (record { events = c.plus-totals.ensures.events; protocol = c.plus-totals.ensures.protocol; own = c.plus-totals.ensures.own });
    }
