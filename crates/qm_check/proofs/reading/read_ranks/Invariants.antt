use Rattle.std.proofs.Common.{◌≡◌, take}
use Rattle.qm_instr.specs.declared.Lane.{Lane}
use Rattle.qm_check.specs.Faults.{IsEarlierStep, IsEarlierTape}
use Rattle.qm_check.specs.Slots.{step_fault}
use Rattle.qm_check.specs.Tallies.{tally_in}
use Rattle.qm_check.specs.Tapes.{tape_fault}
use Rattle.qm_check.specs.Totals.{totals_over}
use Rattle.qm_check.proofs.Firsts.{IsFoundInRows}
use Rattle.qm_check.proofs.TallyLemmas.{tally_below}
use Rattle.qm_check.proofs.TotalLemmas.{IsCounted}
use Rattle.qm_check.proofs.reading.read_ranks.Given as goal

abbrev pub invariant-loop-rank : goal.invariant-loop-rank
invariant-loop-rank l = record {
  messages : (a : Lane) → tally_in l.tallies a ≡ tally_below l.input l.rank a;
  step : IsFoundInRows IsEarlierStep (step_fault l.input) l.rank l.step;
  tape : IsFoundInRows IsEarlierTape (tape_fault l.input) l.rank l.tape;
  counted : IsCounted (totals_over (take l.rank l.input.ranks)) l.rank 500000 200000 100000 l.totals;
}
