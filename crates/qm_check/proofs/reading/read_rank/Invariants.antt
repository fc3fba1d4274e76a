use Rattle.std.proofs.Common.{◌≡◌, take, false, slice_index_or}
use Rattle.qm_instr.specs.declared.Lane.{Lane}
use Rattle.qm_instr.specs.Programs.{rank_of}
use Rattle.qm_check.specs.Tallies.{tally_in, plus, rank_tally}
use Rattle.qm_check.specs.Totals.{totals_of}
use Rattle.qm_check.proofs.SlotLemmas.{IsWalked}
use Rattle.qm_check.proofs.TotalLemmas.{IsCounted}
use Rattle.qm_check.proofs.reading.read_rank.Given as goal

abbrev pub invariant-loop-at : goal.invariant-loop-at
invariant-loop-at l = record {
  messages : (a : Lane)
      → tally_in l.tallies a ≡ plus (tally_in l.fn.tallies a) (rank_tally l.rank (take l.at (rank_of l.input l.rank).instructions) a);
  walked : IsWalked l.input l.rank l.at (λ q. slice_index_or l.full q false) l.fault;
  counted : IsCounted (totals_of (take l.at (rank_of l.input l.rank).instructions)) l.at 5 2 1 l.totals;
}
