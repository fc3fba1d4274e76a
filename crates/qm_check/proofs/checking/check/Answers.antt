use Rattle.std.proofs.Common.{sym, subst}
use Rattle.qm_check.specs.Messages.{IsLaneTable}
use Rattle.qm_check.proofs.LaneLemmas.{sends_listed-table}
use Rattle.qm_check.proofs.checking.check.Goals as goal

pub invariant_of-result : goal.invariant_of-result
invariant_of-result c =
    let read = c.in_ok-read.ensures in
    let sent = c.in_ok-lanes.ensures in
    record {
      ready = c.in_default.ensures;
      capacity_so = c.total_capacity-capacity.ensures;
      lanes_so = subst (IsLaneTable c.args.input) (sym sent.value) (sends_listed-table c.args.input c.in_ok-read.read.tallies sent.ordered read.lanes);
      totals_so = read.totals;
    }
