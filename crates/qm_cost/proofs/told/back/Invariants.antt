use Rattle.std.proofs.Common.{length}
use Rattle.qm_cost.specs.Longest.{Leads, IsBelow, before_in}
use Rattle.qm_cost.proofs.Passing.{number_behind}
use Rattle.qm_cost.proofs.told.back.Given as goal

abbrev pub invariant-loop-next : goal.invariant-loop-next
invariant-loop-next l = record {
  leads : Leads (before_in l.marks) l.fn.end l.chain.items l.next;
  known : IsBelow (length l.marks) l.next;
}

abbrev pub decreases-loop-next : goal.decreases-loop-next
decreases-loop-next l = number_behind l.next
