use Rattle.std.proofs.Common.{◌≡◌, ◌<◌}
use Rattle.qm_lock.specs.Passes.{pass_count, IsReady}
use Rattle.qm_ranks.proofs.workers.work.Given as goal

abbrev pub invariant-loop : goal.invariant-loop
invariant-loop g l = record {
  ready : IsReady l.desk l.rank l.pass;
  made : l.made ≡ pass_count l.pass;
  patient : l.blocked < 10000;
}
