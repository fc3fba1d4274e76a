use Rattle.std.proofs.Common.{◌≡◌, [], ◌++◌, map}
use Rattle.qm_lock.specs.Views.{view}
use Rattle.qm_lock.specs.Passes.{pass_tally}
use Rattle.qm_lock.specs.declared.views.Stage.TheVariants.{Idle}
use Rattle.qm_lock.proofs.seats.join_all.Given as goal

abbrev pub invariant-loop-pass : goal.invariant-loop-pass
invariant-loop-pass g l = record {
  table_is : l.seat.table_id ≡ l.table.shared.table_id;
  seat_is : l.seat.me ≡ (view l.seat.me.0.start (l.fn.seat.me.0.tallies ++ map pass_tally l.yielded) Idle, []);
  left : l.fn.passes.items ≡ l.yielded ++ l.pass-iterator.rest.items;
}
