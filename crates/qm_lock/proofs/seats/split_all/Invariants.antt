use Rattle.std.proofs.Common.{◌≡◌, ◌-◌, ◌≤◌, [], length, vec_capacity}
use Rattle.std.specs.Prelude.{Some}
use Rattle.qm_lock.specs.Views.{view, fresh}
use Rattle.qm_lock.specs.Passes.{IsMade, EachPass}
use Rattle.qm_lock.specs.declared.views.Stage.TheVariants.{Idle}
use Rattle.qm_lock.proofs.seats.split_all.Given as goal

abbrev pub invariant-loop-number : goal.invariant-loop-number
invariant-loop-number g l = record {
  table_is : l.seat.table_id ≡ l.table.shared.table_id;
  seat_is : l.seat.me ≡ (view (Some l.table.shared.key.value) (fresh l.number (16 - l.number)) Idle, []);
  count : length l.passes.items ≡ l.number;
  room : l.seats ≤ vec_capacity l.passes;
  each : EachPass (λ k p. IsMade l.table.shared.table_id l.table.shared.key.value k p) l.passes.items;
}
