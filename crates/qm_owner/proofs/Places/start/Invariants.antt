use Rattle.std.proofs.Common.{◌≡◌, replicate}
use Rattle.std.specs.Vec.{vec_capacity}
use Rattle.qm_owner.proofs.Places.start.Given as goal

abbrev pub invariant-loop : goal.invariant-loop
invariant-loop l = record {
  rows : l.slots.items ≡ replicate l.counter l.empty;
  room : vec_capacity l.slots ≡ l.ranks;
}
