use Rattle.std.proofs.Common.{◌≡◌, replicate}
use Rattle.qm_walk.proofs.Standing.{first_place}
use Rattle.qm_walk.proofs.walk.Walk.start.Given as goal

abbrev pub invariant-loop : goal.invariant-loop
invariant-loop l = l.places.items ≡ replicate l.counter first_place
