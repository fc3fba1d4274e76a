use Rattle.std.proofs.Common.{◌≡◌, drop}
use Rattle.qm_owner.specs.Places.{place_of}
use Rattle.qm_owner.proofs.place_among.Given as goal

abbrev pub invariant-loop-entry : goal.invariant-loop-entry
invariant-loop-entry l = place_of l.placed l.w ≡ place_of (drop l.entry-index l.placed) l.w
