use Rattle.std.proofs.Common.{◌≡◌, ◌≢◌, ℕ, ◌<◌}
use Rattle.qm_zomega.specs.Numbers.{zero_number}
use Rattle.qm_denot.specs.Places.{has_place}
use Rattle.qm_zomega.specs.NumberLists.{meant_at}
use Rattle.qm_store.proofs.branches.any_unequal.Given as goal

abbrev pub invariant-loop-k : goal.invariant-loop-k
invariant-loop-k g l = (j : ℕ) → j < l.k → has_place l.one j ≢ has_place l.other j → meant_at g.Z.Numerator.meaning l.numerators j ≡ zero_number
