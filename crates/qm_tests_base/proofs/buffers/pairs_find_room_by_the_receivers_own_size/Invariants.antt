use Rattle.std.proofs.Common.{◌≡◌, length}
use Rattle.qm_tests_base.proofs.buffers.pairs_find_room_by_the_receivers_own_size.Given as goal

abbrev pub invariant-loop-held : goal.invariant-loop-held
invariant-loop-held g l = length l.halves ≡ 2
