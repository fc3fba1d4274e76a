use Rattle.std.proofs.Common.{◌≡◌, All, map, take, length}
use Rattle.qm_buffers.specs.Halves.{empty_buffer, IsWithinSize}
use Rattle.qm_buffers.proofs.Halves.start.Given as goal

abbrev pub invariant-loop-rank : goal.invariant-loop-rank
invariant-loop-rank l = record {
  long : length l.buffers ≡ 16;
  sizes : take l.rank l.buffers ≡ map empty_buffer (take l.rank l.sizes);
  within : All IsWithinSize l.buffers;
}
