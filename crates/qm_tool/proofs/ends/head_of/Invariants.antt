use Rattle.std.proofs.Common.{◌≡◌, ℕ, ◌<◌, length, slice_index}
use Rattle.qm_instr.specs.Bits.{number_of_bits}
use Rattle.qm_tool.proofs.ends.head_of.Given as goal

abbrev pub invariant-loop-rank : goal.invariant-loop-rank
invariant-loop-rank g l = record {
  long : length l.bits ≡ 16;
  so : (r : ℕ) → r < l.rank → slice_index l.bits r ≡ number_of_bits (g.E.RankEnds.bits l.ends r);
}
