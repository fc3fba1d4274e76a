use Rattle.std.proofs.Common.{◌≡◌, ◌≤◌, map, take, vec_len, vec_capacity}
use Rattle.qm_instr.specs.Programs.{RankProgram}
use Rattle.qm_machine.proofs.body.buffer_sizes.Given as goal

abbrev pub invariant-loop-rank : goal.invariant-loop-rank
invariant-loop-rank l =
    record {
      known : l.rank ≤ l.rank-end;
      count : vec_len l.sizes ≡ l.rank;
      room : l.rank-end ≤ vec_capacity l.sizes;
      each : l.sizes.items ≡ map (λ (x : RankProgram). x.buffer) (take l.rank l.input.ranks);
    }
