use Rattle.std.proofs.Common.{◌≡◌, ◌≤◌, map, take, vec_len, vec_capacity}
use Rattle.qm_proto.specs.Model.Schedules.{part_at_start}
use Rattle.qm_machine.specs.Views.{part_of}
use Rattle.qm_machine.proofs.body.Body.start.Given as goal

abbrev pub invariant-loop-rank : goal.invariant-loop-rank
invariant-loop-rank g l =
    record {
      known : l.rank ≤ l.rank-end;
      count : vec_len l.ranks ≡ l.rank;
      room : l.rank-end ≤ vec_capacity l.ranks;
      each : map part_of l.ranks.items ≡ map part_at_start (take l.rank l.input.ranks);
    }
