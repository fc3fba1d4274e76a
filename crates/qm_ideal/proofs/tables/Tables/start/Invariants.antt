use Rattle.std.proofs.Common.{◌≡◌, ◌≤◌, replicate, vec_capacity}
use Rattle.qm_ideal.specs.Views.{rank_at_start}
use Rattle.qm_ideal.proofs.tables.Tables.start.Given as goal

abbrev pub invariant-loop : goal.invariant-loop
invariant-loop l = (l.ranks.items ≡ replicate l.counter rank_at_start) × (l.counter ≤ l.end) × (l.end ≤ vec_capacity l.ranks)
