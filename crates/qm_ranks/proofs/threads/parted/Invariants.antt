use Rattle.std.proofs.Common.{◌≡◌, ◌≤◌, ◌++◌, length, vec_capacity}
use Rattle.qm_ranks.specs.Workers.{passes_of, exits_of}
use Rattle.qm_ranks.proofs.threads.parted.Given as goal

abbrev pub invariant-loop-one : goal.invariant-loop-one
invariant-loop-one g l = record {
  passes : l.passes.items ≡ passes_of l.yielded;
  exits : l.exits.items ≡ exits_of l.yielded;
  room : length l.fn.done.items ≤ vec_capacity l.passes;
  room_too : length l.fn.done.items ≤ vec_capacity l.exits;
  left : l.fn.done.items ≡ l.yielded ++ l.one-iterator.rest.items;
}
