use Rattle.std.proofs.Common.{ℕ, ◌+◌, ◌<◌}
use Rattle.qm_tree.specs.Trees.{IsDepth, place}
use Rattle.qm_tree.proofs.tree.depth.Given as goal

abbrev pub decreases-loop-v : goal.decreases-loop-v
decreases-loop-v l = l.v

-- what is left to the root, and what was counted
abbrev pub invariant-loop-v : goal.invariant-loop-v
invariant-loop-v l =
    record {
      few : l.copies + l.v < l.fn.ranks;
      counted : (d : ℕ) → IsDepth l.v d → IsDepth (place l.fn.rank l.fn.root l.fn.ranks) (l.copies + d);
    }
