use Rattle.std.proofs.Common.{◌≡◌, length, drop}
use Rattle.qm_expand.specs.Drafts.{with_each}
use Rattle.qm_expand.specs.Expansion.{part_of}
use Rattle.qm_expand.specs.Views.{draft_seen}
use Rattle.qm_expand.proofs.draft.Draft.share.Given as goal

abbrev pub invariant-loop-j : goal.invariant-loop-j
invariant-loop-j l =
    let is = part_of l.which l.scope.rank l.scope.ranks in
    record {
      ranks : length l.self.input.ranks ≡ length l.fn.self.input.ranks;
      rest : with_each l.line l.scope.rank (drop l.j is) (draft_seen l.self) ≡ with_each l.line l.scope.rank is (draft_seen l.fn.self);
    }
