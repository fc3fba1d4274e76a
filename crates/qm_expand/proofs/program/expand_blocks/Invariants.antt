use Rattle.std.proofs.Common.{◌≡◌, ◌≤◌, ◌-◌, length}
use Rattle.qm_expand.specs.Walk.{blocks_walked}
use Rattle.qm_expand.specs.Views.{words_of, draft_seen}
use Rattle.qm_expand.proofs.program.expand_blocks.Given as goal

abbrev pub invariant-loop-rank : goal.invariant-loop-rank
invariant-loop-rank l =
    let words = words_of l.source in
    record {
      at : l.at ≤ length l.nodes;
      used : l.used ≤ length l.nodes;
      ranks : length l.draft.input.ranks ≡ l.ranks;
      rest : blocks_walked words l.nodes l.head (l.ranks - l.rank) l.rank l.at l.used (draft_seen l.draft) ≡ blocks_walked words l.nodes l.head l.ranks 0 0 0 (draft_seen l.fn.draft);
    }
