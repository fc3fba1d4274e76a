use Rattle.std.proofs.Common.{◌≡◌, length}
use Rattle.qm_expand.specs.Walk.{tapes_walked}
use Rattle.qm_expand.specs.Views.{words_of}
use Rattle.qm_expand.proofs.program.append_tapes.Given as goal

abbrev pub invariant-loop-rest : goal.invariant-loop-rest
invariant-loop-rest l =
    let words = words_of l.source in tapes_walked words l.rest l.draft.input ≡ tapes_walked words l.nodes l.fn.draft.input

abbrev pub decreases-loop-rest : goal.decreases-loop-rest
decreases-loop-rest l = length l.rest
