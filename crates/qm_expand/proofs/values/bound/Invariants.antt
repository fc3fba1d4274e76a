use Rattle.std.proofs.Common.{◌≡◌, length}
use Rattle.qm_expand.specs.Values.{bound}
use Rattle.qm_expand.specs.Views.{words_of, names_in}
use Rattle.qm_expand.proofs.values.bound.Given as goal

abbrev pub invariant-loop-newest : goal.invariant-loop-newest
invariant-loop-newest l =
    let name = (words_of l.source).bytes l.token in
    bound (names_in l.source l.rest) name ≡ bound (names_in l.source l.names.items) name

abbrev pub decreases-loop-newest : goal.decreases-loop-newest
decreases-loop-newest l = length l.rest
