use Rattle.std.proofs.Common.{◌∙◌, sym, ap}
use Rattle.qm_expand.specs.Steps.{◌>>=◌}
use Rattle.qm_expand.specs.Walk.{tapes_walked}
use Rattle.qm_expand.specs.Views.{words_of}
use Rattle.qm_expand.proofs.ProgramLemmas.{three}
use Rattle.qm_expand.proofs.program.append_tapes.Goals as goal

pub loop-rest-preserved : goal.loop-rest-preserved
loop-rest-preserved c =
    let words = words_of c.args.source.now in
    let next = c.after-rest.result.now in
    let is = three c.loop-rest.rest.now c.after-behind.result.now c.after-last.result.now next c.first_of-first.result c.first_of-rank.result c.first_of-bits.result
    c.first_of-first.ensures c.after-behind.ensures c.first_of-rank.ensures c.after-last.ensures c.first_of-bits.ensures c.after-rest.ensures in
    sym (ap (λ xs. tapes_walked words xs c.loop-rest.draft.input) is
    ∙ ap (λ o. o >>= λ q. tapes_walked words next q) c.in_ok-append_tape.ensures)
    ∙ c.loop-rest.invariant
