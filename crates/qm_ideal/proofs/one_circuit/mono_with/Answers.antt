use Rattle.std.proofs.Common.{◌∙◌, sym, ap, subst}
use Rattle.qm_check.specs.Checks.{IsReady}
use Rattle.qm_ideal.specs.Drawings.{IsDrawnCircuit}
use Rattle.qm_ideal.specs.OneCircuits.{HasOneCircuit}
use Rattle.qm_ideal.specs.Views.{state_of, view_of_run}
use Rattle.qm_ideal.proofs.DrawnCircuits.{drawn_circuit}
use Rattle.qm_ideal.proofs.DrawnLemmas.{letters_few}
use Rattle.qm_ideal.proofs.one_circuit.mono_with.Goals as goal

pub measured-requires-clause-short : goal.measured-requires-clause-short
measured-requires-clause-short g c =
    let way = c.in_ok-run.ensures.way in
    letters_few c.input-input.result.now (subst IsReady (sym c.input-input.ensures.value) c.input-input.ensures.ready) c.ranks-count.ensures.in_range (state_of c.in_ok-run.run') way.outcomes way.drawn

pub returns-clause-ok : goal.returns-clause-ok
returns-clause-ok g c =
    let same = c.input-input.ensures.value in
    let x = c.in_ok-run.run' in
    let run = c.in_ok-run.ensures in
    subst (λ q. IsDrawnCircuit q (g.D.Draw.draws c.of.new.feed) c.in_ok-measured.field-0) same
    (drawn_circuit c.input-input.result.now
    (subst HasOneCircuit (sym same) c.requires.whole)
    (g.D.Draw.draws c.of.new.feed) x c.in_ok-measured.field-0 run.way run.end run.ranks
    (c.in_ok-measured.ensures ∙ ap (λ n. view_of_run n x) c.ranks-count.ensures.value))
