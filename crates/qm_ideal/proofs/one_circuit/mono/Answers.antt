use Rattle.std.proofs.Common.{◌∙◌, length, subst, sym, ap}
use Rattle.qm_ideal.specs.OneCircuits.{IsOneCircuit, EndsEarly}
use Rattle.qm_ideal.specs.Views.{state_of, tables_of, view_of_run}
use Rattle.qm_ideal.proofs.OneCircuitLemmas.{ends_early, circuit_at_end, done_where_none, left_alike}
use Rattle.qm_confluence.proofs.Confluence.Told.{filled_state}
use Rattle.qm_ideal.proofs.RunBounds.{letters_bound}
use Rattle.qm_ideal.proofs.one_circuit.mono.Goals as goal

pub returns-then-ranks-ne0-clause-err : goal.returns-then-ranks-ne0-clause-err
returns-then-ranks-ne0-clause-err c =
    subst (λ p. EndsEarly p c.ranks_left-ranks.result) c.input-input.ensures.value
    (let p = c.input-input.result.now in
    let end = c.in_ok-run.ensures.end in
    let t = tables_of c.in_ok-run.run'.tables in
    ends_early p (filled_state end.0 (state_of c.in_ok-run.run')) c.ranks_left-ranks.result end.1
    (c.ranks_left-ranks.ensures ∙ sym (left_alike p t end.0 0 (length p.ranks))) c.if-ranks-ne0.true)

pub returns-clause-ok : goal.returns-clause-ok
returns-clause-ok c =
    let p = c.input-input.result.now in
    let x = c.in_ok-run.run' in
    let end = c.in_ok-run.ensures.end in
    let none = left_alike p (tables_of x.tables) end.0 0 (length p.ranks) ∙ sym c.ranks_left-ranks.ensures ∙ c.if-ranks-ne0.false in
    let done = done_where_none p (filled_state end.0 (state_of x)).tables none in
    subst (λ q. IsOneCircuit q c.in_ok-measured.field-0) c.input-input.ensures.value
    (subst (IsOneCircuit p) (sym (c.in_ok-measured.ensures ∙ ap (λ n. view_of_run n x) c.ranks-count.ensures.value))
    (circuit_at_end p x end.0 end.1 c.in_ok-run.ensures.ranks done))

pub measured-requires-clause-short : goal.measured-requires-clause-short
measured-requires-clause-short c =
    let end = c.in_ok-run.ensures.end in
    letters_bound c.input-input.result.now c.ranks-count.ensures.in_range (filled_state end.0 (state_of c.in_ok-run.run')) end.1
