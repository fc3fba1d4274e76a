-- The end of a run whose outcomes were drawn
use Rattle.std.proofs.Common.{◌≡◌, ◌∙◌, ℕ, ◌<◌, Bool, List, length, is_some, refl, sym, ap, subst}
use Rattle.qm_instr.specs.Programs.{Programs, rank_of}
use Rattle.qm_proto.specs.Model.Ideal.{IdealState, ideal_replay, AllDone, IsOneRun}
use Rattle.qm_confluence.specs.Drawn.{outcomes_for}
use Rattle.qm_confluence.specs.Tapes.{with_tapes}
use Rattle.qm_confluence.proofs.Confluence.Drawn.{left_of}
use Rattle.qm_confluence.proofs.Confluence.DrawnAhead.{ahead, taped, followed_itself}
use Rattle.qm_confluence.proofs.Confluence.SameSteps.{current_same, outcomes_law}
use Rattle.qm_confluence.proofs.Confluence.Told.{filled_state}
use Rattle.qm_confluence.proofs.Endings.IdealRuns.{one_run_law}
use Rattle.qm_ideal.specs.declared.run.Run.{Run}
use Rattle.qm_ideal.specs.Drawings.{Drawing, drawing, drawn, IsDrawnCircuit}
use Rattle.qm_ideal.specs.OneCircuits.{OneView, IsOneCircuit, HasOneCircuit}
use Rattle.qm_ideal.specs.OneRuns.{IsItsEnd}
use Rattle.qm_ideal.specs.UnderWay.{IsUnderWay, NoneEnabled}
use Rattle.qm_ideal.specs.Views.{state_of, view_of_run}
use Rattle.qm_ideal.proofs.DrawnLemmas.{taped_end}
use Rattle.qm_ideal.proofs.OneCircuitLemmas.{circuit_at_end}

-- there is no other run
whole : (p : Programs) → HasOneCircuit p → (ranks : List ℕ) → IsOneRun p ranks → AllDone p (ideal_replay p ranks).tables
whole p has ranks run =
    let law = one_run_law p in
    let same = law.only has.1.ranks has.1.run ∙ sym (law.only ranks run) in
    subst (λ rs. AllDone p (ideal_replay p rs).tables) same has.1.done

-- where the run of the programs leaves no instruction, that with other own tapes doesn't either
module _ (p : Programs) (has : HasOneCircuit p) (own : ℕ → List Bool) where
  done_too : (ranks : List ℕ) → IsOneRun (with_tapes p own) ranks → AllDone (with_tapes p own) (ideal_replay (with_tapes p own) ranks).tables
  done_too ranks run r known =
      let q = with_tapes p own in
      let law = outcomes_law p in
      let alike = law.alike own (λ r. (rank_of p r).own) ranks run in
      let itself : IsOneRun p ranks = subst (λ z. IsOneRun z ranks) law.own alike.run in
      let same = taped p own in
      let far : ((ideal_replay p ranks).tables.parts r).at ≡ ((ideal_replay q ranks).tables.parts r).at =
      sym (alike.far.at r ∙ ap (λ z. ((ideal_replay z ranks).tables.parts r).at) law.own) in
      ap is_some (current_same p q same.count same.same (ideal_replay p ranks).tables (ideal_replay q ranks).tables r far)
      ∙ whole p has ranks itself r (subst (λ n. r < n) same.count known)

pub drawn_circuit : (p : Programs) → HasOneCircuit p → (draws : Drawing → Type 0) (x : Run) (m : OneView)
    → IsUnderWay p draws (state_of x) → NoneEnabled p (state_of x) → length x.tables.ranks.items ≡ length p.ranks → m ≡ view_of_run (length p.ranks) x
    → IsDrawnCircuit p draws m
drawn_circuit p has draws x m way none count is =
    let s = state_of x in
    let outs = way.outcomes in
    let own : ℕ → List Bool = λ r. outcomes_for r outs in
    let q = drawn p outs in
    let same = taped p own in
    let follow = followed_itself p s outs way.drawn in
    let left = left_of outs q in
    let end : IsItsEnd q (filled_state left s) = taped_end p s outs way.drawn q same follow none in
    let done : AllDone q (filled_state left s).tables = subst (λ (u : IdealState). AllDone q u.tables) end.state (done_too p has own end.ranks end.run) in
    let v = view_of_run (length q.ranks) x in
    let circuit : IsOneCircuit q v = circuit_at_end q x left end (count ∙ sym same.count) done in
    let here : IsDrawnCircuit p draws v = (
      drawing s.circuit outs,
      way.fed,
      record {
        going = refl;
        circuit = circuit;
        letters = refl;
        keeps = record { places = way.drawn.places; measured = (ahead q circuit.ranks s outs left (way.drawn.way q same follow) circuit.run).measured };
      },
    ) in
    subst (IsDrawnCircuit p draws) (sym (is ∙ ap (λ n. view_of_run n x) (sym same.count))) here
