-- Each complete schedule comes to its own ideal run, and all ideal runs come to the same
use Rattle.std.proofs.Common.{◌≡◌, ◌+◌, sym, ap, subst, ◌∙◌, arith}
use Rattle.qm_denot.specs.Circuits.{IsEqualUpTo}
use Rattle.qm_denot.specs.CircuitFacts.{IsNonzero}
use Rattle.qm_denot.proofs.EqualUpTo.{equal_trans}
use Rattle.qm_denot.proofs.ReducedUpTo.{reduced_up_to}
use Rattle.qm_proto.specs.Model.Ideal.{IdealTables, IdealState, ideal_replay, IsOneRun}
use Rattle.qm_proto.specs.Model.Schedules.{replay, protocol_total}
use Rattle.qm_proto.proofs.Firsts.{one_run-ideal}
use Rattle.qm_confluence.specs.Confluence.{Alike}
use Rattle.qm_simulation.specs.Following.Deciding.{ideal_of}
use Rattle.qm_simulation.specs.Headline.{HeadlineLaw}
use Rattle.qm_confluence.proofs.Confluence.Confluent.{one_run_ends_alike, alike_equal}
use Rattle.qm_confluence.proofs.Confluence.NamedWires.{ideal_weights}
use Rattle.qm_simulation.proofs.Following.Complete as complete

nonzero_alike : (s u : IdealState) → Alike s u → IsNonzero s.circuit → IsNonzero u.circuit
nonzero_alike s u a n = (n.0, λ e. n.1 (a.amplitudes n.0 ∙ e))

pub headline_law : HeadlineLaw
headline_law p ready ranges schedule all =
    let e = complete.complete_law p ready ranges schedule all in
    let rs = ideal_of p schedule in
    let law = one_run_ends_alike p ready ranges in
    let found = law.some rs e.run e.done in
    let ranks = found.0 in
    let one : IsOneRun p ranks = found.1 in
    let same = law.each rs ranks e.run e.done one in
    let m = ideal_replay p ranks in
    let i = ideal_replay p rs in
    let g = (replay p schedule).circuit in
    let n = protocol_total p in
    let number : n + 0 ≡ n = omega arith in
    let equal : IsEqualUpTo n g m.circuit =
    subst (λ k. IsEqualUpTo k g m.circuit) number (equal_trans n 0 g i.circuit m.circuit e.equal (alike_equal i m same.alike)) in
    let some = nonzero_alike i m same.alike e.ideal_nonzero in
    let tame = ideal_weights p ready ranges ranks (one_run-ideal p ranks one) in
    let tables : i.tables ≡ m.tables = same.alike.tables in (
      ranks,
      record {
        run = one;
        done = same.done;
        equal = equal;
        slots = λ r q. ap (λ (t : IdealTables). t.slots r q) (sym tables) ∙ e.slots r q;
        bits = λ r. ap (λ (t : IdealTables). (t.parts r).bits) (sym tables) ∙ e.bits r;
        nonzero = e.nonzero;
        one_nonzero = some;
        one_weight = tame.weight;
        form = λ u k f. reduced_up_to u k n g m.circuit f equal tame.proper some;
      },
    )
