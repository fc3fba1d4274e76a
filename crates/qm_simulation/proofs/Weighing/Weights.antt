-- Each outcome of a protocol tape halves the weight of the circuit of a legal schedule
use Rattle.std.proofs.Common.{◌≡◌, ℕ, ◌+◌, ◌*◌, Bool, true, false, List, [], ◌∷◌, ◌++◌, Some, sym, ap, subst, ◌∙◌, arith}
use Rattle.qm_denot.specs.declared.Letter.{Letter}
use Rattle.qm_denot.specs.declared.Letter.TheVariants.{Take}
use Rattle.qm_denot.specs.declared.Wire.{Wire}
use Rattle.qm_denot.specs.Circuits.{Circuit, halvings, IsEqualUpTo}
use Rattle.qm_denot.specs.CircuitFacts.{AllProper}
use Rattle.qm_denot.specs.Weights.{weight}
use Rattle.qm_denot.specs.Tags.{letters_of}
use Rattle.qm_denot.proofs.Amplitudes.{halvings-append}
use Rattle.qm_denot.proofs.Weights.{weight-push_take_either}
use Rattle.qm_instr.specs.Programs.{Programs, IsInRange}
use Rattle.qm_check.specs.Checks.{IsReady}
use Rattle.qm_proto.specs.Model.Acts.{list_of}
use Rattle.qm_proto.specs.Model.Ideal.{ideal_replay}
use Rattle.qm_proto.specs.Model.Runs.{row_next, row_letters, next_letters}
use Rattle.qm_proto.specs.Model.Schedules.{replay, IsLegal, MayStep}
use Rattle.qm_proto.specs.Model.State.{Tables, State}
use Rattle.qm_proto.proofs.Replays.{replay-push, legal-push}
use Rattle.qm_simulation.specs.Following.Deciding.{ideal_of, outcomes, row_outcomes, outcomes_done}
use Rattle.qm_simulation.specs.Weighing.Weights.{HalvesWeight, WeightLaw}
use Rattle.qm_simulation.proofs.Following.Deeds.{ideal_letters}
use Rattle.qm_safety.proofs.Tables.NextEvents.{IsLineNext, line_next, row_is}
use Rattle.qm_simulation.proofs.Weighing.IdealWeights.{Keeps, keeps_weight}
use Rattle.qm_simulation.proofs.Weighing.Measured.{halved}
use Rattle.qm_simulation.proofs.Weighing.Pushes.{outcomes_done-push, ideal_circuit-push, Measures, measures_away}
use Rattle.qm_simulation.proofs.Weighing.Besides.{stood, beside, before, unitary, proper, some_weight, few_weight}

-- ---- lists of proper letters
proper_last : (ls ks : List Letter) → AllProper (ls ++ ks) → AllProper ks
proper_last [] ks h = h
proper_last (l ∷ ls) ks h = proper_last ls ks h.1

-- where one of two outcomes leaves half of the weight, so does the other
other_half : (c : Circuit) (w : Wire) (m : Bool) → 2 * weight (c ++ Take w m ∷ []) ≡ weight c → (b : Bool) → 2 * weight (c ++ Take w b ∷ []) ≡ weight c
other_half c w true half true = half
other_half c w false half false = half
other_half c w true half false = let both = weight-push_take_either c w in omega arith
other_half c w false half true = let both = weight-push_take_either c w in omega arith

-- ---- an event that takes an outcome
module _ (p : Programs) (ready : IsReady p) (ranges : IsInRange p) (rs : List ℕ) (legal : IsLegal p rs) (r : ℕ) (may : MayStep p (replay p rs) r)
    (one : row_outcomes (row_next p (replay p rs).tables r) ≡ 1) where
  abbrev t : Tables
  t = (replay p rs).tables

  abbrev g : Circuit
  g = (replay p rs).circuit

  abbrev c : Circuit
  c = (ideal_replay p (ideal_of p rs)).circuit

  here : IsLineNext p t r
  here = line_next p t r may.known may.able

  row : row_next p t r ≡ Some here.w
  row = row_is p t r here.i here.s here.next ∙ here.line

  taken : outcomes (list_of here.w.acts) ≡ 1
  taken = ap row_outcomes (sym row) ∙ one

  away : Measures t r here.w
  away = measures_away p t r here.i here.s here.w here.line taken

  letters : next_letters p t r ≡ Take away.wire away.outcome ∷ []
  letters = ap (λ o. row_letters r o t) row ∙ away.letters

  after_legal : IsLegal p (rs ++ r ∷ [])
  after_legal = legal-push p rs r legal may

  circuit_after : (replay p (rs ++ r ∷ [])).circuit ≡ g ++ Take away.wire away.outcome ∷ []
  circuit_after = ap (λ (s : State). s.circuit) (replay-push p rs r) ∙ ap (λ ls. g ++ ls) letters

  outcomes_after : outcomes_done p (rs ++ r ∷ []) ≡ outcomes_done p rs + 1
  outcomes_after = outcomes_done-push p rs r ∙ ap (λ k. outcomes_done p rs + k) one

  ideal_after : (ideal_replay p (ideal_of p (rs ++ r ∷ []))).circuit ≡ c ++ ideal_letters p t r here.i here.s
  ideal_after = ideal_circuit-push p rs r here.i here.s here.next (beside p ready ranges rs legal).seen

  kept : Keeps p ready ranges t r (stood p ready ranges rs legal) (outcomes_done p rs) g c (beside p ready ranges rs legal).follow.debts (before p ready ranges rs legal)
      (ideal_letters p t r here.i here.s)
  kept =
      keeps_weight p ready ranges t r (stood p ready ranges rs legal) (outcomes_done p rs) g c (beside p ready ranges rs legal).follow.debts (before p ready ranges rs legal)
      here.i here.s here.w here.line here.next taken
      (proper_last c (ideal_letters p t r here.i here.s) (subst AllProper ideal_after (proper p ready ranges (rs ++ r ∷ []) after_legal)))

  same_halvings : (m : Bool) → halvings (g ++ Take away.wire m ∷ []) ≡ halvings g
  same_halvings m = let e = halvings-append g (Take away.wire m ∷ []) in omega arith

  half : 2 * weight (g ++ Take away.wire away.outcome ∷ []) ≡ weight g
  half =
      let es = (beside p ready ranges (rs ++ r ∷ []) after_legal).follow.debts in
      let j = c ++ ideal_letters p t r here.i here.s in
      let n = outcomes_done p rs in
      let after : IsEqualUpTo (n + 1) (g ++ Take away.wire away.outcome ∷ []) (j ++ letters_of es) =
      subst (λ k. IsEqualUpTo k (g ++ Take away.wire away.outcome ∷ []) (j ++ letters_of es)) outcomes_after
      (subst (λ h. IsEqualUpTo (outcomes_done p (rs ++ r ∷ [])) h (j ++ letters_of es)) circuit_after
      (subst (λ i. IsEqualUpTo (outcomes_done p (rs ++ r ∷ [])) (replay p (rs ++ r ∷ [])).circuit (i ++ letters_of es)) ideal_after
      (before p ready ranges (rs ++ r ∷ []) after_legal).equal)) in
      let e = halvings-append c (ideal_letters p t r here.i here.s) in
      halved n g (g ++ Take away.wire away.outcome ∷ []) c j (letters_of (beside p ready ranges rs legal).follow.debts) (letters_of es)
      (before p ready ranges rs legal).equal (unitary p ready ranges rs legal) after (unitary p ready ranges (rs ++ r ∷ []) after_legal)
      (same_halvings away.outcome) (let k = kept.no_halving in omega arith) kept.weight_same

  halves : HalvesWeight p rs r
  halves = record {
    wire = away.wire;
    outcome = away.outcome;
    letters = letters;
    half = other_half g away.wire away.outcome half;
    halvings_same = same_halvings;
  }

pub weight_law : WeightLaw
weight_law p schedule run =
    record {
      some = some_weight p run.ready run.in_range schedule run.legal;
      few = few_weight p run.ready run.in_range schedule run.legal;
      halves = λ r may one. halves p run.ready run.in_range schedule run.legal r may one;
    }
