-- An ideal step whose deciding event takes a protocol outcome keeps the weight and the halvings of the ideal circuit
use Rattle.std.proofs.Common.{◌≡◌, ◌≢◌, ℕ, false, List, [], ◌∷◌, ◌++◌, Some, slice_get, refl, sym, ap, subst, ◌∙◌, append_assoc, arith}
use Rattle.std.proofs.lemmas.List.{append-nil}
use Rattle.qm_denot.specs.declared.Letter.{Letter}
use Rattle.qm_denot.specs.declared.Letter.TheVariants.{Phase, Flip, Cx, Take, Rename}
use Rattle.qm_denot.specs.declared.Wire.{Wire}
use Rattle.qm_denot.specs.Circuits.{Amplitudes, Circuit, amp, halvings, IsBlank}
use Rattle.qm_denot.specs.CircuitFacts.{AllProper}
use Rattle.qm_denot.specs.Protocols.{Agree}
use Rattle.qm_denot.specs.Weights.{weight}
use Rattle.qm_denot.specs.Tags.{Tagged}
use Rattle.qm_denot.proofs.Amplitudes.{amp-append}
use Rattle.qm_denot.proofs.NameLists.{not_sym}
use Rattle.qm_denot.proofs.Parities.{IsBlankIn-cross}
use Rattle.qm_denot.proofs.Weights.{weight-append_unitary, weight-push_rename, weight-push_take_blank}
use Rattle.qm_instr.specs.declared.Instr.{Instr}
use Rattle.qm_instr.specs.declared.Instr.TheVariants as instr
use Rattle.qm_instr.specs.Programs.{Programs, IsInRange}
use Rattle.qm_check.specs.Checks.{IsReady}
use Rattle.qm_proto.specs.declared.Row.{Row}
use Rattle.qm_proto.specs.Model.Acts.{list_of}
use Rattle.qm_proto.specs.Model.Ideal.{ideal_wire_made, ideal_wire_offered}
use Rattle.qm_proto.specs.Model.Rows.{rows, gate_letter, source_wire}
use Rattle.qm_proto.specs.Model.State.{Tables, wire_in, wire_of, bit_of, first_bit, second_bit}
use Rattle.qm_simulation.specs.Following.Deciding.{outcomes}
use Rattle.qm_simulation.specs.Following.Debts.{Message}
use Rattle.qm_simulation.specs.Following.Follows.{AgreeIn, Follows}
use Rattle.qm_confluence.specs.Counted.{IsCounted}
use Rattle.qm_simulation.specs.Following.Seen.{tables_seen}
use Rattle.qm_simulation.proofs.Following.Agreeing.{giving}
use Rattle.qm_simulation.proofs.Following.Deeds.{ideal_letters}
use Rattle.qm_simulation.proofs.Following.Givings.{offered_seen}
use Rattle.qm_confluence.proofs.Confluence.IdealWires.{blank_where}
use Rattle.qm_simulation.proofs.Following.Places.{before_event, letters_none_used}
use Rattle.qm_simulation.proofs.Following.Stood.{IsStood}
use Rattle.qm_proto.proofs.Lines.{EachFrom, at_stage}
use Rattle.qm_safety.proofs.Tables.NextEvents.{IsNext}

-- letters that are done or not take no outcome
module _ (p : Programs) (ready : IsReady p) (ranges : IsInRange p) (t : Tables) (r : ℕ) (stood : IsStood p t)
    (n : ℕ) (g c : Circuit) (ds : Tagged Message) (before : Follows p t n g c ds) where
  -- the letters keep the weight and the halvings of the ideal circuit
  pub record Keeps (ls : List Letter) : Type 0 where
    pub weight_same : weight (c ++ ls) ≡ weight c
    pub no_halving : halvings ls ≡ 0

  keeps_none : Keeps []
  keeps_none = record { weight_same = ap weight (append-nil c); no_halving = refl }

  keeps_cross : (v w : Wire) → AllProper (Cx v w ∷ []) → Keeps (Cx v w ∷ [])
  keeps_cross v w proper =
      let unitary = weight-append_unitary c (Cx v w ∷ []) (not_sym proper.0.0.0, tt) in
      record { weight_same = omega arith; no_halving = refl }

  -- a wire that the ideal machine counts next is blank
  keeps_rename : (w : Wire) → AllProper (Rename w (ideal_wire_made (tables_seen p t) r) ∷ []) → Keeps (Rename w (ideal_wire_made (tables_seen p t) r) ∷ [])
  keeps_rename w proper =
      let f = ideal_wire_made (tables_seen p t) r in
      let out : ¬ IsCounted (tables_seen p t) f = λ h. let below = h.below in omega arith in
      record { weight_same = weight-push_rename c w f (not_sym proper.0.0.0) (blank_where (tables_seen p t) c f before.named out); no_halving = refl }

  -- a copy that is given up agrees with its source
  keeps_uncopy : (q d tag : ℕ) → IsNext p t r (instr.UndoTo q d tag) 1
      → (let v = ideal_wire_offered p (tables_seen p t) d in let w = wire_in t r q in AllProper (Cx v w ∷ Take w false ∷ []) → Keeps (Cx v w ∷ Take w false ∷ []))
  keeps_uncopy q d tag next proper =
      let i = instr.UndoTo q d tag in
      let x = giving p ready ranges t r stood i 1 next r q d tag (before_event p t r i 1 next) in
      let v = ideal_wire_offered p (tables_seen p t) d in
      let w = wire_in t r q in
      let source : v ≡ source_wire p t d = offered_seen p t d (instr.UndoFrom x.source r tag) 0 x.ready_there refl in
      let other : v ≢ w = not_sym proper.0.0.0 in
      let agree : Agree (amp c) v w = subst (λ u. Agree (amp c) u w) (sym source) (subst (AgreeIn p t r c) next.read (before.agree r next.stage)) in
      let blank : IsBlank (c ++ Cx v w ∷ []) w = λ y h. ap (λ (f : Amplitudes). f y) (amp-append c (Cx v w ∷ [])) ∙ IsBlankIn-cross (amp c) v w other agree y h in
      let first = keeps_cross v w (proper.0, tt) in
      record {
        weight_same = ap weight (sym (append_assoc c (Cx v w ∷ []) (Take w false ∷ []))) ∙ weight-push_take_blank (c ++ Cx v w ∷ []) w blank ∙ first.weight_same;
        no_halving = refl;
      }

  -- ---- each line that takes an outcome
  record OnOutcome (i : Instr) (s : ℕ) (w : Row) : Type 0 where
    keeps : IsNext p t r i s → outcomes (list_of w.acts) ≡ 1 → AllProper (ideal_letters p t r i s) → Keeps (ideal_letters p t r i s)

  without : {i : Instr} {s : ℕ} {w : Row} → outcomes (list_of w.acts) ≡ 0 → OnOutcome i s w
  without none = record { keeps = λ next e proper. absurd (let k : ⊥ = omega arith in k) }

  quiet : {i : Instr} {s : ℕ} {w : Row} → ideal_letters p t r i s ≡ [] → OnOutcome i s w
  quiet none = record { keeps = λ next e proper. subst Keeps (sym none) keeps_none }

  crosses : {i : Instr} {s : ℕ} {w : Row} (v u : Wire) → ideal_letters p t r i s ≡ Cx v u ∷ [] → OnOutcome i s w
  crosses v u is = record { keeps = λ next e proper. subst Keeps (sym is) (keeps_cross v u (subst AllProper is proper)) }

  table : (i : Instr) → EachFrom (OnOutcome i) 0 (rows p t r i)
  table (instr.Alloc q) = (without refl, tt)
  table (instr.Do g) = (without refl, tt)
  table (instr.Free q) = (without refl, tt)
  table (instr.Measure q b) = (without refl, tt)
  table (instr.Set b v) = (without refl, tt)
  table (instr.Xor b c) = (without refl, tt)
  table (instr.When b g) = (without (letters_none_used (bit_of t r b) (gate_letter (wire_in t r) g)), tt)
  table (instr.SendBit b to tag) = (without refl, tt)
  table (instr.RecvBit b from tag) = (without refl, tt)
  table (instr.CopyTo q to tag) = (
    without refl,
    (
      without refl,
      (crosses (wire_in t r q) (ideal_wire_made (tables_seen p t) r) refl, tt),
    ),
  )
  table (instr.CopyFrom q from tag) = let x = (t.parts r).taken in (without refl, (without (letters_none_used (first_bit x) (Flip (wire_of x))), tt))
  table (instr.UndoTo q to tag) = (without refl, (record { keeps = λ next e proper. keeps_uncopy q to tag next proper }, tt))
  table (instr.UndoFrom q from tag) = (without refl, (without (letters_none_used (first_bit (t.parts r).taken) (Phase 4 (wire_in t r q))), tt))
  table (instr.MoveTo q to tag) = (
    without refl,
    (
      without refl,
      (
        without refl,
        (
          quiet refl,
          (record { keeps = λ next e proper. keeps_rename (wire_in t r q) proper }, tt),
        ),
      ),
    ),
  )
  table (instr.MoveFrom q from tag) =
      let x = (t.parts r).taken in
      (without refl, (without (letters_none_used (first_bit x) (Flip (wire_of x))), (without (letters_none_used (second_bit x) (Phase 4 (wire_of x))), tt)))
  table (instr.ReachTo q to tag) = (
    without refl,
    (
      without refl,
      (
        quiet refl,
        (
          without refl,
          (without (letters_none_used (first_bit (t.parts r).taken) (Phase 4 (wire_in t r q))), tt),
        ),
      ),
    ),
  )
  table (instr.ReachFrom q from tag) =
      let x = (t.parts r).taken in (
        without refl,
        (
          without (letters_none_used (first_bit x) (Flip (wire_of x))),
          (
            without refl,
            (
              without refl,
              (crosses (ideal_wire_offered p (tables_seen p t) from) (wire_in t r q) refl, tt),
            ),
          ),
        ),
      )

  pub keeps_weight : (i : Instr) (s : ℕ) (w : Row) → slice_get (rows p t r i) s ≡ Some w → IsNext p t r i s → outcomes (list_of w.acts) ≡ 1
      → AllProper (ideal_letters p t r i s) → Keeps (ideal_letters p t r i s)
  keeps_weight i s w line next one proper = (at_stage (OnOutcome i) (rows p t r i) s w (table i) line).keeps next one proper
