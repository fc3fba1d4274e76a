-- What one entry more of a schedule adds to its outcomes, to its ideal run and to the ideal circuit; and the letter of an event that takes
-- an outcome
use Rattle.std.proofs.Common.{◌≡◌, ℕ, ◌+◌, nat_eq, nat_lt, ◌&&◌, Bool, true, false, cond, if◌then◌else◌, List, [], ◌∷◌, ◌++◌, fold, Some, slice_get, refl, sym, ap, ap₂, ◌∙◌, arith}
use Rattle.std.proofs.lemmas.Bool.{and_right, eqb-true, le-ltb}
use Rattle.std.proofs.lemmas.List.{append-nil}
use Rattle.std.proofs.lemmas.List.Sums.{fold_push}
use Rattle.qm_denot.specs.declared.Letter.TheVariants.{Flip, Phase, Take}
use Rattle.qm_denot.specs.declared.Wire.{Wire}
use Rattle.qm_instr.specs.declared.Instr.{Instr}
use Rattle.qm_instr.specs.declared.Instr.TheVariants as instr
use Rattle.qm_instr.specs.Programs.{Programs}
use Rattle.qm_proto.specs.declared.Act.TheVariants.{ProtocolUsed}
use Rattle.qm_proto.specs.declared.Row.{Row}
use Rattle.qm_proto.specs.Model.Acts.{list_of, after_act, acts_letters}
use Rattle.qm_proto.specs.Model.Ideal.{IdealTables, IdealState, ideal_current, ideal_row_of, after_instr, ideal_next, ideal_at_start, ideal_replay}
use Rattle.qm_proto.specs.Model.Rows.{instr_at, current, rows, gate_letter}
use Rattle.qm_proto.specs.Model.Runs.{row_next, next}
use Rattle.qm_proto.specs.Model.Schedules.{state_at_start, replay}
use Rattle.qm_proto.specs.Model.State.{Tables, State, wire_in, near_last, protocol_next, wire_of, bit_of, first_bit, second_bit}
use Rattle.qm_simulation.specs.Following.Deciding.{events_before, before_deciding, decides, ideal_from, ideal_of, outcomes, row_outcomes, outcomes_from, outcomes_done}
use Rattle.qm_simulation.specs.Following.Seen.{part_seen, tables_seen}
use Rattle.qm_proto.proofs.Lines.{EachFrom, at_stage}
use Rattle.qm_safety.proofs.Tables.NextEvents.{IsNext}
use Rattle.qm_simulation.proofs.Following.Deeds.{ideal_letters}
use Rattle.qm_simulation.proofs.Following.Places.{letters_none_used}

-- ---- along a schedule
module _ (p : Programs) where
  outcomes_push : (s : State) (rs : List ℕ) (r : ℕ) → outcomes_from p s (rs ++ r ∷ []) ≡ outcomes_from p s rs + row_outcomes (row_next p (fold (next p) s rs).tables r)
  outcomes_push s [] r = omega arith
  outcomes_push s (x ∷ rs) r = let rest = outcomes_push (next p s x) rs r in omega arith

  pub outcomes_done-push : (rs : List ℕ) (r : ℕ) → outcomes_done p (rs ++ r ∷ []) ≡ outcomes_done p rs + row_outcomes (row_next p (replay p rs).tables r)
  unfolding outcomes_done replay
  outcomes_done-push rs r = outcomes_push (state_at_start p) rs r

  -- the rank, where its event is deciding
  abbrev pub stepped : State → ℕ → List ℕ
  stepped s r = if decides p s.tables r then r ∷ [] else []

  ideal_push : (s : State) (rs : List ℕ) (r : ℕ) → ideal_from p s (rs ++ r ∷ []) ≡ ideal_from p s rs ++ stepped (fold (next p) s rs) r
  ideal_push s [] r = refl
  ideal_push s (x ∷ rs) r = by_test (decides p s.tables x) (ideal_from p (next p s x) (rs ++ r ∷ [])) (ideal_from p (next p s x) rs) (stepped (fold (next p) (next p s x) rs) r) (ideal_push (next p s x) rs r)
    where
      by_test : (b : Bool) (xs ys zs : List ℕ) → xs ≡ ys ++ zs → (if b then x ∷ xs else xs) ≡ (if b then x ∷ ys else ys) ++ zs
      by_test true xs ys zs e = ap (λ ks. x ∷ ks) e
      by_test false xs ys zs e = e

  pub ideal_of-push : (rs : List ℕ) (r : ℕ) → ideal_of p (rs ++ r ∷ []) ≡ ideal_of p rs ++ stepped (replay p rs) r
  unfolding ideal_of replay
  ideal_of-push rs r = ideal_push (state_at_start p) rs r

  ideal_replay-push : (ks : List ℕ) (r : ℕ) → ideal_replay p (ks ++ r ∷ []) ≡ ideal_next p (ideal_replay p ks) r
  unfolding ideal_replay
  ideal_replay-push ks r = fold_push (ideal_next p) (ideal_at_start p) ks r

  -- ---- the ideal circuit
  -- a rank before its deciding event stands where the ideal machine stands
  current_seen : (t : Tables) (r : ℕ) (i : Instr) (s : ℕ) → current p t r ≡ Some i → (t.parts r).stage ≡ s → (nat_lt 0 s && nat_lt (events_before i) s) ≡ false
      → ideal_current p (tables_seen p t) r ≡ Some i
  current_seen t r i s read stage early =
      let v = t.parts r in
      let at : ((tables_seen p t).parts r).at ≡ v.at =
      ap₂ (λ o m. (part_seen o m v).at) read stage ∙ ap (λ b. cond b (v.at + 1) v.at) early in
      ap (instr_at p r) at ∙ read

  step_circuit : (x : IdealState) (t : Tables) (r : ℕ) (i : Instr) → x.tables ≡ tables_seen p t → ideal_current p (tables_seen p t) r ≡ Some i
      → (ideal_next p x r).circuit ≡ x.circuit ++ (ideal_row_of p (tables_seen p t) r i).letters
  step_circuit x t r i seen read =
      ap (λ o. (after_instr p x r o).circuit) (ap (λ (u : IdealTables). ideal_current p u r) seen ∙ read)
      ∙ ap (λ (u : IdealTables). x.circuit ++ (ideal_row_of p u r i).letters) seen

  module _ (rs : List ℕ) (r : ℕ) (i : Instr) (s : ℕ) (next : IsNext p (replay p rs).tables r i s)
      (seen : (ideal_replay p (ideal_of p rs)).tables ≡ tables_seen p (replay p rs).tables) where
    decided : decides p (replay p rs).tables r ≡ nat_eq s (events_before i)
    decided = ap₂ (λ m o. nat_eq m (before_deciding o)) next.stage next.read

    pub ideal_circuit-push : (ideal_replay p (ideal_of p (rs ++ r ∷ []))).circuit
        ≡ (ideal_replay p (ideal_of p rs)).circuit ++ ideal_letters p (replay p rs).tables r i s
    ideal_circuit-push =
        ap (λ ks. (ideal_replay p ks).circuit) (ideal_of-push rs r)
        ∙ ap (λ b. (ideal_replay p (ideal_of p rs ++ (if b then r ∷ [] else []))).circuit) decided ∙ by_test (nat_eq s (events_before i)) refl
      where
        late : (k m : ℕ) → nat_eq k m ≡ true → (nat_lt 0 k && nat_lt m k) ≡ false
        late k m e =
            let same = eqb-true k m e in
            ap (λ j. nat_lt 0 j && nat_lt m j) same ∙ ap (λ b. nat_lt 0 m && b) (le-ltb m m (omega arith)) ∙ and_right (nat_lt 0 m) false refl

        by_test : (b : Bool) → nat_eq s (events_before i) ≡ b
            → (ideal_replay p (ideal_of p rs ++ (if b then r ∷ [] else []))).circuit
            ≡ (ideal_replay p (ideal_of p rs)).circuit ++ cond b (ideal_row_of p (tables_seen p (replay p rs).tables) r i).letters []
        by_test true e =
            ap (λ (x : IdealState). x.circuit) (ideal_replay-push (ideal_of p rs) r)
            ∙ step_circuit (ideal_replay p (ideal_of p rs)) (replay p rs).tables r i seen
            (current_seen (replay p rs).tables r i s next.read next.stage (late s (events_before i) e))
        by_test false e = ap (λ ks. (ideal_replay p ks).circuit) (append-nil (ideal_of p rs)) ∙ sym (append-nil (ideal_replay p (ideal_of p rs)).circuit)

-- ---- an event that takes an outcome measures a wire away
pub record Measures (t : Tables) (r : ℕ) (w : Row) : Type 0 where
  pub wire : Wire
  pub outcome : Bool
  pub letters : acts_letters r (list_of w.acts) t ≡ Take wire outcome ∷ []

module _ (p : Programs) (t : Tables) (r : ℕ) where
  record OnOutcome (s : ℕ) (w : Row) : Type 0 where
    measures : outcomes (list_of w.acts) ≡ 1 → Measures t r w

  without : {s : ℕ} {w : Row} → outcomes (list_of w.acts) ≡ 0 → OnOutcome s w
  without none = record { measures = λ e. absurd (let k : ⊥ = omega arith in k) }

  takes : {s : ℕ} {w : Row} (v : Wire) (m : Bool) → acts_letters r (list_of w.acts) t ≡ Take v m ∷ [] → OnOutcome s w
  takes v m is = record { measures = λ e. record { wire = v; outcome = m; letters = is } }

  abbrev near_now : Wire
  near_now = near_last (after_act r ProtocolUsed t) r

  table : (i : Instr) → EachFrom OnOutcome 0 (rows p t r i)
  table (instr.Alloc q) = (without refl, tt)
  table (instr.Do g) = (without refl, tt)
  table (instr.Free q) = (without refl, tt)
  table (instr.Measure q b) = (without refl, tt)
  table (instr.Set b v) = (without refl, tt)
  table (instr.Xor b c) = (without refl, tt)
  table (instr.When b g) = (without (letters_none_used (bit_of t r b) (gate_letter (wire_in t r) g)), tt)
  table (instr.SendBit b to tag) = (without refl, tt)
  table (instr.RecvBit b from tag) = (without refl, tt)
  table (instr.CopyTo q to tag) = (without refl, (without refl, (takes near_now (protocol_next t r) refl, tt)))
  table (instr.CopyFrom q from tag) = let x = (t.parts r).taken in (without refl, (without (letters_none_used (first_bit x) (Flip (wire_of x))), tt))
  table (instr.UndoTo q to tag) = (without refl, (takes (wire_in t r q) (protocol_next t r) refl, tt))
  table (instr.UndoFrom q from tag) = (without refl, (without (letters_none_used (first_bit (t.parts r).taken) (Phase 4 (wire_in t r q))), tt))
  table (instr.MoveTo q to tag) = (
    without refl,
    (
      without refl,
      (
        without refl,
        (
          takes near_now (protocol_next t r) refl,
          (takes (wire_in t r q) (protocol_next t r) refl, tt),
        ),
      ),
    ),
  )
  table (instr.MoveFrom q from tag) =
      let x = (t.parts r).taken in
      (without refl, (without (letters_none_used (first_bit x) (Flip (wire_of x))), (without (letters_none_used (second_bit x) (Phase 4 (wire_of x))), tt)))
  table (instr.ReachTo q to tag) = (
    without refl,
    (
      without refl,
      (
        takes near_now (protocol_next t r) refl,
        (
          without refl,
          (without (letters_none_used (first_bit (t.parts r).taken) (Phase 4 (wire_in t r q))), tt),
        ),
      ),
    ),
  )
  table (instr.ReachFrom q from tag) =
      let x = (t.parts r).taken in (
        without refl,
        (
          without (letters_none_used (first_bit x) (Flip (wire_of x))),
          (
            without refl,
            (
              without refl,
              (takes (wire_of x) (protocol_next t r) refl, tt),
            ),
          ),
        ),
      )

  pub measures_away : (i : Instr) (s : ℕ) (w : Row) → slice_get (rows p t r i) s ≡ Some w → outcomes (list_of w.acts) ≡ 1 → Measures t r w
  measures_away i s w line one = (at_stage OnOutcome (rows p t r i) s w (table i) line).measures one
