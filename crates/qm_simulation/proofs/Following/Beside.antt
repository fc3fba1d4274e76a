-- A run beside its ideal run: one event, and the ideal machine's step with it
use Rattle.std.proofs.Common.{◌≡◌, ℕ, ◌+◌, nat_eq, nat_lt, Bool, true, false, cond, ◌&&◌, if◌then◌else◌, List, [], ◌∷◌, ◌++◌, fold, Option, Some, None, refl, sym, ap, ap₂, subst, ◌∙◌, append-nil, arith}
use Rattle.std.proofs.lemmas.Bool.{and_right, eqb-true, le-ltb}
use Rattle.qm_denot.specs.Circuits.{Circuit}
use Rattle.qm_instr.specs.declared.Instr.{Instr}
use Rattle.qm_instr.specs.Programs.{Programs, IsInRange}
use Rattle.qm_check.specs.Checks.{IsReady}
use Rattle.qm_proto.specs.declared.Row.{Row}
use Rattle.qm_proto.specs.Model.State.{State}
use Rattle.qm_proto.specs.Model.Acts.{acts_letters}
use Rattle.qm_proto.specs.Model.Runs.{row_holds, row_letters, row_next, row_checks, NoneFails, next, next_tables, next_letters}
use Rattle.qm_proto.specs.Model.Schedules.{MayStep}
use Rattle.qm_proto.specs.Model.Ideal.{IdealTables, IdealState, ideal_after_act, ideal_past_instr, ideal_row_of, instr_enabled, ideal_current, ideal_enabled, ideal_next, after_instr, IsIdealFrom}
use Rattle.qm_safety.specs.Tables.Lines.{row_at, acts_of}
use Rattle.qm_simulation.specs.Following.Deciding.{events_before, before_deciding, decides, is_decided, ideal_from, outcomes, row_outcomes, outcomes_from}
use Rattle.qm_simulation.specs.Following.Seen.{tables_seen}
use Rattle.qm_safety.proofs.Tables.NextEvents.{IsNext, line_next, row_is, next_is}
use Rattle.qm_confluence.proofs.Confluence.IdealWires.{AreWiresCounted}
use Rattle.qm_simulation.proofs.Following.Invariant.{CanFollow}
use Rattle.qm_simulation.proofs.Following.Places.{before_event, after}
use Rattle.qm_simulation.proofs.Following.SeenSteps.{sees}
use Rattle.qm_simulation.proofs.Following.Stood.{IsStood, stood_next}
use Rattle.qm_simulation.proofs.Following.Deeds.{ideal_after, ideal_letters}
use Rattle.qm_simulation.proofs.Following.Enabling.{counted_event, enables, stands_seen}
use Rattle.qm_simulation.proofs.Following.Follow.{keeps}

-- ---- a run beside its ideal run
-- the ideal state beside a state
abbrev pub beside : Programs → State → Circuit → IdealState
beside p s c = record { tables = tables_seen p s.tables; circuit = c }

pub record RunsBeside (p : Programs) (s : State) (c : Circuit) (n : ℕ) : Type 0 where
  pub stood : IsStood p s.tables
  pub counted : AreWiresCounted (tables_seen p s.tables)
  pub follow : CanFollow p s.tables n s.circuit c

-- what the ideal machine does at an event of rank r
abbrev pub ideal_move : Programs → State → IdealState → ℕ → IdealState
ideal_move p s x r = if decides p s.tables r then ideal_next p x r else x

-- an event of rank r, and the ideal machine's step with it
pub record GoesBeside (p : Programs) (s : State) (c : Circuit) (n r : ℕ) : Type 0 where
  pub i : Instr
  pub stage : ℕ
  pub line : IsNext p s.tables r i stage
  pub circuit : Circuit
  pub letters : circuit ≡ c ++ ideal_letters p s.tables r i stage
  pub run : RunsBeside p (next p s r) circuit (n + row_outcomes (row_next p s.tables r))
  pub able : decides p s.tables r ≡ true → ideal_enabled p (tables_seen p s.tables) r ≡ true
  pub same : ideal_move p s (beside p s c) r ≡ beside p (next p s r) circuit

-- before its deciding event an instruction is not decided
not_decided : (i : Instr) (s : ℕ) → nat_eq s (events_before i) ≡ true → is_decided (Some i) s ≡ false
not_decided i s e =
    let same : s ≡ events_before i = eqb-true s (events_before i) e in
    let low : nat_lt (events_before i) s ≡ false = le-ltb (events_before i) s (omega arith) in
    ap (λ b. nat_lt 0 s && b) low ∙ and_right (nat_lt 0 s) false refl

module _ (p : Programs) (ready : IsReady p) (ranges : IsInRange p) (s : State) (c : Circuit) (n r : ℕ) (h : RunsBeside p s c n) (may : MayStep p s r) where
  row_there : (o : Option Row) → row_holds p s.tables o ≡ true → (row_outcomes o ≡ outcomes (acts_of o)) × (row_letters r o s.tables ≡ acts_letters r (acts_of o) s.tables)
  row_there None e = absurd (let z : ⊥ = cc in z)
  row_there (Some w) e = (refl, refl)

  -- all that an event makes
  record IsDone (i : Instr) (stage : ℕ) : Type 0 where
    stood : IsStood p (next_tables p s.tables r)
    seen : tables_seen p (next_tables p s.tables r) ≡ ideal_after p s.tables r i stage
    follow : CanFollow p (next_tables p s.tables r) (n + row_outcomes (row_next p s.tables r)) (s.circuit ++ next_letters p s.tables r)
        (c ++ ideal_letters p s.tables r i stage)

  each_done : (i : Instr) (stage : ℕ) → IsNext p s.tables r i stage → IsDone i stage
  each_done i stage next =
      let t = s.tables in
      let w = row_at p t r i stage in
      let there = row_there w next.holds in
      let row = row_is p t r i stage next in
      let same : next_tables p t r ≡ after p t r i stage = next_is p t r i stage next in
      let seen = sees p ready ranges t r h.stood i stage next in
      let f : CanFollow p (after p t r i stage) (n + outcomes (acts_of w)) (s.circuit ++ acts_letters r (acts_of w) t) (c ++ ideal_letters p t r i stage) =
      (keeps p ready ranges t r h.stood h.counted i stage next n s.circuit c h.follow.debts h.follow.following seen (subst (λ o. NoneFails s.circuit (row_checks o)) row may.allowed)).can in
      let number : row_outcomes (row_next p t r) ≡ outcomes (acts_of w) = ap row_outcomes row ∙ there.0 in
      let letters : next_letters p t r ≡ acts_letters r (acts_of w) t = ap (λ o. row_letters r o t) row ∙ there.1 in
      record {
        stood = stood_next p ready ranges t r h.stood may.able i stage next;
        seen = ap (tables_seen p) same ∙ seen;
        follow =
            subst (λ u. CanFollow p u (n + row_outcomes (row_next p t r)) (s.circuit ++ next_letters p t r) (c ++ ideal_letters p t r i stage)) (sym same)
            (subst (λ m. CanFollow p (after p t r i stage) (n + m) (s.circuit ++ next_letters p t r) (c ++ ideal_letters p t r i stage)) (sym number)
            (subst (λ ls. CanFollow p (after p t r i stage) (n + outcomes (acts_of w)) (s.circuit ++ ls) (c ++ ideal_letters p t r i stage)) (sym letters) f));
      }

  pub goes_beside : GoesBeside p s c n r
  goes_beside =
      let found = line_next p s.tables r may.known may.able in
      let d = each_done found.i found.s found.next in
      let t = s.tables in
      let i = found.i in
      let decided : decides p t r ≡ nat_eq found.s (events_before i) = ap₂ (λ k o. nat_eq k (before_deciding o)) found.next.stage found.next.read in
      record {
        i = found.i;
        stage = found.s;
        line = found.next;
        circuit = c ++ ideal_letters p t r i found.s;
        letters = refl;
        run = record {
          stood = d.stood;
          counted = subst AreWiresCounted (sym d.seen) (counted_event p t r h.counted i found.s found.next);
          follow = d.follow;
        };
        able = λ e. ap (instr_enabled p (tables_seen p t) r) (current_seen i found.s found.next (sym decided ∙ e)) ∙ enables p ready ranges t r h.stood i found.s found.next (sym decided ∙ e);
        same = moved i found.s found.next (decides p t r) refl (sym decided) d.seen;
      }
    where
      -- at a deciding event the ideal rank stands at the same instruction
      current_seen : (i : Instr) (stage : ℕ) → IsNext p s.tables r i stage → nat_eq stage (events_before i) ≡ true → ideal_current p (tables_seen p s.tables) r ≡ Some i
      current_seen i stage next e =
          stands_seen p s.tables r i stage (before_event p s.tables r i stage next) (not_decided i stage e)

      state_same : (t u : IdealTables) (c d : Circuit) → t ≡ u → c ≡ d → (let x : IdealState = record { tables = t; circuit = c } in x) ≡ record { tables = u; circuit = d }
      state_same t u c d a b = ap₂ (λ t c. let x : IdealState = record { tables = t; circuit = c } in x) a b

      moved : (i : Instr) (stage : ℕ) → IsNext p s.tables r i stage → (b : Bool) → decides p s.tables r ≡ b → nat_eq stage (events_before i) ≡ decides p s.tables r
          → tables_seen p (next_tables p s.tables r) ≡ ideal_after p s.tables r i stage
          → ideal_move p s (beside p s c) r ≡ beside p (next p s r) (c ++ ideal_letters p s.tables r i stage)
      moved i stage next true is e seen =
          let x = tables_seen p s.tables in
          let z = ideal_row_of p x r i in
          let yes : nat_eq stage (events_before i) ≡ true = e ∙ is in
          ap (λ b. if b then ideal_next p (beside p s c) r else beside p s c) is
          ∙ ap (after_instr p (beside p s c) r) (current_seen i stage next yes)
          ∙ state_same (ideal_past_instr (fold (ideal_after_act r) x z.acts) r) (tables_seen p (next_tables p s.tables r)) (c ++ z.letters) (c ++ ideal_letters p s.tables r i stage)
          (sym (seen ∙ ap (λ b. cond b (ideal_past_instr (fold (ideal_after_act r) x z.acts) r) x) yes))
          (sym (ap (λ b. c ++ cond b z.letters []) yes))
      moved i stage next false is e seen =
          let x = tables_seen p s.tables in
          let z = ideal_row_of p x r i in
          let no_step : nat_eq stage (events_before i) ≡ false = e ∙ is in
          ap (λ b. if b then ideal_next p (beside p s c) r else beside p s c) is
          ∙ state_same x (tables_seen p (next_tables p s.tables r)) c (c ++ ideal_letters p s.tables r i stage)
          (sym (seen ∙ ap (λ b. cond b (ideal_past_instr (fold (ideal_after_act r) x z.acts) r) x) no_step))
          (sym (ap (λ b. c ++ cond b z.letters []) no_step ∙ append-nil c))

-- ---- along a schedule
pub record EndsBeside (p : Programs) (s : State) (c : Circuit) (n : ℕ) (rs : List ℕ) : Type 0 where
  pub circuit : Circuit
  pub run : RunsBeside p (fold (next p) s rs) circuit (n + outcomes_from p s rs)
  pub ideal : IsIdealFrom p (beside p s c) (ideal_from p s rs)
  pub same : fold (ideal_next p) (beside p s c) (ideal_from p s rs) ≡ beside p (fold (next p) s rs) circuit

-- the ideal run of an event and more
pub fold_more : (p : Programs) (s : State) (c : Circuit) (r : ℕ) (rs : List ℕ) {d : Circuit} → ideal_move p s (beside p s c) r ≡ beside p (next p s r) d
    → fold (ideal_next p) (beside p s c) (ideal_from p s (r ∷ rs)) ≡ fold (ideal_next p) (beside p (next p s r) d) (ideal_from p (next p s r) rs)
fold_more p s c r rs same = by_test (decides p s.tables r) same
  where
    by_test : (b : Bool) {d : Circuit} → (if b then ideal_next p (beside p s c) r else beside p s c) ≡ beside p (next p s r) d
        → fold (ideal_next p) (beside p s c) (if b then r ∷ ideal_from p (next p s r) rs else ideal_from p (next p s r) rs)
        ≡ fold (ideal_next p) (beside p (next p s r) d) (ideal_from p (next p s r) rs)
    by_test true e = ap (λ x. fold (ideal_next p) x (ideal_from p (next p s r) rs)) e
    by_test false e = ap (λ x. fold (ideal_next p) x (ideal_from p (next p s r) rs)) e
