-- Every legal schedule follows its ideal run
use Rattle.std.proofs.Common.{◌≡◌, ◌≢◌, ℕ, ◌+◌, ◌<◌, Bool, true, false, if◌then◌else◌, List, [], ◌∷◌, length, fold, inl, refl, sym, ap, subst, ◌∙◌, arith}
use Rattle.qm_zomega.specs.Numbers.{Number, zero_number, one_number}
use Rattle.qm_denot.specs.Wires.{no_wires}
use Rattle.qm_denot.specs.Circuits.{Circuit, amp}
use Rattle.qm_denot.specs.CircuitFacts.{IsNonzero}
use Rattle.qm_denot.proofs.Sets.{is_empty-no_wires}
use Rattle.qm_denot.proofs.EqualUpTo.{equal_refl}
use Rattle.qm_instr.specs.Programs.{Programs, IsInRange}
use Rattle.qm_check.specs.Checks.{IsReady}
use Rattle.qm_proto.specs.Model.State.{State}
use Rattle.qm_proto.specs.Model.Runs.{row_next, next}
use Rattle.qm_proto.specs.Model.Schedules.{state_at_start, tables_at_start, replay, IsLegal, IsLegalFrom}
use Rattle.qm_proto.specs.Model.Ideal.{IdealState, ideal_enabled, ideal_next, ideal_replay, IsIdealFrom, IsIdealRun}
use Rattle.qm_simulation.specs.Following.Deciding.{decides, ideal_from, ideal_of, row_outcomes, outcomes_from, outcomes_done}
use Rattle.qm_simulation.specs.Following.Seen.{tables_seen}
use Rattle.qm_simulation.specs.Following.Debts.{Debt, Holder, AtRank, OnLane, Owes, rank_debt}
use Rattle.qm_confluence.proofs.Confluence.IdealWires.{AreWiresCounted}
use Rattle.qm_simulation.proofs.Following.Stood.{IsStood, stood_at_start}
use Rattle.qm_simulation.proofs.Following.Frames.{fresh_debt, not_none}
use Rattle.qm_simulation.proofs.Following.Invariant.{CanFollow}
use Rattle.qm_simulation.proofs.Following.Beside.{beside, RunsBeside, ideal_move, goes_beside, EndsBeside, fold_more}

one_there : amp [] no_wires ≡ one_number
unfolding amp
one_there = ap (λ b. if b then one_number else zero_number) is_empty-no_wires

one_not_zero : one_number ≢ zero_number
one_not_zero e = let a = ap (λ (z : Number). z.a) e in let b : ◌≡◌ {A = ℕ} 1 0 = cc in omega arith

module _ (p : Programs) (ready : IsReady p) (ranges : IsInRange p) where
  -- ---- along a schedule
  along : (s : State) (c : Circuit) (n : ℕ) (rs : List ℕ) → RunsBeside p s c n → IsLegalFrom p s rs → EndsBeside p s c n rs
  along s c n [] h legal =
      let e : n ≡ n + 0 = omega arith in
      record { circuit = c; run = subst (RunsBeside p s c) e h; ideal = tt; same = refl }
  along s c n (r ∷ rs) h legal =
      let one = goes_beside p ready ranges s c n r h legal.0 in
      let k = row_outcomes (row_next p s.tables r) in
      let rest = along (next p s r) one.circuit (n + k) rs one.run legal.1 in
      let sum : (n + k) + outcomes_from p (next p s r) rs ≡ n + outcomes_from p s (r ∷ rs) = omega arith in
      record {
        circuit = rest.circuit;
        run = subst (RunsBeside p (fold (next p) (next p s r) rs) rest.circuit) sum rest.run;
        ideal = ideal_more s c r rs legal.0.known one.able one.same rest.ideal;
        same = fold_more p s c r rs one.same ∙ rest.same;
      }
    where
      ideal_more : (s : State) (c : Circuit) (r : ℕ) (rs : List ℕ) {d : Circuit} → r < length p.ranks
          → (decides p s.tables r ≡ true → ideal_enabled p (tables_seen p s.tables) r ≡ true)
          → ideal_move p s (beside p s c) r ≡ beside p (next p s r) d → IsIdealFrom p (beside p (next p s r) d) (ideal_from p (next p s r) rs)
          → IsIdealFrom p (beside p s c) (ideal_from p s (r ∷ rs))
      ideal_more s c r rs known able same later = by_test (decides p s.tables r) able same later
        where
          by_test : (b : Bool) {d : Circuit} → (b ≡ true → ideal_enabled p (tables_seen p s.tables) r ≡ true)
              → (if b then ideal_next p (beside p s c) r else beside p s c) ≡ beside p (next p s r) d → IsIdealFrom p (beside p (next p s r) d) (ideal_from p (next p s r) rs)
              → IsIdealFrom p (beside p s c) (if b then r ∷ ideal_from p (next p s r) rs else ideal_from p (next p s r) rs)
          by_test true able e later = (known, able refl, subst (λ x. IsIdealFrom p x (ideal_from p (next p s r) rs)) (sym e) later)
          by_test false able e later = subst (λ x. IsIdealFrom p x (ideal_from p (next p s r) rs)) (sym e) later

  -- ---- at the start
  pub nobody : (h : Holder) (d : Debt) → Owes p (tables_at_start p) h d → ⊥
  nobody (AtRank r) d o = not_none (rank_debt p (tables_at_start p) r) d (fresh_debt p (tables_at_start p) r refl) o
  nobody (OnLane a x) d ((k, below, is), e) = omega arith

  one_somewhere : IsNonzero []
  one_somewhere = (no_wires, λ e. let one = one_there in one_not_zero (sym one ∙ e))

  pub at_start : RunsBeside p (state_at_start p) [] 0
  at_start = record {
    stood = stood_at_start p ready ranges;
    counted = record {
      slots = λ r q w e. absurd (let n : ⊥ = cc in n);
      loads = λ a w (k, below, is). absurd (omega arith);
    };
    follow = record {
      debts = [];
      following = record {
        equal = equal_refl [];
        owed = record {
          each = λ h d o. absurd (nobody h d o);
          known = λ k. inl refl;
          once = λ h j d e o _ _. absurd (nobody h d o);
        };
        named = tt;
        agree = λ r e. absurd (omega arith);
        nonzero = one_somewhere;
      };
    };
  }

  -- ---- the theorem
  -- the ideal run of the schedule is one; the ideal machine sees the tables; and the circuit is the ideal one and what is owed, up to the
  -- number of protocol outcomes
  pub record FollowsIdeal (schedule : List ℕ) : Type 0 where
    pub run : IsIdealRun p (ideal_of p schedule)
    pub seen : (ideal_replay p (ideal_of p schedule)).tables ≡ tables_seen p (replay p schedule).tables
    pub stood : IsStood p (replay p schedule).tables
    pub counted : AreWiresCounted (tables_seen p (replay p schedule).tables)
    pub follow : CanFollow p (replay p schedule).tables (outcomes_done p schedule) (replay p schedule).circuit (ideal_replay p (ideal_of p schedule)).circuit

  pub follows_ideal : (schedule : List ℕ) → IsLegal p schedule → FollowsIdeal schedule
  unfolding replay ideal_replay IsLegal IsIdealRun ideal_of outcomes_done
  follows_ideal rs legal =
      let all = along (state_at_start p) [] 0 rs at_start legal in
      let zero_more : 0 + outcomes_from p (state_at_start p) rs ≡ outcomes_from p (state_at_start p) rs = omega arith in
      record {
        run = all.ideal;
        seen = ap (λ (x : IdealState). x.tables) all.same;
        stood = all.run.stood;
        counted = all.run.counted;
        follow =
            subst (λ (c : Circuit). CanFollow p (replay p rs).tables (outcomes_done p rs) (replay p rs).circuit c) (ap (λ (x : IdealState). x.circuit) (sym all.same))
            (subst (λ m. CanFollow p (replay p rs).tables m (replay p rs).circuit all.circuit) zero_more all.run.follow);
      }
