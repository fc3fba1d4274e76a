-- Every legal schedule is simulated by its ideal run
use Rattle.std.proofs.Common.{◌≡◌, ℕ, ◌+◌, List, [], ◌∷◌, ◌++◌, fold, inl, refl, sym, ap, subst, ◌∙◌}
use Rattle.qm_denot.specs.Circuits.{Circuit, IsEqualUpTo}
use Rattle.qm_denot.specs.Tags.{letters_of}
use Rattle.qm_denot.proofs.EqualUpTo.{equal_refl}
use Rattle.qm_instr.specs.Programs.{Programs, IsInRange}
use Rattle.qm_check.specs.Checks.{IsReady}
use Rattle.qm_proto.specs.Model.State.{State}
use Rattle.qm_proto.specs.Model.Runs.{row_next, next}
use Rattle.qm_proto.specs.Model.Schedules.{state_at_start, replay, IsLegal, IsLegalFrom}
use Rattle.qm_proto.specs.Model.Ideal.{IdealState, ideal_next, ideal_replay}
use Rattle.qm_simulation.specs.Following.Deciding.{ideal_from, ideal_of, row_outcomes}
use Rattle.qm_simulation.specs.Following.Simulation.{Progress, progress_next, progress, Simulates, SimulationLaw}
use Rattle.qm_simulation.proofs.Following.Places.{before_event}
use Rattle.qm_simulation.proofs.Following.Raws.{event_at, event_message_at}
use Rattle.qm_simulation.proofs.Following.Beside.{beside, goes_beside, fold_more}
use Rattle.qm_simulation.proofs.Following.FollowsIdeal.{nobody, at_start, follows_ideal}
use Rattle.qm_simulation.proofs.Following.Engaged.{one_engaged}
use Rattle.qm_simulation.proofs.Following.Touching.{touch_clear}
use Rattle.qm_simulation.proofs.Following.AreRaw.{AreRaw, named_engaged}
use Rattle.qm_simulation.proofs.Following.RawRuns.{RunsRaw, goes_raw}
use Rattle.qm_simulation.proofs.Following.Owing.{named, known_of, touched, follows_so}
use Rattle.qm_safety.proofs.Tables.NextEvents.{line_next}

-- the states along the progress of a schedule are those of its replay
same_states : (p : Programs) (x : Progress) (rs : List ℕ) → (fold (progress_next p) x rs).state ≡ fold (next p) x.state rs
same_states p x [] = refl
same_states p x (r ∷ rs) = same_states p (progress_next p x r) rs

abbrev progress_at_start : Programs → Progress
progress_at_start p = record { state = state_at_start p; begun = []; pending = []; settled = 0 }

module _ (p : Programs) (ready : IsReady p) (ranges : IsInRange p) where
  -- ---- along a schedule
  record EndsRaw (x : Progress) (c : Circuit) (rs : List ℕ) : Type 0 where
    circuit : Circuit
    number : ℕ
    run : RunsRaw p (fold (progress_next p) x rs) circuit number
    same : fold (ideal_next p) (beside p x.state c) (ideal_from p x.state rs) ≡ beside p (fold (next p) x.state rs) circuit

  along : (x : Progress) (c : Circuit) (n : ℕ) (rs : List ℕ) → RunsRaw p x c n → IsLegalFrom p x.state rs → EndsRaw x c rs
  along x c n [] h legal = record { circuit = c; number = n; run = h; same = refl }
  along x c n (r ∷ rs) h legal =
      let one = goes_beside p ready ranges x.state c n r h.run legal.0 in
      let rest = along (progress_next p x r) one.circuit (n + row_outcomes (row_next p x.state.tables r)) rs (goes_raw p ready ranges x c n r h legal.0 one) legal.1 in
      record { circuit = rest.circuit; number = rest.number; run = rest.run; same = fold_more p x.state c r rs one.same ∙ rest.same }

  raw_at_start : RunsRaw p (progress_at_start p) [] 0
  raw_at_start = record {
    run = at_start p ready ranges;
    raw = record {
      begun = λ h d o. absurd (nobody p ready ranges h d o);
      pending = λ h d o. absurd (nobody p ready ranges h d o);
      known = λ k. inl (refl, refl);
    };
    equal = equal_refl [];
  }

  -- ---- the theorem
  pub simulates : (schedule : List ℕ) → IsLegal p schedule → Simulates p schedule
  unfolding progress replay ideal_replay IsLegal ideal_of
  simulates rs legal =
      let follows = follows_so p ready ranges rs legal in
      let f = follows_ideal p ready ranges rs legal in
      let ends = along (progress_at_start p) [] 0 rs raw_at_start legal in
      let y = progress p rs in
      let t = (replay p rs).tables in
      let states : y.state ≡ replay p rs = same_states p (progress_at_start p) rs in
      let raw : AreRaw p t y.begun y.pending = subst (λ (s : State). AreRaw p s.tables y.begun y.pending) states ends.run.raw in
      record {
        run = follows.run;
        equal =
            subst (λ (s : State). IsEqualUpTo y.settled s.circuit ((ideal_replay p (ideal_of p rs)).circuit ++ letters_of (y.begun ++ y.pending))) states
            (subst (λ (c : Circuit). IsEqualUpTo y.settled y.state.circuit (c ++ letters_of (y.begun ++ y.pending))) (ap (λ (x : IdealState). x.circuit) (sym ends.same)) ends.run.equal);
        ranks = follows.ranks;
        apart = λ a b w here there e d.
            one_engaged p ready ranges t f.stood f.counted w a.0 b.0 (named_engaged p ready ranges t f.stood y.begun y.pending raw w a.0 (named (y.begun ++ y.pending) a w here e))
            (named_engaged p ready ranges t f.stood y.begun y.pending raw w b.0 (named (y.begun ++ y.pending) b w there d));
        untouched = λ a w r here e able other touch.
            let found = line_next p t r (known_of p ready ranges t r able) able in
            let clear = touch_clear p ready ranges t r f.stood f.counted found.i found.s found.next w (touched p ready ranges t r found.i found.s w found.next touch) in
            let own : a.0 ≡ event_at t r found.i found.s =
            clear a.0 (named_engaged p ready ranges t f.stood y.begun y.pending raw w a.0 (named (y.begun ++ y.pending) a w here e)) in
            other (event_message_at p t r found.i found.s (before_event p t r found.i found.s found.next) ∙ sym own);
      }

pub simulation_law : SimulationLaw
simulation_law p ready ranges schedule legal = simulates p ready ranges schedule legal
