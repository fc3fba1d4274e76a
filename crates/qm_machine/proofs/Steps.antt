-- What a step makes of a machine
use Rattle.std.proofs.Common.{◌≡◌, ◌<◌, ◌≤◌, ◌+◌, ◌↔◌, ℕ, true, false, cond, count_by, Contains, List, [], ◌∷◌, ◌++◌, Option, Some, None, is_some, length, length-append, inl, inr, refl, sym, ap, subst, ◌∙◌, arith}
use Rattle.std.proofs.lemmas.List.Sums.{sum_by-append}
use Rattle.qm_denot.specs.declared.Letter.{Letter}
use Rattle.qm_denot.specs.declared.Wire.{Wire}
use Rattle.qm_denot.specs.Circuits.{Circuit}
use Rattle.qm_denot.specs.Stores.{Store, StandsFor}
use Rattle.qm_instr.specs.declared.Lane.{Lane}
use Rattle.qm_instr.specs.Programs.{Programs}
use Rattle.qm_check.specs.Checks.{capacity_of}
use Rattle.qm_check.specs.Messages.{lane_sends}
use Rattle.qm_proto.specs.declared.Cause.{Cause}
use Rattle.qm_proto.specs.declared.Row.{Row}
use Rattle.qm_proto.specs.Model.State.{State, Tables}
use Rattle.qm_proto.specs.Model.Acts.{list_of}
use Rattle.qm_proto.specs.Model.Places.{IsPlaced}
use Rattle.qm_proto.specs.Model.Runs.{FirstFails, NoneFails, row_next, row_checks, enabled, has_event, next, next_tables, next_letters}
use Rattle.qm_proto.specs.Model.Schedules.{replay, IsLegal, IsStuck, MayStep}
use Rattle.qm_machine.specs.declared.body.Body.{Body}
use Rattle.qm_machine.specs.declared.Halt.{Halt}
use Rattle.qm_machine.specs.declared.Why.{Why}
use Rattle.qm_machine.specs.Facts.{Facts, is_pauli}
use Rattle.qm_machine.specs.Tries.{Passes, Stops, Advanced}
use Rattle.qm_machine.specs.Views.{facts}
use Rattle.qm_machine.specs.Keeps.{MachineView, IsKept, Keeps, MayHalt, HaltsAt, IsSame, StepDid, StepBlocked, StepEnded, StepHalts, MayGo, MustWait, event_of, halt_of}
use Rattle.qm_proto.proofs.Replays.{replay-push, legal-push}
use Rattle.qm_safety.specs.Safety.Legal.{IsLegalRun}
use Rattle.qm_simulation.proofs.Laws.{simulation_law, headline_law, weight_law}
use Rattle.qm_safety.proofs.Laws.{safe}
use Rattle.qm_safety.proofs.Tables.Standing.{well}
use Rattle.qm_proto.proofs.Counting.{event_where_held, schedule_few, event_total_few}

-- the store of what a body means is the body's
pub facts_store : {A : Type 0} (store : A → Store) (b : Body A) → (facts store b).store ≡ store b.amps
facts_store store b = refl

pub none_by : {A : Type 0} (o : Option A) → is_some o ≡ false → o ≡ None
none_by None e = refl
none_by (Some a) e = cc

-- as many letters as before, and those of the event
letters_on : (p : Programs) (r : ℕ) (t u : Tables) (c : Circuit) (n m : ℕ) → t ≡ u → n ≡ length c → m ≡ n + length (next_letters p t r)
    → m ≡ length (c ++ next_letters p u r)
letters_on p r t u c n m e l a =
    let b : m ≡ length c + length (next_letters p t r) = subst (λ (x : ℕ). m ≡ x + length (next_letters p t r)) l a in
    subst (λ (x : Tables). m ≡ length (c ++ next_letters p x r)) e (b ∙ sym (length-append c (next_letters p t r)))

-- as many corrections as before, and those of the event
paulis_on : (p : Programs) (r : ℕ) (t u : Tables) (c : Circuit) (n m : ℕ) → t ≡ u → n ≡ count_by is_pauli c
    → m ≡ n + count_by is_pauli (next_letters p t r) → m ≡ count_by is_pauli (c ++ next_letters p u r)
paulis_on p r t u c n m e l a =
    let b : m ≡ count_by is_pauli c + count_by is_pauli (next_letters p t r) =
    subst (λ (x : ℕ). m ≡ x + count_by is_pauli (next_letters p t r)) l a in
    subst (λ (x : Tables). m ≡ count_by is_pauli (c ++ next_letters p x r)) e (b ∙ sym (sum_by-append (λ (l : Letter). cond (is_pauli l) 1 0) c (next_letters p t r)))

module _ {text : List ℕ} {p : Programs} {rs : List ℕ} {h : Option Halt} {f : Facts} {room : ℕ} (k : IsKept text p rs h f room) where
  -- a fact of the body's tables is one of the replay's, and the other way round
  pub at_replay : (P : Tables → Type 0) → P f.tables → P (replay p rs).tables
  at_replay P x = subst P k.tables x

  pub at_body : (P : Tables → Type 0) → P (replay p rs).tables → P f.tables
  at_body P x = subst P (sym k.tables) x

  pub kept_short : length rs ≤ 500000
  kept_short = omega (arith, schedule_few p rs k.legal, event_total_few p k.in_range)

  -- a rank's line is tried
  module _ (r : ℕ) (w : Row) (known : r < length p.ranks) (able : enabled p (replay p rs).tables r ≡ true)
      (next_is : row_next p (replay p rs).tables r ≡ Some w) where
    pub halts_refused : (c : Cause) → Stops f (list_of w.checks) c → HaltsAt p rs (halt_of r rs c)
    halts_refused c stops =
        let refused : FirstFails (replay p rs).circuit (row_checks (row_next p (replay p rs).tables r)) c =
        subst (λ (o : Option Row). FirstFails (replay p rs).circuit (row_checks o) c) (sym next_is) (stops (replay p rs).circuit k.stands) in
        record { turns = refl; why = inr (record { known = known; able = able; refused = refused }) }

    pub may_step : Passes f (list_of w.checks) → MayStep p (replay p rs) r
    may_step passes =
        record {
          known = known;
          able = able;
          allowed = subst (λ (o : Option Row). NoneFails (replay p rs).circuit (row_checks o)) (sym next_is) (passes (replay p rs).circuit k.stands);
        }

    pub kept_did : (g : Facts) → h ≡ None → Passes f (list_of w.checks) → Advanced p f r g → IsKept text p (rs ++ r ∷ []) h g room
    kept_did g running passes done =
        let s = replay p rs in
        let after : next p s r ≡ replay p (rs ++ r ∷ []) = sym (replay-push p rs r) in
        record {
          reads = k.reads;
          ready = k.ready;
          in_range = k.in_range;
          legal = legal-push p rs r k.legal (may_step passes);
          tables = done.tables ∙ ap (λ (x : Tables). next_tables p x r) k.tables ∙ ap (λ (x : State). x.tables) after;
          stands = subst (λ (x : State). StandsFor g.store x.circuit) after
              (at_replay (λ (x : Tables). StandsFor g.store (s.circuit ++ next_letters p x r)) (done.stands s.circuit k.stands));
          letters = subst (λ (x : State). g.letters ≡ length x.circuit) after
              (letters_on p r f.tables s.tables s.circuit f.letters g.letters k.tables k.letters done.letters);
          paulis = subst (λ (x : State). g.paulis ≡ count_by is_pauli x.circuit) after
              (paulis_on p r f.tables s.tables s.circuit f.paulis g.paulis k.tables k.paulis done.paulis);
          parcels = subst (λ (x : Lane → ℕ). (a : Lane) → lane_sends p a ≤ x a) (sym done.parcels) k.parcels;
          ranks = done.ranks ∙ k.ranks;
          sound = done.sound;
          wires = subst (λ (n : ℕ). capacity_of p ≤ n) (sym done.capacity) k.wires;
          sizes = done.sizes ∙ k.sizes;
          turns = k.turns;
          halt = subst (λ (x : Option Halt). MayHalt p (rs ++ r ∷ []) x) (sym running) tt;
        }

-- what is seen of a machine with this body
abbrev shown : {A : Type 0} → List ℕ → Programs → List ℕ → Option Halt → Body A → MachineView A
shown text p rs h b = record { text = text; programs = p; schedule = rs; halted = h; amps = b.amps }

module _ {A : Type 0} (store : A → Store) {text : List ℕ} {p : Programs} {rs : List ℕ} {h : Option Halt} (b : Body A) {room : ℕ}
    (k : IsKept text p rs h (facts store b) room) where
  pub keeps : Keeps store (shown text p rs h b)
  keeps =
      let e : (facts store b).store ≡ store b.amps = facts_store store b in
      let run : IsLegalRun p rs = record { ready = k.ready; in_range = k.in_range; legal = k.legal } in
      record {
        reads = k.reads;
        ready = k.ready;
        in_range = k.in_range;
        legal = k.legal;
        short = kept_short k;
        stands = subst (λ (s : Store). StandsFor s (replay p rs).circuit) e k.stands;
        placed = subst (λ (s : Store). (w : Wire) → Contains s.live w ↔ IsPlaced (replay p rs).tables w) e
            (at_replay k (λ (x : Tables). (w : Wire) → Contains (facts store b).store.live w ↔ IsPlaced x w) k.sound.live);
        tidy = (well p k.ready k.in_range rs k.legal).tidy;
        safe = safe p rs run;
        simulated = simulation_law p k.ready k.in_range rs k.legal;
        weighed = weight_law p rs run;
        ends = λ ended. headline_law p k.ready k.in_range rs (record { legal = k.legal; ended = ended });
        room = subst (λ (s : Store). capacity_of p ≤ s.capacity) e (omega (arith, k.wires, k.sound.room));
        halt = k.halt;
      }

  -- a machine with another halt, and a body that means the same
  same : (d : Body A) (j : Option Halt) → facts store d ≡ facts store b → IsSame store (shown text p rs j b) (shown text p rs j d)
  same d j e =
      let contents : store d.amps ≡ store b.amps =
      sym (facts_store store d) ∙ ap (λ (f : Facts). f.store) e ∙ facts_store store b in
      record { text = refl; programs = refl; schedule = refl; halted = refl; contents = contents }

  at_schedule : (P : Tables → Type 0) → P (facts store b).tables → P (replay p rs).tables
  at_schedule P x = at_replay k P x

  pub step_ended : (r : ℕ) → h ≡ None → row_next p (facts store b).tables r ≡ None → StepEnded store (shown text p rs h b) r (shown text p rs h b)
  step_ended r running none =
      record { running = running; none = at_schedule (λ (x : Tables). has_event p x r ≡ false) (ap is_some none); same = same b h refl }

  module _ (r : ℕ) (why : Why) (wait : MustWait (shown text p rs h b) r why) where
    pub step_blocked : ¬ (IsStuck p (replay p rs).tables) → StepBlocked store (shown text p rs h b) r why (shown text p rs h b)
    step_blocked moves =
        record { running = wait.running; left = wait.left; unable = wait.unable; moves = moves; why_so = wait.why_so; same = same b h refl }

  module _ (d : Body A) (r : ℕ) (w : Row) (go : MayGo (shown text p rs h b) r w) where
    pub step_refused : (c : Cause) → Stops (facts store b) (list_of w.checks) c → facts store d ≡ facts store b
        → StepHalts store (shown text p rs h b) r (shown text p rs (Some (halt_of r rs c)) d)
    step_refused c stops e =
        record {
          running = go.running;
          left = event_where_held p (replay p rs).tables _ go.able;
          halt = halt_of r rs c;
          why = halts_refused k r w go.known go.able go.next c stops;
          who = inl refl;
          new = same d (Some (halt_of r rs c)) e;
        }

    pub step_did : (qs : List ℕ) → qs ≡ rs ++ r ∷ [] → Passes (facts store b) (list_of w.checks)
        → StepDid store (shown text p rs h b) r w.event (shown text p qs h d)
    step_did qs e passes =
        let may = may_step k r w go.known go.able go.next passes in
        record {
          running = go.running;
          may = may;
          event_so = ap event_of go.next;
          text = refl;
          programs = refl;
          schedule = e;
          short =
              let legal = subst (IsLegal p) (sym e) (legal-push p rs r k.legal may) in
              omega (arith, schedule_few p qs legal, event_total_few p k.in_range);
          still = go.running;
        }
