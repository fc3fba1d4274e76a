-- A run beside its ideal run, with what has been begun and what is due: one event
use Rattle.std.proofs.Common.{◌≡◌, ℕ, ◌+◌, Bool, true, false, ◌⊎◌, inl, inr, if◌then◌else◌, List, ◌++◌, Some, refl, sym, ap, subst, ◌∙◌, arith}
use Rattle.qm_denot.specs.declared.Wire.{Wire}
use Rattle.qm_denot.specs.declared.Letter.{Letter}
use Rattle.qm_denot.specs.Circuits.{Circuit, IsEqualUpTo}
use Rattle.qm_denot.specs.Tags.{Tagged, letters_of, tagged}
use Rattle.qm_denot.proofs.Partings.{AreNaming, IsNamedBy, named-append, named-tagged, OneKeyEach}
use Rattle.qm_instr.specs.Programs.{Programs, IsInRange}
use Rattle.qm_check.specs.Checks.{IsReady}
use Rattle.qm_proto.specs.Model.State.{Tables}
use Rattle.qm_proto.specs.Model.Acts.{acts_letters}
use Rattle.qm_proto.specs.Model.Rows.{current}
use Rattle.qm_proto.specs.Model.Runs.{row_next, row_letters, row_checks, NoneFails, next_tables, next_letters}
use Rattle.qm_proto.specs.Model.Schedules.{MayStep}
use Rattle.qm_safety.specs.Tables.Lines.{row_at, acts_of}
use Rattle.qm_simulation.specs.Following.Deciding.{outcomes, row_outcomes}
use Rattle.qm_simulation.specs.Following.Seen.{tables_seen}
use Rattle.qm_simulation.specs.Following.Debts.{Message}
use Rattle.qm_simulation.specs.Following.Simulation.{event_message, settles, outcomes_of, corrections, Progress, progress_next}
use Rattle.qm_safety.proofs.Tables.NextEvents.{row_is, next_is}
use Rattle.qm_confluence.proofs.Confluence.IdealWires.{AreWiresCounted}
use Rattle.qm_simulation.proofs.Following.Places.{before_event, after}
use Rattle.qm_simulation.proofs.Following.SeenSteps.{sees}
use Rattle.qm_simulation.proofs.Following.Stood.{IsStood}
use Rattle.qm_simulation.proofs.Following.Raws.{event_at, event_message_at, holder_raw}
use Rattle.qm_simulation.proofs.Following.Deeds.{GoesOn, given_at, taken_at, ideal_letters}
use Rattle.qm_simulation.proofs.Following.RawChanges.{holder_from, holder_to, RawChange}
use Rattle.qm_simulation.proofs.Following.RawSteps.{changes}
use Rattle.qm_simulation.proofs.Following.Follow.{keeps}
use Rattle.qm_simulation.proofs.Following.Beside.{RunsBeside, GoesBeside}
use Rattle.qm_simulation.proofs.Following.Engaged.{IsClear, one_engaged}
use Rattle.qm_simulation.proofs.Following.Touching.{touch_clear}
use Rattle.qm_simulation.proofs.Following.BegunAfter.{begun_after, pending_after, begun_other, pending_other}
use Rattle.qm_simulation.proofs.Following.AreRaw.{AreRaw, named_engaged, raw_before, raw_after, raw_next}
use Rattle.qm_simulation.proofs.Following.RawOrders.{equal_ordered}
use Rattle.qm_simulation.proofs.Following.Owing.{row_letters_at}

-- ---- no wire is in letters of two messages
module _ (p : Programs) (ready : IsReady p) (ranges : IsInRange p) (t : Tables) (stood : IsStood p t) (ideal : AreWiresCounted (tables_seen p t))
    (bs qs : Tagged Message) (raw : AreRaw p t bs qs) where
  pub raw_one_key : OneKeyEach (bs ++ qs)
  raw_one_key w j k a b =
      one_engaged p ready ranges t stood ideal w j k (named_engaged p ready ranges t stood bs qs raw w j a) (named_engaged p ready ranges t stood bs qs raw w k b)

  -- nor with the letters of an event
  raw_one_key_more : (k : Message) (ls : List Letter) → ((w : Wire) → AreNaming ls w → IsClear p t k w) → OneKeyEach ((bs ++ qs) ++ tagged k ls)
  raw_one_key_more k ls clear w i j a b = both (named-append (bs ++ qs) (tagged k ls) w i a) (named-append (bs ++ qs) (tagged k ls) w j b)
    where
      both : IsNamedBy (bs ++ qs) w i ⊎ IsNamedBy (tagged k ls) w i → IsNamedBy (bs ++ qs) w j ⊎ IsNamedBy (tagged k ls) w j → i ≡ j
      both (inl x) (inl y) = raw_one_key w i j x y
      both (inl x) (inr y) = let e = named-tagged k ls w j y in clear w e.1 i (named_engaged p ready ranges t stood bs qs raw w i x) ∙ e.0
      both (inr x) (inl y) = let e = named-tagged k ls w i x in sym (clear w e.1 j (named_engaged p ready ranges t stood bs qs raw w j y) ∙ e.0)
      both (inr x) (inr y) = sym (named-tagged k ls w i x).0 ∙ (named-tagged k ls w j y).0

-- ---- one event
-- a run beside its ideal run, with the letters begun and the corrections due
pub record RunsRaw (p : Programs) (x : Progress) (c : Circuit) (n : ℕ) : Type 0 where
  pub run : RunsBeside p x.state c n
  pub raw : AreRaw p x.state.tables x.begun x.pending
  pub equal : IsEqualUpTo x.settled x.state.circuit (c ++ letters_of (x.begun ++ x.pending))

module _ (p : Programs) (ready : IsReady p) (ranges : IsInRange p) (x : Progress) (c : Circuit) (n r : ℕ) (h : RunsRaw p x c n) (may : MayStep p x.state r)
    (d : GoesBeside p x.state c n r) where
  abbrev t : Tables
  t = x.state.tables

  abbrev k : Message
  k = event_at x.state.tables r d.i d.stage

  abbrev ls : List Letter
  ls = acts_letters r (acts_of (row_at p x.state.tables r d.i d.stage)) x.state.tables

  abbrev bs : Tagged Message
  bs = begun_after (event_at x.state.tables r d.i d.stage) (Some d.i) d.stage (acts_letters r (acts_of (row_at p x.state.tables r d.i d.stage)) x.state.tables) x.begun

  abbrev qs : Tagged Message
  qs = pending_after (event_at x.state.tables r d.i d.stage) (Some d.i) d.stage (corrections p x.state.tables r (Some d.i)) (row_at p x.state.tables r d.i d.stage) x.pending

  abbrev used : ℕ
  used = if settles (Some d.i) d.stage then outcomes_of (Some d.i) else 0

  -- ---- by the line of the table
  goes : GoesOn p x.state.tables r (after p x.state.tables r d.i d.stage) k (given_at x.state.tables r d.i d.stage) (taken_at r d.i d.stage)
      (n + outcomes (acts_of (row_at p x.state.tables r d.i d.stage))) (x.state.circuit ++ ls) (c ++ ideal_letters p x.state.tables r d.i d.stage)
  goes =
      keeps p ready ranges t r h.run.stood h.run.counted d.i d.stage d.line n x.state.circuit c h.run.follow.debts h.run.follow.following
      (sees p ready ranges t r h.run.stood d.i d.stage d.line)
      (subst (λ o. NoneFails x.state.circuit (row_checks o)) (row_is p t r d.i d.stage d.line) may.allowed)

  change : RawChange p x.state.tables r d.i d.stage c ls (ideal_letters p x.state.tables r d.i d.stage)
      (holder_raw p x.state.tables (holder_from x.state.tables r (taken_at r d.i d.stage)))
      (holder_raw p (after p x.state.tables r d.i d.stage) (holder_to r (given_at x.state.tables r d.i d.stage)))
  change = changes p ready ranges t r h.run.stood h.run.counted d.i d.stage d.line n x.state.circuit c h.run.follow.debts h.run.follow.following

  raw_done : AreRaw p (after p x.state.tables r d.i d.stage) bs qs
  raw_done = raw_next p ready ranges t r h.run.stood d.i d.stage d.line k _ _ _ _ _ goes x.begun x.pending h.raw c ls _ change

  moved : next_tables p x.state.tables r ≡ after p x.state.tables r d.i d.stage
  moved = next_is p t r d.i d.stage d.line

  equal_done : IsEqualUpTo (x.settled + used) (x.state.circuit ++ ls) ((c ++ ideal_letters p x.state.tables r d.i d.stage) ++ letters_of (bs ++ qs))
  equal_done =
      equal_ordered k _ _ x.begun x.pending bs qs
      (raw_before p ready ranges t r h.run.stood d.i d.stage d.line k _ _ _ _ _ goes x.begun x.pending h.raw)
      (raw_after p ready ranges t r h.run.stood d.i d.stage d.line k _ _ _ _ _ goes x.begun x.pending h.raw c ls _ change)
      (record {
        begun = λ j ne. begun_other j k (Some d.i) d.stage ls x.begun ne;
        pending = λ j ne. pending_other j k (Some d.i) d.stage (corrections p t r (Some d.i)) (row_at p t r d.i d.stage) x.pending ne;
      })
      x.settled used x.state.circuit c ls (ideal_letters p x.state.tables r d.i d.stage)
      (raw_one_key_more p ready ranges t h.run.stood h.run.counted x.begun x.pending h.raw k ls (λ w m. touch_clear p ready ranges t r h.run.stood h.run.counted d.i d.stage d.line w (inl m)))
      (raw_one_key p ready ranges (after p t r d.i d.stage) (subst (IsStood p) moved d.run.stood) (subst (λ u. AreWiresCounted (tables_seen p u)) moved d.run.counted) bs qs raw_done)
      h.equal change.law

  -- ---- as the schedule's progress has it
  message : event_message x.state.tables r (current p x.state.tables r) ≡ k
  message = event_message_at p t r d.i d.stage (before_event p t r d.i d.stage d.line)

  letters : next_letters p x.state.tables r ≡ ls
  letters = ap (λ o. row_letters r o t) (row_is p t r d.i d.stage d.line) ∙ row_letters_at p ready ranges t r (row_at p t r d.i d.stage) d.line.holds

  begun_is : (progress_next p x r).begun ≡ bs
  begun_is =
      ap (λ m. begun_after m (current p t r) (t.parts r).stage (next_letters p t r) x.begun) message
      ∙ ap (λ o. begun_after k o (t.parts r).stage (next_letters p t r) x.begun) d.line.read
      ∙ ap (λ s. begun_after k (Some d.i) s (next_letters p t r) x.begun) d.line.stage
      ∙ ap (λ zs. begun_after k (Some d.i) d.stage zs x.begun) letters

  pending_is : (progress_next p x r).pending ≡ qs
  pending_is =
      ap (λ m. pending_after m (current p t r) (t.parts r).stage (corrections p t r (current p t r)) (row_next p t r) x.pending) message
      ∙ ap (λ o. pending_after k o (t.parts r).stage (corrections p t r o) (row_next p t r) x.pending) d.line.read
      ∙ ap (λ s. pending_after k (Some d.i) s (corrections p t r (Some d.i)) (row_next p t r) x.pending) d.line.stage
      ∙ ap (λ w. pending_after k (Some d.i) d.stage (corrections p t r (Some d.i)) w x.pending) (row_is p t r d.i d.stage d.line)

  settled_is : (progress_next p x r).settled ≡ x.settled + used
  settled_is =
      ap (λ o. if settles o (t.parts r).stage then x.settled + outcomes_of o else x.settled) d.line.read
      ∙ ap (λ s. if settles (Some d.i) s then x.settled + outcomes_of (Some d.i) else x.settled) d.line.stage
      ∙ by_test (settles (Some d.i) d.stage)
    where
      by_test : (b : Bool) → (if b then x.settled + outcomes_of (Some d.i) else x.settled) ≡ x.settled + (if b then outcomes_of (Some d.i) else 0)
      by_test true = refl
      by_test false = omega arith

  pub goes_raw : RunsRaw p (progress_next p x r) d.circuit (n + row_outcomes (row_next p x.state.tables r))
  goes_raw =
      let y = progress_next p x r in
      record {
        run = d.run;
        raw =
            subst (λ u. AreRaw p u y.begun y.pending) (sym moved)
            (subst (λ zs. AreRaw p (after p t r d.i d.stage) zs y.pending) (sym begun_is) (subst (λ zs. AreRaw p (after p t r d.i d.stage) bs zs) (sym pending_is) raw_done));
        equal =
            subst (λ m. IsEqualUpTo m (x.state.circuit ++ next_letters p t r) (d.circuit ++ letters_of (y.begun ++ y.pending))) (sym settled_is)
            (subst (λ zs. IsEqualUpTo (x.settled + used) (x.state.circuit ++ zs) (d.circuit ++ letters_of (y.begun ++ y.pending))) (sym letters)
            (subst (λ z. IsEqualUpTo (x.settled + used) (x.state.circuit ++ ls) (z ++ letters_of (y.begun ++ y.pending))) (sym d.letters)
            (subst (λ zs. IsEqualUpTo (x.settled + used) (x.state.circuit ++ ls) ((c ++ ideal_letters p t r d.i d.stage) ++ letters_of (zs ++ y.pending))) (sym begun_is)
            (subst (λ zs. IsEqualUpTo (x.settled + used) (x.state.circuit ++ ls) ((c ++ ideal_letters p t r d.i d.stage) ++ letters_of (bs ++ zs))) (sym pending_is) equal_done))));
      }
