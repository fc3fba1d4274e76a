-- At the end of a complete schedule nothing is owed: its circuit is the ideal one, up to the protocol total
use Rattle.std.proofs.Common.{◌≡◌, ℕ, ◌+◌, true, ◌⊎◌, inl, inr, List, [], ◌∷◌, ◌++◌, length, fold, sum_by, Option, Some, None, is_some, take_all, Contains, refl, sym, ap, ap₂, subst, ◌∙◌, append-nil, arith}
use Rattle.qm_denot.specs.Circuits.{IsEqualUpTo}
use Rattle.qm_denot.specs.Tags.{Tagged, letters_of, letters_with}
use Rattle.qm_denot.proofs.Transfers.{zero_where_equal}
use Rattle.qm_instr.specs.declared.Instr.{Instr}
use Rattle.qm_instr.specs.declared.Lane.{Lane}
use Rattle.qm_instr.specs.Counts.{protocol_of}
use Rattle.qm_instr.specs.Programs.{Programs, RankProgram, IsInRange, rank_of, idle_rank}
use Rattle.qm_check.specs.Checks.{IsReady}
use Rattle.qm_check.proofs.Faultless.{protocol_length}
use Rattle.qm_denot.specs.declared.Parcel.{Parcel}
use Rattle.qm_proto.specs.declared.Row.{Row}
use Rattle.qm_proto.specs.Model.State.{Tables, State}
use Rattle.qm_proto.specs.Model.Rows.{current, instr_at}
use Rattle.qm_proto.specs.Model.Runs.{row_next, row_holds, next_tables, next}
use Rattle.qm_proto.specs.Model.Schedules.{state_at_start, tables_at_start, replay, MayStep, IsLegal, IsLegalFrom, IsComplete, AllEnded, protocol_total}
use Rattle.qm_proto.specs.Model.Ideal.{IdealTables, ideal_replay, ideal_current}
use Rattle.qm_safety.specs.Tables.Lines.{row_at, acts_of}
use Rattle.qm_simulation.specs.Following.Deciding.{ideal_of, outcomes, row_outcomes, outcomes_from, outcomes_done}
use Rattle.qm_simulation.specs.Following.Seen.{part_seen, loads_seen}
use Rattle.qm_simulation.specs.Following.Debts.{Message, is_message, Debt, Holder, AtRank, OnLane, Owes, rank_debt}
use Rattle.qm_simulation.specs.Following.Follows.{HasHolder, AreOwed}
use Rattle.qm_simulation.specs.Following.Complete.{EndsAsIdeal, CompleteLaw}
use Rattle.qm_safety.proofs.Tables.NextEvents.{line_next, row_is, next_is}
use Rattle.qm_proto.proofs.Sums.{sum_below-same, sum_below-none, sum_by-is_below}
use Rattle.qm_confluence.proofs.Stuck.Emptied.{lanes_empty_law}
use Rattle.qm_simulation.proofs.Following.MessageTests.{message_itself}
use Rattle.qm_simulation.proofs.Following.Frames.{fresh_debt, not_none}
use Rattle.qm_simulation.proofs.Following.Places.{after}
use Rattle.qm_simulation.proofs.Following.Stood.{IsStood, stood_at_start, stood_next}
use Rattle.qm_simulation.proofs.Following.Outcomes.{outcomes_left, left_after}
use Rattle.qm_simulation.proofs.Following.Ends.{IsWithin, within_fresh, within_next, no_instruction, at_zero, at_end}
use Rattle.qm_simulation.proofs.Following.FollowsIdeal.{follows_ideal}

-- letters of which no message has any
no_letters : (ds : Tagged Message) → ((k : Message) → letters_with is_message k ds ≡ []) → ds ≡ []
no_letters [] each = refl
no_letters (d ∷ ds) each = absurd (let i = message_itself d.0 in let e = rw i at (each d.0) in let n : ⊥ = cc in n)

module _ (p : Programs) (ready : IsReady p) (ranges : IsInRange p) where
  -- ---- outcomes along a schedule
  record IsTallied (t : Tables) : Type 0 where
    stood : IsStood p t
    within : (k : ℕ) → IsWithin p t k

  row_number : (t : Tables) (o : Option Row) → row_holds p t o ≡ true → row_outcomes o ≡ outcomes (acts_of o)
  row_number t None e = absurd (let z : ⊥ = cc in z)
  row_number t (Some w) e = refl

  tallied_next : (s : State) (r : ℕ) → IsTallied s.tables → MayStep p s r
      → IsTallied (next p s r).tables × (outcomes_left p (next p s r).tables + row_outcomes (row_next p s.tables r) ≡ outcomes_left p s.tables)
  tallied_next s r h may =
      let t = s.tables in
      let x = line_next p t r may.known may.able in
      let same : next_tables p t r ≡ after p t r x.i x.s = next_is p t r x.i x.s x.next in
      let number = ap row_outcomes (row_is p t r x.i x.s x.next) ∙ row_number t (row_at p t r x.i x.s) x.next.holds in (
        record {
          stood = stood_next p ready ranges t r h.stood may.able x.i x.s x.next;
          within = subst (λ u. (k : ℕ) → IsWithin p u k) (sym same) (within_next p t r x.i x.s x.next h.within);
        },
        ap₂ (λ u n. outcomes_left p u + n) same number ∙ left_after p ready ranges t r h.stood x.i x.s x.next,
      )

  tallied_along : (s : State) (rs : List ℕ) → IsTallied s.tables → IsLegalFrom p s rs
      → IsTallied (fold (next p) s rs).tables × (outcomes_left p (fold (next p) s rs).tables + outcomes_from p s rs ≡ outcomes_left p s.tables)
  tallied_along s [] h legal = (h, omega arith)
  tallied_along s (r ∷ rs) h legal =
      let one = tallied_next s r h legal.0 in
      let rest = tallied_along (next p s r) rs one.0 legal.1 in
      (rest.0, omega (arith, one.1, rest.1))

  tallied_at_start : IsTallied (tables_at_start p)
  tallied_at_start = record { stood = stood_at_start p ready ranges; within = λ k. within_fresh (current p (tables_at_start p) k) 0 refl }

  -- the outcomes of all tapes are the protocol total
  total_at_start : outcomes_left p (tables_at_start p) ≡ protocol_total p
  total_at_start =
      sum_below-same (λ k. length (rank_of p k).protocol) (λ k. sum_by protocol_of (rank_of p k).instructions) (length p.ranks) (λ k _. sym (protocol_length p k ready))
      ∙ sym (sum_by-is_below (λ (x : RankProgram). sum_by protocol_of x.instructions) p.ranks idle_rank)

  -- ---- where all ranks have ended
  module _ (t : Tables) (h : IsTallied t) (ended : AllEnded p t) (empty : (a : Lane) → t.lanes a ≡ []) where
    nobody_owes : (o : Holder) (d : Debt) → Owes p t o d → ⊥
    nobody_owes (AtRank r) d owes = not_none (rank_debt p t r) d (fresh_debt p t r (at_zero p t h.within ended r)) owes
    nobody_owes (OnLane a x) d owes = nothing x (subst (λ xs. Contains xs x) (empty a) owes.0)
      where
        nothing : (x : Parcel) → Contains [] x → ⊥
        nothing x (k, below, is) = omega arith

    nothing_owed : (ds : Tagged Message) → AreOwed p t ds → ds ≡ []
    nothing_owed ds owed = no_letters ds (λ k. by_known k (owed.known k))
      where
        by_known : (k : Message) → (letters_with is_message k ds ≡ []) ⊎ HasHolder p t k → letters_with is_message k ds ≡ []
        by_known k (inl e) = e
        by_known k (inr x) = absurd (nobody_owes x.holder x.debt x.owes)

    none_left : outcomes_left p t ≡ 0
    none_left = sum_below-none (λ k. length (t.parts k).protocol) (length p.ranks) (λ k.
        let protocol = (h.stood.well.ranks k).protocol in
        let all = ap (λ is. sum_by protocol_of is) (take_all (t.parts k).at (rank_of p k).instructions (at_end p t h.within ended k)) in
        omega arith)

  -- ---- the theorem
  pub ends_as_ideal : (schedule : List ℕ) → IsComplete p schedule → EndsAsIdeal p schedule
  unfolding replay IsLegal outcomes_done
  ends_as_ideal rs complete =
      let f = follows_ideal p ready ranges rs complete.legal in
      let all = tallied_along (state_at_start p) rs tallied_at_start complete.legal in
      let t = (replay p rs).tables in
      let ds = f.follow.debts in
      let empty = lanes_empty_law p ready rs complete in
      let none : ds ≡ [] = nothing_owed t all.0 complete.ended empty ds f.follow.following.owed in
      let gone = none_left t all.0 complete.ended empty in
      let count : outcomes_done p rs ≡ protocol_total p = omega (arith, all.1, gone, total_at_start) in
      let c = (ideal_replay p (ideal_of p rs)).circuit in
      let plain : c ++ letters_of ds ≡ c = ap (λ (es : Tagged Message). c ++ letters_of es) none ∙ append-nil c in
      let equal : IsEqualUpTo (protocol_total p) (replay p rs).circuit c =
      subst (λ m. IsEqualUpTo (protocol_total p) (replay p rs).circuit m) plain (subst (λ n. IsEqualUpTo n (replay p rs).circuit (c ++ letters_of ds)) count f.follow.following.equal) in
      let some = f.follow.following.nonzero in
      record {
        run = f.run;
        done = λ r known. ap (λ (x : IdealTables). is_some (ideal_current p x r)) f.seen ∙ ap (λ (o : Option Instr). is_some o)
            (ap (λ s. instr_at p r (part_seen (current p t r) s (t.parts r)).at) (at_zero p t all.0.within complete.ended r) ∙ no_instruction p t all.0.within complete.ended r);
        lanes = λ a. ap (λ (x : IdealTables). x.lanes a) f.seen ∙ ap (loads_seen a.kind) (empty a);
        equal = equal;
        slots = λ r q. ap (λ (x : IdealTables). x.slots r q) f.seen;
        bits = λ r. ap (λ (x : IdealTables). (x.parts r).bits) f.seen;
        nonzero = (some.0, λ e. some.1 ((zero_where_equal (protocol_total p) (replay p rs).circuit c equal some.0).0 e));
        ideal_nonzero = some;
      }

pub complete_law : CompleteLaw
complete_law p ready ranges schedule complete = ends_as_ideal p ready ranges schedule complete
