-- An order has one due text, and a machine that was played in it tells which
use Rattle.std.proofs.Common.{◌≡◌, ◌≢◌, ◌∙◌, ℕ, ◌%◌, ◌<◌, ◌⊎◌, inl, inr, Bool, true, false, List, [], ◌∷◌, ◌++◌, length, Some, None, refl, sym, ap, subst, arith}
use Rattle.qm_denot.specs.Circuits.{Circuit}
use Rattle.qm_denot.specs.Stores.{Store}
use Rattle.qm_instr.specs.Programs.{Programs}
use Rattle.qm_proto.specs.declared.Cause.{Cause}
use Rattle.qm_proto.specs.declared.Check.{Check}
use Rattle.qm_proto.specs.Model.State.{Tables, State}
use Rattle.qm_proto.specs.Model.Runs.{enabled, FirstFails, IsRefused}
use Rattle.qm_proto.specs.Model.Schedules.{state_at_start, replay, IsLegal, IsStuck, IsLowestLeft, AllEnded}
use Rattle.qm_proto.specs.Model.Orders.{Words, IsFirstAround, IsOrderFrom, StopsAround, from_the_lowest}
use Rattle.qm_proto.specs.Model.Orders as around
use Rattle.qm_machine.specs.declared.Halt.{Halt}
use Rattle.qm_machine.specs.Keeps.{MachineView, HasEnded, HaltsRefused, HaltsStuck, Keeps, state_of}
use Rattle.qm_print.specs.FaultText.{stopped_line}
use Rattle.qm_ranks.specs.Plays as plays
use Rattle.qm_ranks.specs.Plays.{IsOver, Plays}
use Rattle.qm_ranks.specs.Played.{IsAtEnd}
use Rattle.qm_seed.specs.Seeds.{seed_words}
use Rattle.qm_tool.specs.declared.command.Order.{Order}
use Rattle.qm_tool.specs.declared.command.Order.TheVariants.{Lowest, Seeded, Any}
use Rattle.qm_tool.specs.Commands.{order_words}
use Rattle.qm_tool.specs.Dues.{CompleteWith, Stops, Refused, Stuck, StoppedWith, IsScheduleBy, IsScheduleOf, IsTurnBy, IsTurnAfter, IsDue, Completes, StopsShort, HaltStops, HasPlayed}
use Rattle.qm_ranks.proofs.Orders.{one_order, around_unique, around_known, legal_order}
use Rattle.qm_proto.proofs.Counting.{event_where_held}

-- ---- a state stops a run at one rank, for one cause
first_fails_unique : (g : Circuit) (ks : List Check) (c d : Cause) → FirstFails g ks c → FirstFails g ks d → c ≡ d
first_fails_unique g [] c d a b = absurd a
first_fails_unique g (k ∷ ks) c d (inl a) (inl b) = a.1 ∙ sym b.1
first_fails_unique g (k ∷ ks) c d (inl a) (inr b) = absurd (b.0 a.0)
first_fails_unique g (k ∷ ks) c d (inr a) (inl b) = absurd (a.0 b.0)
first_fails_unique g (k ∷ ks) c d (inr a) (inr b) = first_fails_unique g ks c d a.1 b.1

module _ (p : Programs) (s : State) (q r : ℕ) where
  one_place : (q ≡ r) ⊎ ((q < r) ⊎ (r < q))
  one_place = grind arith

  lowest_left_unique : IsLowestLeft p s.tables q → IsLowestLeft p s.tables r → q ≡ r
  lowest_left_unique a b =
      elim one_place [
        | inl same ↦ same
        | inr (inl less) ↦ (let none = b.below q less in let left = a.left in cc)
        | inr (inr more) ↦ (let none = a.below r more in let left = b.left in cc)
      ]

stuck_or_able : (p : Programs) (t : Tables) (q : ℕ) → IsStuck p t → q < length p.ranks → enabled p t q ≡ true → ⊥
stuck_or_able p t q stuck known able = let unable = stuck.none q known in cc

module _ (p : Programs) (s : State) (IsNext : ℕ → Type 0) (one_next : (q r : ℕ) → IsNext q → IsNext r → q ≡ r) where
  stops_once : (q r : ℕ) (c d : Cause) → Stops p s IsNext q c → Stops p s IsNext r d → (q ≡ r) × (c ≡ d)
  stops_once q r _ _ (Refused c next known able refused) (Refused d next' known' able' refused') =
      let same = one_next q r next next' in
      (same, first_fails_unique s.circuit _ c d refused (subst (λ k. IsRefused p s k d) (sym same) refused'))
  stops_once q r _ _ (Refused c next known able refused) (Stuck stuck low) = absurd (stuck_or_able p s.tables q stuck known able)
  stops_once q r _ _ (Stuck stuck low) (Refused d next known able refused) = absurd (stuck_or_able p s.tables r stuck known able)
  stops_once q r _ _ (Stuck stuck low) (Stuck stuck' low') = (lowest_left_unique p s q r low low', refl)

-- and doesn't where all ranks have ended
ended_or_stops : (p : Programs) (s : State) (IsNext : ℕ → Type 0) (r : ℕ) (c : Cause) → AllEnded p s.tables → Stops p s IsNext r c → ⊥
ended_or_stops p s IsNext r _ ended (Refused d next known able refused) = let none = ended r known in let some = event_where_held p s.tables _ able in cc
ended_or_stops p s IsNext r _ ended (Stuck stuck low) = let none = ended r low.known in let some = low.left in cc

-- ---- one due text, where there is one schedule, one rank for each turn, and one text of what a schedule leaves
module _ (p : Programs) (MayRun : List ℕ → Type 0) (MayBeNext : List ℕ → ℕ → Type 0) (IsEnd : List ℕ → List ℕ → Type 0) (block : Bool → List ℕ → List ℕ)
    (one_schedule : (xs ys : List ℕ) → MayRun xs → MayRun ys → xs ≡ ys)
    (one_next : (schedule : List ℕ) (q r : ℕ) → MayBeNext schedule q → MayBeNext schedule r → q ≡ r)
    (one_end : (schedule a b : List ℕ) → IsEnd schedule a → IsEnd schedule b → a ≡ b) where
  abbrev Complete : List ℕ → List ℕ → Type 0
  Complete schedule text = CompleteWith p (IsEnd schedule) schedule (block true schedule) text

  abbrev Stopped : List ℕ → List ℕ → Type 0
  Stopped schedule text = StoppedWith p (MayBeNext schedule) schedule (block false schedule) text

  complete_once : (schedule a b : List ℕ) → Complete schedule a → Complete schedule b → a ≡ b
  complete_once schedule a b x y = x.whole ∙ ap (λ t. t ++ block true schedule) (one_end schedule x.end y.end x.so y.so) ∙ sym y.whole

  stopped_once : (schedule a b : List ℕ) → Stopped schedule a → Stopped schedule b → a ≡ b
  stopped_once schedule a b x y =
      let same = stops_once p (replay p schedule) (MayBeNext schedule) (one_next schedule) x.rank y.rank x.cause y.cause x.stops y.stops in
      x.whole
      ∙ ap (λ r. stopped_line r (length schedule) x.cause ++ block false schedule) same.0
      ∙ ap (λ c. stopped_line y.rank (length schedule) c ++ block false schedule) same.1
      ∙ sym y.whole

  complete_or_stopped : (schedule a b : List ℕ) → Complete schedule a → Stopped schedule b → ⊥
  complete_or_stopped schedule a b x y = ended_or_stops p (replay p schedule) (MayBeNext schedule) y.rank y.cause x.complete.ended y.stops

  pub one_due : (a b : List ℕ) (ok so : Bool) → IsDue p MayRun MayBeNext IsEnd block a ok → IsDue p MayRun MayBeNext IsEnd block b so → (ok ≡ so) × (a ≡ b)
  one_due a b _ _ (Completes xs x c) (Completes ys y d) = (refl, complete_once xs a b c (subst (λ s. Complete s b) (sym (one_schedule xs ys x y)) d))
  one_due a b _ _ (Completes xs x c) (StopsShort ys y d) = absurd (complete_or_stopped xs a b c (subst (λ s. Stopped s b) (sym (one_schedule xs ys x y)) d))
  one_due a b _ _ (StopsShort xs x c) (Completes ys y d) = absurd (complete_or_stopped ys b a d (subst (λ s. Stopped s a) (one_schedule xs ys x y) c))
  one_due a b _ _ (StopsShort xs x c) (StopsShort ys y d) = (refl, stopped_once xs a b c (subst (λ s. Stopped s b) (sym (one_schedule xs ys x y)) d))

-- ---- the orders
words_of : (o : Order) → order_words o ≢ None → (w : Words) × (order_words o ≡ Some w)
words_of Lowest named = (from_the_lowest, refl)
words_of (Seeded seed) named = (seed_words seed, refl)
words_of Any named = absurd (named refl)

-- one that has words has one schedule, and one rank for each turn
module _ (p : Programs) (o : Order) (named : order_words o ≢ None) where
  pub one_schedule_of : (xs ys : List ℕ) → IsScheduleOf p o xs → IsScheduleOf p o ys → xs ≡ ys
  one_schedule_of xs ys a b =
      let by = words_of o named in
      one_order p (state_at_start p) by.0 xs ys (subst (λ w. IsScheduleBy p w xs) by.1 a) (subst (λ w. IsScheduleBy p w ys) by.1 b)

  pub one_turn_after : (schedule : List ℕ) (q r : ℕ) → IsTurnAfter p o schedule q → IsTurnAfter p o schedule r → q ≡ r
  one_turn_after schedule q r a b =
      let by = words_of o named in
      around_unique p (replay p schedule).tables (by.0 (length schedule) % length p.ranks) q r
      (subst (λ w. IsTurnBy p w schedule q) by.1 a) (subst (λ w. IsTurnBy p w schedule r) by.1 b)

-- ---- a machine that was played
stops_there : (p : Programs) (s : State) (start rank : ℕ) (c : Cause) → StopsAround p s start rank c → Stops p s (IsFirstAround p s.tables start) rank c
stops_there p s start rank _ (around.Refused c first refused) = Refused c first (around_known p s.tables start rank first) first.able refused
stops_there p s start rank _ (around.Stuck stuck low) = Stuck stuck low

over_there : {A : Type 0} (o : Order) (w : Words) (m : MachineView A) → order_words o ≡ Some w → IsOver m (w (length m.schedule) % length m.programs.ranks)
    → HasEnded m ⊎ ((h : Halt) × ((m.halted ≡ Some h) × HaltStops o m h))
over_there o w m by (plays.Ended ended) = inl ended
over_there o w m by (plays.Stopped h is turns stops) =
    inr (
      h,
      (
        is,
        record {
          turns = turns;
          stops = subst (λ v. Stops m.programs (state_of m) (IsTurnBy m.programs v m.schedule) h.rank h.cause) (sym by)
              (stops_there m.programs (state_of m) (w (length m.schedule) % length m.programs.ranks) h.rank h.cause stops);
        },
      ),
    )

start_replay : (p : Programs) → replay p [] ≡ state_at_start p
unfolding replay
start_replay p = refl

start_legal : (p : Programs) → IsLegal p []
unfolding IsLegal
start_legal p = tt

-- what playing a machine from its start in this order leaves
pub has_played : {A : Type 0} (store : A → Store) (old new : MachineView A) (o : Order) (w : Words) → order_words o ≡ Some w → Plays store old new w → old.halted ≡ None → old.schedule ≡ []
    → HasPlayed o new
has_played store old new o w by h running start =
    let on = h.goes running in
    let p = old.programs in
    let same : new.schedule ≡ on.more = on.schedule ∙ ap (λ s. s ++ on.more) start in
    let from_start : IsOrderFrom p (replay p []) w on.more = subst (λ s. IsOrderFrom p (replay p s) w on.more) start on.order in
    let legal : IsLegal p on.more = (legal_order p [] on.more w (start_legal p) from_start).legal in
    let order : IsScheduleOf p o on.more = subst (λ v. IsScheduleBy p v on.more) (sym by) (subst (λ s. IsOrderFrom p s w on.more) (start_replay p) from_start) in
    let over : IsOver new (w (length new.schedule) % length p.ranks) = subst (λ s. IsOver new (w (length s) % length p.ranks)) (sym same) on.over in
    record {
      schedule = subst (λ (q : Programs). IsScheduleOf q o new.schedule) (sym h.programs) (subst (IsScheduleOf p o) (sym same) order);
      legal = subst (λ (q : Programs). IsLegal q new.schedule) (sym h.programs) (subst (IsLegal p) (sym same) legal);
      over = over_there o w new by (subst (λ (q : Programs). IsOver new (w (length new.schedule) % length q.ranks)) (sym h.programs) over);
    }

-- a machine at its end was played in an order that any threads may have made
module _ {A : Type 0} (store : A → Store) (m : MachineView A) where
  any_stops : (h : Halt) → HaltsStuck m.programs (state_of m) h ⊎ HaltsRefused m.programs (state_of m) h
      → Stops m.programs (state_of m) (IsTurnAfter m.programs Any m.schedule) h.rank h.cause
  any_stops h (inl stuck) = subst (Stops m.programs (state_of m) (IsTurnAfter m.programs Any m.schedule) h.rank) (sym stuck.cause_so) (Stuck stuck.stuck stuck.lowest)
  any_stops h (inr refused) = Refused h.cause tt refused.known refused.able refused.refused

  any_over : IsAtEnd m → HasEnded m ⊎ ((h : Halt) × ((m.halted ≡ Some h) × HaltStops Any m h))
  any_over (inl ended) = inl ended
  any_over (inr (h, is, at)) = inr (h, (is, record { turns = at.turns; stops = any_stops h at.why }))

  pub has_played_any : (o : Order) → o ≡ Any → Keeps store m → IsAtEnd m → HasPlayed o m
  has_played_any o is keeps end = subst (λ (k : Order). HasPlayed k m) (sym is) (record { schedule = keeps.legal; legal = keeps.legal; over = any_over end })
