-- What the steps of one turn come to
use Rattle.std.proofs.Common.{◌≡◌, ◌∙◌, ℕ, ◌+◌, ◌<◌, ◌≤◌, ◌⊎◌, inl, inr, Bool, true, false, [], ◌∷◌, ◌++◌, length, Option, Some, None, is_some, refl, sym, ap, subst, arith}
use Rattle.qm_denot.specs.Stores.{Store}
use Rattle.qm_instr.specs.Programs.{Programs}
use Rattle.qm_proto.specs.declared.Cause.{Cause}
use Rattle.qm_proto.specs.declared.Event.{Event}
use Rattle.qm_proto.specs.declared.Row.{Row}
use Rattle.qm_proto.specs.Model.State.{Tables, State}
use Rattle.qm_proto.specs.Model.Runs.{row_holds, row_next, enabled, has_event}
use Rattle.qm_proto.specs.Model.Schedules.{IsStuck, NoneEnabled, AllEnded}
use Rattle.qm_proto.specs.Model.Orders.{rank_on, IsFirstAround, IsEndAround, StopsAround, Refused, Stuck}
use Rattle.qm_machine.specs.declared.Halt.{Halt}
use Rattle.qm_machine.specs.declared.Step.{Step}
use Rattle.qm_machine.specs.declared.Step.TheVariants as step
use Rattle.qm_machine.specs.declared.Why.{Why}
use Rattle.qm_machine.specs.Keeps.{MachineView, IsSame, StepDid, StepBlocked, StepEnded, StepHalts, StepStays, StepIs, HaltsStuck, HaltsRefused, state_of}
use Rattle.qm_ranks.specs.Plays.{Ended, Stopped, Turns, Goes, Stands, Stays}
use Rattle.qm_ranks.proofs.Around.{comes_to}

-- ---- ranks that idle
-- the rank has no event left, or is not enabled where some rank is
pub data Idles (p : Programs) (t : Tables) (r : ℕ) : Type 0 where
  AtEnd : has_event p t r ≡ false → Idles p t r
  Held : enabled p t r ≡ false → (IsStuck p t → ⊥) → Idles p t r

-- where no event is left, none is enabled
no_row : (p : Programs) (t : Tables) (o : Option Row) → is_some o ≡ false → row_holds p t o ≡ false
no_row p t None e = refl
no_row p t (Some w) e = cc

Idles-unable : (p : Programs) (t : Tables) (r : ℕ) → Idles p t r → enabled p t r ≡ false
Idles-unable p t r (AtEnd e) = no_row p t (row_next p t r) e
Idles-unable p t r (Held e moves) = e

-- where none is enabled, a rank that idles has no event left
Idles-ended : (p : Programs) (t : Tables) (r : ℕ) → NoneEnabled p t → r < length p.ranks → Idles p t r → has_event p t r ≡ false
Idles-ended p t r none known (AtEnd e) = e
Idles-ended p t r none known (Held e moves) = by_test (has_event p t r) refl
  where
    by_test : (b : Bool) → has_event p t r ≡ b → has_event p t r ≡ false
    by_test false e = e
    by_test true e = absurd (moves (record { left = (r, known, e); none = none }))

-- ---- on the way
-- the machine is as it was, and the ranks before this one, in their order from `start` on, idle
pub record Waits {A : Type 0} (store : A → Store) (old : MachineView A) (start steps : ℕ) (m : MachineView A) : Type 0 where
  pub same : IsSame store old m
  pub running : 0 < steps → old.halted ≡ None
  pub before : (k : ℕ) → k < steps → Idles old.programs (state_of old).tables (rank_on old.programs start k)

pub waits_at_first : {A : Type 0} (store : A → Store) (old : MachineView A) (start : ℕ) → Waits store old start 0 old
waits_at_first store old start = record {
  same = record { text = refl; programs = refl; schedule = refl; halted = refl; contents = refl };
  running = λ less. absurd (omega arith);
  before = λ k less. absurd (omega arith);
}

same_after : {A : Type 0} (store : A → Store) (a b c : MachineView A) → IsSame store a b → IsSame store b c → IsSame store a c
same_after store a b c x y = record {
  text = y.text ∙ x.text;
  programs = y.programs ∙ x.programs;
  schedule = y.schedule ∙ x.schedule;
  halted = y.halted ∙ x.halted;
  contents = y.contents ∙ x.contents;
}

module _ {A : Type 0} (store : A → Store) (old m n : MachineView A) (start steps rank : ℕ) (w : Waits store old start steps m) (at : rank ≡ rank_on old.programs start steps) where
  one_more : Idles old.programs (state_of old).tables rank → (k : ℕ) → k < steps + 1 → Idles old.programs (state_of old).tables (rank_on old.programs start k)
  one_more here k less = elim same_or_less [ inl same ↦ (rw (same, ← at) here) | inr lower ↦ w.before k lower ]
    where
      same_or_less : (k ≡ steps) ⊎ (k < steps)
      same_or_less = grind arith

  waits_on : IsSame store m n → m.halted ≡ None → Idles old.programs (state_of old).tables rank → Waits store old start (steps + 1) n
  waits_on same running here = record {
    same = same_after store old m n w.same same;
    running = λ _. sym w.same.halted ∙ running;
    before = one_more here;
  }

  ended_waits : StepEnded store m rank n → Waits store old start (steps + 1) n
  ended_waits e = waits_on e.same e.running (AtEnd (rw (w.same.programs, w.same.schedule) at e.none))

  blocked_waits : (why : Why) → StepBlocked store m rank why n → Waits store old start (steps + 1) n
  blocked_waits why e =
      waits_on e.same e.running (Held (rw (w.same.programs, w.same.schedule) at e.unable) (λ stuck. e.moves (rw (w.same.programs, w.same.schedule) stuck)))

  pub idle_waits : (s : Step) → ((why : Why) × (s ≡ step.Blocked why)) ⊎ (s ≡ step.Ended) → StepIs store m rank s n → Waits store old start (steps + 1) n
  idle_waits s (inl (why, is)) e = blocked_waits why (subst (λ (s : Step). StepIs store m rank s n) is e)
  idle_waits s (inr is) e = ended_waits (subst (λ (s : Step). StepIs store m rank s n) is e)

  -- the rank is the first one that is enabled, where it is
  first_here : steps < length old.programs.ranks → enabled m.programs (state_of m).tables rank ≡ true → IsFirstAround old.programs (state_of old).tables start rank
  first_here few able = record {
    steps = steps;
    few = few;
    place = at;
    able = rw (w.same.programs, w.same.schedule) at able;
    before = λ k less. Idles-unable old.programs (state_of old).tables _ (w.before k less);
  }

  pub did_turns : (event : Event) → steps < length old.programs.ranks → StepDid store m rank event n → Turns store old start n true
  did_turns event few e = Goes (record {
    was_running = sym w.same.halted ∙ e.running;
    rank = rank;
    first = first_here few e.may.able;
    allowed = rw (w.same.programs, w.same.schedule) at e.may.allowed;
    text = e.text ∙ w.same.text;
    programs = e.programs ∙ w.same.programs;
    schedule = e.schedule ∙ ap (λ s. s ++ rank ∷ []) w.same.schedule;
    still = e.still;
    short = e.short;
  })

  halt_stops : steps < length old.programs.ranks → (halt : Halt) → HaltsStuck m.programs (state_of m) halt ⊎ HaltsRefused m.programs (state_of m) halt
      → (halt.rank ≡ rank) ⊎ IsStuck m.programs (state_of m).tables → StopsAround old.programs (state_of old) start halt.rank halt.cause
  halt_stops few halt (inl why) who =
      subst (StopsAround old.programs (state_of old) start halt.rank) (sym why.cause_so)
      (Stuck (rw (w.same.programs, w.same.schedule) at why.stuck) (rw (w.same.programs, w.same.schedule) at why.lowest))
  halt_stops few halt (inr why) (inl same) =
      let first = first_here few (rw same at why.able) in
      subst (λ r. StopsAround old.programs (state_of old) start r halt.cause) (sym same) (Refused halt.cause first (rw (same, w.same.programs, w.same.schedule) at why.refused))
  halt_stops few halt (inr why) (inr stuck) = let unable = stuck.none halt.rank why.known in let able = why.able in absurd (cc)

-- where a run stops, it is at its end
stops_at_end : (p : Programs) (s : State) (start rank : ℕ) → {c : Cause} → StopsAround p s start rank c → IsEndAround p s start
stops_at_end p s start rank (Refused c first refused) = inr (rank, c, first, refused)
stops_at_end p s start rank (Stuck stuck lowest) = inl stuck.none

pub halted_turns : {A : Type 0} (store : A → Store) (old m n : MachineView A) (start steps rank : ℕ) → Waits store old start steps m → rank ≡ rank_on old.programs start steps
    → steps < length old.programs.ranks → StepStays store m n ⊎ StepHalts store m rank n → Turns store old start n false
halted_turns store old m n start steps rank w at few (inl stays) =
    Stays (λ none. stays.halted (w.same.halted ∙ none)) (same_after store old m n w.same stays.same)
halted_turns store old m n start steps rank w at few (inr halts) =
    let programs : n.programs ≡ old.programs = halts.new.programs ∙ w.same.programs in
    let schedule : n.schedule ≡ old.schedule = halts.new.schedule ∙ w.same.schedule in
    let stops = halt_stops store old m n start steps rank w at few halts.halt halts.why.why halts.who in
    Stands (record {
      was_running = sym w.same.halted ∙ halts.running;
      text = halts.new.text ∙ w.same.text;
      programs = programs;
      schedule = schedule;
      ended = stops_at_end old.programs (state_of old) start _ stops;
      over = Stopped halts.halt halts.new.halted (halts.why.turns ∙ ap (λ xs. length xs) (sym halts.new.schedule)) (rw (programs, schedule) stops);
    })

-- where all ranks idle, all have ended
pub all_turns : {A : Type 0} (store : A → Store) (old m : MachineView A) (start steps : ℕ) → Waits store old start steps m → start < length old.programs.ranks
    → length old.programs.ranks ≤ steps → Turns store old start m false
all_turns store old m start steps w first all =
    let p = old.programs in
    let t = (state_of old).tables in
    let idle : (r : ℕ) → r < length p.ranks → Idles p t r =
    (λ r known. let k = comes_to (length p.ranks) start r first known in subst (Idles p t) k.2 (w.before k.0 (let less = k.1 in omega arith))) in
    let none : NoneEnabled p t = λ r known. Idles-unable p t r (idle r known) in
    let ended : AllEnded p t = λ r known. Idles-ended p t r none known (idle r known) in
    let running : old.halted ≡ None = w.running (omega arith) in
    Stands (record {
      was_running = running;
      text = w.same.text;
      programs = w.same.programs;
      schedule = w.same.schedule;
      ended = inl none;
      over = Ended (record { running = w.same.halted ∙ running; ended = rw (w.same.programs, w.same.schedule) ended });
    })
