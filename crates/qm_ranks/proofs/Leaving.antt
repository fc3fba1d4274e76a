-- Why workers leave, and what their exits say of the schedule
use Rattle.std.proofs.Common.{◌≡◌, ◌≢◌, ◌∙◌, ℕ, ◌+◌, ◌≤◌, ◌<◌, ◌⊎◌, inl, inr, ⊎_elim, true, false, List, [], ◌∷◌, ◌++◌, length, take, drop, refl, sym, ap, subst, append_assoc, length-append, arith}
use Rattle.std.specs.Prelude.{Option, Some, None}
use Rattle.std.proofs.Math.Seq.{take-append_seam}
use Rattle.qm_denot.specs.Stores.{Store}
use Rattle.qm_instr.specs.Programs.{Programs}
use Rattle.qm_lock.specs.Lists.{times, StartsWith}
use Rattle.qm_proto.specs.declared.Cause.{Cause}
use Rattle.qm_proto.specs.Model.State.{State}
use Rattle.qm_proto.specs.Model.Runs.{next}
use Rattle.qm_proto.specs.Model.Schedules.{replay, IsFirstFrom, IsFirstSoFarFrom}
use Rattle.qm_proto.specs.Model.Orders.{from_the_lowest, IsOrderFrom, StopsAround, Refused, Stuck}
use Rattle.qm_machine.specs.declared.Halt.{Halt}
use Rattle.qm_machine.specs.declared.Step.{Step}
use Rattle.qm_machine.specs.declared.Step.TheVariants as step
use Rattle.qm_machine.specs.Keeps.{MachineView, Keeps, StepIs, MayHalt, HaltsAt, state_of}
use Rattle.qm_ranks.specs.declared.played.Exit.{Exit}
use Rattle.qm_ranks.specs.declared.played.Leave.TheVariants as leave
use Rattle.qm_ranks.specs.Plays.{IsOver, Ended, Stopped, Plays}
use Rattle.qm_ranks.specs.Played.{LeavesFor, IsExitOf, IsAtEnd}
use Rattle.qm_ranks.specs.Workers.{stays_for, StepsTo}
use Rattle.qm_ranks.proofs.Orders.{lowest_order, around_known}

-- ---- a step
-- a halt tells why its machine stands
pub halt_leaves : (p : Programs) (schedule : List ℕ) (r : ℕ) (h : Option Halt) → h ≢ None → MayHalt p schedule h → LeavesFor p (replay p schedule) r leave.Halted
halt_leaves p schedule r None some may = absurd (some refl)
halt_leaves p schedule r (Some h) some may =
    ⊎_elim (λ w. inl w.stuck) (λ w. inr record { rank = h.rank; cause = h.cause; known = w.known; able = w.able; refused = w.refused }) may.why

-- what a step makes of the schedule, of which the programs and the schedule tell the reason
pub steps_to : {A : Type 0} (store : A → Store) (m n : MachineView A) (r : ℕ) (s : Step) → StepIs store m r s n → n.programs ≡ m.programs → Keeps store n
    → StepsTo m.programs m.schedule r (stays_for s) n.schedule
steps_to store m n r (step.Did event) is same kept = is.schedule
steps_to store m n r (step.Blocked why) is same kept = (is.same.schedule, (is.left, is.unable))
steps_to store m n r step.Ended is same kept = (is.same.schedule, is.none)
steps_to {A} store m n r step.Halted is same kept = (
  schedule,
  subst (λ (p : Programs). LeavesFor p (replay p m.schedule) r leave.Halted) same
      (subst (λ xs. LeavesFor n.programs (replay n.programs xs) r leave.Halted) schedule (halt_leaves n.programs n.schedule r n.halted halted kept.halt)),
)
  where
    schedule : n.schedule ≡ m.schedule
    schedule = ⊎_elim (λ stays. stays.same.schedule) (λ halts. halts.new.schedule) is

    halted : n.halted ≢ None
    halted none = ⊎_elim (λ stays. stays.halted (sym stays.same.halted ∙ none)) (λ halts. let e : Some halts.halt ≡ None = sym halts.new.halted ∙ none in cc) is

-- ---- an exit
-- what a worker saw in its last turn is a front of the schedule
pub exit_is : (p : Programs) (schedule more seen : List ℕ) (r : ℕ) (e : Exit) → StartsWith schedule seen → e.at ≡ length seen → times r seen ≡ e.made → times r schedule ≡ e.made
    → LeavesFor p (replay p seen) r e.why → IsExitOf p (schedule ++ more) (length schedule) r e
exit_is p schedule more seen r e (after, begins) at made all why =
    let front : take e.at (schedule ++ more) ≡ seen =
    ap (λ n. take n (schedule ++ more)) at ∙ ap (λ xs. take (length seen) (xs ++ more)) begins ∙ ap (take (length seen)) (append_assoc seen after more) ∙ take-append_seam seen (after ++ more) in
    let long : length schedule ≡ length seen + length after = ap (λ xs. length xs) begins ∙ length-append seen after in
    record {
      few = omega arith;
      made = ap (times r) front ∙ made;
      all = ap (times r) (take-append_seam schedule more) ∙ all;
      why = subst (λ xs. LeavesFor p (replay p xs) r e.why) (sym front) why;
    }

-- ---- what is played after the workers
so_far_of_first : (p : Programs) (s : State) (rs : List ℕ) → IsFirstFrom p s rs → IsFirstSoFarFrom p s rs
so_far_of_first p s [] first = tt
so_far_of_first p s (r ∷ rs) first = (first.0, first.1, so_far_of_first p (next p s r) rs first.2)

-- each entry of the lowest-first order is the lowest enabled rank
pub so_far_of_order : (p : Programs) (s : State) (rs : List ℕ) → IsOrderFrom p s from_the_lowest rs → IsFirstSoFarFrom p s rs
so_far_of_order p s rs order = so_far_of_first p s rs ((lowest_order p s rs).0 order)

-- where a run stops, a halt of the rank that stops it stands at the schedule's end
halts_at : (p : Programs) (schedule : List ℕ) (start : ℕ) (h : Halt) → h.turns ≡ length schedule → (c : Cause) → h.cause ≡ c → StopsAround p (replay p schedule) start h.rank c → HaltsAt p schedule h
halts_at p schedule start h turns c is (Refused d first refused) = record {
  turns = turns;
  why = inr record {
    known = around_known p (replay p schedule).tables start h.rank first;
    able = first.able;
    refused = subst (λ c. Rattle.qm_proto.specs.Model.Runs.IsRefused p (replay p schedule) h.rank c) (sym is) refused;
  };
}
halts_at p schedule start h turns c is (Stuck stuck lowest) = record { turns = turns; why = inl record { cause_so = is; stuck = stuck; lowest = lowest } }

over_at_end : {A : Type 0} (m : MachineView A) (start : ℕ) → IsOver m start → IsAtEnd m
over_at_end m start (Ended ended) = inl ended
over_at_end m start (Stopped h halted turns stops) = inr (h, halted, halts_at m.programs m.schedule start h turns h.cause refl stops)

still_halted : {A : Type 0} (m n : MachineView A) (h : Option Halt) → m.halted ≡ h → h ≢ None → n.halted ≡ m.halted → n.programs ≡ m.programs → n.schedule ≡ m.schedule → MayHalt m.programs m.schedule h → IsAtEnd n
still_halted m n None was some same programs schedule may = absurd (some refl)
still_halted m n (Some h) was some same programs schedule may =
    inr (h, same ∙ was, subst (λ (p : Programs). HaltsAt p n.schedule h) (sym programs) (subst (λ xs. HaltsAt m.programs xs h) (sym schedule) may))

-- what `play_order` makes of a machine that workers played
pub record PlaysOn {A : Type 0} (m n : MachineView A) : Type 0 where
  pub more : List ℕ
  pub schedule : n.schedule ≡ m.schedule ++ more
  pub lowest : IsFirstSoFarFrom m.programs (replay m.programs m.schedule) more
  pub over : IsAtEnd n

pub plays_on : {A : Type 0} (store : A → Store) (m n : MachineView A) → Keeps store m → Plays store m n from_the_lowest → PlaysOn m n
plays_on {A} store m n kept plays = by_halt m.halted refl
  where
    by_halt : (h : Option Halt) → m.halted ≡ h → PlaysOn m n
    by_halt None was =
        let goes = plays.goes was in
        record {
          more = goes.more;
          schedule = goes.schedule;
          lowest = so_far_of_order m.programs (state_of m) goes.more goes.order;
          over = over_at_end n _ goes.over;
        }
    by_halt (Some h) was =
        let same = plays.stays (λ none. let e : Some h ≡ None = sym was ∙ none in cc) in
        record {
          more = [];
          schedule = same.schedule ∙ sym (Rattle.std.proofs.Common.append-nil m.schedule);
          lowest = tt;
          over = still_halted m n m.halted refl (λ none. let e : Some h ≡ None = sym was ∙ none in cc) same.halted same.programs same.schedule kept.halt;
        }
