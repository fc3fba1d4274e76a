-- What the turns of workers come to
use Rattle.std.specs.Prelude.{◌≡◌, ℕ, ◌+◌, ◌≤◌, List, [], ◌∷◌, ◌++◌, Option, None, Some, length, map, slice_get}
use Rattle.qm_limits.specs.declared.TheConstants.{MOST_EVENTS}
use Rattle.qm_instr.specs.Programs.{Programs}
use Rattle.qm_lock.specs.Lists.{times}
use Rattle.qm_lock.specs.Passes.{pass_count, pass_seen, desk_start, IsReady, IsNew, EachPass}
use Rattle.qm_lock.specs.declared.desk.Desk.{Desk}
use Rattle.qm_lock.specs.declared.desk.Pass.{Pass}
use Rattle.qm_proto.specs.Model.Schedules.{replay}
use Rattle.qm_machine.specs.declared.Step.{Step}
use Rattle.qm_machine.specs.declared.Step.TheVariants as step
use Rattle.qm_ranks.specs.declared.played.Exit.{Exit}
use Rattle.qm_ranks.specs.declared.played.Leave.{Leave}
use Rattle.qm_ranks.specs.declared.played.Leave.TheVariants as leave
use Rattle.qm_ranks.specs.declared.desk.Playing.{Playing}
use Rattle.qm_ranks.specs.declared.desk.Stepped.{Stepped}
use Rattle.qm_ranks.specs.declared.workers.Done.{Done}
use Rattle.qm_ranks.specs.Played.{LeavesFor}

-- why a rank that was stepped stayed where it was, if it did
abbrev pub stays_for : Step → Option Leave
stays_for (step.Did event) = None
stays_for (step.Blocked why) = Some leave.Idle
stays_for step.Ended = Some leave.Ended
stays_for step.Halted = Some leave.Halted

-- what a step of rank r makes of a schedule: one entry more, or the same for this reason
abbrev pub StepsTo : Programs → List ℕ → ℕ → Option Leave → List ℕ → Type 0
StepsTo p schedule r None new = new ≡ schedule ++ r ∷ []
StepsTo p schedule r (Some why) new = (new ≡ schedule) × LeavesFor p (replay p schedule) r why

module _ {A : Type 0} where
  -- the programs of the machine at a desk
  abbrev pub desk_programs : Desk (Playing A) → Programs
  desk_programs d = (desk_start d).machine.programs

  -- what it makes of rank r's pass: one entry more, or as many for this reason
  abbrev pub Counts : Programs → ℕ → Pass (Playing A) → Option Leave → Pass (Playing A) → Type 0
  Counts p r old None new = pass_count new ≡ pass_count old + 1
  Counts p r old (Some why) new = (pass_count new ≡ pass_count old) × LeavesFor p (replay p (pass_seen new)) r why

  -- a turn of rank r: its pass counts so, and has seen the schedule after it, which has r as often as the pass counts
  pub record TookTurn (p : Programs) (r : ℕ) (old : Pass (Playing A)) (stepped : Stepped) (new : Pass (Playing A)) : Type 0 where
    pub counts : Counts p r old stepped.stayed new
    pub own : times r (pass_seen new) ≡ pass_count new
    pub at : stepped.at ≡ length (pass_seen new)
    pub few : pass_count new ≤ MOST_EVENTS

  -- what the worker of rank r knows where it leaves
  pub record LeavesAt (p : Programs) (r : ℕ) (pass : Pass (Playing A)) (e : Exit) : Type 0 where
    pub made : e.made ≡ pass_count pass
    pub at : e.at ≡ length (pass_seen pass)
    pub own : times r (pass_seen pass) ≡ e.made
    pub why : LeavesFor p (replay p (pass_seen pass)) r e.why

  -- the worker of rank r has left
  pub record IsDone (d : Desk (Playing A)) (r : ℕ) (done : Done A) : Type 0 where
    pub ready : IsReady d r done.pass
    pub exit : LeavesAt (desk_programs d) r done.pass done.exit

  -- so it is for each of these, with its place in the list
  abbrev pub EachDone : (ℕ → Done A → Type 0) → List (Done A) → Type 0
  EachDone P done = (k : ℕ) (x : Done A) → slice_get done k ≡ Some x → P k x

  -- these passes of a desk have their places for numbers, and have seen and added nothing
  abbrev pub AreNew : Desk (Playing A) → List (Pass (Playing A)) → Type 0
  AreNew d passes = EachPass (λ k p. IsReady d k p × IsNew p) passes

  abbrev pub passes_of : List (Done A) → List (Pass (Playing A))
  passes_of done = map (λ x. x.pass) done

  abbrev pub exits_of : List (Done A) → List Exit
  exits_of done = map (λ x. x.exit) done
