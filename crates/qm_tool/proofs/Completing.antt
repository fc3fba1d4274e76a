-- A text of which no schedule can stop is run to its end
use Rattle.std.proofs.Common.{◌≡◌, ℕ, ◌≤◌, ◌⊎◌, inl, inr, Bool, false, List, length, Some, None, refl, subst, arith}
use Rattle.qm_instr.specs.Programs.{Programs}
use Rattle.qm_proto.specs.declared.Cause.{Cause}
use Rattle.qm_proto.specs.Model.Schedules.{replay, IsLegal, RendezvousEnds}
use Rattle.qm_confluence.specs.Endings.Completing.{NeverRefused}
use Rattle.qm_confluence.specs.Stuck.NeverStuck.{NeverStuck}
use Rattle.qm_confluence.proofs.Stuck.Rendezvous.{never_stuck_law}
use Rattle.qm_tool.specs.Dues.{Stops, Refused, Stuck, IsTurnAfter, IsDue, Completes, StopsShort, IsScheduleOf}
use Rattle.qm_tool.specs.declared.command.Command.{Command}
use Rattle.qm_tool.specs.declared.command.Command.TheVariants as command
use Rattle.qm_tool.specs.declared.command.Play.{Play}
use Rattle.qm_tool.specs.declared.status.Status.{Status}
use Rattle.qm_tool.specs.declared.status.Status.TheVariants as status
use Rattle.qm_tool.specs.Commands.{block_of, made_of, seeded, text_or, IsRunning}
use Rattle.qm_tool.proofs.ReadingLaws.{ReadsReady-one, ready_or_refused}
use Rattle.qm_tool.specs.Due as row
use Rattle.qm_tool.specs.Due.{IsCostText, IsTextAfter, RunsTo, IsSure, DueReady, DueOf, Due}

never_stuck : (p : Programs) → NeverStuck p ⊎ RendezvousEnds p → NeverStuck p
never_stuck p (inl free) = free
never_stuck p (inr ends) = (never_stuck_law p ends).0

-- a running command is on the text that the source gives
running_given : (c : Command) → IsRunning c → made_of c ≡ None
running_given (command.Run play) on = refl
running_given (command.Cost seed d) on = refl
running_given c on = absurd on

-- nothing stops such programs
module _ (p : Programs) (bytes : List ℕ) (sure : NeverRefused p) (free : NeverStuck p) where
  module _ (play : Play) (IsEnd : Programs → List ℕ → List ℕ → Type 0) where
    no_stop : (schedule : List ℕ) (rank : ℕ) (why : Cause) → IsLegal p schedule → Stops p (replay p schedule) (IsTurnAfter p play.order schedule) rank why → ⊥
    no_stop schedule rank _ legal (Refused why next known able refused) = sure schedule legal rank why known able refused
    no_stop schedule rank _ legal (Stuck stuck low) = free schedule legal stuck

    no_short : RunsTo false play IsEnd p bytes → ⊥
    no_short runs = by_due false runs.due refl
      where
        by_due : (complete : Bool)
            → IsDue p (IsScheduleOf p play.order) (IsTurnAfter p play.order) (IsEnd p) (λ c schedule. block_of play.listing c p schedule) bytes complete → complete ≡ false → ⊥
        by_due _ (Completes schedule order due) is = cc
        by_due _ (StopsShort schedule order due) is = no_stop schedule due.rank due.cause due.legal due.stops

  ready_ok : (c : Command) (s : Status) → IsRunning c → DueReady p bytes c s → s ≡ status.Ok
  ready_ok c s on (row.Ends play e) = refl
  ready_ok c s on (row.Stops play e) = absurd (no_short play IsTextAfter e)
  ready_ok c s on (row.Costs seed d e) = refl
  ready_ok c s on (row.CostsNone seed d e) = absurd (no_short (seeded seed) (IsCostText d) e)
  ready_ok c s on d = absurd on

-- so nothing but the status of a run that ended is due for them
module _ (text bytes : List ℕ) (sure : IsSure text) where
  text_ok : (c : Command) (s : Status) → IsRunning c → DueOf text bytes c s → s ≡ status.Ok
  text_ok c s on (row.Made r e) = absurd on
  text_ok c s on (row.Refused c' none e) = absurd (ready_or_refused text sure.programs e.fault sure.reads e.refused)
  text_ok c s on (row.Ready c' q p reads d) =
      let same : sure.programs ≡ p = ReadsReady-one text sure.programs p sure.reads reads in
      ready_ok p bytes (subst NeverRefused same sure.never_refused) (subst NeverStuck same (never_stuck sure.programs sure.never_stuck)) c q on d

  pub Due-ok : (c : Command) (s : Status) → IsRunning c → length text ≤ 1048576 → Due text bytes (Some c) s → s ≡ status.Ok
  Due-ok c s on short (row.TooMuch c' none long e) = absurd (omega arith)
  Due-ok c s on short (row.Whole c' q few d) = text_ok c q on (subst (λ o. DueOf (text_or o text) bytes c q) (running_given c on) d)
