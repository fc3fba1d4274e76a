-- Something is due for all words and texts
use Rattle.std.proofs.Common.{◌≡◌, ℕ, ◌≤◌, inl, inr, List, Option, Some, None, length, refl, sym, subst}
use Rattle.std.proofs.lemmas.Bool.{cases_lt}
use Rattle.std.proofs.lemmas.Option.{none-some}
use Rattle.qm_instr.specs.Programs.{Programs, IsInRange}
use Rattle.qm_check.specs.Checks.{IsReady}
use Rattle.qm_print.specs.declared.FaultLine.{FaultLine}
use Rattle.qm_print.specs.declared.FaultLine.TheVariants as line
use Rattle.qm_print.specs.FaultText.{fault_text}
use Rattle.qm_tool.specs.declared.command.Command.{Command}
use Rattle.qm_tool.specs.declared.command.Command.TheVariants as command
use Rattle.qm_tool.specs.declared.status.Status.{Status}
use Rattle.qm_tool.specs.declared.status.Status.TheVariants as status
use Rattle.qm_seed.specs.Seeds.{seed_words}
use Rattle.qm_gen.proofs.MadeReads.{made-ready}
use Rattle.qm_tool.specs.Commands.{command_of, made_of, recipe_text, text_or, IsBounded, IsOnPrograms}
use Rattle.qm_tool.specs.Due.{ReadsReady, IsRefusedFor, Faulty, DueOf, Made, Refused, Ready, Due, NoCommand, TooMuch, Whole, SomeAnswer}
use Rattle.qm_tool.proofs.SomeReading.{SomeReading, Read, Unread, some_reading}
use Rattle.qm_expand.proofs.ReadRanges.{read_in_range}
use Rattle.qm_tool.proofs.SomeFaults.{ready_or_first_fault}
use Rattle.qm_tool.proofs.Bounds.{command_of-bounded}
use Rattle.qm_tool.proofs.SomeRuns.{some_run_answer, some_job_answer, some_cost_answer}
use Rattle.qm_tool.proofs.SomeCircuits.{HasAnswer, some_mono_answer, some_amps_answer, some_check_answer}

-- ---- programs without a fault
ready_answer : (p : Programs) → IsReady p → IsInRange p → (c : Command) → IsBounded c → IsOnPrograms c → HasAnswer p c
ready_answer p ready ranges (command.Run play) bounded on = some_run_answer p ranges play
ready_answer p ready ranges (command.Job r) bounded on = some_job_answer p ranges r
ready_answer p ready ranges command.Mono bounded on = some_mono_answer p ready ranges
ready_answer p ready ranges command.MonoAmps bounded on = some_amps_answer p ready ranges
ready_answer p ready ranges command.Check bounded on = some_check_answer p
ready_answer p ready ranges (command.Cost seed d) few on = some_cost_answer p ranges seed d few
ready_answer p ready ranges (command.Gen r) bounded on = absurd on

-- ---- the text of a command's program
module _ (c : Command) (bounded : IsBounded c) (text : List ℕ) where
  abbrev Answer : Type 0
  Answer = (s : Status) × (bytes : List ℕ) × DueOf text bytes c s

  of_programs : (p : Programs) → ReadsReady text p → IsInRange p → IsOnPrograms c → Answer
  of_programs p reads ranges on = let a = ready_answer p reads.ready ranges c bounded on in (a.0, a.1, Ready c a.0 p reads a.2)

  refused : made_of c ≡ None → (f : FaultLine) → IsRefusedFor text f → Answer
  refused given f h = (status.Refused, fault_text f, Refused c given (record { fault = f; refused = h; whole = refl }))

  given_answer : made_of c ≡ None → IsOnPrograms c → length text ≤ 1048576 → SomeReading text → Answer
  given_answer given on short (Unread f h) = refused given f h
  given_answer given on short (Read p reads) = elim (ready_or_first_fault p) [
    | inr (f, first) ↦ refused given (line.Unready f) (Faulty p f reads first)
    | inl ready ↦ of_programs p (record { reads = reads; ready = ready }) (read_in_range text p short reads) on
  ]

-- ---- a command
module _ (given : List ℕ) where
  abbrev SomeDue : Option Command → Type 0
  SomeDue o = (s : Status) × (bytes : List ℕ) × Due given bytes o s

  of_source : (c : Command) → IsBounded c → made_of c ≡ None → IsOnPrograms c → text_or (made_of c) given ≡ given → SomeDue (Some c)
  of_source c bounded none on same = elim (cases_lt 1048576 (length given)) [
    | inl long ↦ (status.TooLong, fault_text line.TooLong, TooMuch c none long refl)
    | inr short ↦ (
        let a = given_answer c bounded given none on short (some_reading given short) in
        (a.0, a.1, Whole c a.0 (λ e. short) (subst (λ t. DueOf t a.1 c a.0) (sym same) a.2))
        )
  ]

  some_due : (c : Command) → IsBounded c → SomeDue (Some c)
  some_due (command.Gen r) sized = (status.Ok, recipe_text r, Whole (command.Gen r) status.Ok (λ e. absurd (none-some r (sym e))) (Made r refl))
  some_due (command.Job r) sized =
      let made = made-ready r.kind r.size (seed_words r.number) sized in
      let a = of_programs (command.Job r) sized (recipe_text r) made.programs (record { reads = made.reads; ready = made.ready }) made.in_range tt in
      (a.0, a.1, Whole (command.Job r) a.0 (λ e. absurd (none-some r (sym e))) a.2)
  some_due c bounded = of_source c bounded refl tt refl

  of_words : (o : Option Command) → ((c : Command) → o ≡ Some c → IsBounded c) → SomeDue o
  of_words None bounded = (status.Usage, fault_text line.Usage, NoCommand refl)
  of_words (Some c) bounded = some_due c (bounded c refl)

pub some_answer : SomeAnswer
some_answer words given = of_words given (command_of words) (command_of-bounded words)
