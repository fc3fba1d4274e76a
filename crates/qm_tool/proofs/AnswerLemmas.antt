-- What an answer is due for, from the programs, the text and the source
use Rattle.std.proofs.Common.{◌≡◌, ℕ, ◌+◌, ◌≤◌, List, [], ◌++◌, length, true, false, Option, Some, None, Result, Ok, Err, refl, sym, ap, subst, ◌∙◌, codes}
use Rattle.std.specs.Prelude.{IsErrAnd, Vec}
use Rattle.std.specs.declared.alloc.Global.{Global}
use Rattle.std.proofs.lemmas.Option.{none-some}
use Rattle.std.proofs.lemmas.Result.{err_from_is_err_and}
use mathlib.Core.Path.{fun_ext}
use Rattle.qm_denot.specs.declared.Wire.{Wire}
use Rattle.qm_denot.specs.Wires.{no_wires}
use Rattle.qm_denot.specs.Circuits.{Circuit}
use Rattle.qm_denot.specs.Stores.{Store, StandsFor}
use Rattle.qm_check.specs.Checks.{most_capacity}
use Rattle.qm_gen.specs.Laws.{IsReadyText}
use Rattle.qm_instr.specs.Programs.{Programs}
use Rattle.qm_io.specs.Ends.{SinkView, SourceView, Took, Broke}
use Rattle.qm_proto.specs.Model.Ideal.{IdealTables, ideal_replay}
use Rattle.qm_proto.specs.Model.Schedules.{protocol_total}
use Rattle.qm_ideal.specs.declared.MonoError.{MonoError}
use Rattle.qm_ideal.specs.declared.MonoError.TheVariants as mono_error
use Rattle.qm_instr.specs.Bits.{number_of_bits}
use Rattle.qm_ideal.specs.OneCircuits.{OneView, IsOneCircuit, Explains, bits_of, slot_of}
use Rattle.qm_eval.specs.Holding.{HoldsCircuit}
use Rattle.qm_cost.specs.declared.Delays.{Delays}
use Rattle.qm_machine.specs.declared.Halt.{Halt}
use Rattle.qm_print.specs.declared.FaultLine.{FaultLine}
use Rattle.qm_print.specs.declared.FaultLine.TheVariants as line
use Rattle.qm_print.specs.declared.Head.{Head}
use Rattle.qm_print.specs.declared.Live.{Live}
use Rattle.qm_print.specs.FaultText.{fault_text, stopped_line}
use Rattle.qm_print.specs.Slots.{full_slots, slots_text}
use Rattle.qm_print.specs.StateText.{branch_lines, head_lines, state_lines}
use Rattle.qm_tool.specs.declared.answer.Answer.{Answer}
use Rattle.qm_tool.specs.declared.answer.Answer.TheVariants as answer
use Rattle.qm_tool.specs.declared.command.Command.{Command}
use Rattle.qm_tool.specs.declared.command.Command.TheVariants as command
use Rattle.qm_tool.specs.declared.command.Play.{Play}
use Rattle.qm_tool.specs.declared.command.Recipe.{Recipe}
use Rattle.qm_tool.specs.declared.running.Run.{Run}
use Rattle.qm_tool.specs.declared.refusal.Refusal.{Refusal}
use Rattle.qm_tool.specs.declared.refusal.Refusal.TheVariants as refusal
use Rattle.qm_tool.specs.declared.status.Status.{Status}
use Rattle.qm_tool.specs.declared.status.Status.TheVariants as status
use Rattle.qm_tool.specs.Commands.{made_of, plain}
use Rattle.qm_tool.specs.Due.{IsOneText, WaitsWith, IsAmplitudesText, CostsTo, ReadsReady, IsRefusedFor, RefusedWith, DueReady, Costs, CostsNone, DueOf, Made, Refused, Ready}
use Rattle.qm_tool.specs.Calls.{CameFrom, Comes, NoCommand, Failed, More, Text, Ends, Whole, Broken}
use Rattle.qm_tool.specs.Ends.{HeadSays, text_under}
use Rattle.qm_tool.specs.Reading.{IsUngiven, IsUnready}
use Rattle.qm_tool.specs.Refusals.{mono_refusal}
use Rattle.qm_tool.specs.Running.{IsRun, MayPutRun, run_status, run_text, work_text}
use Rattle.qm_tool.proofs.RunLemmas.{run-ready, work-ready}
use Rattle.qm_tool.specs.Answers.{status_of, text_of, Fits, AnswersDue, AnswersReady, AnswersText, AnswersCall, Concludes}
use Rattle.qm_tool.proofs.EndLemmas.{HeadSays-text, bits_lines-same}
use Rattle.qm_tool.proofs.FaultNames.{IsRefusedFor-names}
use Rattle.qm_tool.proofs.ReadingLaws.{IsRefusedFor-status, ready_or_refused}

-- ---- the one circuit
module _ (p : Programs) (m : OneView) (one : IsOneCircuit p m) where
  -- the state text of a store that holds it
  HoldsCircuit-text : (s : Store) (head : Head) (live : List Live) → HoldsCircuit m s → HeadSays p (bits_of m) (s.exponent + protocol_total p) head → live ≡ full_slots p (slot_of m)
      → IsOneText p (text_under head live s.value)
  HoldsCircuit-text s head live holds says full =
      let t : IdealTables = (ideal_replay p one.ranks).tables in
      let scale = s.exponent + protocol_total p in
      record {
        run = one.ranks;
        one = one.run;
        done = one.done;
        state = record {
          numerators = s.value;
          exponent = s.exponent;
          form = (subst (λ (c : Circuit). StandsFor s c) one.letters holds.stands).form;
          lines = HeadSays-text p (bits_of m) scale head live _ s.value says full
              ∙ ap
              (λ b. head_lines (length p.ranks) (protocol_total p) scale ++ b ++ codes "live" ++ slots_text (full_slots p (slot_of m)) ++ codes "\n" ++ branch_lines s.value [] no_wires (full_slots p (slot_of m)) ++ codes "end\n")
              (bits_lines-same (length p.ranks) (λ r. number_of_bits (bits_of m r)) (λ r. number_of_bits (t.parts r).bits) (λ r known. ap number_of_bits (one.bits r known)))
              ∙ ap (λ (f : ℕ → ℕ → Option Wire). state_lines (length p.ranks) (protocol_total p) scale (λ r. number_of_bits (t.parts r).bits) (full_slots p f) s.value)
              (fun_ext (λ r. fun_ext (λ q. one.slots r q)));
        };
      }

  pub amplitudes-answer : (s : Store) (scale : ℕ) (head : Head) (live : List Live) → m.width ≤ most_capacity p.version → HoldsCircuit m s → scale ≡ s.exponent + protocol_total p → HeadSays p (bits_of m) scale head
      → live ≡ full_slots p (slot_of m) → IsAmplitudesText p (text_under head live s.value)
  amplitudes-answer s scale head live narrow holds same says full =
      let says_so : HeadSays p (bits_of m) (s.exponent + protocol_total p) head = subst (λ n. HeadSays p (bits_of m) n head) same says in
      record { circuit = m; one = one; narrow = narrow; fits = holds.fits; text = HoldsCircuit-text s head live holds says_so full }

-- ---- the exit of a `?`
pub at_exit : {T E : Type 0} (P : Result T E → Type 0) (r : Result T E) (x : E) → IsErrAnd r (λ y. y ≡ x) → P (Err x) → P r
at_exit P r x h a = let p = err_from_is_err_and r h in subst P (sym (p.1 ∙ ap (λ y. Err y) p.2)) a

module _ {A : Type 0} (store : A → Store) where
  -- what fits one thing fits another that follows
  due_more : (IsDue IsDue' : List ℕ → Status → Type 0) → ((bytes : List ℕ) (s : Status) → IsDue bytes s → IsDue' bytes s) → (r : Result (Answer A) Refusal) → AnswersDue store IsDue r → AnswersDue store IsDue' r
  due_more IsDue IsDue' so (Ok a) fits = record { may_put = fits.may_put; due = so (text_of store a) (status_of a) fits.due }
  due_more IsDue IsDue' so (Err (refusal.Line f)) fits = record { may_put = fits.may_put; due = so _ _ fits.due }
  due_more IsDue IsDue' so (Err refusal.Memory) fits = tt

  pub ready-text : (text : List ℕ) (c : Command) (p : Programs) (r : Result (Answer A) Refusal) → ReadsReady text p → AnswersReady store p c r → AnswersText store text c r
  ready-text text c p r reads fits = due_more (λ bytes s. DueReady p bytes c s) (λ bytes s. DueOf text bytes c s) (λ bytes s d. Ready c s p reads d) r fits

  pub text-call : (text : List ℕ) (c : Command) (o : Option Command) (from from' : SourceView) (r : Result (Answer A) Refusal) → o ≡ Some c → CameFrom (made_of c) from from' text → AnswersText store text c r → AnswersCall store o from from' r
  text-call text c o from from' r is came fits =
      due_more (λ bytes s. DueOf text bytes c s) (λ bytes s. Comes from from' bytes o s) (λ bytes s d. subst (λ x. Comes from from' bytes x s) (sym is) (Text c text s came d)) r fits

  -- ---- lines
  -- no text came
  pub ungiven-call : (c : Command) (o : Option Command) (from from' : SourceView) (x : Refusal) → o ≡ Some c → IsUngiven (made_of c) from from' x → AnswersCall store o from from' (Err x)
  ungiven-call c o from from' x here u = subst (λ (q : Option Command). AnswersCall store q from from' (Err x)) (sym here) (by_made (made_of c) refl x u)
    where
      by_made : (made : Option Recipe) → made_of c ≡ made → (x : Refusal) → IsUngiven made from from' x → AnswersCall store (Some c) from from' (Err x)
      by_made None is (refusal.Line line.ReadFault) u = record { may_put = tt; due = Failed c is u refl }
      by_made None is (refusal.Line line.TooLong) u = record { may_put = tt; due = More c is u refl }
      by_made made is refusal.Memory u = tt
      by_made made is (refusal.Line f) u = absurd u

  refused-text : (text : List ℕ) (c : Command) (f : FaultLine) → made_of c ≡ None → IsRefusedFor text f → AnswersText store text c (Err (refusal.Line f))
  refused-text text c f given is =
      let with_line : RefusedWith text (fault_text f) = record { fault = f; refused = is; whole = refl } in
      record { may_put = IsRefusedFor-names text f is; due = subst (λ (s : Status). DueOf text (fault_text f) c s) (sym (IsRefusedFor-status text f is)) (Refused c given with_line) }

  -- the text is refused; a made one isn't
  pub unready-text : (text : List ℕ) (c : Command) (x : Refusal) → ((r : Recipe) → made_of c ≡ Some r → IsReadyText text) → IsUnready text x → AnswersText store text c (Err x)
  unready-text text c refusal.Memory made u = tt
  unready-text text c (refusal.Line f) made u = by_made (made_of c) refl
    where
      by_made : (o : Option Recipe) → made_of c ≡ o → AnswersText store text c (Err (refusal.Line f))
      by_made None is = refused-text text c f is u
      by_made (Some r) is = let ready = made r is in absurd (ready_or_refused text ready.programs f (record { reads = ready.reads; ready = ready.ready }) u)

  -- ---- runs
  pub run-answer : (p : Programs) (play : Play) (run : Run A) → IsRun store play p run → MayPutRun store run → (c : Command) → c ≡ command.Run play → Fits store (λ bytes s. DueReady p bytes c s) (answer.Played run)
  run-answer p play run on may c is = record { may_put = may; due = subst (λ k. DueReady p (run_text store run) k (run_status run)) (sym is) (run-ready store play p run on) }

  pub work-answer : (p : Programs) (r : Recipe) (run : Run A) → IsRun store plain p run → MayPutRun store run → (c : Command) → c ≡ command.Job r → Fits store (λ bytes s. DueReady p bytes c s) (answer.Worked r run)
  work-answer p r run on may c is = record { may_put = may; due = subst (λ k. DueReady p (work_text store r run) k (run_status run)) (sym is) (work-ready store r p run on) }

  -- for what the source gave
  module _ (text : List ℕ) (play : Play) (from from' : SourceView) (came : CameFrom None from from' text) where
    abbrev this : Command
    this = command.Run play

    pub run-call : (p : Programs) (run : Run A) → ReadsReady text p → IsRun store play p run → MayPutRun store run → Fits store (λ bytes s. Comes from from' bytes (Some this) s) (answer.Played run)
    run-call p run reads on may =
        text-call text this (Some this) from from' (Ok (answer.Played run)) refl came
        (ready-text text this p (Ok (answer.Played run)) reads (run-answer p play run on may this refl))

    pub unready-call : (x : Refusal) → IsUnready text x → AnswersCall store (Some this) from from' (Err x)
    unready-call x u = text-call text this (Some this) from from' (Err x) refl came (unready-text text this x (λ r is. absurd (none-some r is)) u)

  -- ---- the cost of a run
  module _ (p : Programs) (seed : ℕ) (d : Delays) where
    pub cost-stops : (h : Halt) (f : FaultLine) → f ≡ line.Stopped h.rank h.turns h.cause → CostsTo false seed d p (stopped_line h.rank h.turns h.cause)
        → Fits store (λ bytes s. DueReady p bytes (command.Cost seed d) s) (answer.Line f)
    cost-stops h f is due = subst (λ (x : FaultLine). Fits store (λ bytes s. DueReady p bytes (command.Cost seed d) s) (answer.Line x)) (sym is) (record { may_put = tt; due = CostsNone seed d due })

    pub cost-ends : (text : Vec ℕ Global) (bytes : List ℕ) → text.items ≡ bytes → CostsTo true seed d p bytes → Fits store (λ bytes s. DueReady p bytes (command.Cost seed d) s) (answer.Text status.Ok text)
    cost-ends text bytes is due = record { may_put = tt; due = Costs seed d (subst (CostsTo true seed d p) (sym is) due) }

  -- ---- the one circuit
  -- ranks wait for each other
  pub waits-ready : (p : Programs) (c : Command) → ((bytes : List ℕ) → WaitsWith p bytes → DueReady p bytes c status.Waits) → (e : MonoError) → Explains p e → AnswersReady store p c (Err (mono_refusal e))
  waits-ready p c row (mono_error.Waits left) x = record { may_put = tt; due = row (fault_text (line.Waits left)) (record { left = left; early = x; whole = refl }) }
  waits-ready p c row mono_error.Memory x = tt

  -- a text that is only written
  pub gen-answer : (text : Vec ℕ Global) (r : Recipe) (c : Command) → c ≡ command.Gen r → Fits store (λ bytes s. DueOf text.items bytes c s) (answer.Text status.Ok text)
  gen-answer text r c is = record { may_put = tt; due = subst (λ k. DueOf text.items text.items k status.Ok) (sym is) (Made r refl) }

  -- words that are no command
  pub usage-answer : (o : Option Command) (from : SourceView) → o ≡ None → Fits store (λ bytes s. Comes from from bytes o s) (answer.Line line.Usage)
  usage-answer o from none = record { may_put = tt; due = subst (λ x. Comes from from (fault_text line.Usage) x status.Usage) (sym none) (NoCommand refl refl) }

  -- ---- the answer on the sink
  pub Concludes-written : (to to' : SinkView) (r : Option (Answer A)) (a : Answer A) (s : Status) → r ≡ Some a → s ≡ status_of a → Took to to' (text_of store a) → Concludes store r to to' s
  Concludes-written to to' r a s e f t = subst (λ x. Concludes store x to to' s) (sym e) (subst (λ (q : Status). Ends (status_of a) (text_of store a) to to' q) (sym f) (Whole t))

  pub Concludes-broken : (to to' : SinkView) (r : Option (Answer A)) (a : Answer A) → r ≡ Some a → Broke to to' (text_of store a) → Concludes store r to to' status.WriteFault
  Concludes-broken to to' r a e b = subst (λ x. Concludes store x to to' status.WriteFault) (sym e) (Broken b)
