-- What a whole call says: the cause of its status, and the status and the bytes that were due
use Rattle.std.proofs.Common.{◌≡◌, ◌≢◌, ℕ, ◌≤◌, ◌⊎◌, inl, inr, Bool, true, List, ◌++◌, length, Option, Some, None, Result, Ok, Err, refl, sym, ap, subst, ◌∙◌, arith, length-append}
use Rattle.std.proofs.lemmas.List.{append-nil}
use Rattle.std.proofs.lemmas.Option.{none-some}
use Rattle.qm_denot.specs.Stores.{Store}
use Rattle.qm_instr.specs.Programs.{Programs}
use Rattle.qm_check.specs.Checks.{IsReady}
use Rattle.qm_cost.specs.declared.Delays.{Delays}
use Rattle.qm_io.specs.Ends.{SinkView, SourceView, Rose, Took, IsSpent, led_by}
use Rattle.qm_io.specs.Intake.{GaveAll, GaveMore, FailedOnce}
use Rattle.qm_tool.specs.declared.answer.Answer.{Answer}
use Rattle.qm_tool.specs.declared.refusal.Refusal.{Refusal}
use Rattle.qm_tool.specs.declared.refusal.Refusal.TheVariants as refusal
use Rattle.qm_print.specs.declared.FaultLine.TheVariants as line
use Rattle.qm_tool.specs.declared.status.Status.{Status}
use Rattle.qm_tool.specs.declared.status.Status.TheVariants as status
use Rattle.qm_tool.specs.declared.command.Command.{Command}
use Rattle.qm_tool.specs.declared.command.Command.TheVariants as command
use Rattle.qm_tool.specs.declared.command.Play.{Play}
use Rattle.qm_tool.specs.declared.command.Recipe.{Recipe}
use Rattle.qm_tool.specs.declared.command.Listing.TheVariants.{Nothing}
use Rattle.qm_tool.specs.declared.command.Order.TheVariants.{Seeded}
use Rattle.qm_tool.specs.Commands.{block_of, made_of, text_or, IsRunning}
use Rattle.qm_tool.specs.Dues.{IsScheduleOf, IsTurnAfter, IsDue, Completes, StopsShort}
use Rattle.qm_tool.specs.Due as row
use Rattle.qm_tool.specs.Due.{OnReady, StatesOneCircuit, EndsWith, IsCostText, CostsTo, TellsCost, DueReady, DueOf, Due}
use Rattle.qm_tool.specs.Lines.{HasAmplitudeLine}
use Rattle.qm_tool.specs.Calls.{Call, call, AsksSource, CameFrom, Comes, NoCommand, Failed, More, Text, Ends, Whole, Broken, Ran, Starved, Done, Answers, Breaks, IsOfText, EndsHeld, WritesDue}
use Rattle.qm_tool.specs.Promises.{Promises}
use Rattle.qm_print.specs.FaultText.{fault_text}
use Rattle.qm_tool.specs.Answers.{AnswersCall, Concludes, answer_in}
use Rattle.qm_tool.proofs.AnswerLaws.{Due-one}
use Rattle.qm_tool.proofs.Completing.{Due-ok}
use Rattle.qm_tool.proofs.OneCircuits.{EndsWith-one_circuit}
use Rattle.qm_tool.proofs.SomeLines.{some_line_due}

-- ---- a source that tells its bytes
-- what it gave, to its end, is all that it had
all_of_it : (text got : List ℕ) (rest : Option (List ℕ)) → Some text ≡ led_by got rest → IsSpent rest → text ≡ got
all_of_it text got None e s = cc
all_of_it text got (Some r) e s = let k : text ≡ got ++ r = cc in k ∙ ap (λ x. got ++ x) s ∙ append-nil got

-- it had no less than it gave
longer_than : (text got : List ℕ) (rest : Option (List ℕ)) → Some text ≡ led_by got rest → length got ≤ length text
longer_than text got None e = cc
longer_than text got (Some r) e = let k : text ≡ got ++ r = cc in omega (arith, ap length k, length-append got r)

module _ (from from' : SourceView) (given : List ℕ) where
  -- the text that came is that of all that the source had
  came_so : (made : Option Recipe) (text : List ℕ) → (made ≡ None → from.left ≡ Some given) → CameFrom made from from' text
      → (text ≡ text_or made given) × (made ≡ None → length given ≤ 1048576)
  came_so None text told g =
      let all : given ≡ text = all_of_it given text from'.left (sym (told refl) ∙ g.gave.left) g.spent in
      (sym all, λ e. omega (arith, ap length all, g.short))
  came_so (Some r) text told came = (came.1, λ e. absurd (none-some r (sym e)))

  -- what is due for what came is due for it
  Comes-due : (o : Option Command) (s : Status) (bytes : List ℕ) → (AsksSource o → from.left ≡ Some given) → (AsksSource o → Rose from.faults from'.faults → ⊥)
      → Comes from from' bytes o s → Due given bytes o s
  Comes-due o s bytes told read (NoCommand same e) = row.NoCommand e
  Comes-due o s bytes told read (Failed c none f e) = absurd (read none f.rose)
  Comes-due o s bytes told read (More c none m e) = row.TooMuch c none (omega (arith, m.long, longer_than given m.text from'.left (sym (told none) ∙ m.gave.left))) e
  Comes-due o s bytes told read (Text c text q came d) =
      let so = came_so (made_of c) text told came in
      row.Whole c q so.1 (subst (λ t. DueOf t bytes c q) so.0 d)

-- ---- the statuses that the table has
DueReady-of_text : (p : Programs) (bytes : List ℕ) (c : Command) (s : Status) → DueReady p bytes c s → IsOfText s
DueReady-of_text p bytes c s (row.Ends play e) = tt
DueReady-of_text p bytes c s (row.Stops play e) = tt
DueReady-of_text p bytes c s (row.Works r e) = tt
DueReady-of_text p bytes c s (row.Breaks r e) = tt
DueReady-of_text p bytes c s (row.Costs seed d e) = tt
DueReady-of_text p bytes c s (row.CostsNone seed d e) = tt
DueReady-of_text p bytes c s (row.Draws e) = tt
DueReady-of_text p bytes c s (row.DrawsNone e) = tt
DueReady-of_text p bytes c s (row.Values e) = tt
DueReady-of_text p bytes c s (row.ValuesNone e) = tt
DueReady-of_text p bytes c s (row.TooWide e) = tt
DueReady-of_text p bytes c s (row.Overflows e) = tt
DueReady-of_text p bytes c s (row.Checks e) = tt

DueOf-of_text : (text bytes : List ℕ) (c : Command) (s : Status) → DueOf text bytes c s → IsOfText s
DueOf-of_text text bytes c s (row.Made r e) = tt
DueOf-of_text text bytes c s (row.Refused c' none e) = tt
DueOf-of_text text bytes c s (row.Ready c' q p reads d) = DueReady-of_text p bytes c' q d

-- a run that ended well, by what follows from its bytes
DueOf-ended : (play : Play) (says : Programs → List ℕ → Type 0) → ((p : Programs) (bytes : List ℕ) → IsReady p → EndsWith play p bytes → says p bytes) → (text bytes : List ℕ)
    → DueOf text bytes (command.Run play) status.Ok → OnReady says text bytes
DueOf-ended play says so text bytes (row.Ready c q p reads (row.Ends how e)) = record { programs = p; reads = reads; so = so p bytes reads.ready e }

-- a run whose cost is told
tells_cost : (seed : ℕ) (d : Delays) (p : Programs) (bytes : List ℕ) → CostsTo true seed d p bytes → TellsCost seed d p bytes
tells_cost seed d p bytes e = by_due true e.due refl
  where
    by_due : (complete : Bool)
        → IsDue p (IsScheduleOf p (Seeded seed)) (IsTurnAfter p (Seeded seed)) (IsCostText d p) (λ c schedule. block_of Nothing c p schedule) bytes complete
        → complete ≡ true → TellsCost seed d p bytes
    by_due _ (StopsShort schedule order due) is = cc
    by_due _ (Completes schedule order due) is =
        record { schedule = schedule; order = order; complete = due.complete; text = subst (IsCostText d p schedule) (sym (due.whole ∙ append-nil due.end)) due.so }

DueOf-costed : (text bytes : List ℕ) (seed : ℕ) (d : Delays) → DueOf text bytes (command.Cost seed d) status.Ok → OnReady (TellsCost seed d) text bytes
DueOf-costed text bytes seed d (row.Ready c q p reads (row.Costs seed' d' e)) = record { programs = p; reads = reads; so = tells_cost seed d p bytes e }

-- ---- what each status says
module _ (k : Call) where
  abbrev AnswersAs : Status → Type 0
  AnswersAs s = Answers k (λ c text bytes. DueOf text bytes c s)

  abbrev Cause : Status → Type 0
  Cause status.Usage = k.command ≡ None
  Cause status.ReadFault = AsksSource k.command × FailedOnce k.from k.from'
  Cause status.TooLong = AsksSource k.command × GaveMore k.from k.from'
  Cause status.WriteFault = Breaks k
  Cause status.OutOfMemory = k.to' ≡ k.to
  Cause s = AnswersAs s

  cause_of_text : (s : Status) → IsOfText s → AnswersAs s → Cause s
  cause_of_text status.Usage q a = absurd q
  cause_of_text status.ReadFault q a = absurd q
  cause_of_text status.TooLong q a = absurd q
  cause_of_text status.WriteFault q a = absurd q
  cause_of_text status.OutOfMemory q a = absurd q
  cause_of_text s q a = a

  text_of_cause : (s : Status) → IsOfText s → Cause s → AnswersAs s
  text_of_cause status.Usage q a = absurd q
  text_of_cause status.ReadFault q a = absurd q
  text_of_cause status.TooLong q a = absurd q
  text_of_cause status.WriteFault q a = absurd q
  text_of_cause status.OutOfMemory q a = absurd q
  text_of_cause s q a = a

  -- of a command that ended well, by what follows from its bytes
  ended : (this : Command) (says : Programs → List ℕ → Type 0) → ((text bytes : List ℕ) → DueOf text bytes this status.Ok → OnReady says text bytes)
      → k.command ≡ Some this → AnswersAs status.Ok → Answers k (λ c. OnReady says)
  ended this says so is a =
      let same : a.command ≡ this = let own = a.is in cc in
      record {
        command = a.command;
        is = a.is;
        text = a.text;
        came = a.came;
        bytes = a.bytes;
        so = so a.text a.bytes (subst (λ c. DueOf a.text a.bytes c status.Ok) same a.so);
        took = a.took;
      }

  whole_text : (s : Status) → AsksSource k.command → AnswersAs s → (text : List ℕ) × GaveAll k.from k.from' text
  whole_text s asks a =
      let none : made_of a.command ≡ None = subst AsksSource a.is asks in
      (a.text, subst (λ m. CameFrom m k.from k.from' a.text) none a.came)

module _ (from from' : SourceView) (to to' : SinkView) where
  Comes-cause : (o : Option Command) (s : Status) (bytes : List ℕ) → Comes from from' bytes o s → Took to to' bytes → Cause (call o from from' to to' s) s
  Comes-cause o s bytes (NoCommand same e) t = refl
  Comes-cause o s bytes (Failed c none f e) t = (none, f)
  Comes-cause o s bytes (More c none m e) t = (none, m)
  Comes-cause o s bytes (Text c text q came d) t =
      cause_of_text (call (Some c) from from' to to' q) q (DueOf-of_text text bytes c q d)
      (record { command = c; is = refl; text = text; came = came; bytes = bytes; so = d; took = t })

  Ends-cause : (o : Option Command) (due s : Status) (bytes : List ℕ) → Comes from from' bytes o due → Ends due bytes to to' s → Cause (call o from from' to to' s) s
  Ends-cause o due s bytes c (Whole t) = Comes-cause o due bytes c t
  Ends-cause o due s bytes c (Broken b) = record { due = due; bytes = bytes; comes = c; broke = b }

  Ends-flushed : (due s : Status) (bytes : List ℕ) → s ≢ status.WriteFault → Ends due bytes to to' s → to'.faults ≡ to.faults
  Ends-flushed due s bytes other (Whole t) = t.faults
  Ends-flushed due s bytes other (Broken b) = absurd (other refl)

  Ends-took : (due s : Status) (bytes : List ℕ) → (Rose to.faults to'.faults → ⊥) → Ends due bytes to to' s → (s ≡ due) × Took to to' bytes
  Ends-took due s bytes wrote (Whole t) = (refl, t)
  Ends-took due s bytes wrote (Broken b) = absurd (wrote b.rose)

  usage_due : (o : Option Command) (due s : Status) (bytes : List ℕ) → o ≡ None → Comes from from' bytes o due → Ends due bytes to to' s → Ends status.Usage (fault_text line.Usage) to to' s
  usage_due o due s bytes none (NoCommand same e) ends = subst (λ b. Ends status.Usage b to to' s) e ends
  usage_due o due s bytes none (Failed c given f e) ends = absurd (none-some c (sym none))
  usage_due o due s bytes none (More c given m e) ends = absurd (none-some c (sym none))
  usage_due o due s bytes none (Text c text q came d) ends = absurd (none-some c (sym none))

  module _ (o : Option Command) (s : Status) where
    abbrev k : Call
    k = call o from from' to to' s

    Ran-cause : Ran k → Cause k s
    Ran-cause (Starved c is e same) = subst (Cause k) (sym e) same
    Ran-cause (Done due bytes comes ends) = Ends-cause o due s bytes comes ends

    cause : (q : Status) → Ran k → s ≡ q → Cause k q
    cause q r e = subst (Cause k) e (Ran-cause r)

    Ran-flushed : Ran k → s ≢ status.WriteFault → to'.faults ≡ to.faults
    Ran-flushed (Starved c is e same) other = ap (λ (v : SinkView). v.faults) same
    Ran-flushed (Done due bytes comes ends) other = Ends-flushed due s bytes other ends

    Ran-usage : Ran k → o ≡ None → Ends status.Usage (fault_text line.Usage) to to' s
    Ran-usage (Starved c is e same) none = absurd (none-some c (sym none ∙ is))
    Ran-usage (Done due bytes comes ends) none = usage_due o due s bytes none comes ends

    Ran-some : Ran k → (given : List ℕ) → EndsHeld k given → s ≢ status.OutOfMemory → WritesDue k given
    Ran-some (Starved c is e same) given held memory = absurd (memory e)
    Ran-some (Done due b comes ends) given held memory =
        let took = Ends-took due s b held.wrote ends in
        record { bytes = b; due = subst (Due given b o) (sym took.0) (Comes-due from from' given o due b held.told held.read comes); took = took.1 }

    Ran-exact : Ran k → (given : List ℕ) (q : Status) (bytes : List ℕ) → EndsHeld k given → s ≢ status.OutOfMemory → row.IsSettled o q → Due given bytes o q → (s ≡ q) × Took to to' bytes
    Ran-exact r given q bytes held memory settled d =
        let came = Ran-some r given held memory in
        let one = Due-one o given q s bytes came.bytes settled d came.due in
        (sym one.0, subst (Took to to') (sym one.1) came.took)

    Ran-complete : Ran k → (c : Command) (text : List ℕ) → EndsHeld k text → o ≡ Some c → IsRunning c → length text ≤ 1048576 → row.IsSure text → (s ≡ status.Ok) ⊎ (s ≡ status.OutOfMemory)
    Ran-complete (Starved c' is e same) c text held run on short sure = inr e
    Ran-complete (Done due b comes ends) c text held run on short sure =
        let d = Comes-due from from' text o due b held.told held.read comes in
        inl ((Ends-took due s b held.wrote ends).0 ∙ Due-ok text b sure c due on short (subst (λ x. Due text b x due) run d))

    pub Ran-promises : Ran k → Promises k
    Ran-promises r = record {
      ran = r;
      answered = λ q. text_of_cause k s q (Ran-cause r);
      usage = cause status.Usage r;
      read_fault = cause status.ReadFault r;
      too_long = cause status.TooLong r;
      write_fault = cause status.WriteFault r;
      nothing = cause status.OutOfMemory r;
      headline = λ play is e. ended k (command.Run play) (StatesOneCircuit play) (DueOf-ended play (StatesOneCircuit play) (EndsWith-one_circuit play)) is (cause status.Ok r e);
      some_line = λ play is e. ended k (command.Run play) (HasAmplitudeLine play) (DueOf-ended play (HasAmplitudeLine play) (some_line_due play)) is (cause status.Ok r e);
      cost = λ seed d is e. ended k (command.Cost seed d) (TellsCost seed d) (λ text bytes. DueOf-costed text bytes seed d) is (cause status.Ok r e);
      whole = λ asks q. whole_text k s asks (text_of_cause k s q (Ran-cause r));
      flushed = Ran-flushed r;
      no_command = Ran-usage r;
      some = Ran-some r;
      exact = Ran-exact r;
      complete = Ran-complete r;
    }

    -- ---- by the answer
    pub Concludes-ran : {A : Type 0} (store : A → Store) (r : Result (Answer A) Refusal) → (o ≡ None → r ≡ Err (refusal.Line line.Usage)) → AnswersCall store o from from' r → Concludes store (answer_in r) to to' s → Ran k
    Concludes-ran store (Ok a) usage came ends = Done _ _ came.due ends
    Concludes-ran store (Err (refusal.Line f)) usage came ends = Done _ _ came.due ends
    Concludes-ran store (Err refusal.Memory) usage came ends = by_command o refl
      where
        by_command : (x : Option Command) → o ≡ x → Ran k
        by_command None is = let e = usage is in absurd (cc)
        by_command (Some c) is = Starved c is ends.0 ends.1

    -- of a run by threads
    pub Threads-ran : {A : Type 0} (store : A → Store) (r : Result (Answer A) Refusal) (play : Play) → o ≡ Some (command.Run play) → AnswersCall store (Some (command.Run play)) from from' r
        → Concludes store (answer_in r) to to' s → Ran k
    Threads-ran store r play is came ends =
        Concludes-ran store r (λ none. absurd (none-some (command.Run play) (sym none ∙ is))) (subst (λ (x : Option Command). AnswersCall store x from from' r) (sym is) came) ends
