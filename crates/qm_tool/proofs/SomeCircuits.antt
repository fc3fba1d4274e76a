-- `mono`, `mono amps` and `check` have an answer for programs without a fault
use Rattle.std.proofs.Common.{◌≡◌, ◌∙◌, ℕ, zero, suc, ◌+◌, ◌<◌, ◌≤◌, ◌⊎◌, inl, inr, Bool, true, false, ◌==◌, if◌then◌else◌, List, [], ◌∷◌, length, take, fold, Option, Some, None, is_some, slice_get, slice_index_or, refl, sym, ap, subst, arith}
use Rattle.std.specs.Prelude.{All}
use Rattle.std.proofs.lemmas.Bool.{cases_lt, ne_eqb}
use Rattle.std.proofs.lemmas.List.{get_or_past, get_or_default}
use Rattle.std.proofs.lemmas.List.Elements.{All-head, All-tail, All-take}
use Rattle.std.proofs.lemmas.Option.{slice_get_past, slice_get_read}
use Rattle.qm_denot.specs.declared.Wire.{Wire}
use Rattle.qm_denot.specs.declared.Letter.{Letter}
use Rattle.qm_denot.specs.declared.Letter.TheVariants.{Had}
use Rattle.qm_denot.specs.Circuits.{Circuit}
use Rattle.qm_denot.proofs.ReducedForms.{reduced_form}
use Rattle.qm_denot.proofs.Searches.{Decided}
use Rattle.qm_instr.specs.declared.Instr.{Instr}
use Rattle.qm_instr.specs.Programs.{Programs, RankProgram, idle_rank, rank_of, IsInRange}
use Rattle.qm_check.specs.declared.Uses.{Uses}
use Rattle.qm_check.specs.declared.Uses.TheVariants.{Nothing, Fills, Keeps, Empties, Joins}
use Rattle.qm_check.specs.Checks.{IsReady, most_capacity}
use Rattle.qm_check.specs.Operands.{uses_of}
use Rattle.qm_check.specs.Slots.{HasFewSlots, is_full_after, full_after}
use Rattle.qm_check.proofs.Faultless.{before}
use Rattle.qm_check.proofs.SlotLemmas.{instruction_slots-few}
use Rattle.qm_proto.specs.declared.Check.TheVariants.{Fits}
use Rattle.qm_proto.specs.Model.Runs.{has_event, Fails}
use Rattle.qm_proto.specs.Model.State.{Tables}
use Rattle.qm_proto.specs.Model.Schedules.{protocol_total, tables_at_start, with_buffers_of_one, AllEnded, RendezvousEnds}
use Rattle.qm_proto.specs.Model.Runs.{next_tables}
use Rattle.qm_proto.specs.Model.Ideal as model
use Rattle.qm_proto.specs.Model.Ideal.{IdealState, ideal_replay, IsOneRun, has_instr, AllDone}
use Rattle.qm_confluence.proofs.Confluence.Confluent.{IsLeast, least}
use Rattle.qm_confluence.proofs.Confluence.NamedWires.{state_of_run}
use Rattle.qm_confluence.proofs.Endings.Tests.{test_fails_or_not}
use Rattle.qm_instr.specs.Bits.{number_of_bits}
use Rattle.qm_ideal.specs.OneCircuits.{wires_in, RankEnd, OneView, bits_of, slot_of, IsOneCircuit, left_from, EndsEarly}
use Rattle.qm_confluence.specs.Stuck.Rendezvous.{IsRendezvous}
use Rattle.qm_confluence.proofs.Endings.IdealRuns as ideal_runs
use Rattle.qm_confluence.proofs.Stuck.Meetings as meetings
use Rattle.qm_eval.specs.Overflows.{OverflowsAt, IsFirstOverflow, NeverOverflows}
use Rattle.qm_print.specs.declared.FaultLine.TheVariants as line
use Rattle.qm_print.specs.CheckText.{check_text}
use Rattle.qm_print.specs.CircuitText.{circuit_text}
use Rattle.qm_print.specs.FaultText.{fault_text}
use Rattle.qm_print.specs.Slots.{full_slots}
use Rattle.qm_print.specs.StateText.{state_lines}
use Rattle.qm_tool.specs.declared.command.Command.{Command}
use Rattle.qm_tool.specs.declared.command.Command.TheVariants as command
use Rattle.qm_tool.specs.declared.status.Status.{Status}
use Rattle.qm_tool.specs.declared.status.Status.TheVariants as status
use Rattle.qm_tool.specs.Due.{IsOneText, DueReady, Draws, DrawsNone, Values, ValuesNone, TooWide, Overflows, Checks}
use Rattle.qm_proto.proofs.Meetings.{same_or_below}
use Rattle.qm_proto.proofs.Firsts.{one_run-ideal}

-- ---- lists of the values of a function
listed : {A : Type 0} → (ℕ → A) → ℕ → ℕ → List A
listed f r zero = []
listed f r (suc n) = f r ∷ listed f (suc r) n

listed-length : {A : Type 0} (f : ℕ → A) (r n : ℕ) → length (listed f r n) ≡ n
unfolding listed
listed-length f r zero = refl
listed-length f r (suc n) = ap suc (listed-length f (suc r) n)

listed-from : {A : Type 0} (f : ℕ → A) (r n k : ℕ) (d : A) → k < n → slice_index_or (listed f r n) k d ≡ f (r + k)
unfolding listed
listed-from f r zero k d less = absurd (omega (arith, less))
listed-from f r (suc n) zero d less = let same : r ≡ r + 0 = omega arith in ap f same
listed-from f r (suc n) (suc k) d less =
    let same : suc r + k ≡ r + suc k = omega arith in
    listed-from f (suc r) n k d (omega (arith, less)) ∙ ap f same

listed-at : {A : Type 0} (f : ℕ → A) (n k : ℕ) (d : A) → k < n → slice_index_or (listed f 0 n) k d ≡ f k
listed-at f n k d less = let same : 0 + k ≡ k = omega arith in listed-from f 0 n k d less ∙ ap f same

listed-past : {A : Type 0} (f : ℕ → A) (n k : ℕ) (d : A) → n ≤ k → slice_index_or (listed f 0 n) k d ≡ d
listed-past f n k d past = let long = listed-length f 0 n in get_or_past (listed f 0 n) k d (omega (arith, long, past))

-- ---- slots past the sixteenth are empty, and those of ranks that there aren't
stays_empty : (q : ℕ) (u : Uses) → 16 ≤ q → HasFewSlots u → is_full_after q false u ≡ false
stays_empty q Nothing past few = refl
stays_empty q (Fills s) past few = ap (λ b. if b then true else false) (ne_eqb s q (λ e. omega (arith, e, past, few)))
stays_empty q (Keeps s) past few = refl
stays_empty q (Empties s) past few = both (s == q)
  where
    both : (b : Bool) → (if b then false else false) ≡ false
    both true = refl
    both false = refl
stays_empty q (Joins c t) past few = refl

abbrev fills : ℕ → Bool → Instr → Bool
fills q b i = is_full_after q b (uses_of i)

never_full : (q : ℕ) → 16 ≤ q → (is : List Instr) → All (λ i. HasFewSlots (uses_of i)) is → (b : Bool) → b ≡ false → fold (fills q) b is ≡ false
never_full q past [] few b e = e
never_full q past (i ∷ is) few b e =
    never_full q past is (All-tail (λ i. HasFewSlots (uses_of i)) i is few) (fills q b i)
    (ap (λ x. fills q x i) e ∙ stays_empty q (uses_of i) past (All-head (λ i. HasFewSlots (uses_of i)) i is few))

nothing_full : (n q : ℕ) → full_after (take n []) q ≡ false
nothing_full zero q = refl
nothing_full (suc n) q = refl

none_there : (o : Option Wire) → is_some o ≡ false → o ≡ None
none_there None e = refl
none_there (Some w) e = cc

-- ---- the end of the one run
module _ (p : Programs) (ready : IsReady p) (ranges : IsInRange p) (ranks : List ℕ) (run : IsOneRun p ranks) where
  abbrev end : IdealState
  end = ideal_replay p ranks

  full : (r q : ℕ) → is_some (end.tables.slots r q) ≡ full_after (before p r (end.tables.parts r).at) q
  full = (state_of_run p ready ranges ranks (one_run-ideal p ranks run)).tables.full

  few_slots : (r : ℕ) → r < length p.ranks → All (λ i. HasFewSlots (uses_of i)) (rank_of p r).instructions
  few_slots r known = λ k d within.
      let is = (rank_of p r).instructions in
      let i = slice_index_or is k d in
      instruction_slots-few p r k i known ranges (slice_get_read is (length is) k i refl within (get_or_default is k d i within))

  past_slot : (r q : ℕ) → r < length p.ranks → 16 ≤ q → end.tables.slots r q ≡ None
  past_slot r q known past =
      let at = (end.tables.parts r).at in
      none_there (end.tables.slots r q)
      (full r q ∙ never_full q past (before p r at) (All-take (λ i. HasFewSlots (uses_of i)) at (rank_of p r).instructions (few_slots r known)) false refl)

  past_rank : (r q : ℕ) → length p.ranks ≤ r → end.tables.slots r q ≡ None
  past_rank r q past =
      let at = (end.tables.parts r).at in
      let idle : rank_of p r ≡ idle_rank = get_or_past p.ranks r idle_rank past in
      none_there (end.tables.slots r q) (full r q ∙ ap (λ (x : RankProgram). full_after (take at x.instructions) q) idle ∙ nothing_full at q)

  -- ---- its view
  end_at : ℕ → RankEnd
  end_at r = record { bits = (end.tables.parts r).bits; slots = listed (end.tables.slots r) 0 16 }

  unwide : OneView
  unwide = record { letters = end.circuit; ranks = listed end_at 0 (length p.ranks); width = 0 }

  view : OneView
  view = record unwide { width = model.width end.circuit (wires_in (slot_of unwide) (length unwide.ranks)) }

  view_bits : (r : ℕ) → r < length p.ranks → bits_of view r ≡ (end.tables.parts r).bits
  unfolding view unwide end_at
  view_bits r known = ap (λ (x : RankEnd). x.bits) (listed-at end_at (length p.ranks) r (record { bits = []; slots = [] }) known)

  view_slots : (r q : ℕ) → slot_of view r q ≡ end.tables.slots r q
  unfolding view unwide end_at
  view_slots r q = elim (cases_lt r (length p.ranks)) [
    | inr past ↦ ap (λ (x : RankEnd). slice_index_or x.slots q None) (listed-past end_at (length p.ranks) r (record { bits = []; slots = [] }) past) ∙ sym (past_rank r q past)
    | inl known ↦ ap (λ (x : RankEnd). slice_index_or x.slots q None) (listed-at end_at (length p.ranks) r (record { bits = []; slots = [] }) known) ∙ (elim (cases_lt q 16) [
      | inl few ↦ listed-at (end.tables.slots r) 16 q None few
      | inr past ↦ listed-past (end.tables.slots r) 16 q None past ∙ sym (past_slot r q known past)
    ])
  ]

  view_one : AllDone p end.tables → IsOneCircuit p view
  unfolding view unwide
  view_one done = record {
    ranks = ranks;
    run = run;
    done = done;
    letters = refl;
    count = listed-length end_at 0 (length p.ranks);
    bits = view_bits;
    slots = view_slots;
    wide = refl;
  }

  early : (k : ℕ) → IsLeast (has_instr p end.tables) (length p.ranks) k → EndsEarly p (left_from p end.tables 0 (length p.ranks))
  early k low = record { ranks = ranks; run = run; early = λ done. let none = done k low.below in let some = low.here in cc; left_so = refl }

  one_text : AllDone p end.tables → (text : List ℕ) × IsOneText p text
  one_text done =
      let form = reduced_form end.circuit in (
        state_lines (length p.ranks) (protocol_total p) (form.1 + protocol_total p) (λ r. number_of_bits (end.tables.parts r).bits) (full_slots p end.tables.slots) form.0,
        record { run = ranks; one = run; done = done; state = record { numerators = form.0; exponent = form.1; form = form.2; lines = refl } },
      )

-- ---- whether a letter of a circuit leaves the range
module _ (c : Circuit) where
  overflows_or_not : (at : ℕ) → Decided (OverflowsAt c at)
  overflows_or_not at = by_letter (slice_get c at) refl
    where
      by_letter : (o : Option Letter) → slice_get c at ≡ o → Decided (OverflowsAt c at)
      by_letter None e = inr (λ x. let z : None ≡ Some (Had x.wire) = sym e ∙ x.letter in cc)
      by_letter (Some (Had w)) e = elim (test_fails_or_not (take at c) (Fits w)) [
        | inl leaves ↦ inl (record { wire = w; letter = e; leaves = leaves })
        | inr stays ↦ inr (λ x.
            let z : Some (Had x.wire) ≡ Some (Had w) = sym x.letter ∙ e in
            let same : x.wire ≡ w = cc in
            stays (subst (λ v. Fails (take at c) (Fits v)) same x.leaves))
      ]
      by_letter (Some l) e = inr (λ x. let z = sym x.letter ∙ e in cc)

  first_overflow : (n : ℕ) → ((k : ℕ) → k < n → ¬ OverflowsAt c k) ⊎ ((at : ℕ) × IsFirstOverflow c at)
  first_overflow zero = inl (λ k less. absurd (omega (arith, less)))
  first_overflow (suc n) = elim (first_overflow n) [
    | inr found ↦ inr found
    | inl none ↦ elim (overflows_or_not n) [
      | inl here ↦ inr (n, record { overflows = here; first = none })
      | inr not ↦ inl (λ k less. elim (same_or_below k n less) [ inl same ↦ subst (λ j. ¬ OverflowsAt c j) (sym same) not | inr lower ↦ none k lower ])
    ]
  ]

  past_letter : (k : ℕ) → length c ≤ k → ¬ OverflowsAt c k
  past_letter k past x = let none = slice_get_past c k past in let some = x.letter in let z : None ≡ Some (Had x.wire) = sym none ∙ some in cc

  never_or_first : NeverOverflows c ⊎ ((at : ℕ) × IsFirstOverflow c at)
  never_or_first = elim (first_overflow (length c)) [
    | inr found ↦ inr found
    | inl none ↦ inl (λ k. elim (cases_lt k (length c)) [ inl less ↦ none k less | inr past ↦ past_letter k past ])
  ]

-- ---- the answers
abbrev pub HasAnswer : Programs → Command → Type 0
HasAnswer p c = (s : Status) × (bytes : List ℕ) × DueReady p bytes c s

module _ (p : Programs) (ready : IsReady p) (ranges : IsInRange p) where
  pub some_mono_answer : HasAnswer p command.Mono
  some_mono_answer =
      let run = ideal_runs.one_run_law p in
      let tables = (ideal_replay p run.ranks).tables in
      elim (least (has_instr p tables) (length p.ranks)) [
        | inl done ↦
            let m = view p ready ranges run.ranks run.run in
            (status.Ok, circuit_text p m, Draws (record { circuit = m; one = view_one p ready ranges run.ranks run.run done; whole = refl }))
        | inr (k, low) ↦
            let left = left_from p tables 0 (length p.ranks) in
            (status.Waits, fault_text (line.Waits left), DrawsNone (record { left = left; early = early p ready ranges run.ranks run.run k low; whole = refl }))
      ]

  amps_of : (m : OneView) → IsOneCircuit p m → (text : List ℕ) × IsOneText p text → HasAnswer p command.MonoAmps
  amps_of m one text = elim (cases_lt (most_capacity p.version) m.width) [
    | inl wide ↦ (status.Wide, fault_text (line.Wide m.width), TooWide (record { circuit = m; one = one; wide = wide; whole = refl }))
    | inr narrow ↦ elim (never_or_first m.letters) [
      | inl fits ↦ (status.Ok, text.0, Values (record { circuit = m; one = one; narrow = narrow; fits = fits; text = text.1 }))
      | inr (at, first) ↦ (
        status.LetterOverflow,
        fault_text (line.LetterOverflow at),
        Overflows (record { circuit = m; one = one; narrow = narrow; at = at; first = first; whole = refl }),
      )
    ]
  ]

  pub some_amps_answer : HasAnswer p command.MonoAmps
  some_amps_answer =
      let run = ideal_runs.one_run_law p in
      let tables = (ideal_replay p run.ranks).tables in
      elim (least (has_instr p tables) (length p.ranks)) [
        | inl done ↦ amps_of (view p ready ranges run.ranks run.run) (view_one p ready ranges run.ranks run.run done) (one_text p ready ranges run.ranks run.run done)
        | inr (k, low) ↦
            let left = left_from p tables 0 (length p.ranks) in
            (status.Waits, fault_text (line.Waits left), ValuesNone (record { left = left; early = early p ready ranges run.ranks run.run k low; whole = refl }))
      ]

-- ---- the rendezvous run
module _ (p : Programs) where
  abbrev tight : Programs
  tight = with_buffers_of_one p

  abbrev tight_end : List ℕ → Tables
  tight_end rs = fold (next_tables tight) (tables_at_start tight) rs

  meets : (rs : List ℕ) → IsRendezvous p rs → AllEnded tight (tight_end rs) → RendezvousEnds p
  unfolding RendezvousEnds
  meets rs run ended = (rs, run, ended)

  waits : (rs : List ℕ) → IsRendezvous p rs → (k : ℕ) → IsLeast (has_event tight (tight_end rs)) (length tight.ranks) k → ¬ RendezvousEnds p
  unfolding RendezvousEnds
  waits rs run k low ends =
      let one = meetings.rendezvous_law p in
      let same : ends.0 ≡ rs = one.only ends.0 ends.1 ∙ sym (one.only rs run) in
      let none : has_event tight (tight_end rs) k ≡ false = subst (λ xs. has_event tight (tight_end xs) k ≡ false) same (ends.2 k low.below) in
      let some = low.here in
      cc

  pub some_check_answer : HasAnswer p command.Check
  some_check_answer =
      let run = meetings.rendezvous_law p in
      elim (least (has_event tight (tight_end run.schedule)) (length tight.ranks)) [
        | inl ended ↦ (status.Ok, check_text p true, Checks (record { meets = true; so = (λ t. meets run.schedule run.run ended, λ e. refl); whole = refl }))
        | inr (k, low) ↦ (status.Ok, check_text p false, Checks (record { meets = false; so = (λ t. absurd (let z : false ≡ true = t in cc), λ e. absurd (waits run.schedule run.run k low e)); whole = refl }))
      ]
