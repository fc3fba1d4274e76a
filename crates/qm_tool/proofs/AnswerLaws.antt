-- One status and one text alone is due for words and a text
use Rattle.std.proofs.Common.{◌≡◌, ◌≢◌, ℕ, ◌+◌, ◌<◌, ◌≤◌, ◌↔◌, Bool, true, false, IsTrue, List, Option, Some, None, length, ◌⊎◌, inl, inr, refl, sym, ap, subst, ◌∙◌, arith}
use Rattle.std.proofs.lemmas.Option.{none-some}
use mathlib.Core.Path.{fun_ext}
use Rattle.qm_denot.specs.declared.Wire.{Wire}
use Rattle.qm_denot.specs.Circuits.{Amplitudes, Circuit}
use Rattle.qm_denot.proofs.Unique.{one_form}
use Rattle.qm_instr.specs.Programs.{Programs}
use Rattle.qm_proto.specs.Model.Schedules.{replay, protocol_total, RendezvousEnds}
use Rattle.qm_proto.specs.Model.Ideal.{ideal_replay}
use Rattle.qm_proto.proofs.Firsts.{one_run_unique}
use Rattle.qm_ideal.specs.OneCircuits.{OneView, IsOneCircuit}
use Rattle.qm_eval.specs.Overflows.{IsFirstOverflow, NeverOverflows}
use Rattle.qm_cost.specs.declared.Delays.{Delays}
use Rattle.qm_cost.proofs.Existing.{one_report}
use Rattle.qm_tool.specs.declared.command.Command.{Command}
use Rattle.qm_tool.specs.declared.command.Command.TheVariants as command
use Rattle.qm_tool.specs.declared.command.Play.{Play}
use Rattle.qm_tool.specs.declared.command.Recipe.{Recipe}
use Rattle.qm_print.specs.declared.FaultLine.TheVariants as line
use Rattle.qm_tool.specs.declared.status.Status.{Status}
use Rattle.qm_tool.specs.Commands.{block_of, kind_word, made_of, order_words, plain, seeded, text_or}
use Rattle.qm_tool.specs.CostText.{cost_text}
use Rattle.qm_tool.specs.Dues.{IsScheduleOf, IsTurnAfter}
use Rattle.qm_print.specs.CheckText.{check_text}
use Rattle.qm_print.specs.FaultText.{fault_text}
use Rattle.qm_print.specs.Slots.{full_slots}
use Rattle.qm_print.specs.JobText.{job_text}
use Rattle.qm_print.specs.StateText.{line_count, state_lines, IsStateText}
use Rattle.qm_instr.specs.Bits.{number_of_bits}
use Rattle.qm_check.specs.Checks.{most_capacity}
use Rattle.qm_tool.specs.Due.{IsTextAfter, IsCostText, IsJobText, IsOneText, RunsTo, CostsTo, WorksTo, RefusedWith, IsCircuitText, WaitsWith, WideWith, OverflowsWith, IsCheckText, ReadsReady, DueReady, Ends, Stops, Works, Breaks, Costs, CostsNone, Draws, DrawsNone, Values, ValuesNone, TooWide, Overflows, Checks, DueOf, Made, Refused, Ready, NoCommand, TooMuch, Whole, IsSettled, OneAnswer}
use Rattle.qm_tool.proofs.DueLemmas.{one_due, one_schedule_of, one_turn_after}
use Rattle.qm_tool.proofs.EndLemmas.{same_circuit_text}
use Rattle.qm_tool.proofs.OneViews.{same_width, same_letters, ends_or_early, same_left}
use Rattle.qm_tool.proofs.ReadingLaws.{ReadsReady-one, IsRefusedFor-one, ready_or_refused}

-- ---- a circuit has one state text
IsStateText-one : (p : Programs) (c : Circuit) (more : ℕ) (bits : ℕ → List Bool) (slots : ℕ → ℕ → Option Wire) (a b : List ℕ)
    → IsStateText p c more bits slots a → IsStateText p c more bits slots b → a ≡ b
IsStateText-one p c more bits slots a b s t =
    let same = one_form s.numerators t.numerators s.exponent t.exponent c s.form t.form in
    let lines : ℕ → Amplitudes → List ℕ = λ k u. state_lines (length p.ranks) (protocol_total p) (k + more) (λ r. number_of_bits (bits r)) (full_slots p slots) u in
    s.lines ∙ ap (lines s.exponent) (fun_ext same.1) ∙ ap (λ k. lines k t.numerators) same.0 ∙ sym t.lines

-- the text of the one circuit
pub IsOneText-one : (p : Programs) (a b : List ℕ) → IsOneText p a → IsOneText p b → a ≡ b
IsOneText-one p a b s t =
    let same : t.run ≡ s.run = one_run_unique p t.run s.run t.one s.one in
    let of_run : List ℕ → Type 0 = λ run. let e = ideal_replay p run in IsStateText p e.circuit (protocol_total p) (λ r. (e.tables.parts r).bits) e.tables.slots b in
    IsStateText-one p _ _ _ _ a b s.state (subst of_run same t.state)

-- a schedule has one
text_after_one : (p : Programs) (schedule a b : List ℕ) → IsTextAfter p schedule a → IsTextAfter p schedule b → a ≡ b
text_after_one p schedule a b s t = IsStateText-one p _ _ _ _ a b s t

-- and one job text
job_text_one : (r : Recipe) (p : Programs) (schedule a b : List ℕ) → IsJobText r p schedule a → IsJobText r p schedule b → a ≡ b
job_text_one r p schedule a b s t =
    let left = replay p schedule in
    let same = one_form s.numerators t.numerators s.exponent t.exponent left.circuit s.form t.form in
    let with_form : ℕ → Amplitudes → List ℕ =
    λ k u. job_text (kind_word r.kind)
    (record { size = r.size; number = r.number; events = length schedule; protocol = protocol_total p; scale = k; lines = line_count u (full_slots p left.tables.slots) }) in
    s.whole ∙ ap (with_form s.exponent) (fun_ext same.1) ∙ ap (λ k. with_form k t.numerators) same.0 ∙ sym t.whole

-- and one cost text
cost_text_one : (d : Delays) (p : Programs) (schedule a b : List ℕ) → IsCostText d p schedule a → IsCostText d p schedule b → a ≡ b
cost_text_one d p schedule a b s t = s.whole ∙ ap (cost_text (length schedule)) (one_report p schedule d s.report t.report s.so t.so) ∙ sym t.whole

same_truth : (b c : Bool) (P : Type 0) → IsTrue b ↔ P → IsTrue c ↔ P → b ≡ c
same_truth true true P f g = refl
same_truth false false P f g = refl
same_truth true false P f g = sym (g.1 (f.0 refl))
same_truth false true P f g = f.1 (g.0 refl)

-- ---- programs without a fault have one answer
module _ (p : Programs) (a b : List ℕ) where
  RunsTo-one : (play : Play) (IsEnd : Programs → List ℕ → List ℕ → Type 0) → ((schedule x y : List ℕ) → IsEnd p schedule x → IsEnd p schedule y → x ≡ y) → order_words play.order ≢ None → (ok so : Bool)
      → RunsTo ok play IsEnd p a → RunsTo so play IsEnd p b → (ok ≡ so) × (a ≡ b)
  RunsTo-one play IsEnd one_end named ok so e f =
      one_due p (IsScheduleOf p play.order) (IsTurnAfter p play.order) (IsEnd p) (λ c schedule. block_of play.listing c p schedule)
      (one_schedule_of p play.order named) (one_turn_after p play.order named) one_end a b ok so e.due f.due

  runs_one : (play : Play) → order_words play.order ≢ None → (ok so : Bool) → RunsTo ok play IsTextAfter p a → RunsTo so play IsTextAfter p b → (ok ≡ so) × (a ≡ b)
  runs_one play named ok so e f = RunsTo-one play IsTextAfter (text_after_one p) named ok so e f

  works_one : (r : Recipe) (ok so : Bool) → WorksTo ok r p a → WorksTo so r p b → (ok ≡ so) × (a ≡ b)
  works_one r ok so e f = RunsTo-one plain (IsJobText r) (job_text_one r p) (λ none. absurd (none-some _ (sym none))) ok so e f

  costs_one : (seed : ℕ) (d : Delays) (ok so : Bool) → CostsTo ok seed d p a → CostsTo so seed d p b → (ok ≡ so) × (a ≡ b)
  costs_one seed d ok so e f = RunsTo-one (seeded seed) (IsCostText d) (cost_text_one d p) (λ none. absurd (none-some _ (sym none))) ok so e f

  draws_one : IsCircuitText p a → IsCircuitText p b → a ≡ b
  draws_one e f = e.whole ∙ same_circuit_text p e.circuit f.circuit e.one f.one ∙ sym f.whole

  waits_one : WaitsWith p a → WaitsWith p b → a ≡ b
  waits_one e f = e.whole ∙ ap (λ n. fault_text (line.Waits n)) (same_left p e.left f.left e.early f.early) ∙ sym f.whole

  wide_one : WideWith p a → WideWith p b → a ≡ b
  wide_one e f = e.whole ∙ ap (λ n. fault_text (line.Wide n)) (same_width p e.circuit f.circuit e.one f.one) ∙ sym f.whole

  first_one : (c : Circuit) (i j : ℕ) → IsFirstOverflow c i → IsFirstOverflow c j → i ≡ j
  first_one c i j x y = elim one_place [ inl less ↦ absurd (y.first i less x.overflows) | inr (inl same) ↦ same | inr (inr more) ↦ absurd (x.first j more y.overflows) ]
    where
      one_place : (i < j) ⊎ ((i ≡ j) ⊎ (j < i))
      one_place = grind arith

  overflows_one : OverflowsWith p a → OverflowsWith p b → a ≡ b
  overflows_one e f =
      let same = same_letters p e.circuit f.circuit e.one f.one in
      let first = first_one f.circuit.letters e.at f.at (subst (λ (c : Circuit). IsFirstOverflow c e.at) same e.first) f.first in
      e.whole ∙ ap (λ n. fault_text (line.LetterOverflow n)) first ∙ sym f.whole

  checks_one : IsCheckText p a → IsCheckText p b → a ≡ b
  checks_one e f = e.whole ∙ ap (check_text p) (same_truth e.meets f.meets (RendezvousEnds p) e.so f.so) ∙ sym f.whole

  -- what keeps the rows of one command apart
  narrow_or_wide : (m n : OneView) → IsOneCircuit p m → IsOneCircuit p n → m.width ≤ most_capacity p.version → most_capacity p.version < n.width → ⊥
  narrow_or_wide m n e f narrow wide = omega (arith, same_width p m n e f, narrow, wide)

  fits_or_leaves : (m n : OneView) (at : ℕ) → IsOneCircuit p m → IsOneCircuit p n → NeverOverflows m.letters → IsFirstOverflow n.letters at → ⊥
  fits_or_leaves m n at e f fits first = fits at (subst (λ (c : Circuit). IsFirstOverflow c at) (sym (same_letters p m n e f)) first).overflows

  ended_or_stopped : {A : Type 0} (ok so : Bool) → ok ≡ true → so ≡ false → (ok ≡ so) × (a ≡ b) → A
  ended_or_stopped ok so e f h = let same = h.0 in absurd (cc)

  DueReady-one : (c : Command) (s s' : Status) → IsSettled (Some c) s → DueReady p a c s → DueReady p b c s' → (s ≡ s') × (a ≡ b)
  DueReady-one c s s' h (Ends play e) (Ends play' f) = (refl, (runs_one play h true true e f).1)
  DueReady-one c s s' h (Ends play e) (Stops play' f) = ended_or_stopped true false refl refl (runs_one play h true false e f)
  DueReady-one c s s' h (Stops play e) (Ends play' f) = ended_or_stopped true false refl refl (let k = runs_one play h false true e f in (sym k.0, k.1))
  DueReady-one c s s' h (Stops play e) (Stops play' f) = (refl, (runs_one play h false false e f).1)
  DueReady-one c s s' h (Works r e) (Works r' f) = (refl, (works_one r true true e f).1)
  DueReady-one c s s' h (Works r e) (Breaks r' f) = ended_or_stopped true false refl refl (works_one r true false e f)
  DueReady-one c s s' h (Breaks r e) (Works r' f) = ended_or_stopped true false refl refl (let k = works_one r false true e f in (sym k.0, k.1))
  DueReady-one c s s' h (Breaks r e) (Breaks r' f) = (refl, (works_one r false false e f).1)
  DueReady-one c s s' h (Costs seed d e) (Costs seed' d' f) = (refl, (costs_one seed d true true e f).1)
  DueReady-one c s s' h (Costs seed d e) (CostsNone seed' d' f) = ended_or_stopped true false refl refl (costs_one seed d true false e f)
  DueReady-one c s s' h (CostsNone seed d e) (Costs seed' d' f) = ended_or_stopped true false refl refl (let k = costs_one seed d false true e f in (sym k.0, k.1))
  DueReady-one c s s' h (CostsNone seed d e) (CostsNone seed' d' f) = (refl, (costs_one seed d false false e f).1)
  DueReady-one c s s' h (Draws e) (Draws f) = (refl, draws_one e f)
  DueReady-one c s s' h (Draws e) (DrawsNone f) = absurd (ends_or_early p e.circuit f.left e.one f.early)
  DueReady-one c s s' h (DrawsNone e) (Draws f) = absurd (ends_or_early p f.circuit e.left f.one e.early)
  DueReady-one c s s' h (DrawsNone e) (DrawsNone f) = (refl, waits_one e f)
  DueReady-one c s s' h (Values e) (Values f) = (refl, IsOneText-one p a b e.text f.text)
  DueReady-one c s s' h (ValuesNone e) (ValuesNone f) = (refl, waits_one e f)
  DueReady-one c s s' h (TooWide e) (TooWide f) = (refl, wide_one e f)
  DueReady-one c s s' h (Overflows e) (Overflows f) = (refl, overflows_one e f)
  DueReady-one c s s' h (Values e) (ValuesNone f) = absurd (ends_or_early p e.circuit f.left e.one f.early)
  DueReady-one c s s' h (Values e) (TooWide f) = absurd (narrow_or_wide e.circuit f.circuit e.one f.one e.narrow f.wide)
  DueReady-one c s s' h (Values e) (Overflows f) = absurd (fits_or_leaves e.circuit f.circuit f.at e.one f.one e.fits f.first)
  DueReady-one c s s' h (ValuesNone e) (Values f) = absurd (ends_or_early p f.circuit e.left f.one e.early)
  DueReady-one c s s' h (ValuesNone e) (TooWide f) = absurd (ends_or_early p f.circuit e.left f.one e.early)
  DueReady-one c s s' h (ValuesNone e) (Overflows f) = absurd (ends_or_early p f.circuit e.left f.one e.early)
  DueReady-one c s s' h (TooWide e) (Values f) = absurd (narrow_or_wide f.circuit e.circuit f.one e.one f.narrow e.wide)
  DueReady-one c s s' h (TooWide e) (ValuesNone f) = absurd (ends_or_early p e.circuit f.left e.one f.early)
  DueReady-one c s s' h (TooWide e) (Overflows f) = absurd (narrow_or_wide f.circuit e.circuit f.one e.one f.narrow e.wide)
  DueReady-one c s s' h (Overflows e) (Values f) = absurd (fits_or_leaves f.circuit e.circuit e.at f.one e.one f.fits e.first)
  DueReady-one c s s' h (Overflows e) (ValuesNone f) = absurd (ends_or_early p e.circuit f.left e.one f.early)
  DueReady-one c s s' h (Overflows e) (TooWide f) = absurd (narrow_or_wide e.circuit f.circuit e.one f.one e.narrow f.wide)
  DueReady-one c s s' h (Checks e) (Checks f) = (refl, checks_one e f)

-- ---- a text has one answer
-- programs are not needed where a text is only written
gen_none : (p : Programs) (bytes : List ℕ) (r : Recipe) (s : Status) → DueReady p bytes (command.Gen r) s → ⊥
gen_none p bytes r s d = elim d [ ]

module _ (text a b : List ℕ) where
  refused_or_ready : {A : Type 0} (x y : List ℕ) (p : Programs) → RefusedWith text x → ReadsReady text p → A
  refused_or_ready x y p e reads = absurd (ready_or_refused text p e.fault reads e.refused)

  DueOf-one : (c : Command) (s s' : Status) → IsSettled (Some c) s → DueOf text a c s → DueOf text b c s' → (s ≡ s') × (a ≡ b)
  DueOf-one c s s' h (Made r e) (Made r' f) = (refl, e ∙ sym f)
  DueOf-one c s s' h (Made r e) (Refused c' none f) = absurd (none-some r (sym none))
  DueOf-one c s s' h (Made r e) (Ready c' q p reads d) = absurd (gen_none p b r q d)
  DueOf-one c s s' h (Refused c' none e) (Made r f) = absurd (none-some r (sym none))
  DueOf-one c s s' h (Refused c' none e) (Refused c'' none' f) = (refl, e.whole ∙ ap fault_text (IsRefusedFor-one text e.fault f.fault e.refused f.refused) ∙ sym f.whole)
  DueOf-one c s s' h (Refused c' none e) (Ready c'' q p reads d) = refused_or_ready a b p e reads
  DueOf-one c s s' h (Ready c' q p reads d) (Made r f) = absurd (gen_none p a r q d)
  DueOf-one c s s' h (Ready c' q p reads d) (Refused c'' none f) = refused_or_ready b a p f reads
  DueOf-one c s s' h (Ready c' q p reads d) (Ready c'' q' p' reads' d') =
      DueReady-one p a b c q q' h d (subst (λ (x : Programs). DueReady x b c q') (ReadsReady-one text p' p reads' reads) d')

pub Due-one : OneAnswer
Due-one o given s s' a b h (NoCommand e) (NoCommand f) = (refl, e ∙ sym f)
Due-one o given s s' a b h (TooMuch c none long e) (TooMuch c' none' long' f) = (refl, e ∙ sym f)
Due-one o given s s' a b h (TooMuch c none long e) (Whole c' q short d) = absurd (let few = short none in omega arith)
Due-one o given s s' a b h (Whole c q short d) (TooMuch c' none long f) = absurd (let few = short none in omega arith)
Due-one o given s s' a b h (Whole c q short d) (Whole c' q' short' d') = DueOf-one (text_or (made_of c) given) a b c q q' h d d'
