-- The state text of every complete schedule is that of the one circuit
use mathlib.Core.Path.{fun_ext}
use Rattle.std.proofs.Common.{◌≡◌, ℕ, ◌+◌, Bool, List, Option, length, true, refl, sym, ap, subst, ◌∙◌}
use Rattle.std.proofs.Math.Nat.{add-zero}
use Rattle.qm_denot.specs.declared.Wire.{Wire}
use Rattle.qm_denot.specs.Circuits.{Amplitudes}
use Rattle.qm_denot.specs.Stores.{IsReducedForm}
use Rattle.qm_denot.proofs.ReducedForms.{reduced_form}
use Rattle.qm_denot.proofs.Unique.{one_form}
use Rattle.qm_check.specs.Checks.{IsReady}
use Rattle.qm_ideal.specs.OneCircuits.{EndsEarly}
use Rattle.qm_instr.specs.Programs.{Programs, IsInRange}
use Rattle.qm_proto.specs.Model.Schedules.{replay, protocol_total}
use Rattle.qm_proto.specs.Model.Ideal.{ideal_replay, AllDone}
use Rattle.qm_proto.proofs.Firsts.{one_run_unique}
use Rattle.qm_tool.specs.Dues.{IsDue, Completes, StopsShort, IsScheduleOf, IsTurnAfter}
use Rattle.qm_simulation.specs.Headline.{ComesToOne}
use Rattle.qm_simulation.proofs.Laws.{headline_law}
use Rattle.qm_instr.specs.Bits.{number_of_bits}
use Rattle.qm_print.specs.Slots.{full_slots}
use Rattle.qm_print.specs.StateText.{state_lines}
use Rattle.qm_tool.specs.declared.command.Command.{Command}
use Rattle.qm_tool.specs.declared.command.Command.TheVariants as command
use Rattle.qm_tool.specs.declared.command.Play.{Play}
use Rattle.qm_tool.specs.declared.status.Status.TheVariants as status
use Rattle.qm_tool.specs.Commands.{block_of}
use Rattle.qm_tool.specs.Due.{EndsWith, IsTextAfter, IsOneText, IsWithBlock, StatesOneCircuit, WaitsWith, OnReady, ReadsReady, Ends, Values, DrawsNone, ValuesNone, DueOf, Ready, OneCircuitLaw}
use Rattle.qm_tool.proofs.AnswerLaws.{IsOneText-one}
use Rattle.qm_tool.proofs.ReadingLaws.{ReadsReady-one}

module _ (p : Programs) where
  -- the lines of equal scales, bits, slots and numerators
  same_lines : (k k' : ℕ) (bits bits' : ℕ → List Bool) (slots slots' : ℕ → ℕ → Option Wire) (u u' : Amplitudes)
      → k ≡ k' → bits ≡ bits' → slots ≡ slots' → u ≡ u'
      → state_lines (length p.ranks) (protocol_total p) k (λ r. number_of_bits (bits r)) (full_slots p slots) u
      ≡ state_lines (length p.ranks) (protocol_total p) k' (λ r. number_of_bits (bits' r)) (full_slots p slots') u'
  same_lines k k' bits bits' slots slots' u u' scales all_bits all_slots numbers =
      let lines : ℕ → (ℕ → List Bool) → (ℕ → ℕ → Option Wire) → Amplitudes → List ℕ =
      λ n b f v. state_lines (length p.ranks) (protocol_total p) n (λ r. number_of_bits (b r)) (full_slots p f) v in
      ap (λ n. lines n bits slots u) scales ∙ ap (λ b. lines k' b slots u) all_bits ∙ ap (λ f. lines k' bits' f u) all_slots ∙ ap (lines k' bits' slots') numbers

  pub one_text : (schedule ranks text : List ℕ) → ComesToOne p schedule ranks → IsTextAfter p schedule text → IsOneText p text
  one_text schedule ranks text comes after =
      let form = reduced_form (ideal_replay p ranks).circuit in
      let u : Amplitudes = form.0 in
      let k : ℕ = form.1 in
      let carried : IsReducedForm u (k + protocol_total p) (replay p schedule).circuit = comes.form u k form.2 in
      let same = one_form after.numerators u after.exponent (k + protocol_total p) (replay p schedule).circuit after.form carried in
      record {
        run = ranks;
        one = comes.run;
        done = comes.done;
        state = record {
          numerators = u;
          exponent = k;
          form = form.2;
          lines = after.lines
              ∙ same_lines (after.exponent + 0) (k + protocol_total p) _ _ _ _ after.numerators u (add-zero after.exponent ∙ same.0)
              (fun_ext (λ r. sym (comes.bits r))) (fun_ext (λ r. fun_ext (λ q. sym (comes.slots r q)))) (fun_ext same.1);
        };
      }

-- the text of a run that is complete is that of the one circuit
complete_one : (play : Play) (p : Programs) (bytes : List ℕ) (complete : Bool) → IsReady p → IsInRange p
    → IsDue p (IsScheduleOf p play.order) (IsTurnAfter p play.order) (IsTextAfter p) (λ c schedule. block_of play.listing c p schedule) bytes complete
    → complete ≡ true → StatesOneCircuit play p bytes
complete_one play p bytes _ ready in_range (Completes schedule order due) is =
    let law = headline_law p ready in_range schedule due.complete in
    record {
      state = due.end;
      one = one_text p schedule law.0 due.end law.1 due.so;
      blocked = record { schedule = schedule; order = order; whole = due.whole };
    }
complete_one play p bytes _ ready in_range (StopsShort schedule order due) is = cc

pub EndsWith-one_circuit : (play : Play) (p : Programs) (bytes : List ℕ) → IsReady p → EndsWith play p bytes → StatesOneCircuit play p bytes
EndsWith-one_circuit play p bytes ready e = complete_one play p bytes true ready e.in_range e.due refl

-- so the amplitudes of the one circuit are those of the run, and the ideal run doesn't end early
waits_not : (p : Programs) (left : ℕ) (state : List ℕ) → IsOneText p state → EndsEarly p left → ⊥
waits_not p left state one e = e.early (subst (λ rs. AllDone p (ideal_replay p rs).tables) (one_run_unique p one.run e.ranks one.one e.run) one.done)

module _ (play : Play) (text bytes : List ℕ) (p : Programs) (reads : ReadsReady text p) (one : StatesOneCircuit play p bytes) where
  amplitudes_so : (state : List ℕ) → DueOf text state command.MonoAmps status.Ok → OnReady (λ q. IsWithBlock play q state) text bytes
  amplitudes_so state (Ready c s q read_too (Values d)) =
      let same = ReadsReady-one text q p read_too reads in
      let text_so = IsOneText-one p one.state state one.one (subst (λ (x : Programs). IsOneText x state) same d.text) in
      record { programs = p; reads = reads; so = subst (λ x. IsWithBlock play p x bytes) text_so one.blocked }

  not_early : (q : Programs) (other : List ℕ) → ReadsReady text q → WaitsWith q other → ⊥
  not_early q other read_too waits =
      let same = ReadsReady-one text q p read_too reads in
      let here = subst (λ (x : Programs). WaitsWith x other) same waits in
      waits_not p here.left one.state one.one here.early

  goes_on_so : (c : Command) (other : List ℕ) → DueOf text other c status.Waits → ⊥
  goes_on_so c other (Ready c' s q read_too (DrawsNone d)) = not_early q other read_too d
  goes_on_so c other (Ready c' s q read_too (ValuesNone d)) = not_early q other read_too d

pub agrees : OneCircuitLaw
agrees play text bytes (Ready c s p reads (Ends how e)) =
    let one = EndsWith-one_circuit play p bytes reads.ready e in
    record { amplitudes = amplitudes_so play text bytes p reads one; goes_on = goes_on_so play text bytes p reads one }
