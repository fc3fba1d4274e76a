-- The state text of a run that ends has an amplitude line
use Rattle.std.proofs.Common.{◌≡◌, ◌≢◌, ℕ, zero, suc, ◌<◌, ◌≤◌, inl, inr, Bool, true, List, [], ◌∷◌, ◌++◌, Option, Some, None, length, sym, ap, subst, ◌∙◌, refl, arith, ⊎_elim}
use Rattle.std.proofs.lemmas.Bool.{cases_eq}
use Rattle.qm_zomega.specs.Numbers.{zero_number, root2_times}
use Rattle.qm_zomega.proofs.Laws.Powers.{root2_times-zero, zero_where_root2_times-zero}
use Rattle.qm_denot.specs.declared.Wire.{Wire}
use Rattle.qm_denot.specs.Circuits.{Amplitudes, Circuit, amp, halvings, IsBlank}
use Rattle.qm_denot.specs.Stores.{IsReducedForm}
use Rattle.qm_denot.specs.Wires.{Wires}
use Rattle.qm_denot.proofs.Transfers.{zero_where_equal}
use Rattle.qm_instr.specs.Programs.{Programs, IsInRange, rank_of}
use Rattle.qm_check.specs.Checks.{IsReady}
use Rattle.qm_proto.specs.Model.Ideal.{ideal_replay}
use Rattle.qm_proto.specs.Model.Schedules.{replay, IsComplete, protocol_total}
use Rattle.qm_proto.proofs.Firsts.{one_run_unique}
use Rattle.qm_simulation.specs.Headline.{ComesToOne}
use Rattle.qm_simulation.proofs.Laws.{leftover_blank, headline_law}
use Rattle.qm_print.specs.declared.Live.{Live}
use Rattle.qm_print.specs.Slots.{slot_if, rank_slots, slots_below, full_slots}
use Rattle.qm_print.specs.StateText.{line_count}
use Rattle.qm_print.proofs.LineLemmas.{IsAmong, some_line}
use Rattle.qm_tool.specs.declared.command.Play.{Play}
use Rattle.qm_tool.specs.Commands.{block_of}
use Rattle.qm_tool.specs.Dues.{IsScheduleOf, IsTurnAfter, IsDue, Completes, StopsShort}
use Rattle.qm_tool.specs.Due.{IsTextAfter, RunsTo}
use Rattle.qm_tool.specs.Lines.{HasAmplitudeLine, SomeLine}
use Rattle.qm_tool.proofs.OneCircuits.{one_text}

-- ---- a wire in a slot is among those of the full slots
among_left : (ss ts : List Live) (w : Wire) → IsAmong ss w → IsAmong (ss ++ ts) w
among_left [] ts w h = absurd h
among_left (s ∷ ss) ts w (inl e) = inl e
among_left (s ∷ ss) ts w (inr h) = inr (among_left ss ts w h)

among_right : (ss ts : List Live) (w : Wire) → IsAmong ts w → IsAmong (ss ++ ts) w
among_right [] ts w h = h
among_right (s ∷ ss) ts w h = inr (among_right ss ts w h)

in_slot : (r q : ℕ) (o : Option Wire) (w : Wire) → o ≡ Some w → IsAmong (slot_if r q o) w
in_slot r q None w e = cc
in_slot r q (Some v) w e = inl (let same : v ≡ w = cc in same)

in_rank : (r n q : ℕ) (slots : ℕ → Option Wire) (w : Wire) → q < n → slots q ≡ Some w → IsAmong (rank_slots r n slots) w
in_rank r zero q slots w less e = absurd (omega (arith, less))
in_rank r (suc n) q slots w less e =
    ⊎_elim (λ (same : q ≡ n). among_right (rank_slots r n slots) _ w (in_slot r n (slots n) w (ap slots (sym same) ∙ e)))
    (λ (other : q ≢ n). among_left (rank_slots r n slots) _ w (in_rank r n q slots w (omega (arith, less, other)) e))
    (cases_eq q n)

in_slots : (p : Programs) (n r q : ℕ) (slots : ℕ → ℕ → Option Wire) (w : Wire) → r < n → q < (rank_of p r).qubits → slots r q ≡ Some w → IsAmong (slots_below p n slots) w
in_slots p zero r q slots w less low e = absurd (omega (arith, less))
in_slots p (suc n) r q slots w less low e =
    ⊎_elim (λ (same : r ≡ n). among_right (slots_below p n slots) _ w (subst (λ k. IsAmong (rank_slots k (rank_of p k).qubits (slots k)) w) same (in_rank r (rank_of p r).qubits q (slots r) w low e)))
    (λ (other : r ≢ n). among_left (slots_below p n slots) _ w (in_slots p n r q slots w (omega (arith, less, other)) low e))
    (cases_eq r n)

-- ---- the numbers of a reduced form are zero where the circuit's amplitudes are
module _ (u : Amplitudes) (k : ℕ) (c : Circuit) (form : IsReducedForm u k c) where
  zero_number_so : (x : Wires) → amp c x ≡ zero_number → u x ≡ zero_number
  zero_number_so x e = zero_where_root2_times-zero (halvings c) (u x) (form.equal x ∙ ap (root2_times k) e ∙ root2_times-zero k)

  zero_amplitude_so : (x : Wires) → u x ≡ zero_number → amp c x ≡ zero_number
  zero_amplitude_so x e = zero_where_root2_times-zero k (amp c x) (sym (form.equal x) ∙ ap (root2_times (halvings c)) e ∙ root2_times-zero (halvings c))

-- ---- a complete schedule
module _ (p : Programs) (ready : IsReady p) (ranges : IsInRange p) (schedule ranks : List ℕ) (complete : IsComplete p schedule) (comes : ComesToOne p schedule ranks) where
  blank_in_one : (w : Wire) → ¬ IsAmong (full_slots p (ideal_replay p ranks).tables.slots) w → IsBlank (ideal_replay p ranks).circuit w
  blank_in_one w out x h =
      (zero_where_equal (protocol_total p) (replay p schedule).circuit (ideal_replay p ranks).circuit comes.equal x).0
      (leftover_blank p ready ranges schedule complete w
      (λ r q slot here. out (in_slots p (length p.ranks) r q (ideal_replay p ranks).tables.slots w slot.rank slot.slot (comes.slots r q ∙ here))) x h)

  one_line : (u : Amplitudes) (k : ℕ) → IsReducedForm u k (ideal_replay p ranks).circuit → 1 ≤ line_count u (full_slots p (ideal_replay p ranks).tables.slots)
  one_line u k form =
      let c = (ideal_replay p ranks).circuit in
      some_line u comes.one_nonzero.0 (λ e. comes.one_nonzero.1 (zero_amplitude_so u k c form comes.one_nonzero.0 e))
      (full_slots p (ideal_replay p ranks).tables.slots) (λ w out x h. zero_number_so u k c form x (blank_in_one w out x h))

complete_line : (play : Play) (p : Programs) (bytes : List ℕ) (complete : Bool) → IsReady p → RunsTo complete play IsTextAfter p bytes → complete ≡ true → HasAmplitudeLine play p bytes
complete_line play p bytes complete ready runs is = by_due complete runs.due is
  where
    by_due : (complete : Bool) → IsDue p (IsScheduleOf p play.order) (IsTurnAfter p play.order) (IsTextAfter p) (λ c schedule. block_of play.listing c p schedule) bytes complete
        → complete ≡ true → HasAmplitudeLine play p bytes
    by_due _ (StopsShort schedule order due) is = cc
    by_due _ (Completes schedule order due) is =
        let law = headline_law p ready runs.in_range schedule due.complete in
        let one = one_text p schedule law.0 due.end law.1 due.so in
        let same : law.0 ≡ one.run = one_run_unique p law.0 one.run law.1.run one.one in
        let comes : ComesToOne p schedule one.run = subst (ComesToOne p schedule) same law.1 in
        record {
          state = due.end;
          one = one;
          some = one_line p ready runs.in_range schedule one.run due.complete comes one.state.numerators one.state.exponent one.state.form;
          blocked = record { schedule = schedule; order = order; whole = due.whole };
        }

pub some_line_due : SomeLine
some_line_due play p bytes ready e = complete_line play p bytes true ready e refl
