-- Who waits for what, worked out by hand: it computes
use Rattle.std.proofs.Common.{◌≡◌, ◌≢◌, ℕ, Bool, true, false, not, List, [], ◌∷◌, refl, sym, ap, ◌∙◌, inl, arith, pos, lit<}
use Rattle.qm_zomega.specs.Numbers.{Number, zero_number, one_number, plus, minus, turned, negative}
use Rattle.qm_denot.specs.declared.Wire.{Wire}
use Rattle.qm_denot.specs.Wires.{Wires, has, put, no_wires, is_wire}
use Rattle.qm_denot.specs.Circuits.{Circuit, amp}
use Rattle.qm_denot.proofs.Sets.{not_empty, is_empty-no_wires, has-no_wires, has-put_same, has-put_other}
use Rattle.qm_denot.proofs.Listed.{shows}
use Rattle.qm_denot.specs.WorkedCircuits.{Shows}
use Rattle.qm_denot.specs.declared.Letter.TheVariants.{Flip, Cx, Pair, Take}
use Rattle.qm_instr.specs.Programs.{Programs}
use Rattle.qm_instr.specs.Lanes.{is_lane}
use Rattle.qm_proto.specs.WorkedMessages.{q, e, f}
use Rattle.qm_proto.specs.WorkedPrograms.{crossed_programs, measured_programs}
use Rattle.qm_proto.specs.WorkedWaits.{WorkedWaits, WorkedRefusals}
use Rattle.qm_proto.specs.Model.State.{Tables}
use Rattle.qm_proto.specs.Model.Runs.{has_event, next_tables, Fails, IsRefused, IsAllowed}
use Rattle.qm_proto.specs.declared.Cause.TheVariants as cause
use Rattle.qm_proto.specs.declared.Check.TheVariants.{Zero, Equal}
use Rattle.qm_proto.specs.Model.Ideal.{ideal_replay}
use Rattle.qm_proto.specs.Model.Schedules.{tables_at_start, replay, with_buffers_of_one, IsMeetingFrom, RendezvousEnds}
use Rattle.std.specs.List.{fold}
use Rattle.qm_proto.proofs.Meetings.{meeting, false_below}
use Rattle.qm_proto.proofs.Firsts.{meeting_unique}
use Rattle.qm_proto.proofs.Messages.{second}

-- the run with buffers of one, of the crossed copies: both ranks make their qubit, and neither pair may be prepared
abbrev crossed_ones : Programs
crossed_ones = with_buffers_of_one (crossed_programs 2 2)

crossed_meeting : IsMeetingFrom crossed_ones (tables_at_start crossed_ones) (0 ∷ 1 ∷ [])
unfolding is_lane
crossed_meeting = meeting crossed_ones (0 ∷ 1 ∷ []) refl

abbrev crossed_end : List ℕ → Tables
crossed_end rs = fold (next_tables crossed_ones) (tables_at_start crossed_ones) rs

crossed_left : has_event crossed_ones (crossed_end (0 ∷ 1 ∷ [])) 0 ≡ true
crossed_left = refl

never_meet : ¬ (RendezvousEnds (crossed_programs 2 2))
unfolding RendezvousEnds
never_meet (schedule, meet, ended) =
    let same = meeting_unique crossed_ones (tables_at_start crossed_ones) schedule (0 ∷ 1 ∷ []) meet crossed_meeting in
    let over : has_event crossed_ones (crossed_end (0 ∷ 1 ∷ [])) 0 ≡ false =
    rw same at (ended 0 (lit< tt)) in
    let left = crossed_left in
    cc

pub worked_waits : WorkedWaits
unfolding replay ideal_replay is_lane is_wire
worked_waits =
    record {
      copy_near = refl;
      copy_far = refl;
      move_near = refl;
      move_far = refl;
      reach_near = refl;
      reach_far = refl;
      no_room = refl;
      room = refl;
      no_more_room = refl;
      not_wanted = refl;
      not_begun = refl;
      wanted = refl;
      to_the_larger = refl;
      to_the_smaller = refl;
      no_bits = refl;
      bits = refl;
      undo_blocked = refl;
      undo_taken = refl;
      undo_free = refl;
      ideal_undo_blocked = refl;
      ideal_undo_free = refl;
      ideal_reach_blocked = refl;
      ideal_reach_free = refl;
      source_elsewhere = refl;
      source_there = refl;
      ideal_source_elsewhere = refl;
      ideal_source_there = refl;
      ideal_partner_elsewhere = refl;
      ideal_partner_there = refl;
      stuck = record { left = (0, lit< tt, refl); none = false_below _ 2 refl };
      never_meet = never_meet;
      waiting = record { left = (0, lit< tt, refl); none = false_below _ 2 refl };
      behind = record { left = (1, lit< tt, refl); none = false_below _ 3 refl };
      behind_left = record { known = lit< tt; left = refl; below = false_below _ 1 refl };
    }

one_is_not_zero : one_number ≢ zero_number
one_is_not_zero e = let parts : pos 1 ≡ pos 0 = ap (λ (z : Number). z.a) e in cc

-- a new qubit is nowhere one
new_is_zero : amp [] no_wires ≡ one_number
unfolding amp
new_is_zero = rw is_empty-no_wires refl

zero_where_one : (x : Wires) → has x q ≡ true → amp [] x ≡ zero_number
unfolding amp
zero_where_one x h = rw (not_empty x q h) refl

abbrev one_of : Wire → Wires
one_of w = put no_wires w true

abbrev copied : Circuit
copied = Pair e f ∷ Cx q e ∷ Take e false ∷ Flip f ∷ []

-- a flipped qubit is one, and so is a flipped copy of a zero
flipped : amp (Flip q ∷ []) (one_of q) ≡ one_number
unfolding is_wire plus minus turned negative
flipped = let shown : Shows (Flip q ∷ []) (q ∷ []) (zero_number ∷ one_number ∷ []) 0 = shows _ _ _ _ refl refl in second _ _ _ _ shown.amplitudes

copy_flipped : amp copied (one_of f) ≡ one_number
unfolding is_wire plus minus turned negative
copy_flipped = let shown : Shows copied (f ∷ []) (zero_number ∷ one_number ∷ []) 1 = shows _ _ _ _ refl refl in second _ _ _ _ shown.amplitudes

-- and nowhere zero
zero_where_zero : (x : Wires) → has x q ≡ false → amp (Flip q ∷ []) x ≡ zero_number
unfolding amp
zero_where_zero x h =
    let toggled : has (put x q true) q ≡ true = has-put_same x q true in
    rw (h, not_empty (put x q true) q toggled) refl

not_zero : Fails (Flip q ∷ []) (Zero q)
not_zero = (one_of q, has-put_same no_wires q true, (λ z. one_is_not_zero (sym flipped ∙ z)))

zero_not_one : (n m : ℕ) → n ≡ 0 → m ≡ 1 → n ≢ m
zero_not_one n m a b same = omega arith

q_not_f : q ≢ f
q_not_f same = zero_not_one q.made f.made refl refl (ap (λ (w : Wire). w.made) same)

f_not_q : has (one_of f) f ≢ has (one_of f) q
f_not_q same =
    let here = has-put_same no_wires f true in
    let there = has-put_other no_wires f true q q_not_f in
    let none = has-no_wires q in
    cc

not_equal : Fails copied (Equal f q)
not_equal = (one_of f, f_not_q, (λ z. one_is_not_zero (sym copy_flipped ∙ z)))

-- measured with the outcome that it hasn't, a qubit fails its test, and with the other one it doesn't
impossible : (v : Bool) → IsRefused (measured_programs v (not v)) (replay (measured_programs v (not v)) (0 ∷ 0 ∷ 0 ∷ [])) 0 cause.Impossible
unfolding replay
impossible false = inl (zero_where_one, refl)
impossible true = inl (zero_where_zero, refl)

possible : (v : Bool) → IsAllowed (measured_programs v v) (replay (measured_programs v v) (0 ∷ 0 ∷ 0 ∷ [])) 0
unfolding replay
possible false = ((λ fails. one_is_not_zero (sym new_is_zero ∙ fails no_wires (has-no_wires q))), tt)
possible true = ((λ fails. one_is_not_zero (sym flipped ∙ fails (one_of q) (has-put_same no_wires q true))), tt)

pub worked_refusals : WorkedRefusals
unfolding replay is_lane
worked_refusals =
    record {
      impossible = impossible;
      possible = possible;
      not_zero = inl (not_zero, refl);
      not_equal = inl (not_equal, refl);
      differs_first = λ g fails. inl (fails, refl);
      overflow = λ g fails. inl (fails, refl);
    }
