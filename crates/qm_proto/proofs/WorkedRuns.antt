-- The runs that were worked out by hand, which compute
use Rattle.std.proofs.Common.{◌≡◌, ℕ, Bool, true, false, cond, List, [], ◌∷◌, ◌++◌, length, not, refl, inl, lit<}
use Rattle.qm_zomega.specs.Numbers.{zero_number, one_number, plus, minus, turned, negative, ◌⊕◌, ◌⊖◌, norm}
use Rattle.qm_zomega.specs.Range.{FitsZw}
use Rattle.qm_zomega.proofs.Laws.Ranges.{fits_where_norm_below}
use Rattle.qm_denot.specs.declared.Wire.{Wire}
use Rattle.qm_denot.specs.declared.Letter.TheVariants.{Flip, Had, Cx, Pair, Take}
use Rattle.qm_denot.specs.Wires.{Wires, put, is_wire, is_empty}
use Rattle.qm_denot.specs.Circuits.{Circuit, amp}
use Rattle.qm_denot.specs.Protocols.{copying, uncopying, moving, reaching}
use Rattle.qm_denot.specs.Stores.{IsReducedForm}
use Rattle.qm_denot.proofs.Unique.{one_form}
use Rattle.qm_denot.proofs.Listed.{shows}
use Rattle.qm_instr.specs.Programs.{Programs}
use Rattle.qm_instr.specs.Lanes.{is_lane}
use Rattle.qm_proto.specs.WorkedMessages.{q, e, f, t}
use Rattle.qm_proto.specs.WorkedPrograms.{copy_programs, uncopy_programs, move_programs, reach_programs, bit_programs}
use Rattle.qm_proto.specs.WorkedRun.{copy_schedule, uncopy_schedule, move_schedule, reach_schedule, bit_schedule, bit_letters, e_next, f_next, WorkedCopy, Leaves, IsOne, WorkedRun, WorkedIdeal}
use Rattle.qm_proto.specs.Model.State.{bit_of}
use Rattle.qm_proto.specs.declared.Check.TheVariants.{Fits}
use Rattle.qm_proto.specs.Model.Runs.{has_event, Fails}
use Rattle.qm_proto.specs.Model.Schedules.{tables_at_start, state_at_start, replay, IsMeetingFrom, AllEnded, RendezvousEnds}
use Rattle.qm_proto.specs.Model.Ideal.{ideal_replay, has_instr}
use Rattle.qm_proto.proofs.Meetings.{AllAllowed, none_below, false_below, is_meeting, meeting, is_one_run, one_run, first_where_allowed, legal_where_allowed}

-- sums and differences of zeros and ones fit
small_fit : (a b : Bool) → FitsZw (cond a one_number zero_number ⊕ cond b one_number zero_number) × FitsZw (cond a one_number zero_number ⊖ cond b one_number zero_number)
unfolding plus minus norm
small_fit true true = (fits_where_norm_below _ (lit< tt), fits_where_norm_below _ (lit< tt))
small_fit true false = (fits_where_norm_below _ (lit< tt), fits_where_norm_below _ (lit< tt))
small_fit false true = (fits_where_norm_below _ (lit< tt), fits_where_norm_below _ (lit< tt))
small_fit false false = (fits_where_norm_below _ (lit< tt), fits_where_norm_below _ (lit< tt))

-- so the first `Had` of a run fits
first_had_fits : (w : Wire) → ¬ (Fails [] (Fits w))
unfolding amp
first_had_fits w (u, k, form, (x, off, unfit)) =
    let start : IsReducedForm (amp []) 0 [] = record { equal = λ y. refl; reduced = inl refl } in
    let same : (y : Wires) → u y ≡ amp [] y = (one_form u (amp []) k 0 [] form start).1 in
    unfit (rw (same x, same (put x w true)) (small_fit (is_empty x) (is_empty (put x w true))))

-- what is left to compute for a run
pub leaves : (p : Programs) (rs : List ℕ) (c : Circuit) → is_meeting p rs ≡ true
    → none_below (has_event p (replay p rs).tables) (length p.ranks) ≡ true → (replay p rs).circuit ≡ c → Leaves p rs c
leaves p rs c lowest ended circuit =
    record { lowest = meeting p rs lowest; ended = false_below _ _ ended; circuit = circuit }

pub is_one : (p : Programs) (rs : List ℕ) (c : Circuit) → is_one_run p rs ≡ true
    → none_below (has_instr p (ideal_replay p rs).tables) (length p.ranks) ≡ true → (ideal_replay p rs).circuit ≡ c → IsOne p rs c
is_one p rs c lowest done circuit = record { lowest = one_run p rs lowest; done = false_below _ _ done; circuit = circuit }

meet : (m : Bool) → IsMeetingFrom (copy_programs m) (tables_at_start (copy_programs m)) copy_schedule
unfolding is_lane
meet true = meeting _ copy_schedule refl
meet false = meeting _ copy_schedule refl

ended : (m : Bool) → AllEnded (copy_programs m) (replay (copy_programs m) copy_schedule).tables
unfolding replay is_lane
ended true = false_below _ 2 refl
ended false = false_below _ 2 refl

-- the programs have buffers of one already
meets : (m : Bool) → RendezvousEnds (copy_programs m)
unfolding RendezvousEnds replay
meets m = (copy_schedule, meet m, ended m)

-- the only test of the copy is that its `Had` fits
allowed : (m : Bool) → AllAllowed (copy_programs m) (state_at_start (copy_programs m)) copy_schedule
allowed true = (tt, ((first_had_fits _, tt), (tt, (tt, (tt, (tt, (tt, tt)))))))
allowed false = (tt, ((first_had_fits _, tt), (tt, (tt, (tt, (tt, (tt, tt)))))))

copy_by_one : WorkedCopy true (Had q ∷ Pair e f ∷ Cx q e ∷ Take e true ∷ Flip f ∷ [])
unfolding replay is_lane is_wire plus minus turned negative
copy_by_one =
    record {
      complete = record { legal = legal_where_allowed _ copy_schedule (meet true) (allowed true); ended = ended true };
      first = first_where_allowed _ copy_schedule (meet true) (allowed true);
      circuit = refl;
      amplitudes = shows _ _ _ _ refl refl;
      kept = refl;
      copied = refl;
      no_half = refl;
      total = refl;
      meet = meets true;
    }

copy_by_zero : WorkedCopy false (Had q ∷ Pair e f ∷ Cx q e ∷ Take e false ∷ [])
unfolding replay is_lane is_wire plus minus turned negative
copy_by_zero =
    record {
      complete = record { legal = legal_where_allowed _ copy_schedule (meet false) (allowed false); ended = ended false };
      first = first_where_allowed _ copy_schedule (meet false) (allowed false);
      circuit = refl;
      amplitudes = shows _ _ _ _ refl refl;
      kept = refl;
      copied = refl;
      no_half = refl;
      total = refl;
      meet = meets false;
    }

-- each message by its four outcomes
uncopy : (m n : Bool) → Leaves (uncopy_programs m n) uncopy_schedule (copying q e f m ++ uncopying q f n)
unfolding replay is_lane is_wire
uncopy false false = leaves _ _ _ refl refl refl
uncopy false true = leaves _ _ _ refl refl refl
uncopy true false = leaves _ _ _ refl refl refl
uncopy true true = leaves _ _ _ refl refl refl

move : (m n : Bool) → Leaves (move_programs m n) move_schedule (moving q e f m n)
unfolding replay is_lane is_wire
move false false = leaves _ _ _ refl refl refl
move false true = leaves _ _ _ refl refl refl
move true false = leaves _ _ _ refl refl refl
move true true = leaves _ _ _ refl refl refl

reach : (m n : Bool) → Leaves (reach_programs m n) reach_schedule (reaching q e f t m n ++ copying q e_next f_next false)
unfolding replay is_lane is_wire
reach false false = leaves _ _ _ refl refl refl
reach false true = leaves _ _ _ refl refl refl
reach true false = leaves _ _ _ refl refl refl
reach true true = leaves _ _ _ refl refl refl

bits : (m : Bool) → Leaves (bit_programs m) bit_schedule (bit_letters m)
unfolding replay is_lane is_wire
bits false = leaves _ _ _ refl refl refl
bits true = leaves _ _ _ refl refl refl

bit_received : (m : Bool) → bit_of (replay (bit_programs m) bit_schedule).tables 1 5 ≡ m
unfolding replay is_lane
bit_received false = refl
bit_received true = refl

bits_added : (m : Bool) → bit_of (replay (bit_programs m) bit_schedule).tables 1 1 ≡ not m
unfolding replay is_lane
bits_added false = refl
bits_added true = refl

pub worked_run : WorkedRun
unfolding replay is_lane is_wire
worked_run =
    record {
      copy_by_one = copy_by_one;
      copy_by_zero = copy_by_zero;
      uncopy = uncopy;
      move = move;
      reach = reach;
      bits = bits;
      bit_received = bit_received;
      bits_added = bits_added;
      roomy = leaves _ _ _ refl refl refl;
    }

ideal_bits : (m : Bool) → IsOne (bit_programs m) bit_schedule (bit_letters m)
unfolding ideal_replay is_lane is_wire
ideal_bits false = is_one _ _ _ refl refl refl
ideal_bits true = is_one _ _ _ refl refl refl

pub worked_ideal : WorkedIdeal
unfolding ideal_replay is_lane is_wire
worked_ideal =
    record {
      copy = is_one _ _ _ refl refl refl;
      uncopy = is_one _ _ _ refl refl refl;
      move = is_one _ _ _ refl refl refl;
      reach = is_one _ _ _ refl refl refl;
      bits = ideal_bits;
      crossed = is_one _ _ _ refl refl refl;
      waiting = one_run _ [] refl;
      early = refl;
      copy_width = refl;
      move_width = refl;
      unnamed_width = refl;
      taken_width = refl;
    }
