-- Runs that were worked out by hand, of the machine and of the ideal machine
use Rattle.std.specs.Prelude.{◌≡◌, ℕ, Bool, true, false, not, List, [], ◌∷◌, ◌++◌, Some, map}
use Rattle.qm_denot.specs.declared.Wire.{Wire}
use Rattle.qm_denot.specs.declared.Letter.{Letter}
use Rattle.qm_denot.specs.declared.Letter.TheVariants.{Flip, Had, Cx, Pair, Keep, Take, Rename}
use Rattle.qm_denot.specs.Circuits.{Circuit}
use Rattle.qm_denot.specs.Protocols.{letter_if, copying, uncopying, moving, reaching}
use Rattle.qm_denot.specs.WorkedCircuits.{Shows}
use Rattle.qm_instr.specs.declared.Instr.{Instr}
use Rattle.qm_instr.specs.Programs.{Programs}
use Rattle.qm_proto.specs.Events.{events_in}
use Rattle.qm_proto.specs.WorkedMessages.{q, e, f, t, O, I}
use Rattle.qm_proto.specs.WorkedPrograms.{copy_programs, uncopy_programs, move_programs, reach_programs, bit_programs, crossed_programs, waiting_programs}
use Rattle.qm_proto.specs.Model.State.{Tables, bit_of}
use Rattle.qm_proto.specs.declared.Row.{Row}
use Rattle.qm_proto.specs.Model.Rows.{rows}
use Rattle.qm_proto.specs.Model.Runs.{halves}
use Rattle.qm_proto.specs.Model.Ideal.{ideal_at_start, ideal_replay, IsOneRun, AllDone, has_instr, width}
use Rattle.qm_proto.specs.Model.Schedules.{tables_at_start, replay, AllEnded, IsComplete, IsFirst, IsMeetingFrom, RendezvousEnds, protocol_total}

-- the schedule of the copy that always takes the lowest rank that is enabled
abbrev pub copy_schedule : List ℕ
copy_schedule = 0 ∷ 0 ∷ 0 ∷ 0 ∷ 0 ∷ 1 ∷ 1 ∷ []

-- what the run leaves: its letters, equal amplitudes where both qubits are zero and where both are one, two halvings, and the far half
-- in rank 1's slot
pub record WorkedCopy (m : Bool) (letters : Circuit) : Type 0 where
  pub complete : IsComplete (copy_programs m) copy_schedule
  pub first : IsFirst (copy_programs m) copy_schedule
  pub circuit : (replay (copy_programs m) copy_schedule).circuit ≡ letters
  pub amplitudes : Shows (replay (copy_programs m) copy_schedule).circuit (q ∷ e ∷ f ∷ []) (I ∷ O ∷ O ∷ O ∷ O ∷ I ∷ O ∷ O ∷ []) 2
  pub kept : (replay (copy_programs m) copy_schedule).tables.slots 0 0 ≡ Some q
  pub copied : (replay (copy_programs m) copy_schedule).tables.slots 1 0 ≡ Some f
  pub no_half : halves (replay (copy_programs m) copy_schedule).tables 1 ≡ 0
  pub total : protocol_total (copy_programs m) ≡ 1
  pub meet : RendezvousEnds (copy_programs m)

-- the schedule takes the lowest enabled rank each time, ends where all ranks have ended, and leaves these letters
pub record Leaves (p : Programs) (schedule : List ℕ) (letters : Circuit) : Type 0 where
  pub lowest : IsMeetingFrom p (tables_at_start p) schedule
  pub ended : AllEnded p (replay p schedule).tables
  pub circuit : (replay p schedule).circuit ≡ letters

-- the ideal run takes the lowest enabled rank each time, ends where all ranks are done, and leaves these letters
pub record IsOne (p : Programs) (ranks : List ℕ) (letters : Circuit) : Type 0 where
  pub lowest : IsOneRun p ranks
  pub done : AllDone p (ideal_replay p ranks).tables
  pub circuit : (ideal_replay p ranks).circuit ≡ letters

-- the schedules of the uncopy and of the move, in the same order of turns
abbrev pub uncopy_schedule : List ℕ
uncopy_schedule = 0 ∷ 0 ∷ 0 ∷ 0 ∷ 1 ∷ 1 ∷ 1 ∷ 1 ∷ 0 ∷ 0 ∷ []

abbrev pub move_schedule : List ℕ
move_schedule = 0 ∷ 0 ∷ 0 ∷ 0 ∷ 0 ∷ 0 ∷ 1 ∷ 1 ∷ 1 ∷ []

-- the sender waits until the receiver, whose buffer has room for one half, stands at its receive
abbrev pub reach_schedule : List ℕ
reach_schedule = 0 ∷ 1 ∷ 0 ∷ 0 ∷ 0 ∷ 1 ∷ 1 ∷ 1 ∷ 1 ∷ 1 ∷ 0 ∷ 0 ∷ 0 ∷ 0 ∷ 0 ∷ 1 ∷ 1 ∷ []

-- those of the bits, and of the crossed copies where both buffers have room for two halves
abbrev pub bit_schedule : List ℕ
bit_schedule = 0 ∷ 0 ∷ 0 ∷ 0 ∷ 0 ∷ 1 ∷ 1 ∷ 1 ∷ 1 ∷ 1 ∷ []

abbrev pub crossed_schedule : List ℕ
crossed_schedule = 0 ∷ 0 ∷ 0 ∷ 0 ∷ 1 ∷ 1 ∷ 1 ∷ 1 ∷ 0 ∷ 0 ∷ 1 ∷ 1 ∷ []

-- the halves of the pair that rank 1 made, and those of the second pair that rank 0 made
abbrev pub e_back : Wire
e_back = record e { rank = 1 }

abbrev pub f_back : Wire
f_back = record f { rank = 1 }

abbrev pub e_next : Wire
e_next = record e { made = 2 }

abbrev pub f_next : Wire
f_next = record f { made = 2 }

-- the letters of the bits' programs: a measurement, two gates where the outcome is one, and a qubit given up
abbrev pub bit_letters : Bool → List Letter
bit_letters m = (Keep q m ∷ letter_if m (Flip q)) ++ Take q false ∷ letter_if m (Flip t)

-- what the runs leave: their letters, and the bits
pub record WorkedRun : Type 0 where
  -- with the outcome one, and with the outcome zero, where the receiver corrects nothing
  pub copy_by_one : WorkedCopy true (Had q ∷ Pair e f ∷ Cx q e ∷ Take e true ∷ Flip f ∷ [])
  pub copy_by_zero : WorkedCopy false (Had q ∷ Pair e f ∷ Cx q e ∷ Take e false ∷ [])
  -- the other messages' events do the letters of their laws, whatever the two outcomes
  pub uncopy : (m n : Bool) → Leaves (uncopy_programs m n) uncopy_schedule (copying q e f m ++ uncopying q f n)
  pub move : (m n : Bool) → Leaves (move_programs m n) move_schedule (moving q e f m n)
  -- a reach counts one wire, so the copy after it has the next number
  pub reach : (m n : Bool) → Leaves (reach_programs m n) reach_schedule (reaching q e f t m n ++ copying q e_next f_next false)
  pub bits : (m : Bool) → Leaves (bit_programs m) bit_schedule (bit_letters m)
  pub bit_received : (m : Bool) → bit_of (replay (bit_programs m) bit_schedule).tables 1 5 ≡ m
  pub bits_added : (m : Bool) → bit_of (replay (bit_programs m) bit_schedule).tables 1 1 ≡ not m
  -- with room for two halves both pairs may be prepared
  pub roomy : Leaves (crossed_programs 2 2) crossed_schedule (copying q e f false ++ copying t e_back f_back true)

-- the ideal runs of the same programs
pub record WorkedIdeal : Type 0 where
  pub copy : IsOne (copy_programs true) (0 ∷ 0 ∷ 0 ∷ 1 ∷ []) (Had q ∷ Cx q f ∷ [])
  pub uncopy : IsOne (uncopy_programs true false) (0 ∷ 0 ∷ 1 ∷ 1 ∷ 0 ∷ []) (Cx q f ∷ Cx q f ∷ Take f false ∷ [])
  pub move : IsOne (move_programs true false) (0 ∷ 0 ∷ 1 ∷ []) (Rename q f ∷ [])
  -- a reach counts one wire here too
  pub reach : IsOne (reach_programs true false) (0 ∷ 1 ∷ 1 ∷ 0 ∷ 0 ∷ 1 ∷ []) (Cx q t ∷ Cx q f_next ∷ [])
  pub bits : (m : Bool) → IsOne (bit_programs m) bit_schedule (bit_letters m)
  pub crossed : IsOne (crossed_programs 1 1) (0 ∷ 0 ∷ 1 ∷ 1 ∷ 0 ∷ 1 ∷ []) (Cx q f ∷ Cx t f_back ∷ [])
  -- ranks that wait for each other end at once, with instructions left
  pub waiting : IsOneRun waiting_programs []
  pub early : has_instr waiting_programs (ideal_at_start waiting_programs).tables 0 ≡ true
  -- a copy needs two wires, a renamed wire no second one, and a wire that no letter names is counted at the end
  pub copy_width : width (Cx q f ∷ Cx q f ∷ Take f false ∷ []) (q ∷ []) ≡ 2
  pub move_width : width (Rename q f ∷ []) (f ∷ []) ≡ 1
  pub unnamed_width : width (Flip q ∷ []) (q ∷ t ∷ []) ≡ 2
  -- a wire that is taken leaves its room to the next one
  pub taken_width : width (Flip q ∷ Take q true ∷ Flip t ∷ []) (t ∷ []) ≡ 1

-- the lines of the table have the events of each instruction, in their order
abbrev pub EventsAgree : Type 0
EventsAgree = (p : Programs) (t : Tables) (r : ℕ) (i : Instr) → map (λ (w : Row). w.event) (rows p t r i) ≡ events_in i
