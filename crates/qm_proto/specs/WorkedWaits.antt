-- Who waits for what, worked out by hand: enabled and blocked ranks, halves after each event, stuck states, and refused events
use Rattle.std.specs.Prelude.{◌≡◌, ℕ, Bool, true, false, not, List, [], ◌∷◌}
use Rattle.qm_denot.specs.Circuits.{Circuit}
use Rattle.qm_instr.specs.Programs.{Programs}
use Rattle.qm_proto.specs.WorkedMessages.{q, f}
use Rattle.qm_proto.specs.WorkedPrograms.{copy_programs, move_programs, reach_programs, crossed_programs, two_copies_programs, two_undos_programs, late_source_programs, two_reaches_programs, waiting_programs, behind_programs, measured_programs, not_zero_programs, not_equal_programs}
use Rattle.qm_proto.specs.WorkedRun.{copy_schedule, move_schedule, reach_schedule}
use Rattle.qm_proto.specs.declared.Cause.TheVariants as cause
use Rattle.qm_proto.specs.declared.Check.TheVariants.{Equal, Fits}
use Rattle.qm_proto.specs.Model.State.{Tables, State}
use Rattle.qm_proto.specs.Model.Runs.{halves, enabled, Fails, IsRefused, IsAllowed, next_tables}
use Rattle.qm_proto.specs.Model.Ideal.{ideal_replay, ideal_enabled}
use Rattle.qm_proto.specs.Model.Schedules.{tables_at_start, replay, IsStuck, IsLowestLeft, RendezvousEnds}

-- whether rank r is enabled after a schedule
abbrev pub enabled_after : Programs → List ℕ → ℕ → Bool
enabled_after p schedule r = enabled p (replay p schedule).tables r

-- whether rank r is enabled after an ideal run
abbrev pub ideal_enabled_after : Programs → List ℕ → ℕ → Bool
ideal_enabled_after p ranks r = ideal_enabled p (ideal_replay p ranks).tables r

-- a number of the tables after each event
abbrev pub numbers_from : Programs → (Tables → ℕ) → Tables → List ℕ → List ℕ
numbers_from p n t [] = []
numbers_from p n t (r ∷ rs) = let u = next_tables p t r in n u ∷ numbers_from p n u rs

-- how many halves rank r holds after each event of a schedule
abbrev pub halves_after : Programs → List ℕ → ℕ → List ℕ
halves_after p schedule r = numbers_from p (λ t. halves t r) (tables_at_start p) schedule

-- the state after a schedule, with another circuit
abbrev pub with_circuit : Programs → List ℕ → Circuit → State
with_circuit p schedule g = record { tables = (replay p schedule).tables; circuit = g }

-- who holds how many halves, who may go on after these schedules and who has to wait, and which states are stuck
pub record WorkedWaits : Type 0 where
  -- a near half is held from its pair to its measurement; a far half until it goes into a slot, or is measured at the end of a reach
  pub copy_near : halves_after (copy_programs true) copy_schedule 0 ≡ 0 ∷ 0 ∷ 1 ∷ 1 ∷ 0 ∷ 0 ∷ 0 ∷ []
  pub copy_far : halves_after (copy_programs true) copy_schedule 1 ≡ 0 ∷ 0 ∷ 1 ∷ 1 ∷ 1 ∷ 0 ∷ 0 ∷ []
  pub move_near : halves_after (move_programs true false) move_schedule 0 ≡ 0 ∷ 1 ∷ 1 ∷ 1 ∷ 0 ∷ 0 ∷ 0 ∷ 0 ∷ 0 ∷ []
  pub move_far : halves_after (move_programs true false) move_schedule 1 ≡ 0 ∷ 1 ∷ 1 ∷ 1 ∷ 1 ∷ 1 ∷ 0 ∷ 0 ∷ 0 ∷ []
  pub reach_near : halves_after (reach_programs true false) reach_schedule 0
      ≡ 0 ∷ 0 ∷ 1 ∷ 1 ∷ 0 ∷ 0 ∷ 0 ∷ 0 ∷ 0 ∷ 0 ∷ 0 ∷ 0 ∷ 1 ∷ 1 ∷ 0 ∷ 0 ∷ 0 ∷ []
  pub reach_far : halves_after (reach_programs true false) reach_schedule 1
      ≡ 0 ∷ 0 ∷ 1 ∷ 1 ∷ 1 ∷ 1 ∷ 1 ∷ 1 ∷ 1 ∷ 0 ∷ 0 ∷ 0 ∷ 1 ∷ 1 ∷ 1 ∷ 0 ∷ 0 ∷ []
  -- the receiver stands at no receive: with a buffer of one no pair may be prepared, with a buffer of two one may, and no second
  pub no_room : enabled_after (two_copies_programs 1) (0 ∷ []) 0 ≡ false
  pub room : enabled_after (two_copies_programs 2) (0 ∷ []) 0 ≡ true
  pub no_more_room : enabled_after (two_copies_programs 2) (0 ∷ 0 ∷ 0 ∷ 0 ∷ []) 0 ≡ false
  -- a receiver that stands at the receive wants a pair only where its lane is empty and it hasn't begun
  pub not_wanted : enabled_after (two_copies_programs 1) (1 ∷ 0 ∷ 0 ∷ 0 ∷ 0 ∷ []) 0 ≡ false
  pub not_begun : enabled_after (two_copies_programs 1) (1 ∷ 0 ∷ 0 ∷ 0 ∷ 0 ∷ 1 ∷ []) 0 ≡ false
  pub wanted : enabled_after (two_copies_programs 1) (1 ∷ 0 ∷ 0 ∷ 0 ∷ 0 ∷ 1 ∷ 1 ∷ []) 0 ≡ true
  -- it is the receiver's buffer that counts
  pub to_the_larger : enabled_after (crossed_programs 1 2) (0 ∷ 1 ∷ []) 0 ≡ true
  pub to_the_smaller : enabled_after (crossed_programs 1 2) (0 ∷ 1 ∷ []) 1 ≡ false
  -- a parcel is delivered once it has its bits
  pub no_bits : enabled_after (copy_programs true) (0 ∷ 0 ∷ 0 ∷ 0 ∷ []) 1 ≡ false
  pub bits : enabled_after (copy_programs true) (0 ∷ 0 ∷ 0 ∷ 0 ∷ 0 ∷ []) 1 ≡ true
  -- the second undo of a lane waits until the first was taken and corrected
  pub undo_blocked : enabled_after two_undos_programs (0 ∷ 0 ∷ 0 ∷ 0 ∷ 0 ∷ 1 ∷ 1 ∷ 0 ∷ 0 ∷ 0 ∷ 1 ∷ 1 ∷ 1 ∷ 1 ∷ []) 1 ≡ false
  pub undo_taken : enabled_after two_undos_programs (0 ∷ 0 ∷ 0 ∷ 0 ∷ 0 ∷ 1 ∷ 1 ∷ 0 ∷ 0 ∷ 0 ∷ 1 ∷ 1 ∷ 1 ∷ 1 ∷ 0 ∷ []) 1 ≡ false
  pub undo_free : enabled_after two_undos_programs (0 ∷ 0 ∷ 0 ∷ 0 ∷ 0 ∷ 1 ∷ 1 ∷ 0 ∷ 0 ∷ 0 ∷ 1 ∷ 1 ∷ 1 ∷ 1 ∷ 0 ∷ 0 ∷ []) 1 ≡ true
  -- so does the ideal one, and likewise the second reach of a lane
  pub ideal_undo_blocked : ideal_enabled_after two_undos_programs (0 ∷ 0 ∷ 0 ∷ 0 ∷ 1 ∷ 1 ∷ 1 ∷ []) 1 ≡ false
  pub ideal_undo_free : ideal_enabled_after two_undos_programs (0 ∷ 0 ∷ 0 ∷ 0 ∷ 1 ∷ 1 ∷ 1 ∷ 0 ∷ []) 1 ≡ true
  pub ideal_reach_blocked : ideal_enabled_after two_reaches_programs (0 ∷ 1 ∷ 1 ∷ []) 1 ≡ false
  pub ideal_reach_free : ideal_enabled_after two_reaches_programs (0 ∷ 1 ∷ 1 ∷ 0 ∷ []) 1 ≡ true
  -- a rank that gives its copy up waits until the source stands at its `undofrom`, in both machines
  pub source_elsewhere : enabled_after late_source_programs (0 ∷ 0 ∷ 0 ∷ 0 ∷ 1 ∷ 1 ∷ 1 ∷ []) 1 ≡ false
  pub source_there : enabled_after late_source_programs (0 ∷ 0 ∷ 0 ∷ 0 ∷ 1 ∷ 1 ∷ 1 ∷ 0 ∷ []) 1 ≡ true
  pub ideal_source_elsewhere : ideal_enabled_after late_source_programs (0 ∷ 0 ∷ 1 ∷ 1 ∷ []) 1 ≡ false
  pub ideal_source_there : ideal_enabled_after late_source_programs (0 ∷ 0 ∷ 1 ∷ 1 ∷ 0 ∷ []) 1 ≡ true
  -- an ideal `reachfrom` waits until its partner stands at the `reachto`
  pub ideal_partner_elsewhere : ideal_enabled_after two_reaches_programs (1 ∷ []) 1 ≡ false
  pub ideal_partner_there : ideal_enabled_after two_reaches_programs (1 ∷ 0 ∷ []) 1 ≡ true
  -- with room for one half crossed copies are stuck; with room for two they end (above), though the run with buffers of one doesn't
  pub stuck : IsStuck (crossed_programs 1 1) (replay (crossed_programs 1 1) (0 ∷ 1 ∷ [])).tables
  pub never_meet : ¬ (RendezvousEnds (crossed_programs 2 2))
  -- ranks that wait for each other are stuck at once, and the lowest that hasn't ended is named
  pub waiting : IsStuck waiting_programs (tables_at_start waiting_programs)
  pub behind : IsStuck behind_programs (tables_at_start behind_programs)
  pub behind_left : IsLowestLeft behind_programs (tables_at_start behind_programs) 1

-- events that are refused, after these schedules, each for its cause
pub record WorkedRefusals : Type 0 where
  -- a qubit is measured with the outcome that it has, and with the other one
  pub impossible : (v : Bool) → let p = measured_programs v (not v) in IsRefused p (replay p (0 ∷ 0 ∷ 0 ∷ [])) 0 cause.Impossible
  pub possible : (v : Bool) → IsAllowed (measured_programs v v) (replay (measured_programs v v) (0 ∷ 0 ∷ 0 ∷ [])) 0
  pub not_zero : IsRefused not_zero_programs (replay not_zero_programs (0 ∷ 0 ∷ [])) 0 cause.NotZero
  pub not_equal : IsRefused not_equal_programs (replay not_equal_programs (0 ∷ 0 ∷ 0 ∷ 0 ∷ 1 ∷ 1 ∷ 1 ∷ [])) 1 cause.NotEqual
  -- a copy that differs from its source is refused for that, whatever the numbers
  pub differs_first : (g : Circuit) → Fails g (Equal f q)
      → IsRefused not_equal_programs (with_circuit not_equal_programs (0 ∷ 0 ∷ 0 ∷ 0 ∷ 1 ∷ 1 ∷ 1 ∷ []) g) 1 cause.NotEqual
  -- numbers that don't fit are refused at a Hadamard
  pub overflow : (g : Circuit) → Fails g (Fits q)
      → IsRefused (copy_programs true) (with_circuit (copy_programs true) (0 ∷ []) g) 0 cause.Overflow
