-- The gates, bits and own tapes that were worked out by hand, which compute
use Rattle.std.proofs.Common.{Bool, true, false, ◌++◌, [], if◌then◌else◌, refl}
use Rattle.qm_instr.specs.Lanes.{is_lane}
use Rattle.qm_proto.specs.WorkedPrograms.{gate_programs}
use Rattle.qm_proto.specs.WorkedRun.{Leaves, IsOne}
use Rattle.qm_proto.specs.WorkedGates.{turns_of_0, each_letter, WorkedGates, WorkedBits}
use Rattle.qm_proto.specs.Model.Schedules.{replay}
use Rattle.qm_proto.specs.Model.Ideal.{ideal_replay}
use Rattle.qm_proto.proofs.WorkedRuns.{leaves, is_one}

letters : (b : Bool) → Leaves (gate_programs b) (turns_of_0 21) (each_letter ++ (if b then each_letter else []))
unfolding replay
letters false = leaves _ _ _ refl refl refl
letters true = leaves _ _ _ refl refl refl

ideal_letters : (b : Bool) → IsOne (gate_programs b) (turns_of_0 21) (each_letter ++ (if b then each_letter else []))
unfolding ideal_replay
ideal_letters false = is_one _ _ _ refl refl refl
ideal_letters true = is_one _ _ _ refl refl refl

pub worked_gates : WorkedGates
worked_gates = record { letters = letters; ideal_letters = ideal_letters }

pub worked_bits : WorkedBits
unfolding replay ideal_replay is_lane
worked_bits =
    record {
      many = λ p r. refl;
      at_start = λ p r. refl;
      ideal_many = λ p r. refl;
      ideal_at_start = λ p r. refl;
      set = refl;
      unset = refl;
      sent = refl;
      unsent = refl;
      ideal_set = refl;
      ideal_unset = refl;
      ideal_sent = refl;
      ideal_unsent = refl;
      measured = leaves _ _ _ refl refl refl;
      outcomes = refl;
      ideal_measured = is_one _ _ _ refl refl refl;
      ideal_outcomes = refl;
    }
