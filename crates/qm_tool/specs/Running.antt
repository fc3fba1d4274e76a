-- A machine that was played: its status, its text, and what must hold before it is written
use Rattle.std.specs.Prelude.{◌≡◌, ℕ, ◌≤◌, List, ◌++◌, length, Option, Some, None, is_none}
use Rattle.qm_denot.specs.Stores.{Store, StandsFor}
use Rattle.qm_limits.specs.declared.TheConstants.{MOST_RANKS}
use Rattle.qm_instr.specs.Programs.{Programs, IsInRange}
use Rattle.qm_machine.specs.declared.Halt.{Halt}
use Rattle.qm_machine.specs.Keeps.{state_of}
use Rattle.qm_print.specs.FaultText.{stopped_line}
use Rattle.qm_print.specs.declared.JobNumbers.{JobNumbers}
use Rattle.qm_print.specs.JobText.{job_text}
use Rattle.qm_print.specs.Slots.{AreLive, full_slots}
use Rattle.qm_print.specs.StateText.{line_count}
use Rattle.qm_tool.specs.declared.command.Play.{Play}
use Rattle.qm_tool.specs.declared.command.Recipe.{Recipe}
use Rattle.qm_tool.specs.declared.running.Run.{Run}
use Rattle.qm_tool.specs.declared.status.Status.{Status}
use Rattle.qm_tool.specs.declared.status.Status.TheVariants as status
use Rattle.qm_tool.specs.Commands.{block_of, kind_word}
use Rattle.qm_tool.specs.Dues.{HasPlayed}
use Rattle.qm_tool.specs.Ends.{HeadSays, bits_in, text_under}

-- ---- what is written
-- the status where a machine has this halt, or none
abbrev pub status_where : Option Halt → Status
status_where None = status.Ok
status_where (Some h) = status.Stopped

-- the line of the halt, or this text where there is none
abbrev pub text_where : List ℕ → Option Halt → List ℕ
text_where text None = text
text_where text (Some h) = stopped_line h.rank h.turns h.cause

-- the status of a call that wrote the run's text
abbrev pub run_status : {A : Type 0} → Run A → Status
run_status run = status_where run.halt

-- the line of a run's halt, or the state text of its end
abbrev pub end_text : {A : Type 0} → (A → Store) → Run A → List ℕ
end_text store run = text_where (text_under run.head run.live.items (store run.machine.amps).value) run.halt

-- and the block
abbrev pub run_text : {A : Type 0} → (A → Store) → Run A → List ℕ
run_text store run = end_text store run ++ block_of run.play.listing (is_none run.halt) run.machine.programs run.machine.schedule

-- the summary of a run of a made program
abbrev pub job_numbers : {A : Type 0} → (A → Store) → Recipe → Run A → JobNumbers
job_numbers store r run = record {
  size = r.size;
  number = r.number;
  events = length run.machine.schedule;
  protocol = run.head.protocol;
  scale = run.head.scale;
  lines = line_count (store run.machine.amps).value run.live.items;
}

-- the line of the halt, or the job text where there is none
abbrev pub work_text : {A : Type 0} → (A → Store) → Recipe → Run A → List ℕ
work_text store r run = text_where (job_text (kind_word r.kind) (job_numbers store r run)) run.halt

-- there are few ranks, and the slots hold different live wires
pub record MayPutRun {A : Type 0} (store : A → Store) (run : Run A) : Type 0 where
  pub few : run.head.ranks ≤ MOST_RANKS
  pub live : AreLive (store run.machine.amps).live run.live.items

-- ---- a run of the programs
-- the machine was played in this way, from its start to its end
pub record IsRun {A : Type 0} (store : A → Store) (play : Play) (p : Programs) (run : Run A) : Type 0 where
  pub play_so : run.play ≡ play
  pub programs : run.machine.programs ≡ p
  pub in_range : IsInRange run.machine.programs
  pub stands : StandsFor (store run.machine.amps) (state_of run.machine).circuit
  pub played : HasPlayed play.order run.machine
  pub halt_so : run.halt ≡ run.machine.halted
  pub head : HeadSays run.machine.programs (bits_in run.machine) (store run.machine.amps).exponent run.head
  pub slots : run.live.items ≡ full_slots run.machine.programs (state_of run.machine).tables.slots
