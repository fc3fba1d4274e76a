-- A run that ends has written an amplitude line
use Rattle.std.specs.Prelude.{ℕ, ◌≤◌, List}
use Rattle.qm_instr.specs.Programs.{Programs}
use Rattle.qm_check.specs.Checks.{IsReady}
use Rattle.qm_proto.specs.Model.Ideal.{ideal_replay}
use Rattle.qm_print.specs.Slots.{full_slots}
use Rattle.qm_print.specs.StateText.{line_count}
use Rattle.qm_tool.specs.declared.command.Play.{Play}
use Rattle.qm_tool.specs.Due.{EndsWith, IsOneText, IsWithBlock}

-- the bytes are the state text of the one circuit, with one amplitude line at least, and the block
pub record HasAmplitudeLine (play : Play) (p : Programs) (bytes : List ℕ) : Type 0 where
  pub state : List ℕ
  pub one : IsOneText p state
  pub some : 1 ≤ line_count one.state.numerators (full_slots p (ideal_replay p one.run).tables.slots)
  pub blocked : IsWithBlock play p state bytes

-- all bytes with which a run ends are such bytes
abbrev pub SomeLine : Type 0
SomeLine = (play : Play) (p : Programs) (bytes : List ℕ) → IsReady p → EndsWith play p bytes → HasAmplitudeLine play p bytes
