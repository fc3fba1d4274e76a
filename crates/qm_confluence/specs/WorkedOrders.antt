-- Both orders of two steps that were worked out by hand
use Rattle.std.specs.Prelude.{◌≡◌, true, false, [], ◌∷◌}
use Rattle.qm_denot.specs.declared.Letter.TheVariants.{Cx}
use Rattle.qm_instr.specs.declared.Kind.TheVariants as kind
use Rattle.qm_instr.specs.Lanes.{lane}
use Rattle.qm_instr.specs.Programs.{Programs, IsInRange}
use Rattle.qm_check.specs.Checks.{IsReady}
use Rattle.qm_proto.specs.Model.Ideal.{Carried, ideal_enabled, ideal_replay}
use Rattle.qm_proto.specs.WorkedMessages.{q, f, t}
use Rattle.qm_proto.specs.WorkedPrograms.{crossed_programs, uncopy_programs}
use Rattle.qm_proto.specs.WorkedRun.{f_back}
use Rattle.qm_confluence.specs.Confluence.{Alike}

-- each of two ranks has made a qubit and copies it to the other
abbrev pub crossed_copies : Programs
crossed_copies = crossed_programs 1 1

-- a copy that is made and taken back
abbrev pub copy_and_undo : Programs
copy_and_undo = uncopy_programs true false

-- the crossed copies may be made in either order, and the copy is taken back in one order only
pub record WorkedOrders : Type 0 where
  -- the programs have no fault, so the law speaks of them
  pub ready : IsReady crossed_copies
  pub in_range : IsInRange crossed_copies
  -- after both have made their qubits both ranks are enabled
  pub zero_able : ideal_enabled crossed_copies (ideal_replay crossed_copies (0 ∷ 1 ∷ [])).tables 0 ≡ true
  pub one_able : ideal_enabled crossed_copies (ideal_replay crossed_copies (0 ∷ 1 ∷ [])).tables 1 ≡ true
  -- the two orders have different circuits and fill the same lanes
  pub zero_first : (ideal_replay crossed_copies (0 ∷ 1 ∷ 0 ∷ 1 ∷ [])).circuit ≡ Cx q f ∷ Cx t f_back ∷ []
  pub one_first : (ideal_replay crossed_copies (0 ∷ 1 ∷ 1 ∷ 0 ∷ [])).circuit ≡ Cx t f_back ∷ Cx q f ∷ []
  pub sent : (ideal_replay crossed_copies (0 ∷ 1 ∷ 1 ∷ 0 ∷ [])).tables.lanes (lane 0 1 kind.Copy 1) ≡ Carried f ∷ []
  pub sent_back : (ideal_replay crossed_copies (0 ∷ 1 ∷ 1 ∷ 0 ∷ [])).tables.lanes (lane 1 0 kind.Copy 1) ≡ Carried f_back ∷ []
  pub alike : Alike (ideal_replay crossed_copies (0 ∷ 1 ∷ 0 ∷ 1 ∷ [])) (ideal_replay crossed_copies (0 ∷ 1 ∷ 1 ∷ 0 ∷ []))
  -- the copy is given up before the source takes it back: these two steps have one order
  pub holder_goes : ideal_enabled copy_and_undo (ideal_replay copy_and_undo (0 ∷ 0 ∷ 1 ∷ [])).tables 1 ≡ true
  pub source_waits : ideal_enabled copy_and_undo (ideal_replay copy_and_undo (0 ∷ 0 ∷ 1 ∷ [])).tables 0 ≡ false
  pub source_goes : ideal_enabled copy_and_undo (ideal_replay copy_and_undo (0 ∷ 0 ∷ 1 ∷ 1 ∷ [])).tables 0 ≡ true
