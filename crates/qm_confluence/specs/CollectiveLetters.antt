-- The letters of the collectives are those of the ideal machine's steps
use Rattle.std.specs.Prelude.{◌≡◌, ℕ, ◌++◌, Some}
use Rattle.qm_instr.specs.declared.Gate.TheVariants as gate
use Rattle.qm_instr.specs.declared.Instr.{Instr}
use Rattle.qm_instr.specs.declared.Instr.TheVariants as instr
use Rattle.qm_instr.specs.declared.Lane.{Lane}
use Rattle.qm_instr.specs.Lanes.{lane_sent, lane_received}
use Rattle.qm_instr.specs.Programs.{Programs}
use Rattle.qm_collect.specs.Letters.{Wiring, sent_letters, gate_letters}
use Rattle.qm_proto.specs.Model.Ideal.{IdealTables, ideal_wire_in, ideal_wire_made, ideal_current, ideal_row_of}

-- wires as they lie in the tables of the ideal machine: each in its slot, and for rank s the next one that rank r counts
pub record IsWiredAs (w : Wiring) (t : IdealTables) (r s : ℕ) : Type 0 where
  pub slot : (k q : ℕ) → w.slot k q ≡ ideal_wire_in t k q
  pub sent : w.sent r s ≡ ideal_wire_made t r

-- the letters of which the laws of the collectives speak are those of the ideal machine: of a message, those of the steps at its two
-- ends while both ranks stand there; of a controlled-not, those of its step
pub record LetterLaw : Type 0 where
  pub message : (p : Programs) (t : IdealTables) (w : Wiring) (r s : ℕ) (i j : Instr) (a : Lane) → IsWiredAs w t r s
      → lane_sent r i ≡ Some a → lane_received s j ≡ Some a → ideal_current p t r ≡ Some i → ideal_current p t s ≡ Some j
      → sent_letters w r i s j ≡ (ideal_row_of p t r i).letters ++ (ideal_row_of p t s j).letters
  pub cx : (p : Programs) (t : IdealTables) (r c u : ℕ)
      → gate_letters (ideal_wire_in t r) (instr.Do (gate.Cx c u)) ≡ (ideal_row_of p t r (instr.Do (gate.Cx c u))).letters
