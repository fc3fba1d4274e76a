-- What ties a run to the ideal run at all times: the letters done are those of the ideal circuit and then those that messages owe
use Rattle.std.specs.Prelude.{◌≡◌, ℕ, [], ◌++◌, Option, Some, None, ◌⊎◌}
use Rattle.qm_denot.specs.Circuits.{Circuit, amp, IsEqualUpTo}
use Rattle.qm_denot.specs.CircuitFacts.{IsNonzero}
use Rattle.qm_denot.specs.Protocols.{Agree}
use Rattle.qm_denot.specs.Tags.{Tagged, letters_of, letters_with}
use Rattle.qm_instr.specs.declared.Instr.{Instr}
use Rattle.qm_instr.specs.declared.Instr.TheVariants as instr
use Rattle.qm_instr.specs.Programs.{Programs}
use Rattle.qm_proto.specs.Model.State.{Tables, wire_in}
use Rattle.qm_proto.specs.Model.Rows.{current, source_wire}
use Rattle.qm_simulation.specs.Following.Seen.{tables_seen}
use Rattle.qm_simulation.specs.Following.Debts.{Message, is_message, Debt, Holder, Owes}
use Rattle.qm_confluence.specs.Counted.{NamesCounted}

-- ---- copies that are being given up
-- where rank r, of which one event is done, stands at an undo of q, the copy and its source are equal in every branch
abbrev pub AgreeIn : Programs → Tables → ℕ → Circuit → Option Instr → Type 0
AgreeIn p t r i None = Unit {0}
AgreeIn p t r i (Some (instr.Alloc q)) = Unit {0}
AgreeIn p t r i (Some (instr.Free q)) = Unit {0}
AgreeIn p t r i (Some (instr.Do g)) = Unit {0}
AgreeIn p t r i (Some (instr.Measure q b)) = Unit {0}
AgreeIn p t r i (Some (instr.Set b v)) = Unit {0}
AgreeIn p t r i (Some (instr.Xor b c)) = Unit {0}
AgreeIn p t r i (Some (instr.When b g)) = Unit {0}
AgreeIn p t r i (Some (instr.SendBit b to tag)) = Unit {0}
AgreeIn p t r i (Some (instr.RecvBit b from tag)) = Unit {0}
AgreeIn p t r i (Some (instr.CopyTo q to tag)) = Unit {0}
AgreeIn p t r i (Some (instr.CopyFrom q from tag)) = Unit {0}
AgreeIn p t r i (Some (instr.UndoTo q to tag)) = Agree (amp i) (source_wire p t to) (wire_in t r q)
AgreeIn p t r i (Some (instr.UndoFrom q from tag)) = Unit {0}
AgreeIn p t r i (Some (instr.MoveTo q to tag)) = Unit {0}
AgreeIn p t r i (Some (instr.MoveFrom q from tag)) = Unit {0}
AgreeIn p t r i (Some (instr.ReachTo q to tag)) = Unit {0}
AgreeIn p t r i (Some (instr.ReachFrom q from tag)) = Unit {0}

-- ---- what is owed
-- some holder owes the letters of the message
pub record HasHolder (p : Programs) (t : Tables) (k : Message) : Type 0 where
  pub holder : Holder
  pub debt : Debt
  pub owes : Owes p t holder debt
  pub message : debt.message ≡ k

-- the tagged letters are those that the messages owe, and no others; each message is owed by one holder alone
pub record AreOwed (p : Programs) (t : Tables) (ds : Tagged Message) : Type 0 where
  pub each : (h : Holder) (d : Debt) → Owes p t h d → letters_with is_message d.message ds ≡ d.letters
  pub known : (k : Message) → (letters_with is_message k ds ≡ []) ⊎ HasHolder p t k
  pub once : (h j : Holder) (d c : Debt) → Owes p t h d → Owes p t j c → d.message ≡ c.message → h ≡ j

-- ---- all of it
-- after n outcomes of protocol measurements G, the circuit of the letters done, is I, the ideal circuit, and then the letters owed, up to
-- n; and I is not zero
pub record Follows (p : Programs) (t : Tables) (n : ℕ) (g i : Circuit) (ds : Tagged Message) : Type 0 where
  pub equal : IsEqualUpTo n g (i ++ letters_of ds)
  pub owed : AreOwed p t ds
  pub named : NamesCounted (tables_seen p t) i
  pub agree : (r : ℕ) → (t.parts r).stage ≡ 1 → AgreeIn p t r i (current p t r)
  pub nonzero : IsNonzero i
