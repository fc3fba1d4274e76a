-- The instructions and the collectives, by their words
use Rattle.std.specs.Prelude.{ℕ, nat_eq, Option, Some, None}
use Rattle.qm_instr.specs.declared.Gate.{Gate}
use Rattle.qm_instr.specs.declared.Gate.TheVariants as gate
use Rattle.qm_instr.specs.declared.Instr.TheVariants as instr
use Rattle.qm_collect.specs.declared.Collective.TheVariants as collective
use Rattle.qm_tree.specs.declared.TreeOp.TheVariants.{Cast, Uncast}
use Rattle.qm_tree.specs.Trees.{call_of}
use Rattle.qm_parse.specs.declared.words.Action.{Action}
use Rattle.qm_parse.specs.declared.words.Action.TheVariants as action
use Rattle.qm_expand.specs.declared.joint.Joint.TheVariants.{Flat, Tree}
use Rattle.qm_expand.specs.declared.made.Operation.{Operation}
use Rattle.qm_expand.specs.declared.made.Operation.TheVariants.{Core, Shared, Nothing}

-- a gate, by its word and its slots
abbrev pub gate_made : Action → (ℕ → ℕ) → Option Gate
gate_made (action.One g) s = Some (gate.One g (s 0))
gate_made action.Cx s = Some (gate.Cx (s 0) (s 1))
gate_made action.Cz s = Some (gate.Cz (s 0) (s 1))
gate_made _ s = None

-- the operation that a word makes of its operands: s has the slots, bits and truth values from left to right, and w the ranks and tags.
-- `when` makes nothing by itself
abbrev pub made : Action → (s w : ℕ → ℕ) → Operation
made action.Alloc s w = Core (instr.Alloc (s 0))
made action.Free s w = Core (instr.Free (s 0))
made (action.One g) s w = Core (instr.Do (gate.One g (s 0)))
made action.Cx s w = Core (instr.Do (gate.Cx (s 0) (s 1)))
made action.Cz s w = Core (instr.Do (gate.Cz (s 0) (s 1)))
made action.Measure s w = Core (instr.Measure (s 0) (s 1))
made action.Set s w = Core (instr.Set (s 0) (nat_eq (s 1) 1))
made action.Xor s w = Core (instr.Xor (s 0) (s 1))
made action.When s w = Nothing
made action.SendBit s w = Core (instr.SendBit (s 0) (w 0) (w 1))
made action.RecvBit s w = Core (instr.RecvBit (s 0) (w 0) (w 1))
made action.CopyTo s w = Core (instr.CopyTo (s 0) (w 0) (w 1))
made action.CopyFrom s w = Core (instr.CopyFrom (s 0) (w 0) (w 1))
made action.UndoTo s w = Core (instr.UndoTo (s 0) (w 0) (w 1))
made action.UndoFrom s w = Core (instr.UndoFrom (s 0) (w 0) (w 1))
made action.MoveTo s w = Core (instr.MoveTo (s 0) (w 0) (w 1))
made action.MoveFrom s w = Core (instr.MoveFrom (s 0) (w 0) (w 1))
made action.ReachTo s w = Core (instr.ReachTo (s 0) (w 0) (w 1))
made action.ReachFrom s w = Core (instr.ReachFrom (s 0) (w 0) (w 1))
made action.Bcast s w = Shared (Flat (collective.Bcast (s 0) (w 0) (w 1)))
made action.Unbcast s w = Shared (Flat (collective.Unbcast (s 0) (w 0) (w 1)))
made action.Scatter s w = Shared (Flat (collective.Scatter (s 0) (w 0) (w 1)))
made action.Gather s w = Shared (Flat (collective.Gather (s 0) (w 0) (w 1)))
made action.Unscatter s w = Shared (Flat (collective.Unscatter (s 0) (w 0) (w 1)))
made action.Ungather s w = Shared (Flat (collective.Ungather (s 0) (w 0) (w 1)))
made action.Reduce s w = Shared (Flat (collective.Reduce (s 0) (s 1) (w 0) (w 1)))
made action.Unreduce s w = Shared (Flat (collective.Unreduce (s 0) (s 1) (w 0) (w 1)))
made action.Treecast s w = Shared (Tree (call_of Cast (s 0) (w 0) (w 1)))
made action.Untreecast s w = Shared (Tree (call_of Uncast (s 0) (w 0) (w 1)))
