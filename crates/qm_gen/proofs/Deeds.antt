-- What the ranks of made programs do, apart from texts: deeds on slot 0, and their statements in source trees
use Rattle.std.proofs.Common.{ℕ, ◌+◌, ◌-◌, ◌/◌, ◌%◌, Bool, List, [], ◌∷◌, ◌++◌, map, Option, Some, None}
use Rattle.std.specs.Prelude.{if◌then◌else◌, ◌==◌, codes}
use Rattle.qm_instr.specs.declared.OneGate.{OneGate}
use Rattle.qm_instr.specs.declared.OneGate.TheVariants as one
use Rattle.qm_instr.specs.declared.Gate.TheVariants as gate
use Rattle.qm_instr.specs.declared.Instr.{Instr}
use Rattle.qm_instr.specs.declared.Instr.TheVariants as instr
use Rattle.qm_parse.specs.declared.words.Version.TheVariants as version
use Rattle.qm_parse.specs.declared.words.Action.{Action}
use Rattle.qm_parse.specs.declared.words.Action.TheVariants as action
use Rattle.qm_parse.specs.declared.words.Operand.TheVariants as operand
use Rattle.qm_parse.specs.declared.words.Verb.{Verb}
use Rattle.qm_parse.specs.Trees.{Expr, Sum, NoAdd, Product, NoMul, Num, Call, Body, Nothing, Then, Stmt, Do, DoUnder, For, ForEach, TapeLine, Program}
use Rattle.qm_gen.specs.declared.GenKind.{GenKind}
use Rattle.qm_gen.specs.declared.GenKind.TheVariants.{Ring, Ghz, Parity}
use Rattle.qm_seed.specs.Seeds.{Words}
use Rattle.qm_gen.specs.Outcomes.{words_past, outcomes}
use Rattle.qm_gen.specs.Sizes.{ranks_of}
use Rattle.qm_gen.specs.Made.{Tape, tapes, children, numbers}

-- a deed on slot 0 and bit 0; messages have tag 1
pub data Deed : Type 0 where
  Alloc : Deed
  Gate : (g : OneGate) → Deed
  Measure : Deed
  WhenX : Deed
  MoveTo : (other : ℕ) → Deed
  MoveFrom : (other : ℕ) → Deed
  CopyTo : (other : ℕ) → Deed
  CopyFrom : (other : ℕ) → Deed
  ReachTo : (other : ℕ) → Deed
  ReachFrom : (other : ℕ) → Deed

abbrev pub instr_of : Deed → Instr
instr_of Alloc = instr.Alloc 0
instr_of (Gate g) = instr.Do (gate.One g 0)
instr_of Measure = instr.Measure 0 0
instr_of WhenX = instr.When 0 (gate.One one.X 0)
instr_of (MoveTo r) = instr.MoveTo 0 r 1
instr_of (MoveFrom r) = instr.MoveFrom 0 r 1
instr_of (CopyTo r) = instr.CopyTo 0 r 1
instr_of (CopyFrom r) = instr.CopyFrom 0 r 1
instr_of (ReachTo r) = instr.ReachTo 0 r 1
instr_of (ReachFrom r) = instr.ReachFrom 0 r 1

-- the rank that a deed names
abbrev pub peer_of : Deed → Option ℕ
peer_of Alloc = None
peer_of (Gate g) = None
peer_of Measure = None
peer_of WhenX = None
peer_of (MoveTo r) = Some r
peer_of (MoveFrom r) = Some r
peer_of (CopyTo r) = Some r
peer_of (CopyFrom r) = Some r
peer_of (ReachTo r) = Some r
peer_of (ReachFrom r) = Some r

-- ---- statements
abbrev pub num : ℕ → Expr
num n = Sum (Product (Num n) NoMul) NoAdd

abbrev pub call : Verb → List ℕ → Call
call v ns = record { verb = v; operands = map num ns }

abbrev pub slot_verb : Action → Verb
slot_verb a = record { action = a; operands = Some operand.Slot ∷ None ∷ None ∷ None ∷ [] }

abbrev pub peer_verb : Action → Verb
peer_verb a = record { action = a; operands = Some operand.Slot ∷ Some operand.Peer ∷ Some operand.Tag ∷ None ∷ [] }

abbrev pub measure_verb : Verb
measure_verb = record { action = action.Measure; operands = Some operand.Slot ∷ Some operand.Bit ∷ None ∷ None ∷ [] }

abbrev pub when_verb : Verb
when_verb = record { action = action.When; operands = Some operand.Bit ∷ None ∷ None ∷ None ∷ [] }

abbrev pub to_peer : Action → ℕ → Stmt
to_peer a r = Do (call (peer_verb a) (0 ∷ r ∷ 1 ∷ []))

abbrev pub stmt_of : Deed → Stmt
stmt_of Alloc = Do (call (slot_verb action.Alloc) (0 ∷ []))
stmt_of (Gate g) = Do (call (slot_verb (action.One g)) (0 ∷ []))
stmt_of Measure = Do (call measure_verb (0 ∷ 0 ∷ []))
stmt_of WhenX = DoUnder (call when_verb (0 ∷ [])) (call (slot_verb (action.One one.X)) (0 ∷ []))
stmt_of (MoveTo r) = to_peer action.MoveTo r
stmt_of (MoveFrom r) = to_peer action.MoveFrom r
stmt_of (CopyTo r) = to_peer action.CopyTo r
stmt_of (CopyFrom r) = to_peer action.CopyFrom r
stmt_of (ReachTo r) = to_peer action.ReachTo r
stmt_of (ReachFrom r) = to_peer action.ReachFrom r

-- deeds, and then the rest of a body
abbrev pub deeds_then : List Deed → Body → Body
deeds_then [] more = more
deeds_then (x ∷ xs) more = Then (stmt_of x) (deeds_then xs more)

-- ---- the ranks
-- what a rank does once, and what it does again and again
pub record Part : Type 0 where
  pub once : List Deed
  pub again : List Deed

abbrev pub ring_part : ℕ → Part
ring_part rank =
    if rank == 0
    then record { once = Alloc ∷ Gate one.H ∷ Gate one.T ∷ []; again = MoveTo 1 ∷ MoveFrom 3 ∷ [] }
    else record { once = []; again = MoveFrom (rank - 1) ∷ MoveTo ((rank + 1) % 4) ∷ [] }

abbrev pub ghz_part : ℕ → ℕ → Part
ghz_part size rank = record {
  once = (if rank == 0 then Alloc ∷ Gate one.H ∷ [] else CopyFrom ((rank - 1) / 2) ∷ []) ++ map CopyTo (children size rank);
  again = [];
}

abbrev pub parity_part : ℕ → Part
parity_part rank = record {
  once = Alloc ∷ [];
  again = if rank == 0 then ReachFrom 1 ∷ ReachFrom 2 ∷ ReachFrom 3 ∷ Measure ∷ WhenX ∷ [] else Gate one.H ∷ ReachTo 0 ∷ [];
}

abbrev pub part_of : GenKind → ℕ → ℕ → Part
part_of Ring size rank = ring_part rank
part_of Ghz size rank = ghz_part size rank
part_of Parity size rank = parity_part rank

abbrev pub loop_of : ℕ → List Deed → Body
loop_of size [] = Nothing
loop_of size (x ∷ xs) = Then (For (codes "i") (num 0) (num size) (deeds_then (x ∷ xs) Nothing)) Nothing

abbrev pub part_body : ℕ → Part → Body
part_body size p = deeds_then p.once (loop_of size p.again)

abbrev pub parts : GenKind → ℕ → List Part
parts kind size = map (part_of kind size) (numbers 0 (ranks_of kind size))

-- ---- the tree
abbrev pub tape_lines_in : Bool → ℕ → List Bool → List TapeLine
tape_lines_in own rank [] = []
tape_lines_in own rank (m ∷ ms) = record { own = own; rank = rank; outcomes = m ∷ ms } ∷ []

abbrev pub drawn_tapes : List Tape → Words → List TapeLine
drawn_tapes [] w = []
drawn_tapes (t ∷ ts) w = tape_lines_in t.own t.rank (outcomes t.len w) ++ drawn_tapes ts (words_past t.len w)

abbrev pub made_tree : GenKind → ℕ → Words → Program
made_tree kind size w = record {
  version = version.One;
  ranks = ranks_of kind size;
  qubits = 1 ∷ [];
  buffers = 1 ∷ [];
  blocks = ForEach (map (part_body size) (parts kind size));
  tapes = drawn_tapes (tapes kind size) w;
}
