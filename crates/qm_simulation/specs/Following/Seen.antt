-- What the ideal machine sees of a run of several ranks: instructions whose deciding event is done are done whole, all others are not begun
use Rattle.std.specs.Prelude.{ℕ, ◌+◌, ◌-◌, nat_lt, Bool, true, false, ◌&&◌, not, if◌then◌else◌, List, [], ◌∷◌, Option, Some, None, is_some}
use Rattle.qm_instr.specs.declared.Instr.{Instr}
use Rattle.qm_instr.specs.declared.Instr.TheVariants as instr
use Rattle.qm_instr.specs.declared.Kind.{Kind}
use Rattle.qm_instr.specs.declared.Kind.TheVariants as kind
use Rattle.qm_instr.specs.Programs.{Programs}
use Rattle.qm_denot.specs.declared.Parcel.{Parcel}
use Rattle.qm_proto.specs.Model.State.{Part, Tables, wire_of, first_bit}
use Rattle.qm_proto.specs.Model.Rows.{instr_at}
use Rattle.qm_proto.specs.Model.Ideal.{IdealPart, IdealTables, Load, Carried, Told, Token}
use Rattle.qm_simulation.specs.Following.Deciding.{is_decided}

-- the instruction prepares a pair
abbrev pub has_pair : Option Instr → Bool
has_pair None = false
has_pair (Some (instr.Alloc q)) = false
has_pair (Some (instr.Free q)) = false
has_pair (Some (instr.Do g)) = false
has_pair (Some (instr.Measure q b)) = false
has_pair (Some (instr.Set b v)) = false
has_pair (Some (instr.Xor b c)) = false
has_pair (Some (instr.When b g)) = false
has_pair (Some (instr.SendBit b to tag)) = false
has_pair (Some (instr.RecvBit b from tag)) = false
has_pair (Some (instr.CopyTo q to tag)) = true
has_pair (Some (instr.CopyFrom q from tag)) = false
has_pair (Some (instr.UndoTo q to tag)) = false
has_pair (Some (instr.UndoFrom q from tag)) = false
has_pair (Some (instr.MoveTo q to tag)) = true
has_pair (Some (instr.MoveFrom q from tag)) = false
has_pair (Some (instr.ReachTo q to tag)) = true
has_pair (Some (instr.ReachFrom q from tag)) = false

-- a pair is counted that the ideal machine has not counted yet
abbrev pub counts_early : Option Instr → ℕ → Bool
counts_early o stage = nat_lt 0 stage && (not (is_decided o stage) && has_pair o)

-- a rank's part, of an instruction of which so many events are done
abbrev pub part_seen : Option Instr → ℕ → Part → IdealPart
part_seen o stage v =
    record {
      at = if is_decided o stage then v.at + 1 else v.at;
      made = if counts_early o stage then v.made - 1 else v.made;
      bits = v.bits;
      own = v.own;
    }

-- what a parcel is to the ideal machine: a wire, a bit, or a token
abbrev pub load_seen : Kind → Parcel → Load
load_seen kind.Bit x = Told (first_bit x)
load_seen kind.Copy x = Carried (wire_of x)
load_seen kind.Move x = Carried (wire_of x)
load_seen kind.Undo x = Token
load_seen kind.Reach x = Token
load_seen kind.Back x = Token

-- the ideal machine has no lanes for the halves of a reach
abbrev pub is_seen : Kind → Bool
is_seen kind.Bit = true
is_seen kind.Copy = true
is_seen kind.Move = true
is_seen kind.Undo = true
is_seen kind.Reach = false
is_seen kind.Back = true

-- the loads of a lane: of each parcel that has its bits
abbrev pub loads_seen : Kind → List Parcel → List Load
loads_seen k [] = []
loads_seen k (x ∷ xs) = if is_seen k && is_some x.bits then load_seen k x ∷ loads_seen k xs else loads_seen k xs

abbrev pub tables_seen : Programs → Tables → IdealTables
tables_seen p t =
    record {
      parts = λ r. let v = t.parts r in part_seen (instr_at p r v.at) v.stage v;
      slots = t.slots;
      lanes = λ a. loads_seen a.kind (t.lanes a);
    }
