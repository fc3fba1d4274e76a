-- The lanes of an instruction's messages
use Rattle.std.specs.Prelude.{ℕ, nat_eq, Bool, false, ◌&&◌, Option, Some, None}
use Rattle.std.specs.declared.cmp.Ordering.{Ordering}
use Rattle.std.specs.Ordering.{nat_cmp, ordering_then}
use Rattle.qm_instr.specs.declared.Instr.{Instr}
use Rattle.qm_instr.specs.declared.Instr.TheVariants as instr
use Rattle.qm_instr.specs.declared.Kind.{Kind}
use Rattle.qm_instr.specs.declared.Kind.TheVariants as kind
use Rattle.qm_instr.specs.declared.Lane.{Lane}
use Rattle.qm_instr.specs.contracts.LaneOrd.TheImpl as lane_ord

abbrev pub lane : ℕ → ℕ → Kind → ℕ → Lane
lane from to k tag = record { from = from; to = to; kind = k; tag = tag }

-- the place of a kind in the order of kinds
abbrev pub kind_place : Kind → ℕ
kind_place kind.Bit = 0
kind_place kind.Copy = 1
kind_place kind.Move = 2
kind_place kind.Undo = 3
kind_place kind.Reach = 4
kind_place kind.Back = 5

abbrev pub kind_order : Kind → Kind → Ordering
kind_order a b = nat_cmp (kind_place a) (kind_place b)

-- lanes are ordered by their fields
abbrev pub lane_order : Lane → Lane → Ordering
lane_order a b =
    let last = ordering_then (kind_order a.kind b.kind) (nat_cmp a.tag b.tag) in
    ordering_then (nat_cmp a.from b.from) (ordering_then (nat_cmp a.to b.to) last)

-- the order of the lanes in the code
abbrev pub code_order : Lane → Lane → Ordering
code_order = (lane_ord.ghosts).cmp

-- whether two kinds are the same
abbrev pub is_kind : Kind → Kind → Bool
is_kind a b = nat_eq (kind_place a) (kind_place b)

-- whether two lanes are the same: equal in each field
unfoldable pub is_lane : Lane → Lane → Bool
is_lane a b = nat_eq a.from b.from && (nat_eq a.to b.to && (is_kind a.kind b.kind && nat_eq a.tag b.tag))

-- whether lane a is the one, where there is one
abbrev pub is_on : Option Lane → Lane → Bool
is_on None a = false
is_on (Some b) a = is_lane b a

-- the lane on which an instruction of a rank is a send
abbrev pub lane_sent : ℕ → Instr → Option Lane
lane_sent rank (instr.Alloc q) = None
lane_sent rank (instr.Free q) = None
lane_sent rank (instr.Do g) = None
lane_sent rank (instr.Measure q b) = None
lane_sent rank (instr.Set b v) = None
lane_sent rank (instr.Xor b c) = None
lane_sent rank (instr.When b g) = None
lane_sent rank (instr.SendBit b to tag) = Some (lane rank to kind.Bit tag)
lane_sent rank (instr.RecvBit b from tag) = None
lane_sent rank (instr.CopyTo q to tag) = Some (lane rank to kind.Copy tag)
lane_sent rank (instr.CopyFrom q from tag) = None
lane_sent rank (instr.UndoTo q to tag) = Some (lane rank to kind.Undo tag)
lane_sent rank (instr.UndoFrom q from tag) = None
lane_sent rank (instr.MoveTo q to tag) = Some (lane rank to kind.Move tag)
lane_sent rank (instr.MoveFrom q from tag) = None
lane_sent rank (instr.ReachTo q to tag) = Some (lane rank to kind.Reach tag)
lane_sent rank (instr.ReachFrom t from tag) = None

-- the lane on which an instruction of a rank is a receive
abbrev pub lane_received : ℕ → Instr → Option Lane
lane_received rank (instr.Alloc q) = None
lane_received rank (instr.Free q) = None
lane_received rank (instr.Do g) = None
lane_received rank (instr.Measure q b) = None
lane_received rank (instr.Set b v) = None
lane_received rank (instr.Xor b c) = None
lane_received rank (instr.When b g) = None
lane_received rank (instr.SendBit b to tag) = None
lane_received rank (instr.RecvBit b from tag) = Some (lane from rank kind.Bit tag)
lane_received rank (instr.CopyTo q to tag) = None
lane_received rank (instr.CopyFrom q from tag) = Some (lane from rank kind.Copy tag)
lane_received rank (instr.UndoTo q to tag) = None
lane_received rank (instr.UndoFrom q from tag) = Some (lane from rank kind.Undo tag)
lane_received rank (instr.MoveTo q to tag) = None
lane_received rank (instr.MoveFrom q from tag) = Some (lane from rank kind.Move tag)
lane_received rank (instr.ReachTo q to tag) = None
lane_received rank (instr.ReachFrom t from tag) = Some (lane from rank kind.Reach tag)
