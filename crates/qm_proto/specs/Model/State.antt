-- The state of a run, and the words by which it is read
use Rattle.std.specs.Prelude.{ℕ, ◌-◌, nat_eq, Bool, true, false, ◌&&◌, if◌then◌else◌, List, Option, None, unwrap_or, slice_index_or}
use Rattle.qm_denot.specs.declared.Wire.{Wire}
use Rattle.qm_denot.specs.Wires.{Wires}
use Rattle.qm_denot.specs.Circuits.{Circuit}
use Rattle.qm_instr.specs.declared.Lane.{Lane}
use Rattle.qm_instr.specs.Lanes.{is_lane}
use Rattle.qm_denot.specs.declared.Parcel.{Parcel}

-- one rank, but for its wires
pub record Part : Type 0 where
  pub at : ℕ  -- the number of its next instruction
  pub stage : ℕ  -- how many events of that instruction it has had
  pub made : ℕ  -- how many wires it has counted
  pub bits : List Bool  -- its classical bits
  pub own : List Bool  -- the outcomes left on its own tape
  pub protocol : List Bool  -- the outcomes left on its protocol tape
  pub taken : Parcel  -- the parcel that it took last
  pub first : Bool  -- the first outcome of the move that it is doing

-- the state without the letters done: all that decides who may step, and where wires are
pub record Tables : Type 0 where
  pub parts : ℕ → Part
  pub slots : ℕ → ℕ → Option Wire  -- the wire in a rank's slot
  pub near : ℕ → Wires  -- a rank's near halves
  pub far : ℕ → Wires  -- the far halves sent to a rank that no receive has put into a slot or measured yet
  pub held : ℕ → ℕ  -- how many halves a rank holds, near and far
  pub lanes : Lane → List Parcel  -- the front parcel first

-- the tables, and the circuit of the letters done
pub record State : Type 0 where
  pub tables : Tables
  pub circuit : Circuit

-- f with v at r
abbrev pub with_at : {A : Type 0} → (ℕ → A) → ℕ → A → (ℕ → A)
with_at f r v k = if nat_eq k r then v else f k

-- the slots with v in slot q of rank r
abbrev pub with_slot : (ℕ → ℕ → Option Wire) → ℕ → ℕ → Option Wire → (ℕ → ℕ → Option Wire)
with_slot f r q v k p = if nat_eq k r && nat_eq p q then v else f k p

-- f with v at lane a
abbrev pub with_lane : {A : Type 0} → (Lane → A) → Lane → A → (Lane → A)
with_lane f a v b = if is_lane b a then v else f b

-- the tables with another part of rank r
abbrev pub with_part : Tables → ℕ → Part → Tables
with_part t r x = record t { parts = with_at t.parts r x }

-- what stands for the wire of an empty slot, or of a parcel that carries none
abbrev pub no_wire : Wire
no_wire = record { rank = 0; made = 0; near = false }

-- a parcel without wire and bits
abbrev pub no_parcel : Parcel
no_parcel = record { wire = None; bits = None }

-- the wire in slot q of rank r
abbrev pub wire_in : Tables → ℕ → ℕ → Wire
wire_in t r q = unwrap_or (t.slots r q) no_wire

-- bit b of rank r
abbrev pub bit_of : Tables → ℕ → ℕ → Bool
bit_of t r b = slice_index_or (t.parts r).bits b false

-- the next outcomes of rank r's tapes
abbrev pub own_next : Tables → ℕ → Bool
own_next t r = slice_index_or (t.parts r).own 0 false

abbrev pub protocol_next : Tables → ℕ → Bool
protocol_next t r = slice_index_or (t.parts r).protocol 0 false

-- the wires that rank r's count names: a qubit or a far half, and a near half
abbrev pub far_made : Tables → ℕ → Wire
far_made t r = record { rank = r; made = (t.parts r).made; near = false }

abbrev pub near_made : Tables → ℕ → Wire
near_made t r = record { rank = r; made = (t.parts r).made; near = true }

-- the near half that rank r made last
abbrev pub near_last : Tables → ℕ → Wire
near_last t r = record { rank = r; made = (t.parts r).made - 1; near = true }

-- the parcel at the front of lane a
abbrev pub front : Tables → Lane → Parcel
front t a = slice_index_or (t.lanes a) 0 no_parcel

-- what a parcel carries
abbrev pub wire_of : Parcel → Wire
wire_of x = unwrap_or x.wire no_wire

-- its first bit, and its second one; a parcel without bits shows zeros
abbrev pub first_bit : Parcel → Bool
first_bit x = (unwrap_or x.bits (false, false)).0

abbrev pub second_bit : Parcel → Bool
second_bit x = (unwrap_or x.bits (false, false)).1
