-- A machine's body as the model sees it, and what acts of a rank make of it
use Rattle.std.specs.Prelude.{◌≡◌, ◌≢◌, ℕ, ◌+◌, ◌-◌, ◌<◌, ◌≤◌, ◌^◌, ◌↔◌, ◌==◌, Bool, true, false, List, [], ◌∷◌, ◌++◌, map, length, count_by, slice_index_or, Contains}
use Rattle.qm_denot.specs.declared.Wire.{Wire}
use Rattle.qm_denot.specs.declared.Letter.{Letter}
use Rattle.qm_denot.specs.declared.Letter.TheVariants.{Phase, Flip}
use Rattle.qm_denot.specs.Circuits.{Circuit}
use Rattle.qm_denot.specs.Stores.{Store, StandsFor}
use Rattle.qm_instr.specs.declared.Lane.{Lane}
use Rattle.qm_instr.specs.Programs.{Programs}
use Rattle.qm_owner.specs.Places.{PlaceMap, IsPlacing, no_places}
use Rattle.qm_check.specs.Checks.{capacity_of}
use Rattle.qm_check.specs.Messages.{lane_sends}
use Rattle.qm_proto.specs.Model.State.{Tables, with_part}
use Rattle.qm_proto.specs.declared.Act.{Act}
use Rattle.qm_proto.specs.declared.Act.TheVariants.{Twin, NearOut, FarOut, Settle}
use Rattle.qm_proto.specs.Model.Acts.{after_act, more_at, after_acts, acts_letters}
use Rattle.qm_proto.specs.Model.Runs.{part_after_event}
use Rattle.qm_proto.specs.Model.Schedules.{tables_at_start}
use Rattle.qm_proto.specs.Model.Places.{IsPlaced}
use Rattle.qm_proto.specs.May.{Limits, AllMay, limits_after_all}

-- the tables, the store, the places of the wires, the sizes of the ranks' buffers, how many parcels a lane has room for, how many ranks
-- there are, and how many letters were done, and how many of them are Pauli letters
pub record Facts : Type 0 where
  pub tables : Tables
  pub store : Store
  pub places : PlaceMap
  pub sizes : List ℕ
  pub parcels : Lane → ℕ
  pub ranks : ℕ
  pub letters : ℕ
  pub paulis : ℕ

-- a letter that corrects: a `Flip`, or the `Phase` of a sign
abbrev pub is_pauli : Letter → Bool
is_pauli (Flip w) = true
is_pauli (Phase k w) = k == 4
is_pauli _ = false

-- for how many wires more there are places
abbrev pub room_of : Facts → ℕ
room_of f = f.places.capacity - length f.store.live

-- its ranks, for how many wires more it has places, how many parcels each lane may have, and how many letters more can be counted
abbrev pub limits_of : Facts → Limits
limits_of f = record { ranks = f.ranks; wires = room_of f; parcels = f.parcels; letters = 2 ^ 32 - f.letters }

-- the live wires are those that have a place, no place is taken twice, each rank has slots, no more wires are live than may have a place,
-- the store has room for as many, and no more Pauli letters were counted than letters
pub record AreSound (f : Facts) : Type 0 where
  pub live : (w : Wire) → Contains f.store.live w ↔ IsPlaced f.tables w
  pub placing : IsPlacing f.places.placed
  pub slotted : f.places.ranks ≡ f.ranks
  pub few : length f.store.live ≤ f.places.capacity
  pub room : f.places.capacity ≤ f.store.capacity
  pub fewer : f.paulis ≤ f.letters

-- ---- the buffers
-- the sizes of the ranks' buffers in their programs
abbrev pub sizes_of : Programs → List ℕ
sizes_of p = map (λ x. x.buffer) p.ranks

-- the size of a rank's buffer; past the last rank, none
abbrev pub size_at : List ℕ → ℕ → ℕ
size_at sizes r = slice_index_or sizes r 0

-- the buffers have room for the halves that an act of rank r makes, and the half that it ends is counted
abbrev pub MayCount : List ℕ → ℕ → Act → (ℕ → ℕ) → Type 0
MayCount sizes r (Twin to) held = (held r < size_at sizes r) × (more_at held r to < size_at sizes to)
MayCount sizes r (NearOut m) held = held r ≢ 0
MayCount sizes r (FarOut f m) held = held r ≢ 0
MayCount sizes r (Settle f q) held = held r ≢ 0
MayCount sizes r _ held = Unit {0}

-- so it is for each of these acts, one after another
abbrev pub AllMayCount : List ℕ → ℕ → List Act → Tables → Type 0
AllMayCount sizes r [] t = Unit {0}
AllMayCount sizes r (a ∷ acts) t = MayCount sizes r a t.held × AllMayCount sizes r acts (after_act r a t)

-- ---- acts
-- the body is sound, and rank r may do the acts
pub record Can (f : Facts) (r : ℕ) (acts : List Act) : Type 0 where
  pub known : r < f.ranks
  pub sound : AreSound f
  pub may : AllMay (limits_of f) r acts f.tables
  pub counted : AllMayCount f.sizes r acts f.tables

-- rank r has done the acts: the tables are the model's, the store stands for the circuit with their letters, and
-- the body is sound again
pub record Did (f : Facts) (r : ℕ) (acts : List Act) (g : Facts) : Type 0 where
  pub tables : g.tables ≡ after_acts r acts f.tables
  pub stands : (c : Circuit) → StandsFor f.store c → StandsFor g.store (c ++ acts_letters r acts f.tables)
  pub sound : AreSound g
  pub limits : limits_of g ≡ limits_after_all acts (limits_of f)
  pub capacity : g.places.capacity ≡ f.places.capacity
  pub sizes : g.sizes ≡ f.sizes
  pub letters : g.letters ≡ f.letters + length (acts_letters r acts f.tables)
  pub paulis : g.paulis ≡ f.paulis + count_by is_pauli (acts_letters r acts f.tables)

-- rank r stands at its next event, where its instruction has so many, and nothing else has changed
abbrev pub with_rank_moved : Facts → ℕ → ℕ → Facts
with_rank_moved f r n = record f { tables = with_part f.tables r (part_after_event n (f.tables.parts r)) }

-- a body before the first event of these programs, over a store: nothing has a place, as many wires may have one as the programs' slots
-- and buffers hold, and each lane has room for its sends
pub record IsAtStart (p : Programs) (s : Store) (f : Facts) : Type 0 where
  pub tables : f.tables ≡ tables_at_start p
  pub store : f.store ≡ s
  pub places : f.places ≡ no_places (length p.ranks) (capacity_of p)
  pub sizes : f.sizes ≡ sizes_of p
  pub parcels : (a : Lane) → lane_sends p a ≤ f.parcels a
  pub ranks : f.ranks ≡ length p.ranks
  pub letters : f.letters ≡ 0
  pub paulis : f.paulis ≡ 0
