-- What a sink into memory keeps, and what its calls do.
use Rattle.std.specs.Prelude.{◌≡◌, ℕ, ◌-◌, ◌<◌, ◌≤◌, min, List, [], ◌++◌, length, Contains, Some}
use Rattle.qm_io.specs.Ends.{SinkView, one_more}

-- the bytes taken, the room for bytes, the most bytes of a call,
-- the numbers of the calls that fail, and how many calls and faults there were
pub record MemSinkState : Type 0 where
  pub taken : List ℕ
  pub room : ℕ
  pub most : ℕ
  pub fails : List ℕ
  pub calls : ℕ
  pub faults : ℕ

-- a sink that no call has reached yet
abbrev pub unused : ℕ → List ℕ → ℕ → MemSinkState
unused room fails most = record {
  taken = [];
  room = room;
  most = most;
  fails = fails;
  calls = 0;
  faults = 0;
}

-- what it tells as a sink: the bytes taken, and the faults
abbrev pub view_of : MemSinkState → SinkView
view_of s = record { taken = Some s.taken; faults = s.faults }

-- the bytes taken fit into the room, the memory holds it, and a call may take a byte
pub record IsSound (taken capacity room most : ℕ) : Type 0 where
  pub fits : taken ≤ room
  pub held : room ≤ capacity
  pub some : 0 < most

-- the number of the next call is listed among those that fail
abbrev pub FailsNext : MemSinkState → Type 0
FailsNext s = Contains s.fails (one_more s.calls)

-- the room is used up
abbrev pub IsFull : MemSinkState → Type 0
IsFull s = length s.taken ≡ s.room

-- how many bytes of so many a write takes
abbrev pub next_count : MemSinkState → ℕ → ℕ
next_count s offered = min (min offered s.most) (s.room - length s.taken)

-- one more call, which took these bytes
abbrev pub HasTaken : MemSinkState → MemSinkState → List ℕ → Type 0
HasTaken old new bytes =
    new ≡ record old { taken = old.taken ++ bytes; calls = one_more old.calls }

-- one more call, with a fault
abbrev pub HasFailed : MemSinkState → MemSinkState → Type 0
HasFailed old new = new ≡ record old { calls = one_more old.calls; faults = one_more old.faults }
