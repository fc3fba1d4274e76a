-- What a source over bytes in memory keeps, and what a read of it does.
use Rattle.std.specs.Prelude.{◌≡◌, ℕ, min, List, length, drop, Contains, Some}
use Rattle.qm_io.specs.Ends.{SourceView, one_more}

-- the bytes left, the most bytes of a call, the numbers of the calls that fail, and how many calls and faults there were
pub record MemSourceState : Type 0 where
  pub left : List ℕ
  pub most : ℕ
  pub fails : List ℕ
  pub calls : ℕ
  pub faults : ℕ

-- a source that no call has reached yet
abbrev pub unread : List ℕ → List ℕ → ℕ → MemSourceState
unread bytes fails most = record {
  left = bytes;
  most = most;
  fails = fails;
  calls = 0;
  faults = 0;
}

-- what it tells as a source: the bytes left, and the faults
abbrev pub view_of : MemSourceState → SourceView
view_of s = record { left = Some s.left; faults = s.faults }

-- the number of the next call is listed among those that fail
abbrev pub FailsNext : MemSourceState → Type 0
FailsNext s = Contains s.fails (one_more s.calls)

-- how many bytes a read into so much space gives
abbrev pub next_count : MemSourceState → ℕ → ℕ
next_count s space = min (min space s.most) (length s.left)

-- one more call, which gave so many bytes
abbrev pub HasGiven : MemSourceState → MemSourceState → ℕ → Type 0
HasGiven old new n = new ≡ record old { left = drop n old.left; calls = one_more old.calls }

-- one more call, with a fault
abbrev pub HasFailed : MemSourceState → MemSourceState → Type 0
HasFailed old new = new ≡ record old { calls = one_more old.calls; faults = one_more old.faults }
