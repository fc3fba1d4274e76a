-- The buffers of the ranks, as a list of sizes and counts
use Rattle.std.specs.Prelude.{ℕ, ◌≤◌, List, slice_index_or, slice_set}
use Rattle.qm_limits.specs.declared.TheConstants.{MOST_HALVES}
use Rattle.qm_buffers.specs.declared.Buffer.{Buffer}

-- a buffer of this size that holds nothing
abbrev pub empty_buffer : ℕ → Buffer
empty_buffer size = record { size = size; held = 0 }

-- the buffer of a rank; past the last rank, one without room
abbrev pub buffer_at : List Buffer → ℕ → Buffer
buffer_at buffers rank = slice_index_or buffers rank (empty_buffer 0)

-- the buffers where a rank holds so many halves
abbrev pub with_held : List Buffer → ℕ → ℕ → List Buffer
with_held buffers rank held = slice_set buffers rank (record (buffer_at buffers rank) { held = held })

-- a buffer of few places holds no more halves than it has places
pub record IsWithinSize (b : Buffer) : Type 0 where
  pub held : b.held ≤ b.size
  pub small : b.size ≤ MOST_HALVES
