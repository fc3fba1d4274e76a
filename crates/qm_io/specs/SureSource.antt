-- What a source over bytes in memory keeps, and what a read of it does.
use Rattle.std.specs.Prelude.{ℕ, min, List, length, Some}
use Rattle.qm_io.specs.Ends.{SourceView}

-- the bytes left, and the most bytes of a call
pub record SureSourceState : Type 0 where
  pub left : List ℕ
  pub most : ℕ

-- what it tells as a source: the bytes left, and no fault
abbrev pub view_of : SureSourceState → SourceView
view_of s = record { left = Some s.left; faults = 0 }

-- how many bytes a read into so much space gives
abbrev pub next_count : SureSourceState → ℕ → ℕ
next_count s space = min (min space s.most) (length s.left)
