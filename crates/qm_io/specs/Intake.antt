-- What the reading of a whole text says of its source.
use Rattle.std.specs.Prelude.{◌≡◌, ℕ, ◌<◌, ◌≤◌, List, length, Result, Ok, Err, Vec}
use Rattle.std.specs.declared.alloc.Global.{Global}
use Rattle.qm_limits.specs.declared.TheConstants.{MOST_BYTES}
use Rattle.qm_io.specs.declared.intake.TextError.{TextError}
use Rattle.qm_io.specs.declared.intake.TextError.TheVariants.{ReadFault, TooLong, Memory}
use Rattle.qm_io.specs.Ends.{SourceView, Gave, IsSpent, led_by, Rose}

-- the source gave this text whole, to its end
pub record GaveAll (old new : SourceView) (text : List ℕ) : Type 0 where
  pub gave : Gave old new text
  pub spent : IsSpent new.left
  pub short : length text ≤ MOST_BYTES

-- the source gave more than a text may have, and no read failed
pub record GaveMore (old new : SourceView) : Type 0 where
  pub text : List ℕ
  pub gave : Gave old new text
  pub long : MOST_BYTES < length text

-- a read failed, before the source gave more than a text may have
pub record FailedOnce (old new : SourceView) : Type 0 where
  pub text : List ℕ
  pub left : old.left ≡ led_by text new.left
  pub short : length text ≤ MOST_BYTES
  pub grows : old.faults ≤ new.faults
  pub rose : Rose old.faults new.faults

-- the text of a whole source, or why there is none; want of memory is tied to nothing
abbrev pub Takes : SourceView → SourceView → Result (Vec ℕ Global) TextError → Type 0
Takes old new (Ok text) = GaveAll old new text.items
Takes old new (Err ReadFault) = FailedOnce old new
Takes old new (Err TooLong) = GaveMore old new
Takes old new (Err Memory) = new.faults ≡ old.faults
