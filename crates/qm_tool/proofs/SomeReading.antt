-- Every text that is short enough reads as programs, or there is a line of why it doesn't
use Rattle.std.proofs.Common.{◌≢◌, ℕ, ◌≤◌, List, length, Result, Ok, Err, refl, ap}
use Rattle.qm_instr.specs.Programs.{Programs}
use Rattle.qm_expand.specs.declared.ReadError.{ReadError}
use Rattle.qm_expand.specs.declared.ReadError.TheVariants as error
use Rattle.qm_expand.specs.Reading.{Reads}
use Rattle.qm_expand.proofs.SomeReading.{some-reading}
use Rattle.qm_print.specs.declared.FaultLine.{FaultLine}
use Rattle.qm_print.specs.declared.FaultLine.TheVariants as line
use Rattle.qm_tool.specs.Due.{IsRefusedFor, Misread}

-- programs, or the line of why there are none
pub data SomeReading (text : List ℕ) : Type 0 where
  Read : (p : Programs) → Reads text (Ok p) → SomeReading text
  Unread : (f : FaultLine) → IsRefusedFor text f → SomeReading text

module _ (text : List ℕ) where
  unread : (e : ReadError) → e ≢ error.Memory → Reads text (Err e) → SomeReading text
  unread (error.BadByte n) known h = Unread (line.BadByte n) (Misread (error.BadByte n) (line.BadByte n) h refl)
  unread (error.Unexpected n) known h = Unread (line.Unexpected n) (Misread (error.Unexpected n) (line.Unexpected n) h refl)
  unread (error.NumberTooLarge n) known h = Unread (line.NumberTooLarge n) (Misread (error.NumberTooLarge n) (line.NumberTooLarge n) h refl)
  unread (error.TooDeep n) known h = Unread (line.TooDeep n) (Misread (error.TooDeep n) (line.TooDeep n) h refl)
  unread (error.Unended n) known h = Unread (line.Unended n) (Misread (error.Unended n) (line.Unended n) h refl)
  unread (error.UnknownName n) known h = Unread (line.UnknownName n) (Misread (error.UnknownName n) (line.UnknownName n) h refl)
  unread (error.OutOfRange n) known h = Unread (line.OutOfRange n) (Misread (error.OutOfRange n) (line.OutOfRange n) h refl)
  unread (error.TooMany n) known h = Unread (line.TooMany n) (Misread (error.TooMany n) (line.TooMany n) h refl)
  unread error.Memory known h = absurd (known refl)

  of_answer : (r : Result Programs ReadError) → r ≢ Err error.Memory → Reads text r → SomeReading text
  of_answer (Ok p) known h = Read p h
  of_answer (Err e) known h = unread e (λ same. known (ap (λ x. Err x) same)) h

pub some_reading : (text : List ℕ) → length text ≤ 1048576 → SomeReading text
some_reading text small = let r = some-reading text small in of_answer text r.answer r.known r.reads
