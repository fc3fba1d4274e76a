-- Why there is no text, and why a text gives no programs that may run
use Rattle.std.specs.Prelude.{ℕ, List, Option, None}
use Rattle.qm_io.specs.Ends.{SourceView}
use Rattle.qm_io.specs.Intake.{GaveMore, FailedOnce}
use Rattle.qm_print.specs.declared.FaultLine.TheVariants as line
use Rattle.qm_tool.specs.declared.command.Recipe.{Recipe}
use Rattle.qm_tool.specs.declared.refusal.Refusal.{Refusal}
use Rattle.qm_tool.specs.declared.refusal.Refusal.TheVariants.{Line, Memory}
use Rattle.qm_tool.specs.Due.{IsRefusedFor}

-- where no text was made, a read failed or the source gave too much; memory says nothing
abbrev pub IsUngiven : Option Recipe → SourceView → SourceView → Refusal → Type 0
IsUngiven None old new (Line line.ReadFault) = FailedOnce old new
IsUngiven None old new (Line line.TooLong) = GaveMore old new
IsUngiven made old new Memory = Unit {0}
IsUngiven made old new (Line f) = ⊥

-- the text is refused for that; memory says nothing
abbrev pub IsUnready : List ℕ → Refusal → Type 0
IsUnready text (Line f) = IsRefusedFor text f
IsUnready text Memory = Unit {0}
