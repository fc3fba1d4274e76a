-- Why a command has no text of its own, by the error of what it called
use Rattle.std.specs.Prelude.{Option, Some, None}
use Rattle.qm_check.specs.declared.CheckError.{CheckError}
use Rattle.qm_check.specs.declared.CheckError.TheVariants as check_error
use Rattle.qm_expand.specs.declared.ReadError.{ReadError}
use Rattle.qm_ideal.specs.declared.MonoError.{MonoError}
use Rattle.qm_ideal.specs.declared.MonoError.TheVariants as mono_error
use Rattle.qm_io.specs.declared.intake.TextError.{TextError}
use Rattle.qm_io.specs.declared.intake.TextError.TheVariants as text_error
use Rattle.qm_print.specs.declared.FaultLine.{FaultLine}
use Rattle.qm_print.specs.declared.FaultLine.TheVariants as line
use Rattle.qm_tool.specs.declared.refusal.Refusal.{Refusal}
use Rattle.qm_tool.specs.declared.refusal.Refusal.TheVariants.{Line, Memory}
use Rattle.qm_tool.specs.Due.{reading_fault}

-- a line, or want of memory where there is none
abbrev pub line_or_memory : Option FaultLine → Refusal
line_or_memory (Some f) = Line f
line_or_memory None = Memory

abbrev pub text_refusal : TextError → Refusal
text_refusal text_error.ReadFault = Line line.ReadFault
text_refusal text_error.TooLong = Line line.TooLong
text_refusal text_error.Memory = Memory

abbrev pub reading_refusal : ReadError → Refusal
reading_refusal e = line_or_memory (reading_fault e)

abbrev pub check_refusal : CheckError → Refusal
check_refusal (check_error.Fault f) = Line (line.Unready f)
check_refusal check_error.Memory = Memory

abbrev pub mono_refusal : MonoError → Refusal
mono_refusal (mono_error.Waits ranks) = Line (line.Waits ranks)
mono_refusal mono_error.Memory = Memory
