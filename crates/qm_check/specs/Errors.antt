-- What an error says of the programs that were checked
use Rattle.qm_instr.specs.Programs.{Programs}
use Rattle.qm_check.specs.declared.CheckError.{CheckError}
use Rattle.qm_check.specs.declared.CheckError.TheVariants as error
use Rattle.qm_check.specs.Checks.{IsFirstFault}

-- a fault is the first; memory says nothing
abbrev pub TellsFirstFault : Programs → CheckError → Type 0
TellsFirstFault p (error.Fault f) = IsFirstFault p f
TellsFirstFault p error.Memory = Unit {0}
