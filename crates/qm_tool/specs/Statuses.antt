-- The exit status for each way in which a command ends, and the status for each line that is no other text
use Rattle.std.specs.Prelude.{ℕ}
use Rattle.qm_print.specs.declared.FaultLine.{FaultLine}
use Rattle.qm_print.specs.declared.FaultLine.TheVariants as line
use Rattle.qm_tool.specs.declared.status.Status.{Status}
use Rattle.qm_tool.specs.declared.status.Status.TheVariants.{Ok, Usage, ReadFault, TooLong, Refused, Stopped, WriteFault, OutOfMemory, Waits, Wide, LetterOverflow}

-- the exit code of a status
abbrev pub code_of : Status → ℕ
code_of Ok = 0
code_of Usage = 2
code_of ReadFault = 3
code_of TooLong = 4
code_of Refused = 5
code_of Stopped = 6
code_of WriteFault = 7
code_of OutOfMemory = 8
code_of Waits = 9
code_of Wide = 10
code_of LetterOverflow = 11

-- the status of a command that wrote this line
abbrev pub status_of_fault : FaultLine → Status
status_of_fault line.Usage = Usage
status_of_fault line.ReadFault = ReadFault
status_of_fault line.TooLong = TooLong
status_of_fault (line.BadByte n) = Refused
status_of_fault (line.Unexpected n) = Refused
status_of_fault (line.NumberTooLarge n) = Refused
status_of_fault (line.TooDeep n) = Refused
status_of_fault (line.Unended n) = Refused
status_of_fault (line.UnknownName n) = Refused
status_of_fault (line.OutOfRange n) = Refused
status_of_fault (line.TooMany n) = Refused
status_of_fault (line.Unready fault) = Refused
status_of_fault (line.Stopped rank turns cause) = Stopped
status_of_fault (line.Waits ranks) = Waits
status_of_fault (line.Wide width) = Wide
status_of_fault (line.LetterOverflow at) = LetterOverflow
