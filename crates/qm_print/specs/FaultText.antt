-- The line of a refusal, or of another end without a text
use Rattle.std.specs.Prelude.{◌≢◌, ℕ, ◌/◌, ◌%◌, ◌^◌, ◌==◌, Bool, if◌then◌else◌, List, [], ◌++◌, codes, decimal}
use Rattle.qm_print.specs.Below.{text_below}
use Rattle.qm_limits.specs.declared.TheConstants.{MOST_RANKS}
use Rattle.qm_instr.specs.declared.Kind.{Kind}
use Rattle.qm_instr.specs.declared.Kind.TheVariants as kind
use Rattle.qm_instr.specs.declared.Lane.{Lane}
use Rattle.qm_check.specs.declared.Fault.{Fault}
use Rattle.qm_check.specs.declared.Fault.TheVariants as fault
use Rattle.qm_proto.specs.declared.Cause.{Cause}
use Rattle.qm_proto.specs.declared.Cause.TheVariants as cause
use Rattle.qm_print.specs.declared.FaultLine.{FaultLine}
use Rattle.qm_print.specs.declared.FaultLine.TheVariants as line

-- ---- names
-- the printed name of what a lane carries; a lane of answers is never named
abbrev pub kind_name : Kind → List ℕ
kind_name kind.Bit = codes "bit"
kind_name kind.Copy = codes "copy"
kind_name kind.Move = codes "move"
kind_name kind.Undo = codes "undo"
kind_name kind.Reach = codes "reach"
kind_name kind.Back = []

-- the printed name of a cause
abbrev pub cause_name : Cause → List ℕ
cause_name cause.Overflow = codes "overflow"
cause_name cause.Impossible = codes "impossible"
cause_name cause.NotZero = codes "not-zero"
cause_name cause.NotEqual = codes "not-equal"
cause_name cause.Stuck = codes "stuck"

-- the printed name of a tape
abbrev pub tape_name : Bool → List ℕ
tape_name own = if own then codes "own" else codes "protocol"

-- ---- the lines
-- words and a number
abbrev pub number_line : List ℕ → ℕ → List ℕ
number_line words n = words ++ decimal n ++ codes "\n"

-- a refusal of a line of the text
abbrev pub line_refused : List ℕ → ℕ → List ℕ
line_refused why line = codes "refused " ++ why ++ codes " line " ++ decimal line ++ codes "\n"

-- a refusal of an instruction of a rank
abbrev pub instruction_refused : List ℕ → ℕ → ℕ → List ℕ
instruction_refused why rank at =
    codes "refused " ++ why ++ codes " rank " ++ decimal rank ++ codes " instruction " ++ decimal at ++ codes "\n"

-- a refusal of a lane whose sends and receives aren't as many
abbrev pub lane_refused : Lane → ℕ → ℕ → List ℕ
lane_refused a sends receives =
    codes "refused unmatched-lane from " ++ decimal a.from ++ codes " to " ++ decimal a.to ++ codes " " ++ kind_name a.kind
    ++ codes " tag " ++ decimal a.tag ++ codes " sends " ++ decimal sends ++ codes " receives " ++ decimal receives ++ codes "\n"

-- a refusal of a tape
abbrev pub tape_refused : ℕ → Bool → ℕ → ℕ → List ℕ
tape_refused rank own needs has =
    codes "refused tape-length rank " ++ decimal rank ++ codes " " ++ tape_name own
    ++ codes " needs " ++ decimal needs ++ codes " has " ++ decimal has ++ codes "\n"

-- the line of a fault that the check found
abbrev pub unready_line : Fault → List ℕ
unready_line (fault.TooWide capacity) = number_line (codes "refused too-wide capacity ") capacity
unready_line (fault.BadRank rank at) = instruction_refused (codes "bad-rank") rank at
unready_line (fault.SelfMessage rank at) = instruction_refused (codes "self-message") rank at
unready_line (fault.SameSlot rank at) = instruction_refused (codes "same-slot") rank at
unready_line (fault.SlotEmpty rank at) = instruction_refused (codes "slot-empty") rank at
unready_line (fault.SlotFull rank at) = instruction_refused (codes "slot-full") rank at
unready_line (fault.UnmatchedLane a sends receives) = lane_refused a sends receives
unready_line (fault.TapeLength rank own needs has) = tape_refused rank own needs has

-- the line of a run that stopped at a rank after so many turns
abbrev pub stopped_line : ℕ → ℕ → Cause → List ℕ
stopped_line rank turns why =
    codes "stopped rank " ++ decimal rank ++ codes " turns " ++ decimal turns ++ codes " " ++ cause_name why ++ codes "\n"

-- a space and the number of rank r, if its bit is 1
abbrev pub waiting_at : ℕ → ℕ → List ℕ
waiting_at bits r = if bits / 2 ^ r % 2 == 1 then codes " " ++ decimal r else []

-- that of each rank that there may be, rising
abbrev pub waiting_ranks : ℕ → List ℕ
waiting_ranks bits = text_below (waiting_at bits) MOST_RANKS

-- the line of the ranks that wait
abbrev pub waits_line : ℕ → List ℕ
waits_line bits = codes "waits" ++ waiting_ranks bits ++ codes "\n"

-- the line of each refusal, stop and other end without a text
abbrev pub fault_text : FaultLine → List ℕ
fault_text line.Usage = codes "usage\n"
fault_text line.ReadFault = codes "read fault\n"
fault_text line.TooLong = codes "too long\n"
fault_text (line.BadByte l) = line_refused (codes "bad-byte") l
fault_text (line.Unexpected l) = line_refused (codes "unexpected") l
fault_text (line.NumberTooLarge l) = line_refused (codes "number-too-large") l
fault_text (line.TooDeep l) = line_refused (codes "too-deep") l
fault_text (line.Unended l) = line_refused (codes "unended") l
fault_text (line.UnknownName l) = line_refused (codes "unknown-name") l
fault_text (line.OutOfRange l) = line_refused (codes "out-of-range") l
fault_text (line.TooMany l) = line_refused (codes "too-many") l
fault_text (line.Unready f) = unready_line f
fault_text (line.Stopped rank turns why) = stopped_line rank turns why
fault_text (line.Waits ranks) = waits_line ranks
fault_text (line.Wide width) = number_line (codes "wide ") width
fault_text (line.LetterOverflow at) = number_line (codes "overflow letter ") at

-- a lane that a fault names carries no answers
abbrev pub IsNamed : Fault → Type 0
IsNamed (fault.UnmatchedLane a sends receives) = a.kind ≢ kind.Back
IsNamed _ = Unit {0}

-- and so it is with a lane that a line names
abbrev pub NamesNoAnswers : FaultLine → Type 0
NamesNoAnswers (line.Unready f) = IsNamed f
NamesNoAnswers _ = Unit {0}
