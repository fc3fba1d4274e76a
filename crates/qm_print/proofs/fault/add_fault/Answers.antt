use Rattle.qm_print.proofs.fault.add_fault.Goals as goal

pub returns-in-Usage : goal.returns-in-Usage
returns-in-Usage g c = rw c.in-Usage.is c.put.ensures

pub returns-in-ReadFault : goal.returns-in-ReadFault
returns-in-ReadFault g c = rw c.in-ReadFault.is c.put-in-ReadFault.ensures

pub returns-in-TooLong : goal.returns-in-TooLong
returns-in-TooLong g c = rw c.in-TooLong.is c.put-in-TooLong.ensures

pub returns-in-BadByte : goal.returns-in-BadByte
returns-in-BadByte g c = rw c.in-BadByte.is c.add_line_refused.ensures

pub returns-in-Unexpected : goal.returns-in-Unexpected
returns-in-Unexpected g c = rw c.in-Unexpected.is c.add_line_refused-in-Unexpected.ensures

pub returns-in-NumberTooLarge : goal.returns-in-NumberTooLarge
returns-in-NumberTooLarge g c = rw c.in-NumberTooLarge.is c.add_line_refused-in-NumberTooLarge.ensures

pub returns-in-TooDeep : goal.returns-in-TooDeep
returns-in-TooDeep g c = rw c.in-TooDeep.is c.add_line_refused-in-TooDeep.ensures

pub returns-in-Unended : goal.returns-in-Unended
returns-in-Unended g c = rw c.in-Unended.is c.add_line_refused-in-Unended.ensures

pub returns-in-UnknownName : goal.returns-in-UnknownName
returns-in-UnknownName g c = rw c.in-UnknownName.is c.add_line_refused-in-UnknownName.ensures

pub returns-in-OutOfRange : goal.returns-in-OutOfRange
returns-in-OutOfRange g c = rw c.in-OutOfRange.is c.add_line_refused-in-OutOfRange.ensures

pub returns-in-TooMany : goal.returns-in-TooMany
returns-in-TooMany g c = rw c.in-TooMany.is c.add_line_refused-in-TooMany.ensures

pub returns-in-Unready : goal.returns-in-Unready
returns-in-Unready g c = rw c.in-Unready.is c.add_unready.ensures

pub returns-in-Stopped : goal.returns-in-Stopped
returns-in-Stopped g c = rw c.in-Stopped.is c.add_stopped.ensures

pub returns-in-Waits : goal.returns-in-Waits
returns-in-Waits g c = rw c.in-Waits.is c.add_waits.ensures

pub returns-in-Wide : goal.returns-in-Wide
returns-in-Wide g c = rw c.in-Wide.is c.add_number.ensures

pub returns-in-LetterOverflow : goal.returns-in-LetterOverflow
returns-in-LetterOverflow g c = rw c.in-LetterOverflow.is c.add_number-in-LetterOverflow.ensures
