use Rattle.qm_print.proofs.fault.add_unready.Goals as goal

pub returns-in-TooWide : goal.returns-in-TooWide
returns-in-TooWide g c = rw c.in-TooWide.is c.add_number.ensures

pub returns-in-BadRank : goal.returns-in-BadRank
returns-in-BadRank g c = rw c.in-BadRank.is c.add_instruction_refused.ensures

pub returns-in-SelfMessage : goal.returns-in-SelfMessage
returns-in-SelfMessage g c = rw c.in-SelfMessage.is c.add_instruction_refused-in-SelfMessage.ensures

pub returns-in-SameSlot : goal.returns-in-SameSlot
returns-in-SameSlot g c = rw c.in-SameSlot.is c.add_instruction_refused-in-SameSlot.ensures

pub returns-in-SlotEmpty : goal.returns-in-SlotEmpty
returns-in-SlotEmpty g c = rw c.in-SlotEmpty.is c.add_instruction_refused-in-SlotEmpty.ensures

pub returns-in-SlotFull : goal.returns-in-SlotFull
returns-in-SlotFull g c = rw c.in-SlotFull.is c.add_instruction_refused-in-SlotFull.ensures

pub returns-in-UnmatchedLane : goal.returns-in-UnmatchedLane
returns-in-UnmatchedLane g c = rw c.in-UnmatchedLane.is c.add_lane_refused.ensures

pub returns-in-TapeLength : goal.returns-in-TapeLength
returns-in-TapeLength g c = rw c.in-TapeLength.is c.add_tape_refused.ensures
