use Rattle.qm_confluence.proofs.Stuck.Emptied as emptied
use Rattle.qm_confluence.proofs.meeting.lanes_empty_law.Goals as goal

pub returns : goal.returns
returns c = emptied.lanes_empty_law
