use Rattle.qm_confluence.proofs.Stuck.Meetings as meetings
use Rattle.qm_confluence.proofs.meeting.rendezvous_law.Goals as goal

pub returns : goal.returns
returns c = meetings.rendezvous_law
