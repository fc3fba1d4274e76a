use Rattle.qm_confluence.proofs.Stuck.Rendezvous as rendezvous
use Rattle.qm_confluence.proofs.meeting.never_stuck_law.Goals as goal

pub returns : goal.returns
returns c = rendezvous.never_stuck_law
