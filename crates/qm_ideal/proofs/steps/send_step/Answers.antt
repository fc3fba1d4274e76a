use Rattle.std.proofs.Common.{rules}
use Rattle.qm_ideal.proofs.steps.send_step.Goals as goal

pub returns-in-MoveTo-clause-letters : goal.returns-in-MoveTo-clause-letters
returns-in-MoveTo-clause-letters c = search rules

pub returns-in-ReachTo-clause-acts : goal.returns-in-ReachTo-clause-acts
returns-in-ReachTo-clause-acts c = search rules
