use Rattle.std.proofs.Common.{ap, ◌∙◌}
use Rattle.qm_instr.specs.Lanes.{is_on}
use Rattle.qm_instr.proofs.LaneTests.{same_on}
use Rattle.qm_machine.proofs.rules.receives.Goals as goal

pub returns : goal.returns
returns c = c.eq.ensures ∙ same_on c.receive_lane.result c.args.lane ∙ ap (λ o. is_on o c.args.lane) c.receive_lane.ensures
