use Rattle.std.proofs.Common.{ap, sym, ◌∙◌}
use Rattle.qm_instr.specs.Lanes.{is_on}
use Rattle.qm_proto.specs.Model.Ideal.{sends_on}
use Rattle.qm_instr.proofs.LaneTests.{same_on}
use Rattle.qm_ideal.proofs.run.sends.Goals as goal

pub returns-in-Some : goal.returns-in-Some
returns-in-Some c =
    c.eq.ensures ∙ same_on c.send_lane.result c.args.lane ∙ ap (λ o. is_on o c.args.lane) c.send_lane.ensures
    ∙ ap (λ o. sends_on c.args.rank o c.args.lane) (sym c.in-Some.is)
