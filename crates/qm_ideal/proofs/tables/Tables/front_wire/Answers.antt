use Rattle.std.proofs.Common.{◌∙◌, ap}
use Rattle.qm_proto.specs.Model.Ideal.{wire_carried}
use Rattle.qm_ideal.specs.Lanes.{lanes_of}
use Rattle.qm_ideal.specs.Meanings.{load_in}
use Rattle.qm_ideal.proofs.TableLemmas.{front_meant}
use Rattle.qm_ideal.proofs.tables.Tables.front_wire.Goals as goal

pub returns : goal.returns
returns c =
    c.wire_carried.ensures
    ∙ ap (λ o. wire_carried (load_in o)) c.front.ensures
    ∙ ap wire_carried (front_meant (lanes_of c.args.self.now.lanes c.args.lane))
