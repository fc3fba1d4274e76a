use Rattle.std.proofs.Common.{◌∙◌, ap}
use Rattle.qm_proto.specs.Model.Ideal.{bit_told}
use Rattle.qm_ideal.specs.Lanes.{lanes_of}
use Rattle.qm_ideal.specs.Meanings.{load_in}
use Rattle.qm_ideal.proofs.TableLemmas.{front_meant}
use Rattle.qm_ideal.proofs.tables.Tables.front_bit.Goals as goal

pub returns : goal.returns
returns c =
    c.bit_told.ensures
    ∙ ap (λ o. bit_told (load_in o)) c.front.ensures
    ∙ ap bit_told (front_meant (lanes_of c.args.self.now.lanes c.args.lane))
