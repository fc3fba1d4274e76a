use Rattle.std.proofs.Common.{ap}
use Rattle.qm_proto.specs.Model.Ideal.{IdealTables}
use Rattle.qm_ideal.specs.Lanes.{lanes_of}
use Rattle.qm_ideal.specs.Views.{tables_of}
use Rattle.qm_ideal.proofs.TableLemmas.{put_meant}
use Rattle.qm_ideal.proofs.tables.Tables.put.Goals as goal

pub returns-clause-did : goal.returns-clause-did
returns-clause-did c =
    let t = tables_of c.args.self.now in
    ap (λ ls. let u : IdealTables = record t { lanes = ls } in u)
    (put_meant (lanes_of c.args.self.now.lanes) (lanes_of c.put.new.self) c.args.lane c.args.load c.in_ok-put.ensures)
