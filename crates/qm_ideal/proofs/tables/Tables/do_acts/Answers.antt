use Rattle.std.proofs.Common.{ap, arith}
use Rattle.qm_proto.specs.Model.Ideal.{IdealTables}
use Rattle.qm_ideal.specs.Meanings.{act_meant}
use Rattle.qm_ideal.specs.Views.{tables_of}
use Rattle.qm_ideal.proofs.ActLemmas.{made_done}
use Rattle.qm_ideal.proofs.tables.Tables.do_acts.Goals as goal

pub act-requires-in-Two-2-clause-few : goal.act-requires-in-Two-2-clause-few
act-requires-in-Two-2-clause-few c =
    let e = ap (λ (t : IdealTables). (t.parts c.args.rank).made) c.in_ok-act-in-Two.ensures.did in
    let g = made_done c.args.rank (act_meant c.in-Two.a) (tables_of c.args.self.now) in
    omega (arith, e, g, c.requires.few)

pub act-requires-in-Three-2-clause-few : goal.act-requires-in-Three-2-clause-few
act-requires-in-Three-2-clause-few c =
    let e = ap (λ (t : IdealTables). (t.parts c.args.rank).made) c.in_ok-act-in-Three.ensures.did in
    let g = made_done c.args.rank (act_meant c.in-Three.a) (tables_of c.args.self.now) in
    omega (arith, e, g, c.requires.few)

pub act-requires-in-Three-3-clause-few : goal.act-requires-in-Three-3-clause-few
act-requires-in-Three-3-clause-few c =
    let r = c.args.rank in
    let t = tables_of c.args.self.now in
    let u = tables_of c.act-in-Three.new.self in
    let e = ap (λ (t : IdealTables). (t.parts r).made) c.in_ok-act-in-Three.ensures.did in
    let g = made_done r (act_meant c.in-Three.a) t in
    let d = ap (λ (t : IdealTables). (t.parts r).made) c.in_ok-act-in-Three-2.ensures.did in
    let f = made_done r (act_meant c.in-Three.b) u in
    omega (arith, e, g, d, f, c.requires.few)
