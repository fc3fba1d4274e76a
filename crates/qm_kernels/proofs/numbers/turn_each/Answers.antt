use Rattle.std.proofs.Common.{ap, arith, ◌∙◌}
use Rattle.qm_zomega.specs.Numbers.{omega_times}
use Rattle.qm_kernels.proofs.WritingLaws.{written_none, unwritten, written_more, all_written}
use Rattle.qm_kernels.proofs.numbers.turn_each.Goals as goal

pub loop-i-init : goal.loop-i-init
loop-i-init g c = written_none _ _ _ _

pub loop-i-preserved : goal.loop-i-preserved
loop-i-preserved g c =
    written_more _ _ _ _ _ _ c.loop-i.invariant c.turned.result c.loop-i-test.true
    (c.turned.ensures ∙ ap (omega_times g.row.E) (unwritten _ _ _ _ _ _ c.loop-i.invariant c.index-list-i.result c.loop-i-test.true c.index-list-i.is))

pub returns : goal.returns
returns g c = all_written _ _ _ _ _ _ c.loop-i.invariant (omega arith)
