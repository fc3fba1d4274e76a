use Rattle.qm_print.specs.Blocks.{turn_line}
use Rattle.qm_print.proofs.GatherLemmas.{Added-nothing, Added-each, Stopped-each, Gathers-stop}
use Rattle.qm_print.proofs.blocks.add_turn_lines.Goals as goal

pub returns-in_err-add_turn : goal.returns-in_err-add_turn
returns-in_err-add_turn g c =
    Gathers-stop _ _ _ _ _ _ _ c.from_residual.ensures.1
    (Stopped-each turn_line _ _ _ _ _ c.args.schedule.now c.loop-rank.rank-index _ c.loop-rank-test.true c.loop-rank.invariant c.in_err-add_turn.ensures)

pub loop-rank-init : goal.loop-rank-init
loop-rank-init g c = Added-nothing _ _

pub loop-rank-preserved : goal.loop-rank-preserved
loop-rank-preserved g c = Added-each turn_line _ _ _ _ _ c.args.schedule.now c.loop-rank.rank-index _ c.loop-rank-test.true _ c.loop-rank.invariant c.in_ok-add_turn.ensures
