use Rattle.qm_print.specs.FaultText.{waiting_at}
use Rattle.std.proofs.Common.{◌<◌, arith}
use Rattle.qm_print.proofs.GatherLemmas.{Added-nothing, Gathers-stop}
use Rattle.qm_print.proofs.BelowLemmas.{Added-below, Stopped-below}
use Rattle.qm_print.proofs.fault.add_waiting.Goals as goal

pub returns-in_err-add_rank_if : goal.returns-in_err-add_rank_if
returns-in_err-add_rank_if g c =
    let known : c.loop-rank.rank < 16 = omega arith in
    (Gathers-stop _ _ _ _ _ _ _ c.from_residual.ensures.1 (Stopped-below (waiting_at c.args.ranks) _ _ _ _ _ c.loop-rank.rank (16) known c.loop-rank.invariant (c.in_err-add_rank_if.ensures)))

pub loop-rank-init : goal.loop-rank-init
loop-rank-init g c = Added-nothing _ _

pub loop-rank-preserved : goal.loop-rank-preserved
loop-rank-preserved g c = Added-below (waiting_at c.args.ranks) _ _ _ _ _ c.loop-rank.rank _ c.loop-rank.invariant (c.in_ok-add_rank_if.ensures)
