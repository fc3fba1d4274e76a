use Rattle.std.proofs.Common.{◌-◌, ◌+◌, arith}
use Rattle.qm_gen.specs.Sizes.{ranks_of}
use Rattle.qm_gen.specs.Made.{head_lines}
use Rattle.qm_gen.proofs.LineLemmas.{ranks-next, ranks-first}
use Rattle.qm_gen.proofs.program.push_program.Goals as goal

pub loop-rank-init : goal.loop-rank-init
loop-rank-init c =
    ranks-first _ _ c.args.kind c.args.size (ranks_of c.args.kind c.args.size - 0) (ranks_of c.args.kind c.args.size) (head_lines (ranks_of c.args.kind c.args.size))
    (rw (← c.rank_count-ranks.ensures) c.in_ok-push_head.ensures) (omega arith)

pub loop-rank-preserved : goal.loop-rank-preserved
loop-rank-preserved c =
    ranks-next _ _ c.args.kind c.args.size c.loop-rank.rank (ranks_of c.args.kind c.args.size - (c.loop-rank.rank + 1)) (ranks_of c.args.kind c.args.size - c.loop-rank.rank) _
    c.loop-rank.invariant (omega (arith, c.rank_count-ranks.ensures, c.loop-rank-test.true)) c.in_ok-push_rank.ensures
