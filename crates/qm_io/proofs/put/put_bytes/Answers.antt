use Rattle.std.proofs.Common.{rules, arith}
use Rattle.qm_io.proofs.EndLemmas.{Took-more, Took-stop, Puts-stop}
use Rattle.qm_io.proofs.put.put_bytes.Goals as goal

pub returns-in_err-at : goal.returns-in_err-at
returns-in_err-at g c = Puts-stop _ _ _ _ _ c.from_residual.ensures.1 (Took-stop _ _ _ _ _ c.loop-at.invariant.took c.in_err-at.ensures.err)

pub loop-at-preserved : goal.loop-at-preserved
loop-at-preserved g c = record {
  within = grind arith;
  took = Took-more _ _ _ _ _ _ c.loop-at.invariant.took c.in_ok-at.ensures.ok;
}

pub loop-at-init : goal.loop-at-init
loop-at-init g c = search rules
