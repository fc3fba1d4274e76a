use Rattle.std.proofs.Common.{refl, arith}
use Rattle.qm_kernels.proofs.WritingLaws.{written_more, all_written}
use Rattle.qm_kernels.proofs.moves.clear.Goals as goal

pub loop-i-preserved : goal.loop-i-preserved
loop-i-preserved g c = λ past. written_more _ past _ _ _ _ (c.loop-i.invariant past) c.args.value c.loop-i-test.true refl

pub returns-clause-cleared : goal.returns-clause-cleared
returns-clause-cleared g c = λ past. all_written _ past _ _ _ _ (c.loop-i.invariant past) (omega arith)
