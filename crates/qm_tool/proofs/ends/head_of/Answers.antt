use Rattle.std.proofs.Common.{◌<◌, length, ◌∙◌, arith}
use Rattle.std.proofs.lemmas.List.{length-set}
use Rattle.qm_instr.specs.Bits.{number_of_bits}
use Rattle.qm_tool.proofs.EndLemmas.{bits_set}
use Rattle.qm_tool.proofs.ends.head_of.Goals as goal

pub loop-rank-preserved : goal.loop-rank-preserved
loop-rank-preserved g c =
    let before = c.loop-rank.invariant in
    let known : c.loop-rank.rank < length c.loop-rank.bits = omega (arith, before.long, c.ranks-ranks.ensures.value, c.ranks-ranks.ensures.in_range.most_ranks) in
    record {
      long = length-set c.loop-rank.bits _ _ ∙ before.long;
      so = bits_set c.loop-rank.bits _ c.loop-rank.rank _ (λ r. number_of_bits (g.E.RankEnds.bits c.args.ends.now r)) c.from.ensures known c.rank_bits.ensures before.so;
    }
