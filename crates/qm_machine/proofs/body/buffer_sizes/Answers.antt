use Rattle.std.proofs.Common.{◌∙◌, map, take, ◌++◌, ◌∷◌, [], ap, sym, arith}
use Rattle.std.proofs.lemmas.List.{map_more}
use Rattle.qm_instr.specs.Programs.{RankProgram, idle_rank}
use Rattle.qm_machine.proofs.body.buffer_sizes.Goals as goal

pub loop-rank-preserved : goal.loop-rank-preserved
loop-rank-preserved c =
    let p = c.args.input.now in
    let i = c.loop-rank.rank in
    let more = c.loop-rank-test.true in
    let size = c.ranks-rank-end.ensures.value in
    let sizes = λ (x : RankProgram). x.buffer in
    let each = c.push_reserved.ensures.items
    ∙ ap (λ ns. ns ++ c.buffer.result ∷ []) c.loop-rank.invariant.each
    ∙ ap (λ n. map sizes (take i p.ranks) ++ n ∷ []) c.buffer.ensures
    ∙ sym (map_more sizes p.ranks i idle_rank (omega arith)) in
    record { known = omega arith; count = omega arith; room = omega arith; each = each }
