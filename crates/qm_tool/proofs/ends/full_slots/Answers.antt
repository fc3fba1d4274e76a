use Rattle.std.proofs.Common.{List, ◌++◌, ap, ◌∙◌, add-one}
use Rattle.qm_instr.specs.Programs.{rank_of}
use Rattle.qm_print.specs.declared.Live.{Live}
use Rattle.qm_print.specs.Slots.{rank_slots}
use Rattle.qm_tool.proofs.ends.full_slots.Goals as goal

pub loop-rank-preserved : goal.loop-rank-preserved
loop-rank-preserved g c =
    let r = c.loop-rank.rank in
    let more = rank_slots r (rank_of c.args.input.now r).qubits (g.E.RankEnds.slots c.args.ends.now r) in
    rw (add-one r) (c.in_ok-push_slots.ensures ∙ ap (λ (ss : List Live). ss ++ more) c.loop-rank.invariant)
