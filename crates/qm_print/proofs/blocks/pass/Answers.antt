use Rattle.std.proofs.Common.{◌<◌, sym, ◌∙◌, arith}
use Rattle.qm_print.proofs.WalkLemmas.{few_instructions}
use Rattle.qm_print.proofs.blocks.pass.Goals as goal

pub overflow_add-position-else-has_event_after : goal.overflow_add-position-else-has_event_after
overflow_add-position-else-has_event_after c =
    let few : c.args.position.now.at < 100000 =
    few_instructions c.args.input.now c.args.rank c.args.position.now.at c.in-Some.instr c.requires.known c.requires.in_range (sym c.instr.ensures ∙ c.in-Some.is) in
    omega arith
