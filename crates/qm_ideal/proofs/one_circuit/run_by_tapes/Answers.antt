use Rattle.std.proofs.Common.{replicate, sym, subst}
use Rattle.qm_limits.specs.declared.TheConstants.{MOST_RANKS}
use Rattle.qm_ideal.specs.Drawings.{nothing_drawn}
use Rattle.qm_ideal.specs.UnderWay.{IsByTapes}
use Rattle.qm_ideal.specs.Views.{state_of}
use Rattle.qm_ideal.proofs.TapeLemmas.{by_tapes_start, ends_by_tapes}
use Rattle.qm_ideal.proofs.one_circuit.run_by_tapes.Goals as goal

pub of-requires-clause-fed : goal.of-requires-clause-fed
of-requires-clause-fed c =
    let p = c.args.input.now in
    let tapes = c.start-tapes.ensures in
    subst (λ used. IsByTapes c.start-tapes.result.input.now used p nothing_drawn) (sym tapes.used)
    (subst (λ input. IsByTapes input (replicate MOST_RANKS 0) p nothing_drawn) (sym tapes.input) (by_tapes_start p c.requires.in_range.most_ranks))

pub returns-in-Ok-clause-end : goal.returns-in-Ok-clause-end
returns-in-Ok-clause-end c = ends_by_tapes _ _ c.args.input.now (state_of c.in-Ok.run') c.in-Ok.ensures.way c.in-Ok.ensures.end
