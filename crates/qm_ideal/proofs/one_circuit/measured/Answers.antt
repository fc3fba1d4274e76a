use Rattle.std.proofs.Common.{◌∙◌, ◌≤◌, length, subst, sym, arith}
use Rattle.qm_ideal.specs.Views.{slots_at}
use Rattle.qm_ideal.proofs.OneCircuitLemmas.{ends_few}
use Rattle.qm_ideal.proofs.RoomLemmas.{width_bound}
use Rattle.qm_ideal.proofs.one_circuit.measured.Goals as goal
use Rattle.qm_ideal.specs.OneCircuits.{most_letters}

pub width-requires : goal.width-requires
width-requires c =
    ends_few (slots_at c.args.run.tables.ranks.items) c.args.ranks c.as_slice-2.result.now (c.as_slice-2.ensures.value ∙ c.in_ok-ends.ensures) c.requires.few

pub overflow_cast-result : goal.overflow_cast-result
overflow_cast-result c =
    let letters = c.as_slice.result.now in
    let ends = c.as_slice-2.result.now in
    let is = c.in_ok-width.ensures in
    let bound = width_bound letters ends in
    let short : length letters ≤ most_letters = subst (λ ls. length ls ≤ most_letters) (sym c.as_slice.ensures.value) c.requires.short in
    let few : length ends ≤ 256 =
    ends_few (slots_at c.args.run.tables.ranks.items) c.args.ranks ends (c.as_slice-2.ensures.value ∙ c.in_ok-ends.ensures) c.requires.few in
    omega (arith, is, bound, short, few)
