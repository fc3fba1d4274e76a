use Rattle.std.proofs.Common.{length, sym, ap, ◌∙◌}
use Rattle.qm_store.proofs.WidenLaws.{narrow_size, narrow_number, all_numbers}
use Rattle.qm_store.proofs.numerators.Numerators.widen.Goals as goal

pub returns-clause-size : goal.returns-clause-size
returns-clause-size c =
    let s = c.args.self.now in
    c.widen_list.ensures.numbers.size ∙ ap length c.deref.ensures.value ∙ sym (narrow_size s.wide.items s.is_wide s.narrow.items c.requires)

pub returns-clause-numbers : goal.returns-clause-numbers
returns-clause-numbers c = λ i.
    let s = c.args.self.now in
    all_numbers _ s.narrow.items (rw c.deref.ensures.value at c.widen_list.ensures.numbers) i
    ∙ sym (narrow_number s.wide.items s.is_wide s.narrow.items i c.requires)
