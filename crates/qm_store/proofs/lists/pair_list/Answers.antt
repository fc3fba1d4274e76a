use Rattle.std.proofs.Common.{◌≡◌, ℕ, ◌*◌, length, arith, rules, ◌∙◌}
use Rattle.std.proofs.lemmas.List.{with_items_is}
use Rattle.qm_zomega.specs.Numbers.{zero_number}
use Rattle.qm_zomega.specs.NumberLists.{meant_at}
use Rattle.qm_zomega.proofs.SeenLaws.{seen-past}
use Rattle.qm_store.proofs.StoreLaws.{four_times}
use Rattle.qm_store.proofs.ListLaws.{meant-resized, paired_from}
use Rattle.qm_store.proofs.lists.pair_list.Goals as goal
use Rattle.qm_store.proofs.lists.pair_list.Goals.{After-resize}

same : (g : _) (c : After-resize g) (i : ℕ) → meant_at g.Z.Numerator.meaning c.resize.new.self.items i ≡ meant_at g.Z.Numerator.meaning c.args.numerators.now.items i
same g c =
    let v = c.args.numerators.now in
    meant-resized g.Z.Numerator.meaning _ v.items c.resize.new.self.items _ _ _ c.resize.ensures.items (c.resize.ensures.succeeds (omega (arith, v.ok.0))) (omega (arith, v.ok.0, c.len-size.ensures)) c.zero.ensures

grown : (g : _) (c : After-resize g) → length c.resize.new.self.items ≡ length c.args.numerators.now.items * 4
grown g c =
    let v = c.args.numerators.now in
    let ok = c.resize.ensures.succeeds (omega (arith, v.ok.0)) in
    search rules

pub pair_up-requires-clause-size : goal.pair_up-requires-clause-size
pair_up-requires-clause-size g c =
    let at = goal.at.pair_up-requires-clause-size g c in
    let more = grown g at.After-resize in
    rw c.deref_mut.ensures.value (more ∙ omega (arith, four_times c.args.n (length c.args.numerators.now.items) c.requires.size))

pub pair_up-requires-clause-rest : goal.pair_up-requires-clause-rest
pair_up-requires-clause-rest g c = λ i h.
    let at = goal.at.pair_up-requires-clause-rest g c in
    rw c.deref_mut.ensures.value (same g at.After-resize i ∙ seen-past g.Z.Numerator.meaning zero_number c.args.numerators.now.items i (omega (arith, h, c.requires.size)))

pub returns-clause-paired : goal.returns-clause-paired
returns-clause-paired g c =
    let at = goal.at.returns-clause-paired g c in
    let is = with_items_is c.resize.new.self c.pair_up.new.list (c.pair_up.ensures.done.size ∙ c.deref_mut.ensures.len) in
    rw is (paired_from g.Z.Numerator.meaning c.args.n c.args.numerators.now.items c.resize.new.self.items c.pair_up.new.list (grown g at.After-resize) (same g at.After-resize) (rw c.deref_mut.ensures.value at c.pair_up.ensures.done))
