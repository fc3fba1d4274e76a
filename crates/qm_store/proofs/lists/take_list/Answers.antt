use Rattle.std.proofs.Common.{◌≡◌, ℕ, ◌<◌, ◌/◌, length, take, length-take, ap, arith, rules, ◌∙◌}
use Rattle.std.proofs.lemmas.List.{with_items_is}
use Rattle.qm_zomega.specs.NumberLists.{meant_at}
use Rattle.qm_denot.specs.LettersByPlace.{take_at}
use Rattle.qm_store.proofs.ListLaws.{meant-take}
use Rattle.qm_store.proofs.lists.take_list.Goals as goal

pub returns-clause-taken : goal.returns-clause-taken
returns-clause-taken g c =
    let is = with_items_is c.args.numerators.now c.gather.new.list (c.gather.ensures.size ∙ c.deref_mut.ensures.len) in
    let same : length c.gather.new.list ≡ length c.args.numerators.now.items = c.gather.ensures.size ∙ ap length c.deref_mut.ensures.value in
    let taken : (i : ℕ) → i < length c.args.numerators.now.items / 2 → meant_at g.Z.Numerator.meaning c.gather.new.list i ≡ take_at c.args.place c.args.m (meant_at g.Z.Numerator.meaning c.args.numerators.now.items) i =
    rw c.deref_mut.ensures.value at c.gather.ensures.taken in
    let half : c.len-half.result / 2 ≡ length c.args.numerators.now.items / 2 = omega arith in
    let cut : c.truncate.new.self.items ≡ take (length c.args.numerators.now.items / 2) c.gather.new.list = search rules in
    record {
      size = omega (arith, ap length cut, length-take (length c.args.numerators.now.items / 2) c.gather.new.list, same);
      numbers = λ i h. ap (λ zs. meant_at g.Z.Numerator.meaning zs i) cut ∙ meant-take g.Z.Numerator.meaning (length c.args.numerators.now.items / 2) c.gather.new.list i h ∙ taken i h;
    }
