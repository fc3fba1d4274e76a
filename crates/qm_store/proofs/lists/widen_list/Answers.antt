use Rattle.std.proofs.Common.{◌≡◌, ◌+◌, ◌++◌, ◌∷◌, [], length, sym, ap, ◌∙◌, arith, length-append}
use Rattle.qm_zomega.specs.Numbers.{zero_number}
use Rattle.qm_zomega.specs.NumberLists.{meant_at}
use Rattle.qm_zomega.proofs.SeenLaws.{seen-here}
use Rattle.qm_denot.proofs.Numerators.{items-pushed, numbers-push}
use Rattle.qm_store.proofs.lists.widen_list.Goals as goal

pub loop-k-preserved : goal.loop-k-preserved
loop-k-preserved g c =
    let was = c.loop-k.invariant in
    let zs = c.loop-k.wide.items in
    let z = c.widened-z.result in
    let pushed : c.push.new.self.items ≡ zs ++ z ∷ [] =
    items-pushed _ zs _ z c.push.ensures.items (c.push.ensures.succeeds (omega (arith, was.size, was.room, c.loop-k.wide.ok.0))) in
    let here = seen-here g.Z.Numerator.meaning zero_number c.args.slim.now c.loop-k.k c.index-slim-k.result c.loop-k-test.true c.index-slim-k.is in
    record {
      size = ap length pushed ∙ length-append zs (z ∷ []) ∙ ap (λ n. n + 1) was.size;
      numbers = numbers-push zs _ z c.loop-k.k (meant_at g.Z.Numerator.meaning c.args.slim.now) pushed was.size was.numbers (c.widened-z.ensures ∙ sym here);
      room = omega (arith, was.room, c.push.ensures.capacity);
    }
