use Rattle.std.proofs.Common.{◌≡◌, ◌+◌, ◌++◌, ◌∷◌, [], length, ap, ◌∙◌, arith, length-append}
use Rattle.qm_denot.specs.Plain.{number_after}
use Rattle.qm_denot.proofs.Numerators.{items-pushed, numbers-push}
use Rattle.qm_denot.proofs.plain.rules.fill.Goals as goal

pub loop-k-preserved : goal.loop-k-preserved
loop-k-preserved c =
    let was = c.loop-k.invariant in
    let zs = c.loop-k.into.items in
    let z = c.entry.result in
    let pushed : c.push.new.self.items ≡ zs ++ z ∷ [] =
    items-pushed _ zs _ z c.push.ensures.items (c.push.ensures.succeeds (omega (arith, was.size, was.room, c.loop-k.into.ok.0, c.size_after-k-end.ensures))) in
    record {
      size = ap length pushed ∙ length-append zs (z ∷ []) ∙ ap (λ n. n + 1) was.size;
      numbers = numbers-push zs _ z c.loop-k.k (number_after c.args.rule c.args.from.now) pushed was.size was.numbers c.entry.ensures;
      room = omega (arith, was.room, c.push.ensures.capacity);
    }
