use Rattle.std.proofs.Common.{◌≡◌, ◌+◌, ◌++◌, ◌∷◌, [], length, refl, ap, ◌∙◌, arith, length-append, below_more}
use Rattle.qm_denot.specs.LettersByPlace.{had_at}
use Rattle.qm_zomega.specs.NumberLists.{number_at}
use Rattle.qm_denot.proofs.Numerators.{items-pushed, numbers-push}
use Rattle.qm_denot.proofs.plain.vectors.fill_had.Goals as goal

pub loop-k-preserved : goal.loop-k-preserved
loop-k-preserved c =
    let was = c.loop-k.invariant in
    let zs = c.loop-k.into.items in
    let z = c.in-Some.z in
    let pushed : c.push.new.self.items ≡ zs ++ z ∷ [] =
    items-pushed _ zs _ z c.push.ensures.items (c.push.ensures.succeeds (omega (arith, was.size, was.room, c.loop-k.into.ok.0))) in
    record {
      size = ap length pushed ∙ length-append zs (z ∷ []) ∙ ap (λ n. n + 1) was.size;
      numbers = numbers-push zs _ z c.loop-k.k (had_at c.args.place (number_at c.args.from.now)) pushed was.size was.numbers c.in-Some.ensures.value;
      fits = below_more _ _ was.fits (c.in-Some.ensures.fits.0 refl);
      room = omega (arith, was.room, c.push.ensures.capacity);
    }
