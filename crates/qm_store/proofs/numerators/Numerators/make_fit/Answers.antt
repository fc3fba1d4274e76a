use Rattle.std.proofs.Common.{◌<◌, subst, arith}
use Rattle.qm_zomega.specs.Range.{IsBelow}
use Rattle.qm_denot.specs.Places.{HasPlace}
use Rattle.qm_kernels.specs.Narrow.{narrow_value}
use Rattle.qm_kernels.proofs.BelowLaws.{had_held}
use Rattle.qm_store.proofs.WidenLaws.{narrow_size}
use Rattle.qm_store.proofs.numerators.Numerators.make_fit.Goals as goal

pub returns-then-self-lt-MOST_BITS-clause-fits : goal.returns-then-self-lt-MOST_BITS-clause-fits
returns-then-self-lt-MOST_BITS-clause-fits c = λ _.
    let s = c.args.self.now in
    let few : s.bits < 30 = omega (arith, c.if-self-lt-MOST_BITS.true) in
    had_held narrow_value (IsBelow 30) 30 s.bits (λ z b. b) few s.narrow.items s.below c.args.place

pub returns-then-are_light-clause-fits : goal.returns-then-are_light-clause-fits
returns-then-are_light-clause-fits c = λ _.
    let s = c.args.self.now in
    had_held narrow_value (IsBelow 30) 30 24 (λ z b. b) (omega arith) s.narrow.items (rw c.deref.ensures.value at (c.are_light.ensures c.if-are_light.true)) c.args.place

pub had_fits-requires : goal.had_fits-requires
had_fits-requires c =
    let s = c.args.self.now in
    rw c.deref-2.ensures.value (subst (λ n. HasPlace n c.args.place) (narrow_size s.wide.items s.is_wide s.narrow.items c.if-self.false) c.requires)
