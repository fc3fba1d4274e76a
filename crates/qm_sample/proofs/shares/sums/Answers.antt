use Rattle.std.proofs.Common.{◌≡◌, ◌<◌, ◌^◌, List, length, refl, subst, ap, add-one, arith}
use Rattle.std.proofs.lemmas.Bool.{false≢true}
use Rattle.qm_sizes.specs.Parts.{surd_of}
use Rattle.qm_denot.specs.declared.Wire.{Wire}
use Rattle.qm_denot.specs.Places.{IsFirstAt}
use Rattle.qm_denot.proofs.BranchLaws.{has-set_at}
use Rattle.qm_sample.proofs.Passes.{IsPassed, one_more, too_large, whole_at_end, all_at_end, marked_at_end}
use Rattle.qm_sample.proofs.shares.sums.Goals as goal

pub returns-in_err-sums-clause-light : goal.returns-in_err-sums-clause-light
returns-in_err-sums-clause-light g c =
    let s = g.A.Amps.store c.args.amps.now in
    let sound = g.met.A.Amps.sound c.args.amps.now in
    let n = c.loop-index.index in
    let count = ap (λ (ws : List Wire). 2 ^ length ws) c.live-2.ensures.live in
    let below : n < 2 ^ length s.live = omega (arith, c.loop-index-test.true, c.power-count.ensures.value, count) in
    let large =
    too_large s.live c.args.w s.value n (surd_of c.loop-index.sums.all) (surd_of c.loop-index.sums.marked) c.loop-index.invariant
    c.numerator.ensures sound.distinct below (λ few. false≢true (c.in_err-sums.ensures.light.1 few)) in
    (λ some. absurd (false≢true (rw c.from_residual.ensures at some)), λ few. absurd (omega (arith, few, large)))

pub loop-index-preserved : goal.loop-index-preserved
loop-index-preserved g c =
    let s = g.A.Amps.store c.args.amps.now in
    let sound = g.met.A.Amps.sound c.args.amps.now in
    let n = c.loop-index.index in
    let count = ap (λ (ws : List Wire). 2 ^ length ws) c.live-2.ensures.live in
    let below : n < 2 ^ length s.live = omega (arith, c.loop-index-test.true, c.power-count.ensures.value, count) in
    let place = c.place_of-place.result in
    let first = subst (λ (ws : List Wire). IsFirstAt ws place c.args.w) c.live.ensures.live c.place_of-place.ensures.first in
    rw (add-one n)
    (one_more s.live c.args.w s.value n (surd_of c.loop-index.sums.all) (surd_of c.loop-index.sums.marked) c.loop-index.invariant
    c.numerator.ensures c.in_ok-sums.ensures.all c.in_ok-sums.ensures.marked
    (rw (has-set_at s.live place c.args.w n sound.distinct first below) c.bit_at.ensures))

pub returns : goal.returns
returns g c =
    let s = g.A.Amps.store c.args.amps.now in
    let sound = g.met.A.Amps.sound c.args.amps.now in
    let count = ap (λ (ws : List Wire). 2 ^ length ws) c.live-2.ensures.live in
    let end : c.loop-index.index ≡ 2 ^ length s.live =
    omega (arith, c.loop-index.auto.index-end, c.loop-index-test.false, c.power-count.ensures.value, count) in
    let all = surd_of c.loop-index.sums.all in
    let marked = surd_of c.loop-index.sums.marked in
    let passed = subst (λ n. IsPassed s.live c.args.w s.value n all marked) end c.loop-index.invariant in
    let whole = whole_at_end s.live c.args.w s.value _ _ sound.distinct passed in
    record {
      light = (λ _. omega (arith, whole, c.loop-index.sums.all_few.few), λ _. refl);
      all = all_at_end s.live c.args.w s.value _ _ sound.distinct passed;
      marked = marked_at_end s.live c.args.w s.value _ _ sound.distinct passed;
    }
