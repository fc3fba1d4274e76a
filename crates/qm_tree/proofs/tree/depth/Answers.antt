use Rattle.std.proofs.Common.{◌≡◌, ◌≢◌, suc, ◌+◌, subst, arith}
use Rattle.qm_tree.specs.Trees.{IsDepth, place}
use Rattle.qm_tree.proofs.tree.depth.Goals as goal

pub loop-v-preserved : goal.loop-v-preserved
loop-v-preserved c =
    let n = place c.args.rank c.args.root c.args.ranks in
    let some : c.loop-v.v ≢ 0 = omega arith in
    record {
      few = omega arith;
      counted = λ d h.
          let next : c.loop-v.copies + suc d ≡ c.loop-v.copies + 1 + d = omega arith in
          subst (IsDepth n) next (c.loop-v.invariant.counted (suc d) (some, subst (λ u. IsDepth u d) c.place_above-v.ensures.value h));
    }

pub returns : goal.returns
returns c =
    let n = place c.args.rank c.args.root c.args.ranks in
    let none : c.loop-v.v ≡ 0 = omega arith in
    let all : c.loop-v.copies + 0 ≡ c.loop-v.copies = omega arith in
    subst (IsDepth n) all (c.loop-v.invariant.counted 0 none)
