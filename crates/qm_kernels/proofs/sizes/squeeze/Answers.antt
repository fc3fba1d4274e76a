use Rattle.std.proofs.Common.{◌≡◌, ◌+◌, ◌-◌, ◌/◌, ◌++◌, length, sym, ap, subst, arith, ◌∙◌}
use Rattle.qm_zomega.specs.NumberLists.{seen_at}
use Rattle.qm_kernels.specs.DoneLaws.{seen-front, seen-back}
use Rattle.qm_kernels.proofs.sizes.squeeze.Goals as goal

pub returns-clause-taken : goal.returns-clause-taken
returns-clause-taken g c = λ past i h.
    let first = c.split_at_mut-rest.result.0.now in
    let rest = c.split_at_mut-rest.result.1.now in
    let below : length first ≡ length c.args.list.now / 2 = omega (arith, c.split_at_mut-rest.ensures.front_len, c.gather.ensures.size) in
    seen-front (λ x. x) past first c.clear.new.list i (omega (arith, h)) ∙ sym (seen-front (λ x. x) past first rest i (omega (arith, h)))
    ∙ ap (λ xs. seen_at (λ x. x) past xs i) (sym c.split_at_mut-rest.ensures.value) ∙ c.gather.ensures.gathered past i h

pub returns-clause-rest : goal.returns-clause-rest
returns-clause-rest g c = λ past i h l.
    let first = c.split_at_mut-rest.result.0.now in
    let n = length c.args.list.now / 2 in
    let below : length first ≡ n = omega (arith, c.split_at_mut-rest.ensures.front_len, c.gather.ensures.size) in
    let e : n + (i - n) ≡ i = omega (arith, h) in
    subst (λ j. seen_at (λ x. x) past (first ++ c.clear.new.list) j ≡ c.args.zero) e
    (seen-back (λ x. x) past first c.clear.new.list n (i - n) below
    ∙ (c.clear.ensures.cleared past).numbers (i - n) (omega (arith, h, l, c.split_at_mut-rest.ensures.back_len, c.gather.ensures.size, c.split_at_mut-rest.ensures.front_len)))
