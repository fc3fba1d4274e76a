use Rattle.std.proofs.Common.{◌≡◌, ℕ, ◌+◌, ◌≤◌, ◌∙◌, sym, ap, subst, drop, get_or}
use Rattle.std.specs.Prelude.{fold}
use Rattle.std.proofs.lemmas.List.{at_drop_more}
use Rattle.qm_parse.specs.Looks.{capped}
use Rattle.qm_parse.proofs.WordLemmas.{with_digit, fold-capped, capped-le}
use Rattle.qm_parse.proofs.looks.value_of.Goals as goal

pub loop-digit-preserved : goal.loop-digit-preserved
loop-digit-preserved c =
    let v = c.loop-digit.value in
    let i = c.loop-digit.digit-index in
    let ds = c.args.digits.now in
    let e : c.capped-value.result ≡ capped (with_digit v (get_or ds i 0)) = cc in
    record {
      small = subst (λ (n : ℕ). n ≤ 2147483648) (sym e) (capped-le (with_digit v (get_or ds i 0)));
      left = c.loop-digit.invariant.left ∙ at_drop_more (λ bs. capped (fold with_digit v bs)) ds i 0 c.loop-digit-test.true
          ∙ sym (fold-capped (with_digit v (get_or ds i 0)) (drop (i + 1) ds)) ∙ ap (λ n. capped (fold with_digit n (drop (i + 1) ds))) (sym e);
    }
