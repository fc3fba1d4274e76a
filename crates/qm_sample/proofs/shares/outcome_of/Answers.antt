use Rattle.std.proofs.Common.{refl, sym, arith}
use Rattle.std.proofs.lemmas.Bool.{false≢true}
use Rattle.std.proofs.lemmas.Option.{none-some}
use Rattle.std.proofs.Math.Nat.{lt_of_not-le}
use Rattle.qm_sample.proofs.ShareLaws.{heavy_by_store, store_by_heavy, given_by_store}
use Rattle.qm_sample.proofs.shares.outcome_of.Goals as goal

pub returns-in_err-sums-clause-heavy : goal.returns-in_err-sums-clause-heavy
returns-in_err-sums-clause-heavy g c = λ circuit stands.
    let s = g.A.Amps.store c.args.amps.now in
    let sound = g.met.A.Amps.sound c.args.amps.now in
    let above = lt_of_not-le (λ few. false≢true (c.in_err-sums.ensures.light.1 few)) in
    (λ _. heavy_by_store s circuit sound stands above, λ _. c.from_residual.ensures)

pub returns-clause-heavy : goal.returns-clause-heavy
returns-clause-heavy g c = λ circuit stands.
    let s = g.A.Amps.store c.args.amps.now in
    let sound = g.met.A.Amps.sound c.args.amps.now in
    let few = c.in_ok-sums.ensures.light.0 refl in
    (λ none. absurd (none-some _ (sym none)), λ heavy. absurd (omega (arith, few, store_by_heavy s circuit sound stands heavy)))

pub returns-clause-given : goal.returns-clause-given
returns-clause-given g c = λ circuit stands.
    let s = g.A.Amps.store c.args.amps.now in
    let sound = g.met.A.Amps.sound c.args.amps.now in
    given_by_store s circuit sound stands c.args.w c.args.word c.in_ok-sums.ensures.all c.in_ok-sums.ensures.marked c.is_below.ensures
