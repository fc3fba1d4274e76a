use Rattle.std.proofs.Common.{true, [], refl, length, ap, arith}
use Rattle.std.proofs.lemmas.Nat.{pow_pos}
use Rattle.qm_denot.proofs.FreshLaws.{size_at_start, stands_at_start, keeps_at_start}
use Rattle.qm_store.proofs.ScaledAmps.start.Goals as goal

pub one-requires : goal.one-requires
one-requires c = omega (arith, pow_pos c.args.capacity, c.power.ensures.value)

pub returns-clause-stands : goal.returns-clause-stands
returns-clause-stands c =
    let one = c.in_ok-numerators.ensures.numbers in
    stands_at_start c.in_ok-with_capacity.field-0.items true [] _ one.0 c.in_ok-with_capacity.ensures.items one.1 refl refl c.args.capacity one.2

pub invariant_of-result : goal.invariant_of-result
invariant_of-result c =
    let none = c.in_ok-with_capacity.ensures.items in
    let one = c.in_ok-numerators.ensures.numbers in
    record {
      small = c.requires;
      few = omega (arith, ap length none);
      live_room = omega (arith, c.in_ok-with_capacity.ensures.exact);
      size = size_at_start c.in_ok-with_capacity.field-0.items true [] _ one.0 none one.1 refl refl;
      room = omega (arith, c.in_ok-numerators.ensures.room, c.power.ensures.value);
      kept = keeps_at_start c.in_ok-with_capacity.field-0.items true [] _ one.0 none one.1 refl refl;
    }
