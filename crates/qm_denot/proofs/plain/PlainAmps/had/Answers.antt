use Rattle.std.proofs.Common.{◌≡◌, ℕ, ◌+◌, ◌<◌, length, refl, ap, arith, rules, ◌∙◌}
use Rattle.std.specs.Vec.{vec_capacity, with_items}
use Rattle.std.proofs.lemmas.List.{with_items_is}
use Rattle.qm_denot.specs.declared.Letter.TheVariants.{Had}
use Rattle.qm_denot.specs.Wires.{Wires}
use Rattle.std.proofs.lemmas.Bool.{false≢true}
use Rattle.qm_zomega.specs.Range.{FitsZw}
use Rattle.qm_denot.specs.Circuits.{with_letter}
use Rattle.qm_denot.specs.LettersByPlace.{had_at}
use Rattle.qm_denot.specs.ListStores.{listed_value}
use Rattle.qm_zomega.specs.NumberLists.{number_at, Reduces}
use Rattle.qm_denot.proofs.PlaceBounds.{size_small, size_fits}
use Rattle.qm_denot.proofs.KeepingLaws.{value_had, keeps_reduced, does_reduced}
use Rattle.qm_denot.proofs.OverflowLaws.{overflows_where_unfit, never_overflows}
use Rattle.qm_denot.proofs.plain.PlainAmps.had.Goals as goal
use Rattle.qm_denot.proofs.plain.PlainAmps.had.Goals.{After-swap, After-reduce-self}

pub fill_had-requires-clause-small : goal.fill_had-requires-clause-small
fill_had-requires-clause-small c = let s = c.args.self.now in rw c.deref-2.ensures.value (size_small _ _ _ s.size s.few s.small)

pub fill_had-requires-clause-room : goal.fill_had-requires-clause-room
fill_had-requires-clause-room c = let s = c.args.self.now in rw c.deref-2.ensures.value (size_fits _ _ _ _ s.size s.few s.spare_room)

-- the list that was filled, in the place of the numerators
size : (c : After-swap) → length c.swap.new.x.items ≡ length c.args.self.now.numerators.items
size c = ap (λ v. length v.items) c.swap.ensures.x_after ∙ c.in_ok-fill_had.ensures.size ∙ ap length c.deref-2.ensures.value

numbers : (c : After-swap) (k : ℕ) → k < length c.args.self.now.numerators.items → number_at c.swap.new.x.items k ≡ had_at c.place_of-place.result (number_at c.args.self.now.numerators.items) k
numbers c k h = ap (λ v. number_at v.items k) c.swap.ensures.x_after ∙ (rw c.deref-2.ensures.value at c.in_ok-fill_had.ensures.numbers) k h

-- the values after the letter, before the division by root2
values : (c : After-swap) (x : Wires)
    → listed_value c.args.self.now.live.items c.swap.new.x.items x ≡ with_letter (Had c.args.w) (listed_value c.args.self.now.live.items c.args.self.now.numerators.items) x
values c =
    let s = c.args.self.now in
    value_had s.live.items s.numerators.items c.swap.new.x.items s.kept.distinct s.size c.place_of-place.result c.args.w (rw c.deref.ensures.value at c.place_of-place.ensures.first) (numbers c)

-- the vector that `reduce` left
reduced : (c : After-reduce-self) → (with_items c.swap.new.x c.reduce-self.new.numerators).items ≡ c.reduce-self.new.numerators
reduced c = with_items_is c.swap.new.x c.reduce-self.new.numerators (c.reduce-self.ensures.size ∙ c.deref_mut.ensures.len)

reduces : (c : After-reduce-self) → Reduces c.swap.new.x.items (c.args.self.now.exponent + 1) c.reduce-self.new.numerators c.reduce-self.result
reduces c = rw c.deref_mut.ensures.value at c.reduce-self.ensures

pub invariant_of-self-2 : goal.invariant_of-self-2
invariant_of-self-2 c =
    let s = c.args.self.now in
    let at = goal.at.invariant_of-self-2 c in
    let is = reduced at.After-reduce-self in
    let all = reduces at.After-reduce-self in
    let made = size at.After-swap ∙ s.size in
    record {
      small = s.small;
      few = s.few;
      live_room = s.live_room;
      size = rw is (all.size ∙ made);
      room = omega (arith, ap vec_capacity c.swap.ensures.x_after, c.in_ok-fill_had.ensures.room, s.spare_room);
      spare_room = omega (arith, ap vec_capacity c.swap.ensures.y_after, s.room);
      kept = rw is (keeps_reduced (Had c.args.w) s.live.items s.exponent c.reduce-self.result s.numerators.items c.swap.new.x.items c.reduce-self.new.numerators
          made s.kept (values at.After-swap) all);
    }

pub returns-clause-does : goal.returns-clause-does
returns-clause-does c =
    let s = c.args.self.now in
    let at = goal.at.returns-clause-does c in
    rw (reduced at.After-reduce-self)
    (does_reduced (Had c.args.w) s.live.items s.exponent c.reduce-self.result s.numerators.items c.swap.new.x.items c.reduce-self.new.numerators
    (size at.After-swap ∙ s.size) s.kept (values at.After-swap) (reduces at.After-reduce-self) s.capacity refl)

pub returns-clause-overflow : goal.returns-clause-overflow
returns-clause-overflow c =
    let s = c.args.self.now in
    let first = rw c.deref.ensures.value at c.place_of-place.ensures.first in
    let fits : (k : ℕ) → k < length s.numerators.items → FitsZw (had_at c.place_of-place.result (number_at s.numerators.items) k) = (rw c.deref-2.ensures.value at c.in_ok-fill_had.ensures.fits) refl in
    ((λ h. absurd (false≢true h)), (λ over. absurd (never_overflows s.live.items s.numerators.items s.kept.distinct s.size c.place_of-place.result c.args.w first s.capacity s.exponent fits over)))

pub returns-in_err-fill_had-clause-overflow : goal.returns-in_err-fill_had-clause-overflow
returns-in_err-fill_had-clause-overflow c =
    let s = c.args.self.now in
    let first = rw c.deref.ensures.value at c.place_of-place.ensures.first in
    let unfit = (rw c.deref-2.ensures.value at c.in_err-fill_had.ensures.overflow) refl in
    ((λ _. overflows_where_unfit s.live.items s.numerators.items s.kept.distinct s.size c.place_of-place.result c.args.w first s.capacity s.exponent unfit), (λ _. search rules))
