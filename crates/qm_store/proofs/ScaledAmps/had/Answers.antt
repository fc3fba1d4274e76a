use Rattle.std.proofs.Common.{◌≡◌, ℕ, ◌<◌, Bool, true, false, List, length, refl, sym, rules, arith, ◌∙◌}
use Rattle.std.proofs.lemmas.Bool.{false≢true}
use Rattle.qm_zomega.specs.declared.Zw.{Zw}
use Rattle.qm_zomega.specs.NumberLists.{number_at, IsListOf}
use Rattle.qm_zomega.specs.Range.{FitsZw}
use Rattle.qm_denot.specs.declared.Letter.TheVariants.{Had}
use Rattle.qm_denot.specs.Wires.{Wires}
use Rattle.qm_denot.specs.Circuits.{with_letter}
use Rattle.qm_denot.specs.LettersByPlace.{had_at}
use Rattle.qm_denot.specs.ListStores.{listed_value}
use Rattle.qm_denot.proofs.KeepingLaws.{value_had, keeps_reduced, does_reduced}
use Rattle.qm_denot.proofs.OverflowLaws.{overflows_where_unfit, never_overflows}
use Rattle.qm_store.proofs.StoreLaws.{some_unfit, keeps_same, store_same}
use Rattle.qm_store.specs.Numerators.{items_of}
use Rattle.qm_store.proofs.ScaledAmps.had.Goals as goal
use Rattle.qm_store.proofs.ScaledAmps.had.Goals.{After-had}

-- the values after the letter, before the division by root2
values : (c : After-had) (mid : List Zw) → IsListOf mid (length (items_of c.args.self.now.numerators)) (had_at c.place_of-place.result (number_at (items_of c.args.self.now.numerators)))
    → (x : Wires) → listed_value c.args.self.now.live.items mid x ≡ with_letter (Had c.args.w) (listed_value c.args.self.now.live.items (items_of c.args.self.now.numerators)) x
values c mid made =
    let s = c.args.self.now in
    value_had s.live.items (items_of s.numerators) mid s.kept.distinct s.size c.place_of-place.result c.args.w (rw c.deref.ensures.value at c.place_of-place.ensures.first)
    made.numbers

-- either way a test went
either : {P : Type 0} (b : Bool) → (b ≡ true → P) → (b ≡ false → P) → P
either true f g = f refl
either false f g = g refl

pub invariant_of-self : goal.invariant_of-self
invariant_of-self c =
    let s = c.args.self.now in
    let at = goal.at.invariant_of-self c in
    record {
      small = s.small;
      few = s.few;
      live_room = s.live_room;
      size = c.had.ensures.size ∙ s.size;
      room = omega (arith, s.room, c.had.ensures.room);
      kept = either c.had.result
          (λ ok.
          let into = c.had.ensures.done ok in
          keeps_reduced (Had c.args.w) s.live.items s.exponent c.had.new.exponent (items_of s.numerators) into.0 (items_of c.had.new.self)
          (into.1.size ∙ s.size) s.kept (values at.After-had into.0 into.1) into.2)
          (λ no. rw (c.had.ensures.exponent no) (keeps_same s.live.items (items_of s.numerators) (items_of c.had.new.self) s.exponent (c.had.ensures.same no) s.kept));
    }

pub returns-then-not-had-clause-unchanged : goal.returns-then-not-had-clause-unchanged
returns-then-not-had-clause-unchanged c =
    let s = c.args.self.now in
    rw (c.had.ensures.exponent c.if-not-had.true)
    (store_same s.capacity s.live.items (items_of s.numerators) (items_of c.had.new.self) s.exponent (c.had.ensures.same c.if-not-had.true))

pub returns-clause-does : goal.returns-clause-does
returns-clause-does c =
    let s = c.args.self.now in
    let at = goal.at.returns-clause-does c in
    let into = c.had.ensures.done c.if-not-had.false in
    does_reduced (Had c.args.w) s.live.items s.exponent c.had.new.exponent (items_of s.numerators) into.0 (items_of c.had.new.self)
    (into.1.size ∙ s.size) s.kept (values at.After-had into.0 into.1) into.2 s.capacity refl

pub returns-clause-overflow : goal.returns-clause-overflow
returns-clause-overflow c =
    let s = c.args.self.now in
    let first = rw c.deref.ensures.value at c.place_of-place.ensures.first in
    let fits : (k : ℕ) → k < length (items_of s.numerators) → FitsZw (had_at c.place_of-place.result (number_at (items_of s.numerators)) k) =
    c.had.ensures.fits.0 c.if-not-had.false in
    ((λ h. absurd (false≢true h)), (λ over. absurd (never_overflows s.live.items (items_of s.numerators) s.kept.distinct s.size c.place_of-place.result c.args.w first s.capacity s.exponent fits over)))

pub returns-then-not-had-clause-overflow : goal.returns-then-not-had-clause-overflow
returns-then-not-had-clause-overflow c =
    let s = c.args.self.now in
    let first = rw c.deref.ensures.value at c.place_of-place.ensures.first in
    let unfit = some_unfit (length (items_of s.numerators)) (had_at c.place_of-place.result (number_at (items_of s.numerators)))
    (λ all. false≢true (sym c.if-not-had.true ∙ c.had.ensures.fits.1 all)) in
    ((λ _. overflows_where_unfit s.live.items (items_of s.numerators) s.kept.distinct s.size c.place_of-place.result c.args.w first s.capacity s.exponent unfit), (λ _. search rules))
