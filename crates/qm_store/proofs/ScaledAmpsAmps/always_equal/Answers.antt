use Rattle.std.proofs.lemmas.Bool.{not-true, not-false}
use Rattle.qm_denot.proofs.PlaceBounds.{size_small}
use Rattle.qm_denot.proofs.BranchLaws.{difference_from_index, equal_from_indexes}
use Rattle.qm_store.specs.Numerators.{items_of}
use Rattle.qm_store.proofs.ScaledAmpsAmps.always_equal.Goals as goal

pub any_unequal-requires-clause-small : goal.any_unequal-requires-clause-small
any_unequal-requires-clause-small c = let s = c.args.self.now in (size_small _ _ _ s.size s.few s.small)

pub returns-clause-yes : goal.returns-clause-yes
returns-clause-yes c = λ none.
    let s = c.args.self.now in
    equal_from_indexes s.live.items (items_of s.numerators) s.kept.distinct
    c.place_of-one.result c.args.w (rw c.deref.ensures.value at c.place_of-one.ensures.first)
    c.place_of-other.result c.args.v (rw c.deref-2.ensures.value at c.place_of-other.ensures.first)
    (rw s.size at (c.any_unequal.ensures.no (not-true _ none)))

pub returns-clause-no : goal.returns-clause-no
returns-clause-no c = λ found.
    let s = c.args.self.now in
    difference_from_index s.live.items (items_of s.numerators) s.kept.distinct
    c.place_of-one.result c.args.w (rw c.deref.ensures.value at c.place_of-one.ensures.first)
    c.place_of-other.result c.args.v (rw c.deref-2.ensures.value at c.place_of-other.ensures.first)
    (rw s.size at (c.any_unequal.ensures.yes (not-false _ found)))
