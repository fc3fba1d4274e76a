use Rattle.std.proofs.Common.{◌≡◌, ◌<◌, true, None, length, sym, subst}
use Rattle.qm_owner.specs.Places.{PlaceMap, is_known, place_of, IsFree, IsPlacing}
use Rattle.qm_owner.proofs.Keeping.{kept_with}
use Rattle.qm_owner.proofs.Placing.{placing_with}
use Rattle.qm_owner.proofs.Places.put.Goals as goal

pub invariant_of-self : goal.invariant_of-self
invariant_of-self c =
    let back = sym c.self.view_is in
    let parts = c.self.inside in
    kept_with parts.placed _ parts.slots.items _ parts.capacity c.args.w c.args.p c.self.invariant
    (subst (λ (m : PlaceMap). place_of m.placed c.args.w ≡ None) back c.requires.absent)
    (subst (λ (m : PlaceMap). is_known m.ranks c.args.p ≡ true) back c.requires.known)
    (subst (λ (m : PlaceMap). IsFree m.placed c.args.p) back c.requires.free)
    (subst (λ (m : PlaceMap). length m.placed < m.capacity) back c.requires.room)
    c.push_reserved.ensures.items c.push_reserved.ensures.capacity c.set_slot.ensures

pub returns-clause-placing : goal.returns-clause-placing
returns-clause-placing c =
    let back = sym c.self.view_is in
    let parts = c.self.inside in
    subst IsPlacing (sym c.push_reserved.ensures.items) (placing_with parts.placed.items c.args.w c.args.p c.self.invariant.placing
    (subst (λ (m : PlaceMap). place_of m.placed c.args.w ≡ None) back c.requires.absent)
    (subst (λ (m : PlaceMap). IsFree m.placed c.args.p) back c.requires.free))
