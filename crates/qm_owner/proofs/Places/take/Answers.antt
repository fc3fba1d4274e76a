use Rattle.std.proofs.Common.{◌∙◌, IsSome, length, sym, ap, subst, arith}
use Rattle.qm_owner.specs.Places.{PlaceMap, place_of, IsPlacing}
use Rattle.qm_owner.proofs.Keeping.{known_place, kept_without}
use Rattle.qm_owner.proofs.Placing.{placing_without, shortened}
use Rattle.qm_owner.proofs.Places.take.Goals as goal

pub set_slot-requires : goal.set_slot-requires
set_slot-requires c =
    let at = ap (λ (m : PlaceMap). place_of m.placed c.args.w) c.self.view_is ∙ sym (c.in-Some.ensures).place in
    known_place c.self.inside.placed c.self.inside.slots.items c.self.inside.capacity c.args.w c.in-Some.p c.self.invariant at

pub invariant_of-self : goal.invariant_of-self
invariant_of-self c =
    let at = ap (λ (m : PlaceMap). place_of m.placed c.args.w) c.self.view_is ∙ sym (c.in-Some.ensures).place in
    kept_without c.self.inside.placed _ c.self.inside.slots.items _ c.self.inside.capacity c.args.w c.in-Some.p c.self.invariant at
    c.remove.ensures.rest c.remove.ensures.room c.set_slot.ensures

pub returns-clause-room : goal.returns-clause-room
returns-clause-room c =
    let some = subst (λ (m : PlaceMap). IsSome (place_of m.placed c.args.w)) (sym c.self.view_is) c.requires in
    let less = shortened c.self.inside.placed.items c.args.w some in
    omega (arith, less, c.self.invariant.few, ap (λ xs. length xs) c.remove.ensures.rest)

pub returns-clause-placing : goal.returns-clause-placing
returns-clause-placing c = subst IsPlacing (sym c.remove.ensures.rest) (placing_without c.self.inside.placed.items c.args.w c.self.invariant.placing)
