use Rattle.std.proofs.Common.{◌∙◌, sym, ap, subst}
use Rattle.qm_owner.specs.Places.{PlaceMap, place_of, IsFree}
use Rattle.qm_owner.proofs.Placing.{gone, free_without}
use Rattle.qm_owner.proofs.Places.shift.Goals as goal

pub put-requires-clause-absent : goal.put-requires-clause-absent
put-requires-clause-absent c =
    ap (λ (m : PlaceMap). place_of m.placed c.args.w) c.take.ensures.rest
    ∙ gone c.args.self.now.placed c.args.w

pub put-requires-clause-free : goal.put-requires-clause-free
put-requires-clause-free c =
    subst (λ (m : PlaceMap). IsFree m.placed c.args.p) (sym c.take.ensures.rest) (free_without c.args.self.now.placed c.args.w c.args.p c.requires.free)
