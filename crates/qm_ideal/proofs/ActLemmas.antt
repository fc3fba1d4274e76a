-- What the acts of a rank leave of where it stands, and of its count
use Rattle.std.proofs.Common.{◌≡◌, ℕ, ◌+◌, ◌≤◌, List, [], ◌∷◌, fold, refl, ap, ◌∙◌, arith}
use Rattle.qm_proto.specs.Model.Ideal.{IdealPart, IdealTables, IdealAct, Counts, SlotSet, Puts, Takes, OwnUsed, BitSet, ideal_after_act}
use Rattle.qm_proto.proofs.Changes.{with_at-here}

module _ (r : ℕ) where
  -- an act leaves a rank where it stands
  at_done : (a : IdealAct) (t : IdealTables) → ((ideal_after_act r t a).parts r).at ≡ (t.parts r).at
  at_done Counts t = ap (λ (x : IdealPart). x.at) (with_at-here t.parts r _)
  at_done OwnUsed t = ap (λ (x : IdealPart). x.at) (with_at-here t.parts r _)
  at_done (BitSet b v) t = ap (λ (x : IdealPart). x.at) (with_at-here t.parts r _)
  at_done (SlotSet q w) t = refl
  at_done (Puts a x) t = refl
  at_done (Takes a) t = refl

  pub at_all_done : (acts : List IdealAct) (t : IdealTables) → ((fold (ideal_after_act r) t acts).parts r).at ≡ (t.parts r).at
  at_all_done [] t = refl
  at_all_done (a ∷ acts) t = at_all_done acts (ideal_after_act r t a) ∙ at_done a t

  -- and counts at most one wire
  pub made_done : (a : IdealAct) (t : IdealTables) → ((ideal_after_act r t a).parts r).made ≤ (t.parts r).made + 1
  made_done Counts t = let e : ((ideal_after_act r t Counts).parts r).made ≡ (t.parts r).made + 1 = ap (λ (x : IdealPart). x.made) (with_at-here t.parts r _) in omega (arith, e)
  made_done OwnUsed t = let e : ((ideal_after_act r t OwnUsed).parts r).made ≡ (t.parts r).made = ap (λ (x : IdealPart). x.made) (with_at-here t.parts r _) in omega (arith, e)
  made_done (BitSet b v) t = let e : ((ideal_after_act r t (BitSet b v)).parts r).made ≡ (t.parts r).made = ap (λ (x : IdealPart). x.made) (with_at-here t.parts r _) in omega (arith, e)
  made_done (SlotSet q w) t = omega arith
  made_done (Puts a x) t = omega arith
  made_done (Takes a) t = omega arith
