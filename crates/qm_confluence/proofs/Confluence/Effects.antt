-- What the acts of a rank do to each part of the tables: to its own part, to its own slots, and to each lane
use Rattle.std.proofs.Common.{◌≡◌, ◌≢◌, ℕ, ◌+◌, nat_eq, Bool, true, false, cond, ◌&&◌, List, [], ◌∷◌, ◌++◌, drop, fold, Option, refl, sym, ap, ◌∙◌}
use Rattle.std.specs.Prelude.{slice_set}
use Rattle.qm_denot.specs.declared.Wire.{Wire}
use Rattle.qm_instr.specs.declared.Lane.{Lane}
use Rattle.qm_instr.specs.Lanes.{is_lane}
use Rattle.qm_instr.proofs.LaneOrder.{same_lane}
use Rattle.qm_proto.specs.Model.State.{with_lane}
use Rattle.qm_proto.specs.Model.Ideal.{IdealPart, IdealTables, Load, IdealAct, Counts, SlotSet, Puts, Takes, OwnUsed, BitSet, ideal_after_act, ideal_past_instr}
use Rattle.qm_proto.proofs.Changes.{with_at-here, with_at-elsewhere, with_slot-elsewhere, number_itself}

-- ---- what an act of a rank does to its part, to its slot q, and to lane c
abbrev pub part_act : IdealPart → IdealAct → IdealPart
part_act x Counts = record x { made = x.made + 1 }
part_act x OwnUsed = record x { own = drop 1 x.own }
part_act x (BitSet b v) = record x { bits = slice_set x.bits b v }
part_act x _ = x

abbrev pub slot_act : ℕ → Option Wire → IdealAct → Option Wire
slot_act q o (SlotSet k w) = cond (nat_eq q k) w o
slot_act q o _ = o

abbrev pub lane_act : Lane → List Load → IdealAct → List Load
lane_act c xs (Puts a x) = cond (is_lane c a) (xs ++ x ∷ []) xs
lane_act c xs (Takes a) = cond (is_lane c a) (drop 1 xs) xs
lane_act c xs _ = xs

abbrev pub acts_done : ℕ → List IdealAct → IdealTables → IdealTables
acts_done r acts t = fold (ideal_after_act r) t acts

module _ (r : ℕ) where
  part_one : (a : IdealAct) (t : IdealTables) → (ideal_after_act r t a).parts r ≡ part_act (t.parts r) a
  part_one Counts t = with_at-here t.parts r _
  part_one OwnUsed t = with_at-here t.parts r _
  part_one (BitSet b v) t = with_at-here t.parts r _
  part_one (SlotSet q w) t = refl
  part_one (Puts a x) t = refl
  part_one (Takes a) t = refl

  part_done : (acts : List IdealAct) (t : IdealTables) → (acts_done r acts t).parts r ≡ fold part_act (t.parts r) acts
  part_done [] t = refl
  part_done (a ∷ acts) t = part_done acts (ideal_after_act r t a) ∙ ap (λ x. fold part_act x acts) (part_one a t)

  slot_one : (q : ℕ) (a : IdealAct) (t : IdealTables) → (ideal_after_act r t a).slots r q ≡ slot_act q (t.slots r q) a
  slot_one q (SlotSet k w) t = ap (λ b. cond (b && nat_eq q k) w (t.slots r q)) (number_itself r)
  slot_one q Counts t = refl
  slot_one q OwnUsed t = refl
  slot_one q (BitSet b v) t = refl
  slot_one q (Puts a x) t = refl
  slot_one q (Takes a) t = refl

  slot_done : (q : ℕ) (acts : List IdealAct) (t : IdealTables) → (acts_done r acts t).slots r q ≡ fold (slot_act q) (t.slots r q) acts
  slot_done q [] t = refl
  slot_done q (a ∷ acts) t = slot_done q acts (ideal_after_act r t a) ∙ ap (λ x. fold (slot_act q) x acts) (slot_one q a t)

  lane_by : (f : Lane → List Load) (a c : Lane) (g : List Load → List Load) → with_lane f a (g (f a)) c ≡ cond (is_lane c a) (g (f c)) (f c)
  lane_by f a c g = by_bool (is_lane c a) refl
    where
      by_bool : (b : Bool) → is_lane c a ≡ b → cond b (g (f a)) (f c) ≡ cond b (g (f c)) (f c)
      by_bool true same = ap (λ (d : Lane). g (f d)) (sym (same_lane c a same))
      by_bool false other = refl

  lane_one : (c : Lane) (a : IdealAct) (t : IdealTables) → (ideal_after_act r t a).lanes c ≡ lane_act c (t.lanes c) a
  lane_one c (Puts a x) t = lane_by t.lanes a c (λ xs. xs ++ x ∷ [])
  lane_one c (Takes a) t = lane_by t.lanes a c (λ xs. drop 1 xs)
  lane_one c Counts t = refl
  lane_one c OwnUsed t = refl
  lane_one c (BitSet b v) t = refl
  lane_one c (SlotSet q w) t = refl

  lane_done : (c : Lane) (acts : List IdealAct) (t : IdealTables) → (acts_done r acts t).lanes c ≡ fold (lane_act c) (t.lanes c) acts
  lane_done c [] t = refl
  lane_done c (a ∷ acts) t = lane_done c acts (ideal_after_act r t a) ∙ ap (λ x. fold (lane_act c) x acts) (lane_one c a t)

  -- other ranks' parts and slots stay
  module _ (k : ℕ) (other : k ≢ r) where
    part_else : (acts : List IdealAct) (t : IdealTables) → (acts_done r acts t).parts k ≡ t.parts k
    part_else [] t = refl
    part_else (a ∷ acts) t = part_else acts (ideal_after_act r t a) ∙ one a
      where
        one : (a : IdealAct) → (ideal_after_act r t a).parts k ≡ t.parts k
        one Counts = with_at-elsewhere t.parts r _ k other
        one (SlotSet q w) = refl
        one (Puts b x) = refl
        one (Takes b) = refl
        one OwnUsed = with_at-elsewhere t.parts r _ k other
        one (BitSet b v) = with_at-elsewhere t.parts r _ k other

    slot_else : (q : ℕ) (acts : List IdealAct) (t : IdealTables) → (acts_done r acts t).slots k q ≡ t.slots k q
    slot_else q [] t = refl
    slot_else q (a ∷ acts) t = slot_else q acts (ideal_after_act r t a) ∙ one a
      where
        one : (a : IdealAct) → (ideal_after_act r t a).slots k q ≡ t.slots k q
        one Counts = refl
        one (SlotSet p w) = with_slot-elsewhere t.slots r p w k q (λ s. other s.rank)
        one (Puts b x) = refl
        one (Takes b) = refl
        one OwnUsed = refl
        one (BitSet b v) = refl

-- ---- the tables after a step's acts, and past the instruction
abbrev pub past : IdealPart → IdealPart
past x = record x { at = x.at + 1 }

abbrev pub stepped : ℕ → List IdealAct → IdealTables → IdealTables
stepped r acts t = ideal_past_instr (acts_done r acts t) r

module _ (r : ℕ) (acts : List IdealAct) (t : IdealTables) where
  pub part_stepped : (stepped r acts t).parts r ≡ past (fold part_act (t.parts r) acts)
  part_stepped = let u = acts_done r acts t in with_at-here u.parts r (past (u.parts r)) ∙ ap past (part_done r acts t)

  pub slot_stepped : (q : ℕ) → (stepped r acts t).slots r q ≡ fold (slot_act q) (t.slots r q) acts
  slot_stepped q = slot_done r q acts t

  pub lane_stepped : (c : Lane) → (stepped r acts t).lanes c ≡ fold (lane_act c) (t.lanes c) acts
  lane_stepped c = lane_done r c acts t

  pub part_elsewhere : (k : ℕ) → k ≢ r → (stepped r acts t).parts k ≡ t.parts k
  part_elsewhere k other = let u = acts_done r acts t in with_at-elsewhere u.parts r (past (u.parts r)) k other ∙ part_else r k other acts t

  pub slot_elsewhere : (k : ℕ) → k ≢ r → (q : ℕ) → (stepped r acts t).slots k q ≡ t.slots k q
  slot_elsewhere k other q = slot_else r k other q acts t
