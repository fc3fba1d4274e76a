-- A wire that a letter took away is counted and has no place, after each step of an ideal run
use Rattle.std.proofs.Common.{◌≡◌, ℕ, ◌<◌, ◌⊎◌, inl, inr, nat_lt, true, List, [], ◌∷◌, length, drop, Option, Some, None, Contains, refl, sym, ap, subst, ◌∙◌, arith}
use Rattle.std.proofs.lemmas.Option.{same_Some}
use Rattle.qm_denot.specs.declared.Wire.{Wire}
use Rattle.qm_instr.specs.declared.Instr.{Instr}
use Rattle.qm_instr.specs.declared.Instr.TheVariants as instr
use Rattle.qm_instr.specs.declared.Kind.TheVariants as kind
use Rattle.qm_instr.specs.declared.Lane.{Lane}
use Rattle.qm_instr.specs.Lanes.{lane}
use Rattle.qm_instr.specs.Programs.{Programs}
use Rattle.qm_proto.specs.Model.Ideal.{IdealTables, Load, Carried, IdealAct, Counts, SlotSet, Puts, Takes, OwnUsed, BitSet, ideal_after_act, ideal_wire_made, wire_carried, load_at}
use Rattle.qm_proto.proofs.Changes.{by_lane}
use Rattle.qm_confluence.specs.Counted.{IsCounted}
use Rattle.qm_confluence.proofs.Confluence.Effects.{stepped, acts_done}
use Rattle.qm_confluence.proofs.Confluence.ByView.{acts_by, view}
use Rattle.qm_confluence.proofs.Confluence.Helpers.{IsNextInstr}
use Rattle.qm_confluence.proofs.Confluence.IdealWires.{contains_drop, counted_on}
use Rattle.qm_confluence.proofs.Confluence.NamedWires.{step_grows}
use Rattle.qm_confluence.proofs.Confluence.OnePlace.{Spot, InSlot, OnLane, Stands, ArePlaced, IsFree, slot_cases, put_cases, front_wire, front_there}

-- the wire comes to its place by this act
abbrev Brought : IdealAct → Wire → Type 0
Brought (SlotSet q o) w = o ≡ Some w
Brought (Puts a x) w = x ≡ Carried w
Brought _ w = ⊥

abbrev AnyBrought : List IdealAct → Wire → Type 0
AnyBrought [] w = ⊥
AnyBrought (a ∷ acts) w = Brought a w ⊎ AnyBrought acts w

module _ (r : ℕ) (w : Wire) where
  same_part : (t : IdealTables) (a : IdealAct) (s : Spot) → (ideal_after_act r t a).slots ≡ t.slots → (ideal_after_act r t a).lanes ≡ t.lanes
      → Stands (ideal_after_act r t a) w s → Stands t w s
  same_part t a (InSlot k q) e f h = ap (λ (g : ℕ → ℕ → Option Wire). g k q) (sym e) ∙ h
  same_part t a (OnLane b) e f h = subst (λ (g : Lane → List Load). Contains (g b) (Carried w)) f h

  -- what stands somewhere after an act stood there before, or was brought
  one_back : (t : IdealTables) (a : IdealAct) (s : Spot) → Stands (ideal_after_act r t a) w s → Stands t w s ⊎ Brought a w
  one_back t Counts s h = inl (same_part t Counts s refl refl h)
  one_back t OwnUsed s h = inl (same_part t OwnUsed s refl refl h)
  one_back t (BitSet b v) s h = inl (same_part t (BitSet b v) s refl refl h)
  one_back t (SlotSet q o) s h = elim (slot_cases t r q o w s h) [ inl x ↦ inl x | inr n ↦ inr n.1 ]
  one_back t (Puts a x) s h = elim (put_cases t r a x w s h) [ inl y ↦ inl y | inr n ↦ inr n.1 ]
  one_back t (Takes a) (InSlot k q) h = inl h
  one_back t (Takes a) (OnLane b) h =
      inl (by_lane (λ xs. Contains xs (Carried w) → Contains (t.lanes b) (Carried w)) t.lanes a (drop 1 (t.lanes a)) b
      (λ e c. subst (λ d. Contains (t.lanes d) (Carried w)) (sym e) (contains_drop (t.lanes a) (Carried w) c)) (λ _ c. c) h)

  all_back : (acts : List IdealAct) (t : IdealTables) (s : Spot) → Stands (acts_done r acts t) w s → Stands t w s ⊎ AnyBrought acts w
  all_back [] t s h = inl h
  all_back (a ∷ acts) t s h = elim (all_back acts (ideal_after_act r t a) s h) [
    | inl x ↦ elim (one_back t a s x) [ inl y ↦ inl y | inr b ↦ inr (inl b) ]
    | inr b ↦ inr (inr b)
  ]

  past_back : (acts : List IdealAct) (t : IdealTables) (s : Spot) → Stands (stepped r acts t) w s → Stands (acts_done r acts t) w s
  past_back acts t (InSlot k q) h = h
  past_back acts t (OnLane a) h = h

module _ (p : Programs) (t : IdealTables) (r : ℕ) (placed : ArePlaced t) (w : Wire) where
  -- a wire that is brought is the one that the rank counts next, or comes from a lane
  abbrev IsFrom : Type 0
  IsFrom = (w ≡ ideal_wire_made t r) ⊎ ((a : Lane) × Stands t w (OnLane a))

  from_front : (a : Lane) → nat_lt 0 (length (t.lanes a)) ≡ true → (load_at t a ≡ Carried (wire_carried (load_at t a))) → wire_carried (load_at t a) ≡ w → IsFrom
  from_front a some is e = inr (a, subst (λ x. Contains (t.lanes a) x) (is ∙ ap (λ v. Carried v) e) (front_there (t.lanes a) some))

  brought_from : (i : Instr) → IsNextInstr p t r i → AnyBrought (acts_by r i (view p t r i)) w → IsFrom
  brought_from (instr.Alloc q) next (inr (inl e)) = inl (sym (same_Some _ _ e))
  brought_from (instr.Alloc q) next (inl h) = absurd h
  brought_from (instr.Alloc q) next (inr (inr h)) = absurd h
  brought_from (instr.CopyTo q to tag) next (inr (inl e)) = inl (sym (ap wire_carried e))
  brought_from (instr.CopyTo q to tag) next (inl h) = absurd h
  brought_from (instr.CopyTo q to tag) next (inr (inr h)) = absurd h
  brought_from (instr.MoveTo q to tag) next (inr (inr (inl e))) = inl (sym (ap wire_carried e))
  brought_from (instr.MoveTo q to tag) next (inl h) = absurd h
  brought_from (instr.MoveTo q to tag) next (inr (inl e)) = absurd (let n : ⊥ = cc in n)
  brought_from (instr.MoveTo q to tag) next (inr (inr (inr h))) = absurd h
  brought_from (instr.CopyFrom q from tag) next (inr (inl e)) =
      let a = lane from r kind.Copy tag in from_front a next.holds (front_wire (t.lanes a) next.holds (placed.wired a refl)) (same_Some _ _ e)
  brought_from (instr.CopyFrom q from tag) next (inl h) = absurd h
  brought_from (instr.CopyFrom q from tag) next (inr (inr h)) = absurd h
  brought_from (instr.MoveFrom q from tag) next (inr (inl e)) =
      let a = lane from r kind.Move tag in from_front a next.holds (front_wire (t.lanes a) next.holds (placed.wired a refl)) (same_Some _ _ e)
  brought_from (instr.MoveFrom q from tag) next (inl h) = absurd h
  brought_from (instr.MoveFrom q from tag) next (inr (inr h)) = absurd h
  brought_from (instr.Free q) next (inl e) = absurd (let n : ⊥ = cc in n)
  brought_from (instr.Free q) next (inr h) = absurd h
  brought_from (instr.UndoTo q to tag) next (inl e) = absurd (let n : ⊥ = cc in n)
  brought_from (instr.UndoTo q to tag) next (inr (inl e)) = absurd (let n : ⊥ = cc in n)
  brought_from (instr.UndoTo q to tag) next (inr (inr h)) = absurd h
  brought_from (instr.SendBit b to tag) next (inl e) = absurd (let n : ⊥ = cc in n)
  brought_from (instr.SendBit b to tag) next (inr h) = absurd h
  brought_from (instr.ReachFrom q from tag) next (inl e) = absurd (let n : ⊥ = cc in n)
  brought_from (instr.ReachFrom q from tag) next (inr h) = absurd h
  brought_from (instr.Measure q b) next (inl h) = absurd h
  brought_from (instr.Measure q b) next (inr (inl h)) = absurd h
  brought_from (instr.Measure q b) next (inr (inr h)) = absurd h
  brought_from (instr.Set b x) next (inl h) = absurd h
  brought_from (instr.Set b x) next (inr h) = absurd h
  brought_from (instr.Xor b c) next (inl h) = absurd h
  brought_from (instr.Xor b c) next (inr h) = absurd h
  brought_from (instr.RecvBit b from tag) next (inl h) = absurd h
  brought_from (instr.RecvBit b from tag) next (inr (inl h)) = absurd h
  brought_from (instr.RecvBit b from tag) next (inr (inr h)) = absurd h
  brought_from (instr.UndoFrom q from tag) next (inl h) = absurd h
  brought_from (instr.UndoFrom q from tag) next (inr h) = absurd h
  brought_from (instr.ReachTo q to tag) next (inl h) = absurd h
  brought_from (instr.ReachTo q to tag) next (inr (inl h)) = absurd h
  brought_from (instr.ReachTo q to tag) next (inr (inr h)) = absurd h
  brought_from (instr.Do g) next h = absurd h
  brought_from (instr.When b g) next h = absurd h

  -- a counted wire is not the one that is counted next
  pub not_made : IsCounted t w → w ≡ ideal_wire_made t r → ⊥
  not_made counted e = let c : (t.parts r).made < (t.parts r).made = (subst (IsCounted t) e counted).below in omega (arith, c)

  -- so a counted wire stands after a step where it stood, or it was on a lane
  pub stood_before : (i : Instr) → IsNextInstr p t r i → IsCounted t w → (s : Spot) → Stands (stepped r (acts_by r i (view p t r i)) t) w s
      → Stands t w s ⊎ ((a : Lane) × Stands t w (OnLane a))
  stood_before i next counted s h =
      let acts = acts_by r i (view p t r i) in
      elim (all_back r w acts t s (past_back r w acts t s h)) [
        | inl x ↦ inl x
        | inr b ↦ elim (brought_from i next b) [ inl e ↦ absurd (not_made counted e) | inr x ↦ inr x ]
      ]

  -- one without a place has none after it
  pub still_free : (i : Instr) → IsNextInstr p t r i → IsFree t w → IsFree (stepped r (acts_by r i (view p t r i)) t) w
  still_free i next free =
      let acts = acts_by r i (view p t r i) in
      record {
        counted = counted_on t (stepped r acts t) w (step_grows r acts t) free.counted;
        nowhere = λ s h. elim (stood_before i next free.counted s h) [ inl x ↦ free.nowhere s x | inr x ↦ free.nowhere (OnLane x.0) x.1 ];
      }

  -- and neither has one whose slot is emptied
  pub free_once_emptied : (i : Instr) → IsNextInstr p t r i → (q : ℕ) → t.slots r q ≡ Some w → (stepped r (acts_by r i (view p t r i)) t).slots r q ≡ None
      → IsFree (stepped r (acts_by r i (view p t r i)) t) w
  free_once_emptied i next q there empty =
      let acts = acts_by r i (view p t r i) in
      let u = stepped r acts t in
      let counted : IsCounted t w = placed.counted w (InSlot r q) there in
      record {
        counted = counted_on t u w (step_grows r acts t) counted;
        nowhere = λ s h. elim (stood_before i next counted s h) [
          | inl x ↦ (let here : u.slots r q ≡ Some w = subst (Stands u w) (placed.one w s (InSlot r q) x there) h in let e = sym empty ∙ here in cc)
          | inr x ↦ (let e = placed.one w (OnLane x.0) (InSlot r q) x.1 there in cc)
        ];
      }
