-- Each step keeps each wire at one place
use Rattle.std.proofs.Common.{◌≡◌, ℕ, ◌+◌, nat_lt, Bool, true, false, [], ◌∷◌, length, drop, Some, None, refl, ap, subst, arith}
use Rattle.std.proofs.lemmas.Option.{same_Some}
use Rattle.qm_denot.specs.declared.Wire.{Wire}
use Rattle.qm_instr.specs.declared.Instr.{Instr}
use Rattle.qm_instr.specs.declared.Instr.TheVariants as instr
use Rattle.qm_instr.specs.declared.Kind.TheVariants as kind
use Rattle.qm_instr.specs.declared.Lane.{Lane}
use Rattle.qm_instr.specs.Lanes.{lane}
use Rattle.qm_instr.specs.Programs.{Programs}
use Rattle.qm_proto.specs.Model.Ideal.{IdealTables, Carried, Told, Token, Counts, SlotSet, Puts, Takes, OwnUsed, BitSet, ideal_after_act, ideal_past_instr, ideal_holds, ideal_wire_made, wire_carried, load_at}
use Rattle.qm_confluence.proofs.Confluence.Effects.{stepped}
use Rattle.qm_confluence.proofs.Confluence.ByView.{rule_of, acts_by, view}
use Rattle.qm_confluence.proofs.Confluence.OnePlace.{ArePlaced, IsFree, carries, placed_part, made_free, placed_slot, placed_out, free_out, placed_put, placed_take, taken_free}

module _ (p : Programs) (r : ℕ) where
  moved_placed : (t : IdealTables) → ArePlaced t → ArePlaced (ideal_past_instr t r)
  moved_placed t h = placed_part t r (record (t.parts r) { at = (t.parts r).at + 1 }) (omega arith) h

  count_placed : (t : IdealTables) → ArePlaced t → ArePlaced (ideal_after_act r t Counts)
  count_placed t h = placed_part t r (record (t.parts r) { made = (t.parts r).made + 1 }) (omega arith) h

  bit_placed : (t : IdealTables) (b : ℕ) (v : Bool) → ArePlaced t → ArePlaced (ideal_after_act r t (BitSet b v))
  bit_placed t b v h = placed_part t r _ (omega arith) h

  own_placed : (t : IdealTables) → ArePlaced t → ArePlaced (ideal_after_act r t OwnUsed)
  own_placed t h = placed_part t r (record (t.parts r) { own = drop 1 (t.parts r).own }) (omega arith) h

  -- a wire that is free goes into a slot, or onto a lane
  slot_placed : (t : IdealTables) (q : ℕ) (w : Wire) → IsFree t w → ArePlaced t → ArePlaced (ideal_after_act r t (SlotSet q (Some w)))
  slot_placed t q w free h = placed_slot t r q (Some w) (λ v e. subst (IsFree t) (same_Some w v e) free) h

  carried_placed : (t : IdealTables) (a : Lane) (w : Wire) → IsFree t w → ArePlaced t → ArePlaced (ideal_after_act r t (Puts a (Carried w)))
  carried_placed t a w free h = placed_put t r a (Carried w) (λ v e. subst (IsFree t) (ap wire_carried e) free) (λ _. refl) h

  -- a bit or a token goes onto a lane that carries no wires
  token_placed : (t : IdealTables) (a : Lane) → carries a.kind ≡ false → ArePlaced t → ArePlaced (ideal_after_act r t (Puts a Token))
  token_placed t a none h = placed_put t r a Token (λ w e. absurd (let n : ⊥ = cc in n)) (λ k. absurd (let n : ⊥ = cc in n)) h

  told_placed : (t : IdealTables) (a : Lane) (b : Bool) → carries a.kind ≡ false → ArePlaced t → ArePlaced (ideal_after_act r t (Puts a (Told b)))
  told_placed t a b none h = placed_put t r a (Told b) (λ w e. absurd (let n : ⊥ = cc in n)) (λ k. absurd (let n : ⊥ = cc in n)) h

  -- the wire at the front of a lane goes into a slot
  taking_placed : (t : IdealTables) (a : Lane) (q : ℕ) → carries a.kind ≡ true → nat_lt 0 (length (t.lanes a)) ≡ true → ArePlaced t
      → ArePlaced (stepped r (Takes a ∷ SlotSet q (Some (wire_carried (load_at t a))) ∷ []) t)
  taking_placed t a q wires some h =
      let u = ideal_after_act r t (Takes a) in
      let w = wire_carried (load_at t a) in
      moved_placed (ideal_after_act r u (SlotSet q (Some w))) (slot_placed u q w (taken_free t r a h wires some) (placed_take t r a h))

  pub step_placed : (t : IdealTables) (i : Instr) → ideal_holds p t (rule_of r i) ≡ true → ArePlaced t → ArePlaced (stepped r (acts_by r i (view p t r i)) t)
  step_placed t (instr.Alloc q) holds h =
      let u = ideal_after_act r t Counts in
      moved_placed _ (slot_placed u q (ideal_wire_made t r) (made_free t r h) (count_placed t h))
  step_placed t (instr.Do g) holds h = moved_placed t h
  step_placed t (instr.Free q) holds h = moved_placed _ (placed_out t r q h)
  step_placed t (instr.Measure q b) holds h = moved_placed _ (bit_placed _ b _ (own_placed t h))
  step_placed t (instr.Set b x) holds h = moved_placed _ (bit_placed t b x h)
  step_placed t (instr.Xor b c) holds h = moved_placed _ (bit_placed t b _ h)
  step_placed t (instr.When b g) holds h = moved_placed t h
  step_placed t (instr.SendBit b to tag) holds h = moved_placed _ (told_placed t (lane r to kind.Bit tag) _ refl h)
  step_placed t (instr.RecvBit b from tag) holds h = moved_placed _ (bit_placed _ b _ (placed_take t r (lane from r kind.Bit tag) h))
  step_placed t (instr.CopyTo q to tag) holds h =
      let u = ideal_after_act r t Counts in
      moved_placed _ (carried_placed u (lane r to kind.Copy tag) (ideal_wire_made t r) (made_free t r h) (count_placed t h))
  step_placed t (instr.CopyFrom q from tag) holds h = taking_placed t (lane from r kind.Copy tag) q refl holds h
  step_placed t (instr.UndoTo q to tag) holds h = moved_placed _ (token_placed _ (lane r to kind.Undo tag) refl (placed_out t r q h))
  step_placed t (instr.UndoFrom q from tag) holds h = moved_placed _ (placed_take t r (lane from r kind.Undo tag) h)
  step_placed t (instr.MoveTo q to tag) holds h =
      let u = ideal_after_act r t Counts in
      let f = ideal_wire_made t r in
      let out = ideal_after_act r u (SlotSet q None) in
      moved_placed _ (carried_placed out (lane r to kind.Move tag) f (free_out u r q f (made_free t r h)) (placed_out u r q (count_placed t h)))
  step_placed t (instr.MoveFrom q from tag) holds h = taking_placed t (lane from r kind.Move tag) q refl holds h
  step_placed t (instr.ReachTo q to tag) holds h = moved_placed _ (placed_take _ r (lane to r kind.Back tag) (count_placed t h))
  step_placed t (instr.ReachFrom q from tag) holds h = moved_placed _ (token_placed t (lane r from kind.Back tag) refl h)
