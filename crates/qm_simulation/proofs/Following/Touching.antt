-- An enabled event touches no wire that is engaged in another message than its own
use Rattle.std.proofs.Common.{◌≡◌, ℕ, zero, suc, ◌-◌, nat_lt, Bool, true, false, ◌⊎◌, inl, inr, List, [], ◌∷◌, drop, Some, None, is_some, refl, sym, ap, subst, ⊎_elim}
use Rattle.qm_denot.specs.declared.Wire.{Wire}
use Rattle.qm_denot.specs.declared.Letter.{Letter}
use Rattle.qm_denot.specs.declared.Letter.TheVariants.{Flip, Had, Cx, Pair, Take, Keep, Phase}
use Rattle.qm_denot.specs.Weights.{operands}
use Rattle.qm_denot.proofs.Partings.{AreNaming, IsAmong}
use Rattle.qm_instr.specs.declared.Instr.{Instr}
use Rattle.qm_instr.specs.declared.Instr.TheVariants as instr
use Rattle.qm_instr.specs.declared.Lane.{Lane}
use Rattle.qm_instr.specs.declared.Kind.TheVariants as kind
use Rattle.qm_instr.specs.Lanes.{lane, lane_sent}
use Rattle.qm_instr.specs.Programs.{Programs, IsInRange}
use Rattle.qm_check.specs.Checks.{IsReady}
use Rattle.qm_check.specs.Operands.{gate_uses}
use Rattle.qm_check.proofs.Faultless.{FindsSlots}
use Rattle.qm_proto.specs.declared.Check.{Check}
use Rattle.qm_proto.specs.Model.State.{Part, Tables, with_at, wire_in, near_made, far_made, wire_of, first_bit, second_bit, bit_of, own_next, protocol_next}
use Rattle.qm_proto.specs.Model.Acts.{list_of, acts_letters}
use Rattle.qm_proto.specs.Model.Rows.{letter, few_if, gate_letter, letter_checks, source_wire}
use Rattle.qm_proto.specs.Model.Runs.{row_checks}
use Rattle.qm_proto.specs.Model.Places.{InSlot, IsAt}
use Rattle.qm_proto.proofs.Changes.{with_at-here}
use Rattle.qm_proto.proofs.TidyActs.{far_made_absent, near_made_absent}
use Rattle.qm_safety.specs.Tables.Well.{middle_of, has_near, is_open}
use Rattle.qm_safety.specs.Tables.Lines.{row_at, acts_of}
use Rattle.qm_simulation.specs.Following.Seen.{tables_seen}
use Rattle.qm_simulation.specs.Following.Debts.{Message, ByPair, BackTo, NoMessage, pair_of, message_of, near_counted, slots_message, IsInCustody}
use Rattle.qm_simulation.specs.Following.Simulation.{check_wires}
use Rattle.qm_safety.proofs.Tables.NextEvents.{IsNext}
use Rattle.qm_confluence.proofs.Confluence.IdealWires.{AreWiresCounted}
use Rattle.qm_simulation.proofs.Following.Places.{IsIn, before_event}
use Rattle.qm_simulation.proofs.Following.Raws.{event_at}
use Rattle.qm_simulation.proofs.Following.Stood.{IsStood}
use Rattle.qm_simulation.proofs.Following.Safe.{step_in, stands_in, operand_at, near_in, settled_at, engaged_so, slot_in, half_in, target_in}
use Rattle.qm_simulation.proofs.Following.Agreeing.{source_wire_at}
use Rattle.qm_simulation.proofs.Following.Events.{one_wire, one_named, two_named, if_named, letters_so, fresh_slots, finds_on}
use Rattle.qm_simulation.proofs.Following.Givings.{asking}
use Rattle.qm_simulation.proofs.Following.Engaged.{IsClear, slot_clear, own_clear, new_clear, one_clear, two_clear, gate_clear}
use Rattle.qm_proto.proofs.Lines.{never}

-- some test of the list looks at the wire
abbrev pub AreLooking : List Check → Wire → Type 0
AreLooking [] w = ⊥
AreLooking (k ∷ ks) w = IsAmong (check_wires k) w ⊎ AreLooking ks w

-- the event's letters name the wire, or its tests look at it
abbrev pub TouchedBy : Programs → Tables → ℕ → Instr → ℕ → Wire → Type 0
TouchedBy p t r i s w = AreNaming (acts_letters r (acts_of (row_at p t r i s)) t) w ⊎ AreLooking (row_checks (row_at p t r i s)) w

looking_one : (w x : Wire) (l : Letter) → AreLooking (list_of (letter_checks l)) x → AreNaming (l ∷ []) x
looking_one w x (Had v) (inl h) = inl h
looking_one w x (Had v) (inr h) = absurd h
looking_one w x _ h = absurd h

looking_if : (b : Bool) (l : Letter) (x : Wire) → AreLooking (list_of (few_if b (letter_checks l))) x → AreNaming (l ∷ []) x
looking_if true l x h = looking_one x x l h
looking_if false l x h = absurd h

module _ (p : Programs) (ready : IsReady p) (ranges : IsInRange p) (t : Tables) (r : ℕ) (stood : IsStood p t) (ideal : AreWiresCounted (tables_seen p t)) where
  -- letters that may be there
  if_clear : (b : Bool) (l : Letter) (k : Message) → ((w : Wire) → AreNaming (l ∷ []) w → IsClear p t k w) → (w : Wire)
      → AreNaming (acts_letters r (list_of (few_if b (letter l))) t) w → IsClear p t k w
  if_clear b l k free w h = free w (if_named b l w (subst (λ ls. AreNaming ls w) (letters_so r t b l) h))

  -- the half of a pair that is new
  pair_clear : (w : Wire) → (near_made t r ≡ w) ⊎ (far_made t r ≡ w) → IsClear p t (ByPair r (t.parts r).made) w
  pair_clear w (inl e) = subst (IsClear p t (ByPair r (t.parts r).made)) e (new_clear p ready ranges t stood ideal (near_made t r) (ByPair r (t.parts r).made) (near_made_absent t stood.well.tidy r) refl)
  pair_clear w (inr e) = subst (IsClear p t (ByPair r (t.parts r).made)) e (new_clear p ready ranges t stood ideal (far_made t r) (ByPair r (t.parts r).made) (far_made_absent t stood.well.tidy r) refl)

  pair_touch : (w : Wire) → AreNaming (Pair (near_made t r) (far_made t r) ∷ []) w ⊎ ⊥ → IsClear p t (ByPair r (t.parts r).made) w
  pair_touch w (inl h) = pair_clear w (two_named (Pair (near_made t r) (far_made t r)) (near_made t r) (far_made t r) w refl h)
  pair_touch w (inr h) = absurd h

  -- the operand of an instruction in the middle
  own_slot : (i : Instr) (s q : ℕ) (k : Message) → IsIn p t r i s → IsAt t (wire_in t r q) (InSlot r q) → nat_lt 0 s ≡ true → message_of r (t.parts r) i ≡ Some k
      → IsClear p t k (wire_in t r q)
  own_slot i s q k here at low message = own_clear p ready ranges t stood ideal (wire_in t r q) k (slot_in p ready ranges t stood r i s here q k at low message)

  own_near : (i : Instr) (s q : ℕ) (a : Lane) (here : IsIn p t r i s) → lane_sent r i ≡ Some a → nat_lt 0 s ≡ true → is_open (middle_of i) s ≡ true
      → message_of r (t.parts r) i ≡ Some (ByPair r ((t.parts r).made - 1)) → IsAt t (wire_in t r q) (InSlot r q) → has_near (middle_of i) s ≡ true
      → IsClear p t (ByPair r ((t.parts r).made - 1)) (near_counted r (t.parts r))
  own_near i s q a here sent low opens message at near =
      own_clear p ready ranges t stood ideal (near_counted r (t.parts r)) (ByPair r ((t.parts r).made - 1)) (near_in p ready ranges t stood r i s q 0 here a sent low opens message at near)

  -- the near half that is measured, after an outcome was used
  near_touch : (k : Message) (m : Bool) → IsClear p t k (near_counted r (t.parts r)) → (w : Wire)
      → (let v = t.parts r in let used : Part = record v { protocol = drop 1 v.protocol } in
      AreNaming (Take (near_counted r (with_at t.parts r used r)) m ∷ []) w ⊎ ⊥ → IsClear p t k w)
  near_touch k m free w (inr h) = absurd h
  near_touch k m free w (inl h) =
      let v = t.parts r in
      let used : Part = record v { protocol = drop 1 v.protocol } in
      let e = near_counted r v in
      let same : near_counted r (with_at t.parts r used r) ≡ e = ap (λ (z : Part). near_counted r z) (with_at-here t.parts r used) in
      subst (IsClear p t k) (one_named (Take e m) e w refl (subst (λ z. AreNaming (Take z m ∷ []) w) same h)) free

  plain_slot : (i : Instr) (q : ℕ) (k : Message) → slots_message p t r ≡ None → IsAt t (wire_in t r q) (InSlot r q) → IsClear p t k (wire_in t r q)
  plain_slot i q k free at = slot_clear p ready ranges t stood ideal r q (wire_in t r q) k at free

  cross_touch : (q : ℕ) → IsClear p t (ByPair r ((t.parts r).made - 1)) (wire_in t r q) → IsClear p t (ByPair r ((t.parts r).made - 1)) (near_counted r (t.parts r)) → (w : Wire)
      → AreNaming (Cx (wire_in t r q) (near_counted r (t.parts r)) ∷ []) w ⊎ ⊥ → IsClear p t (ByPair r ((t.parts r).made - 1)) w
  cross_touch q a b w (inr h) = absurd h
  cross_touch q a b w (inl h) =
      ⊎_elim (λ (e : wire_in t r q ≡ w). subst (IsClear p t (ByPair r ((t.parts r).made - 1))) e a) (λ (e : near_counted r (t.parts r) ≡ w). subst (IsClear p t (ByPair r ((t.parts r).made - 1))) e b)
      (two_named (Cx (wire_in t r q) (near_counted r (t.parts r))) (wire_in t r q) (near_counted r (t.parts r)) w refl h)

  no_checks : (ls : List Letter) (k : Message) → ((w : Wire) → AreNaming ls w → IsClear p t k w) → (w : Wire) → AreNaming ls w ⊎ ⊥ → IsClear p t k w
  no_checks ls k free w (inl h) = free w h
  no_checks ls k free w (inr h) = absurd h

  had_touch : (v : Wire) (k : Message) → IsClear p t k v → (w : Wire) → AreNaming (Had v ∷ []) w ⊎ (IsAmong (v ∷ []) w ⊎ ⊥) → IsClear p t k w
  had_touch v k free w (inl h) = subst (IsClear p t k) (one_named (Had v) v w refl h) free
  had_touch v k free w (inr (inl h)) = subst (IsClear p t k) (one_wire v w h) free
  had_touch v k free w (inr (inr h)) = absurd h

  take_touch : (v : Wire) (k : Message) (m : Bool) → IsClear p t k v → (w : Wire) → AreNaming (Take v m ∷ []) w ⊎ ⊥ → IsClear p t k w
  take_touch v k m free w (inl h) = subst (IsClear p t k) (one_named (Take v m) v w refl h) free
  take_touch v k m free w (inr h) = absurd h

  fix_touch : (b : Bool) (l : Letter) (v : Wire) (k : Message) → operands l ≡ v ∷ [] → IsInCustody p t v k → (w : Wire)
      → AreNaming (acts_letters r (list_of (few_if b (letter l))) t) w ⊎ ⊥ → IsClear p t k w
  fix_touch b l v k is own w (inl h) = if_clear b l k (one_clear p ready ranges t stood ideal l v k is own) w h
  fix_touch b l v k is own w (inr h) = absurd h

  test_touch : (v u : Wire) (k : Message) → IsClear p t k v → IsClear p t k u → (w : Wire)
      → AreNaming (Had v ∷ []) w ⊎ (IsAmong (v ∷ u ∷ []) w ⊎ (IsAmong (v ∷ []) w ⊎ ⊥)) → IsClear p t k w
  test_touch v u k a b w (inl h) = subst (IsClear p t k) (one_named (Had v) v w refl h) a
  test_touch v u k a b w (inr (inl (inl e))) = subst (IsClear p t k) e a
  test_touch v u k a b w (inr (inl (inr h))) = subst (IsClear p t k) (one_wire u w h) b
  test_touch v u k a b w (inr (inr (inl h))) = subst (IsClear p t k) (one_wire v w h) a
  test_touch v u k a b w (inr (inr (inr h))) = absurd h

  nothing_touched : (k : Message) (w : Wire) → ⊥ ⊎ ⊥ → IsClear p t k w
  nothing_touched k w (inl h) = absurd h
  nothing_touched k w (inr h) = absurd h

  -- ---- every event of every instruction
  pub touch_clear : (i : Instr) (s : ℕ) → IsNext p t r i s → (w : Wire) → TouchedBy p t r i s w → IsClear p t (event_at t r i s) w
  touch_clear (instr.Alloc q) zero next w (inl h) = absurd h
  touch_clear (instr.Alloc q) zero next w (inr h) = absurd h
  touch_clear (instr.Set b v) zero next w (inl h) = absurd h
  touch_clear (instr.Set b v) zero next w (inr h) = absurd h
  touch_clear (instr.Xor b c) zero next w (inl h) = absurd h
  touch_clear (instr.Xor b c) zero next w (inr h) = absurd h
  touch_clear (instr.SendBit b to tag) zero next w (inl h) = absurd h
  touch_clear (instr.SendBit b to tag) zero next w (inr h) = absurd h
  touch_clear (instr.RecvBit b from tag) zero next w (inl h) = absurd h
  touch_clear (instr.RecvBit b from tag) zero next w (inr h) = absurd h
  touch_clear (instr.Do g) zero next w h =
      let i = instr.Do g in
      let here = before_event p t r i 0 next in
      let slots : FindsSlots (λ q. is_some (t.slots r q)) (gate_uses g) =
      finds_on p ready ranges t r stood ideal g (λ q. sym ((stands_in p ready ranges t stood r i 0 here).full q)) (step_in p ready ranges t stood r i 0 here).slots in
      let free = gate_clear p ready ranges t stood ideal r g (fresh_slots p ready ranges t r stood ideal i here refl) slots in
      ⊎_elim (λ (a : AreNaming (gate_letter (wire_in t r) g ∷ []) w). free w a) (λ (b : AreLooking (list_of (letter_checks (gate_letter (wire_in t r) g))) w). free w (looking_one w w (gate_letter (wire_in t r) g) b)) h
  touch_clear (instr.When b g) zero next w h =
      let i = instr.When b g in
      let here = before_event p t r i 0 next in
      let l = gate_letter (wire_in t r) g in
      let slots : FindsSlots (λ q. is_some (t.slots r q)) (gate_uses g) =
      finds_on p ready ranges t r stood ideal g (λ q. sym ((stands_in p ready ranges t stood r i 0 here).full q)) (step_in p ready ranges t stood r i 0 here).slots in
      let free = gate_clear p ready ranges t stood ideal r g (fresh_slots p ready ranges t r stood ideal i here refl) slots in
      ⊎_elim (λ (a : AreNaming (acts_letters r (list_of (few_if (bit_of t r b) (letter l))) t) w). if_clear (bit_of t r b) l NoMessage free w a)
      (λ (c : AreLooking (list_of (few_if (bit_of t r b) (letter_checks l))) w). free w (looking_if (bit_of t r b) l w c)) h
  touch_clear (instr.Measure q b) zero next w h =
      let i = instr.Measure q b in
      let here = before_event p t r i 0 next in
      let free = plain_slot i q NoMessage (fresh_slots p ready ranges t r stood ideal i here refl) (operand_at p ready ranges t stood r i 0 here q refl (step_in p ready ranges t stood r i 0 here).slots) in
      by_touch q (own_next t r) free w h
    where
      by_touch : (q : ℕ) (m : Bool) → IsClear p t NoMessage (wire_in t r q) → (w : Wire) → AreNaming (Keep (wire_in t r q) m ∷ []) w ⊎ (IsAmong (wire_in t r q ∷ []) w ⊎ ⊥) → IsClear p t NoMessage w
      by_touch q m free w (inl a) = subst (IsClear p t NoMessage) (one_named (Keep (wire_in t r q) m) (wire_in t r q) w refl a) free
      by_touch q m free w (inr (inl a)) = subst (IsClear p t NoMessage) (one_wire (wire_in t r q) w a) free
      by_touch q m free w (inr (inr a)) = absurd a
  touch_clear (instr.Free q) zero next w h =
      let i = instr.Free q in
      let here = before_event p t r i 0 next in
      let free = plain_slot i q NoMessage (fresh_slots p ready ranges t r stood ideal i here refl) (operand_at p ready ranges t stood r i 0 here q refl (step_in p ready ranges t stood r i 0 here).slots) in
      by_touch q free w h
    where
      by_touch : (q : ℕ) → IsClear p t NoMessage (wire_in t r q) → (w : Wire) → AreNaming (Take (wire_in t r q) false ∷ []) w ⊎ (IsAmong (wire_in t r q ∷ []) w ⊎ ⊥) → IsClear p t NoMessage w
      by_touch q free w (inl a) = subst (IsClear p t NoMessage) (one_named (Take (wire_in t r q) false) (wire_in t r q) w refl a) free
      by_touch q free w (inr (inl a)) = subst (IsClear p t NoMessage) (one_wire (wire_in t r q) w a) free
      by_touch q free w (inr (inr a)) = absurd a
  touch_clear (instr.CopyTo q to tag) zero next w h = pair_touch w h
  touch_clear (instr.MoveTo q to tag) zero next w h = pair_touch w h
  touch_clear (instr.ReachTo q to tag) zero next w h = pair_touch w h
  touch_clear (instr.CopyTo q to tag) (suc zero) next w h =
      let i = instr.CopyTo q to tag in
      let here = before_event p t r i 1 next in
      let at = operand_at p ready ranges t stood r i 1 here q refl (step_in p ready ranges t stood r i 1 here).slots in
      cross_touch q (own_slot i 1 q (ByPair r ((t.parts r).made - 1)) here at refl refl) (own_near i 1 q (lane r to kind.Copy tag) here refl refl refl refl at refl) w h
  touch_clear (instr.MoveTo q to tag) (suc zero) next w h =
      let i = instr.MoveTo q to tag in
      let here = before_event p t r i 1 next in
      let at = operand_at p ready ranges t stood r i 1 here q refl (step_in p ready ranges t stood r i 1 here).slots in
      cross_touch q (own_slot i 1 q (ByPair r ((t.parts r).made - 1)) here at refl refl) (own_near i 1 q (lane r to kind.Move tag) here refl refl refl refl at refl) w h
  touch_clear (instr.ReachTo q to tag) (suc zero) next w h =
      let i = instr.ReachTo q to tag in
      let here = before_event p t r i 1 next in
      let at = operand_at p ready ranges t stood r i 1 here q refl (step_in p ready ranges t stood r i 1 here).slots in
      cross_touch q (own_slot i 1 q (ByPair r ((t.parts r).made - 1)) here at refl refl) (own_near i 1 q (lane r to kind.Reach tag) here refl refl refl refl at refl) w h
  touch_clear (instr.CopyTo q to tag) (suc (suc zero)) next w h =
      let i = instr.CopyTo q to tag in
      let here = before_event p t r i 2 next in
      let at = operand_at p ready ranges t stood r i 2 here q refl (step_in p ready ranges t stood r i 2 here).slots in
      near_touch (ByPair r ((t.parts r).made - 1)) (protocol_next t r) (own_near i 2 q (lane r to kind.Copy tag) here refl refl refl refl at refl) w h
  touch_clear (instr.ReachTo q to tag) (suc (suc zero)) next w h =
      let i = instr.ReachTo q to tag in
      let here = before_event p t r i 2 next in
      let at = operand_at p ready ranges t stood r i 2 here q refl (step_in p ready ranges t stood r i 2 here).slots in
      near_touch (ByPair r ((t.parts r).made - 1)) (protocol_next t r) (own_near i 2 q (lane r to kind.Reach tag) here refl refl refl refl at refl) w h
  touch_clear (instr.MoveTo q to tag) (suc (suc zero)) next w h =
      let i = instr.MoveTo q to tag in
      let here = before_event p t r i 2 next in
      let at = operand_at p ready ranges t stood r i 2 here q refl (step_in p ready ranges t stood r i 2 here).slots in
      had_touch (wire_in t r q) (ByPair r ((t.parts r).made - 1)) (own_slot i 2 q (ByPair r ((t.parts r).made - 1)) here at refl refl) w h
  touch_clear (instr.MoveTo q to tag) (suc (suc (suc zero))) next w h =
      let i = instr.MoveTo q to tag in
      let here = before_event p t r i 3 next in
      let at = operand_at p ready ranges t stood r i 3 here q refl (step_in p ready ranges t stood r i 3 here).slots in
      near_touch (ByPair r ((t.parts r).made - 1)) (protocol_next t r) (own_near i 3 q (lane r to kind.Move tag) here refl refl refl refl at refl) w h
  touch_clear (instr.MoveTo q to tag) (suc (suc (suc (suc zero)))) next w h =
      let i = instr.MoveTo q to tag in
      let here = before_event p t r i 4 next in
      let at = operand_at p ready ranges t stood r i 4 here q refl (step_in p ready ranges t stood r i 4 here).slots in
      take_touch (wire_in t r q) (ByPair r ((t.parts r).made - 1)) (protocol_next t r) (own_slot i 4 q (ByPair r ((t.parts r).made - 1)) here at refl refl) w h
  touch_clear (instr.CopyFrom q from tag) zero next w h = nothing_touched _ w h
  touch_clear (instr.MoveFrom q from tag) zero next w h = nothing_touched _ w h
  touch_clear (instr.UndoFrom q from tag) zero next w h = nothing_touched _ w h
  touch_clear (instr.ReachFrom q from tag) zero next w h = nothing_touched _ w h
  touch_clear (instr.ReachTo q to tag) (suc (suc (suc zero))) next w h = nothing_touched _ w h
  touch_clear (instr.CopyFrom q from tag) (suc zero) next w h =
      let i = instr.CopyFrom q from tag in
      let here = before_event p t r i 1 next in
      let f = wire_of (t.parts r).taken in
      fix_touch (first_bit (t.parts r).taken) (Flip f) f (pair_of f) refl
      (InSlot r q, settled_at p ready ranges t stood r i 1 here q refl refl, engaged_so p ready ranges t stood r i 1 here (pair_of f) refl refl) w h
  touch_clear (instr.MoveFrom q from tag) (suc zero) next w h =
      let i = instr.MoveFrom q from tag in
      let here = before_event p t r i 1 next in
      let f = wire_of (t.parts r).taken in
      fix_touch (first_bit (t.parts r).taken) (Flip f) f (pair_of f) refl
      (InSlot r q, settled_at p ready ranges t stood r i 1 here q refl refl, engaged_so p ready ranges t stood r i 1 here (pair_of f) refl refl) w h
  touch_clear (instr.MoveFrom q from tag) (suc (suc zero)) next w h =
      let i = instr.MoveFrom q from tag in
      let here = before_event p t r i 2 next in
      let f = wire_of (t.parts r).taken in
      fix_touch (second_bit (t.parts r).taken) (Phase 4 f) f (pair_of f) refl
      (InSlot r q, settled_at p ready ranges t stood r i 2 here q refl refl, engaged_so p ready ranges t stood r i 2 here (pair_of f) refl refl) w h
  touch_clear (instr.UndoFrom q from tag) (suc zero) next w h =
      let i = instr.UndoFrom q from tag in
      let here = before_event p t r i 1 next in
      let at = operand_at p ready ranges t stood r i 1 here q refl (step_in p ready ranges t stood r i 1 here).slots in
      fix_touch (first_bit (t.parts r).taken) (Phase 4 (wire_in t r q)) (wire_in t r q) (BackTo r) refl (slot_in p ready ranges t stood r i 1 here q (BackTo r) at refl refl) w h
  touch_clear (instr.ReachTo q to tag) (suc (suc (suc (suc zero)))) next w h =
      let i = instr.ReachTo q to tag in
      let here = before_event p t r i 4 next in
      let k = ByPair r ((t.parts r).made - 1) in
      let at = operand_at p ready ranges t stood r i 4 here q refl (step_in p ready ranges t stood r i 4 here).slots in
      fix_touch (first_bit (t.parts r).taken) (Phase 4 (wire_in t r q)) (wire_in t r q) k refl (slot_in p ready ranges t stood r i 4 here q k at refl refl) w h
  touch_clear (instr.UndoTo q to tag) zero next w h =
      let i = instr.UndoTo q to tag in
      let here = before_event p t r i 0 next in
      let at = operand_at p ready ranges t stood r i 0 here q refl (step_in p ready ranges t stood r i 0 here).slots in
      let ask = asking p ready ranges t r stood ideal q to tag next in
      let source = source_wire_at p ready ranges t r stood i 0 next r to tag ask.source ask.ready_there in
      test_touch (wire_in t r q) (source_wire p t to) (BackTo to)
      (slot_clear p ready ranges t stood ideal r q (wire_in t r q) (BackTo to) at (fresh_slots p ready ranges t r stood ideal i here refl))
      (own_clear p ready ranges t stood ideal (source_wire p t to) (BackTo to) source.1) w h
  touch_clear (instr.UndoTo q to tag) (suc zero) next w h =
      let i = instr.UndoTo q to tag in
      let here = before_event p t r i 1 next in
      let at = operand_at p ready ranges t stood r i 1 here q refl (step_in p ready ranges t stood r i 1 here).slots in
      take_touch (wire_in t r q) (BackTo to) (protocol_next t r) (own_slot i 1 q (BackTo to) here at refl refl) w h
  touch_clear (instr.ReachFrom q from tag) (suc zero) next w h =
      let i = instr.ReachFrom q from tag in
      let f = wire_of (t.parts r).taken in
      fix_touch (first_bit (t.parts r).taken) (Flip f) f (pair_of f) refl (half_in p ready ranges t stood r q from tag 1 (before_event p t r i 1 next) refl) w h
  touch_clear (instr.ReachFrom q from tag) (suc (suc zero)) next w h =
      let i = instr.ReachFrom q from tag in
      let f = wire_of (t.parts r).taken in
      let here = before_event p t r i 2 next in
      no_checks (Cx f (wire_in t r q) ∷ []) (pair_of f)
      (two_clear p ready ranges t stood ideal (Cx f (wire_in t r q)) f (wire_in t r q) (pair_of f) refl (half_in p ready ranges t stood r q from tag 2 here refl) (target_in p ready ranges t stood r q from tag 2 here refl)) w h
  touch_clear (instr.ReachFrom q from tag) (suc (suc (suc zero))) next w h =
      let i = instr.ReachFrom q from tag in
      let f = wire_of (t.parts r).taken in
      had_touch f (pair_of f) (own_clear p ready ranges t stood ideal f (pair_of f) (half_in p ready ranges t stood r q from tag 3 (before_event p t r i 3 next) refl)) w h
  touch_clear (instr.ReachFrom q from tag) (suc (suc (suc (suc zero)))) next w h =
      let i = instr.ReachFrom q from tag in
      let f = wire_of (t.parts r).taken in
      take_touch f (pair_of f) (protocol_next t r) (own_clear p ready ranges t stood ideal f (pair_of f) (half_in p ready ranges t stood r q from tag 4 (before_event p t r i 4 next) refl)) w h
  touch_clear (instr.CopyTo q to tag) (suc (suc (suc s))) next w h = never next.holds
  touch_clear (instr.CopyFrom q from tag) (suc (suc s)) next w h = never next.holds
  touch_clear (instr.MoveTo q to tag) (suc (suc (suc (suc (suc s))))) next w h = never next.holds
  touch_clear (instr.MoveFrom q from tag) (suc (suc (suc s))) next w h = never next.holds
  touch_clear (instr.UndoTo q to tag) (suc (suc s)) next w h = never next.holds
  touch_clear (instr.UndoFrom q from tag) (suc (suc s)) next w h = never next.holds
  touch_clear (instr.ReachTo q to tag) (suc (suc (suc (suc (suc s))))) next w h = never next.holds
  touch_clear (instr.ReachFrom q from tag) (suc (suc (suc (suc (suc s))))) next w h = never next.holds
  touch_clear _ (suc s) next w h = never next.holds
