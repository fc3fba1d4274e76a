-- One step of an ideal run: where its wires come from, and which of them its letters give up
use Rattle.std.proofs.Common.{◌≡◌, ℕ, ◌<◌, ◌⊎◌, inl, inr, nat_eq, nat_lt, Bool, true, false, ◌||◌, cond, List, [], ◌∷◌, ◌++◌, length, drop, fold, Option, Some, None, slice_index_or, Contains, refl, sym, ap, subst, ◌∙◌, arith}
use Rattle.std.proofs.lemmas.Bool.{false_from_ne_true}
use Rattle.std.proofs.lemmas.List.Elements.{Contains-push_cases}
use Rattle.std.proofs.lemmas.Option.{same_Some}
use Rattle.qm_denot.specs.declared.Wire.{Wire}
use Rattle.qm_denot.specs.declared.Letter.{Letter}
use Rattle.qm_denot.specs.Protocols.{letter_if}
use Rattle.qm_denot.specs.WireLists.{lacks}
use Rattle.qm_denot.specs.Wires.{is_wire}
use Rattle.qm_denot.proofs.OperandFacts.{EachOperand, operands_on}
use Rattle.qm_denot.proofs.Sets.{same_from_is}
use Rattle.qm_instr.specs.declared.Gate.{Gate}
use Rattle.qm_instr.specs.declared.Gate.TheVariants as gate
use Rattle.qm_instr.specs.declared.Instr.{Instr}
use Rattle.qm_instr.specs.declared.Instr.TheVariants as instr
use Rattle.qm_instr.specs.declared.Kind.TheVariants as kind
use Rattle.qm_instr.specs.declared.Lane.{Lane}
use Rattle.qm_instr.specs.declared.OneGate.TheVariants as one
use Rattle.qm_instr.specs.Lanes.{lane, is_lane}
use Rattle.qm_instr.specs.Programs.{Programs, IsInRange}
use Rattle.qm_check.specs.Checks.{IsReady}
use Rattle.qm_check.specs.Operands.{uses_of}
use Rattle.qm_check.specs.Slots.{full_after}
use Rattle.qm_check.proofs.Faultless.{FindsSlots, before}
use Rattle.qm_proto.specs.Model.Rows.{gate_letter}
use Rattle.qm_proto.specs.Model.Ideal.{IdealTables, IdealAct, Counts, SlotSet, Puts, Takes, OwnUsed, BitSet, Load, Carried, Token, ideal_holds, ideal_wire_made, wire_carried, load_at}
use Rattle.qm_proto.proofs.Changes.{by_number, number_itself}
use Rattle.qm_confluence.proofs.Confluence.ByView.{View, slot_wire, bit_in, made_in, rule_of, letters_by, acts_by, view}
use Rattle.qm_confluence.proofs.Confluence.Effects.{stepped, slot_act, lane_act, slot_stepped, slot_elsewhere, lane_stepped}
use Rattle.qm_confluence.proofs.Confluence.Helpers.{IsNextInstr}
use Rattle.qm_confluence.proofs.Confluence.LetterWires.{IsReached, Made, Own, Offered, letters_reached, slot_found, made_new}
use Rattle.qm_confluence.proofs.Confluence.OnePlace.{ArePlaced, AllCarried, Spot, InSlot, OnLane, Stands, carries}
use Rattle.qm_confluence.proofs.Confluence.WellIdeal.{IsWellIdeal, at_step}
use Rattle.qm_eval.proofs.LiveLemmas.{GivesNone, MayCome, AllMayCome, given}
use Rattle.qm_confluence.proofs.Confluence.IdealWires.{contains_drop}

-- ---- where a wire stands after acts
-- some act brings the wire to a place
abbrev Brings : Wire → List IdealAct → Type 0
Brings w [] = ⊥
Brings w (SlotSet q o ∷ acts) = (o ≡ Some w) ⊎ Brings w acts
Brings w (Puts a x ∷ acts) = (x ≡ Carried w) ⊎ Brings w acts
Brings w (_ ∷ acts) = Brings w acts

module _ (w : Wire) where
  slot_from : (q : ℕ) (acts : List IdealAct) (o : Option Wire) → fold (slot_act q) o acts ≡ Some w → (o ≡ Some w) ⊎ Brings w acts
  slot_from q [] o e = inl e
  slot_from q (SlotSet k x ∷ acts) o e = elim (slot_from q acts (cond (nat_eq q k) x o) e) [ inl h ↦ by_bool (nat_eq q k) h | inr h ↦ inr (inr h) ]
    where
      by_bool : (b : Bool) → cond b x o ≡ Some w → (o ≡ Some w) ⊎ ((x ≡ Some w) ⊎ Brings w acts)
      by_bool true h = inr (inl h)
      by_bool false h = inl h
  slot_from q (Puts a x ∷ acts) o e = elim (slot_from q acts o e) [ inl h ↦ inl h | inr h ↦ inr (inr h) ]
  slot_from q (Takes a ∷ acts) o e = slot_from q acts o e
  slot_from q (Counts ∷ acts) o e = slot_from q acts o e
  slot_from q (OwnUsed ∷ acts) o e = slot_from q acts o e
  slot_from q (BitSet b v ∷ acts) o e = slot_from q acts o e

  lane_from : (c : Lane) (acts : List IdealAct) (xs : List Load) → Contains (fold (lane_act c) xs acts) (Carried w) → Contains xs (Carried w) ⊎ Brings w acts
  lane_from c [] xs h = inl h
  lane_from c (Puts a x ∷ acts) xs h = elim (lane_from c acts (cond (is_lane c a) (xs ++ x ∷ []) xs) h) [ inl h ↦ by_bool (is_lane c a) h | inr h ↦ inr (inr h) ]
    where
      by_bool : (b : Bool) → Contains (cond b (xs ++ x ∷ []) xs) (Carried w) → Contains xs (Carried w) ⊎ ((x ≡ Carried w) ⊎ Brings w acts)
      by_bool true h = elim (Contains-push_cases xs x (Carried w) h) [ inl old ↦ inl old | inr new ↦ inr (inl new) ]
      by_bool false h = inl h
  lane_from c (Takes a ∷ acts) xs h = elim (lane_from c acts (cond (is_lane c a) (drop 1 xs) xs) h) [ inl h ↦ by_bool (is_lane c a) h | inr h ↦ inr h ]
    where
      by_bool : (b : Bool) → Contains (cond b (drop 1 xs) xs) (Carried w) → Contains xs (Carried w) ⊎ Brings w acts
      by_bool true h = inl (contains_drop xs (Carried w) h)
      by_bool false h = inl h
  lane_from c (SlotSet q o ∷ acts) xs h = elim (lane_from c acts xs h) [ inl h ↦ inl h | inr h ↦ inr (inr h) ]
  lane_from c (Counts ∷ acts) xs h = lane_from c acts xs h
  lane_from c (OwnUsed ∷ acts) xs h = lane_from c acts xs h
  lane_from c (BitSet b v ∷ acts) xs h = lane_from c acts xs h

  stands_from : (r : ℕ) (acts : List IdealAct) (t : IdealTables) (z : Spot) → Stands (stepped r acts t) w z → Stands t w z ⊎ Brings w acts
  stands_from r acts t (InSlot k q) h =
      by_number (λ k. (stepped r acts t).slots k q ≡ Some w → (t.slots k q ≡ Some w) ⊎ Brings w acts) r
      (λ e. slot_from q acts (t.slots r q) (sym (slot_stepped r acts t q) ∙ e))
      (λ k other e. inl (sym (slot_elsewhere r acts t k other q) ∙ e)) k h
  stands_from r acts t (OnLane c) h = lane_from c acts (t.lanes c) (subst (λ xs. Contains xs (Carried w)) (lane_stepped r acts t c) h)

-- ---- what gates ask and give up
-- the letter may come at any time, and gives up no wire
record IsPlain (l : Letter) : Type 0 where
  come : (live : List Wire) → MayCome live l
  keeps : GivesNone l

gate_plain : (wire : ℕ → Wire) (g : Gate) → IsPlain (gate_letter wire g)
gate_plain wire (gate.One one.X q) = record { come = λ live. tt; keeps = λ w. refl }
gate_plain wire (gate.One one.Z q) = record { come = λ live. omega arith; keeps = λ w. refl }
gate_plain wire (gate.One one.H q) = record { come = λ live. tt; keeps = λ w. refl }
gate_plain wire (gate.One one.S q) = record { come = λ live. omega arith; keeps = λ w. refl }
gate_plain wire (gate.One one.Sdg q) = record { come = λ live. omega arith; keeps = λ w. refl }
gate_plain wire (gate.One one.T q) = record { come = λ live. omega arith; keeps = λ w. refl }
gate_plain wire (gate.One one.Tdg q) = record { come = λ live. omega arith; keeps = λ w. refl }
gate_plain wire (gate.Cx c q) = record { come = λ live. tt; keeps = λ w. refl }
gate_plain wire (gate.Cz c q) = record { come = λ live. tt; keeps = λ w. refl }

-- ---- what a step's letters ask beside their operands
pub letters_come : (r : ℕ) (i : Instr) (v : View) (live : List Wire) → lacks live (made_in r v) ≡ true → AllMayCome live (letters_by r i v)
letters_come r (instr.Do g) v live new = (gate_plain (slot_wire v) g).come live
letters_come r (instr.When b g) v live new = by_bool (bit_in v b)
  where
    by_bool : (b : Bool) → AllMayCome live (letter_if b (gate_letter (slot_wire v) g))
    by_bool true = (gate_plain (slot_wire v) g).come live
    by_bool false = tt
letters_come r (instr.UndoTo q to tag) v live new = (tt, (λ w. refl), tt)
letters_come r (instr.MoveTo q to tag) v live new = new
letters_come r _ v live new = tt

-- ---- the wire that they give up is that of a slot that is emptied, and only the wire that is counted comes to a place then
record IsGivenUp (r : ℕ) (i : Instr) (v : View) (w : Wire) : Type 0 where
  q : ℕ
  full : (f : ℕ → Bool) → FindsSlots f (uses_of i) → f q ≡ true
  wire : is_wire (slot_wire v q) w ≡ true
  emptied : (o : Option Wire) → fold (slot_act q) o (acts_by r i v) ≡ None
  brings : (u : Wire) → Brings u (acts_by r i v) → made_in r v ≡ u

or_none : (b : Bool) → (b || false) ≡ true → b ≡ true
or_none true e = refl
or_none false e = cc

plain_kept : (wire : ℕ → Wire) (g : Gate) (w : Wire) → given (gate_letter wire g ∷ []) w ≡ false
plain_kept wire g w = ap (λ b. b || false) ((gate_plain wire g).keeps w)

given_up : (r : ℕ) (i : Instr) (v : View) (w : Wire) → given (letters_by r i v) w ≡ true → IsGivenUp r i v w
given_up r (instr.Free q) v w e = record {
  q = q;
  full = λ f found. found;
  wire = or_none (is_wire (slot_wire v q) w) e;
  emptied = λ o. ap (λ b. cond b None o) (number_itself q);
  brings = λ u h. elim h [ inl n ↦ cc | inr n ↦ absurd n ];
}
given_up r (instr.UndoTo q to tag) v w e = record {
  q = q;
  full = λ f found. found;
  wire = or_none (is_wire (slot_wire v q) w) e;
  emptied = λ o. ap (λ b. cond b None o) (number_itself q);
  brings = λ u h. elim h [ inl n ↦ cc | inr h ↦ elim h [ inl n ↦ cc | inr n ↦ absurd n ] ];
}
given_up r (instr.MoveTo q to tag) v w e = record {
  q = q;
  full = λ f found. found;
  wire = or_none (is_wire (slot_wire v q) w) e;
  emptied = λ o. ap (λ b. cond b None o) (number_itself q);
  brings = λ u h. elim h [ inl n ↦ cc | inr h ↦ elim h [ inl is ↦ ap wire_carried is | inr n ↦ absurd n ] ];
}
given_up r (instr.Do g) v w e = absurd (let k = plain_kept (slot_wire v) g w in let n : ⊥ = cc in n)
given_up r (instr.When b g) v w e = absurd (by_bool (bit_in v b) e)
  where
    by_bool : (b : Bool) → given (letter_if b (gate_letter (slot_wire v) g)) w ≡ true → ⊥
    by_bool true e = let k = plain_kept (slot_wire v) g w in cc
    by_bool false e = cc
given_up r _ v w e = absurd (let n : ⊥ = cc in n)

-- ---- the wires of a step
-- the wire has a place
abbrev pub IsSomewhere : IdealTables → Wire → Type 0
IsSomewhere t w = (z : Spot) × Stands t w z

-- or it is the one that the rank counts next
abbrev pub IsKnown : IdealTables → ℕ → Wire → Type 0
IsKnown t r w = IsSomewhere t w ⊎ (w ≡ ideal_wire_made t r)

front_there : (xs : List Load) → nat_lt 0 (length xs) ≡ true → AllCarried xs → Contains xs (Carried (wire_carried (slice_index_or xs 0 Token)))
front_there [] some h = cc
front_there (x ∷ xs) some h = (0, omega arith, h.0)

module _ (p : Programs) (t : IdealTables) (placed : ArePlaced t) (r : ℕ) where
  front_known : (a : Lane) (w : Wire) → carries a.kind ≡ true → nat_lt 0 (length (t.lanes a)) ≡ true → wire_carried (load_at t a) ≡ w → IsKnown t r w
  front_known a w wires some e =
      inl (OnLane a, subst (λ v. Contains (t.lanes a) (Carried v)) e (front_there (t.lanes a) some (placed.wired a wires)))

  -- an act brings a wire that had a place, or the one that is counted
  brought : (i : Instr) (w : Wire) → ideal_holds p t (rule_of r i) ≡ true → Brings w (acts_by r i (view p t r i)) → IsKnown t r w
  brought (instr.Alloc q) w holds h = elim h [ inl e ↦ inr (sym (same_Some _ _ e)) | inr n ↦ absurd n ]
  brought (instr.CopyTo q to tag) w holds h = elim h [ inl e ↦ inr (sym (ap wire_carried e)) | inr n ↦ absurd n ]
  brought (instr.MoveTo q to tag) w holds h = elim h [ inl n ↦ cc | inr h ↦ elim h [ inl e ↦ inr (sym (ap wire_carried e)) | inr n ↦ absurd n ] ]
  brought (instr.CopyFrom q from tag) w holds h = elim h [ inl e ↦ front_known (lane from r kind.Copy tag) w refl holds (same_Some _ _ e) | inr n ↦ absurd n ]
  brought (instr.MoveFrom q from tag) w holds h = elim h [ inl e ↦ front_known (lane from r kind.Move tag) w refl holds (same_Some _ _ e) | inr n ↦ absurd n ]
  brought (instr.Free q) w holds h = elim h [ inl n ↦ cc | inr n ↦ absurd n ]
  brought (instr.SendBit b to tag) w holds h = elim h [ inl n ↦ cc | inr n ↦ absurd n ]
  brought (instr.UndoTo q to tag) w holds h = elim h [ inl n ↦ cc | inr h ↦ elim h [ inl n ↦ cc | inr n ↦ absurd n ] ]
  brought (instr.ReachFrom q from tag) w holds h = elim h [ inl n ↦ cc | inr n ↦ absurd n ]
  brought _ w holds h = absurd h

module _ (p : Programs) (ready : IsReady p) (ranges : IsInRange p) (t : IdealTables) (well : IsWellIdeal p t) (r : ℕ) (known : r < length p.ranks) (i : Instr) (next : IsNextInstr p t r i) where
  abbrev v : View
  v = view p t r i

  abbrev after : IdealTables
  after = stepped r (acts_by r i v) t

  -- the operands of the step's letters are known
  pub operands_known : EachOperand (IsKnown t r) (letters_by r i v)
  operands_known = operands_on (IsReached p t r) (IsKnown t r) reached (letters_by r i v) (letters_reached p ready ranges t well r known i next)
    where
      reached : (w : Wire) → IsReached p t r w → IsKnown t r w
      reached w (Made e) = inr e
      reached w (Own q e) = inl (InSlot r q, e)
      reached w (Offered h q helps e) = inl (InSlot h q, e)

  -- a wire that is given up has no place after the step
  gone : (w : Wire) (z : Spot) → IsGivenUp r i v w → ¬ Stands after w z
  gone w z g h =
      let is : slot_wire v g.q ≡ w = same_from_is (slot_wire v g.q) w g.wire in
      let full = g.full (full_after (before p r (t.parts r).at)) (at_step p ready ranges t well r known i next).slots in
      let there : t.slots r g.q ≡ Some w = slot_found p ready ranges t well r g.q full ∙ ap (λ u. Some u) is in
      elim (stands_from w r (acts_by r i v) t z h) [
        | inl old ↦
            let place : z ≡ InSlot r g.q = well.placed.one w z (InSlot r g.q) old there in
            let still : after.slots r g.q ≡ Some w = subst (Stands after w) place h in
            let empty : after.slots r g.q ≡ None = slot_stepped r (acts_by r i v) t g.q ∙ g.emptied (t.slots r g.q) in
            cc
        | inr new ↦ made_new p t well.placed r r g.q w (sym (g.brings w new)) there
      ]

  -- each wire that has a place after the step was known before it and is not given up
  pub known_after : (w : Wire) → IsSomewhere after w → IsKnown t r w × (given (letters_by r i v) w ≡ false)
  known_after w (z, h) = (
    elim (stands_from w r (acts_by r i v) t z h) [ inl old ↦ inl (z, old) | inr new ↦ brought p t well.placed r i w next.holds new ],
    false_from_ne_true (given (letters_by r i v) w) (λ e. gone w z (given_up r i v w e) h),
  )
