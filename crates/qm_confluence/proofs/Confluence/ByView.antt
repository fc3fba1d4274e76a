-- A rank's step, by what it reads: its own part and slots, the front of one lane, and the wire that one other rank offers
use mathlib.Core.Path.{fun_ext}
use Rattle.std.proofs.Common.{◌≡◌, ℕ, nat_eq, ◌+◌, ◌<◌, ◌≤◌, nat_lt, Bool, true, false, cond, List, [], ◌∷◌, length, sym, subst, arith, Option, Some, None, unwrap_or, slice_index_or, refl, ap, ◌∙◌}
use Rattle.std.proofs.lemmas.Bool.{ltb-true}
use Rattle.qm_denot.specs.declared.Wire.{Wire}
use Rattle.qm_denot.specs.declared.Letter.{Letter}
use Rattle.qm_denot.specs.declared.Letter.TheVariants.{Cx, Keep, Take, Rename}
use Rattle.qm_denot.specs.Protocols.{differing, letter_if}
use Rattle.qm_instr.specs.declared.Instr.{Instr}
use Rattle.qm_instr.specs.declared.Instr.TheVariants as instr
use Rattle.qm_instr.specs.declared.Kind.TheVariants as kind
use Rattle.qm_instr.specs.declared.Lane.{Lane}
use Rattle.qm_instr.specs.Lanes.{lane, is_lane}
use Rattle.qm_instr.specs.Programs.{Programs}
use Rattle.qm_instr.proofs.LaneOrder.{same_lane}
use Rattle.qm_proto.specs.Model.State.{no_wire}
use Rattle.qm_proto.specs.Model.Rows.{gate_letter}
use Rattle.qm_proto.specs.Model.Ideal.{IdealPart, IdealTables, IdealRule, Always, Filled, Engaged, Lent, IdealAct, Counts, SlotSet, Puts, Takes, OwnUsed, BitSet, Load, Carried, Told, Token, IdealRow, ideal_row, ideal_row_of, load_at, ideal_holds, wire_carried, bit_told, ideal_wire_offered, ideal_wire_in}
use Rattle.qm_proto.proofs.Changes.{number_itself}

-- what the step of an instruction waits for
abbrev pub rule_of : ℕ → Instr → IdealRule
rule_of r (instr.RecvBit b from tag) = Filled (lane from r kind.Bit tag)
rule_of r (instr.CopyFrom q from tag) = Filled (lane from r kind.Copy tag)
rule_of r (instr.UndoTo q to tag) = Engaged (lane r to kind.Undo tag)
rule_of r (instr.UndoFrom q from tag) = Filled (lane from r kind.Undo tag)
rule_of r (instr.MoveFrom q from tag) = Filled (lane from r kind.Move tag)
rule_of r (instr.ReachTo q to tag) = Filled (lane to r kind.Back tag)
rule_of r (instr.ReachFrom q from tag) = Lent (lane from r kind.Reach tag) (lane r from kind.Back tag)
rule_of r _ = Always

-- the load that a step with this rule reads, the ranks whose position it reads, and the wires that these offer
abbrev pub front_read : IdealTables → IdealRule → Load
front_read t (Filled a) = load_at t a
front_read t _ = Token

abbrev pub reads : IdealRule → ℕ → Bool
reads (Engaged a) h = nat_eq a.to h
reads (Lent a back) h = nat_eq a.from h
reads _ h = false

abbrev pub offered_read : Programs → IdealTables → IdealRule → ℕ → Wire
offered_read p t rule h = cond (reads rule h) (ideal_wire_offered p t h) no_wire

-- what a rank has of its own, and the load and the wires of other ranks that it reads
pub record View : Type 0 where
  pub part : IdealPart
  pub slots : ℕ → Option Wire
  pub load : Load
  pub offered : ℕ → Wire

abbrev pub slot_wire : View → ℕ → Wire
slot_wire v q = unwrap_or (v.slots q) no_wire

abbrev pub bit_in : View → ℕ → Bool
bit_in v b = slice_index_or v.part.bits b false

abbrev pub made_in : ℕ → View → Wire
made_in r v = record { rank = r; made = v.part.made; near = false }

-- the letters of a step
abbrev pub letters_by : ℕ → Instr → View → List Letter
letters_by r (instr.Do g) v = gate_letter (slot_wire v) g ∷ []
letters_by r (instr.Free q) v = Take (slot_wire v q) false ∷ []
letters_by r (instr.Measure q b) v = Keep (slot_wire v q) (slice_index_or v.part.own 0 false) ∷ []
letters_by r (instr.When b g) v = letter_if (bit_in v b) (gate_letter (slot_wire v) g)
letters_by r (instr.CopyTo q to tag) v = Cx (slot_wire v q) (made_in r v) ∷ []
letters_by r (instr.UndoTo q to tag) v = Cx (v.offered to) (slot_wire v q) ∷ Take (slot_wire v q) false ∷ []
letters_by r (instr.MoveTo q to tag) v = Rename (slot_wire v q) (made_in r v) ∷ []
letters_by r (instr.ReachFrom q from tag) v = Cx (v.offered from) (slot_wire v q) ∷ []
letters_by r _ v = []

-- its acts
abbrev pub acts_by : ℕ → Instr → View → List IdealAct
acts_by r (instr.Alloc q) v = Counts ∷ SlotSet q (Some (made_in r v)) ∷ []
acts_by r (instr.Do g) v = []
acts_by r (instr.Free q) v = SlotSet q None ∷ []
acts_by r (instr.Measure q b) v = OwnUsed ∷ BitSet b (slice_index_or v.part.own 0 false) ∷ []
acts_by r (instr.Set b x) v = BitSet b x ∷ []
acts_by r (instr.Xor b c) v = BitSet b (differing (bit_in v b) (bit_in v c)) ∷ []
acts_by r (instr.When b g) v = []
acts_by r (instr.SendBit b to tag) v = Puts (lane r to kind.Bit tag) (Told (bit_in v b)) ∷ []
acts_by r (instr.RecvBit b from tag) v = Takes (lane from r kind.Bit tag) ∷ BitSet b (bit_told v.load) ∷ []
acts_by r (instr.CopyTo q to tag) v = Counts ∷ Puts (lane r to kind.Copy tag) (Carried (made_in r v)) ∷ []
acts_by r (instr.CopyFrom q from tag) v = Takes (lane from r kind.Copy tag) ∷ SlotSet q (Some (wire_carried v.load)) ∷ []
acts_by r (instr.UndoTo q to tag) v = SlotSet q None ∷ Puts (lane r to kind.Undo tag) Token ∷ []
acts_by r (instr.UndoFrom q from tag) v = Takes (lane from r kind.Undo tag) ∷ []
acts_by r (instr.MoveTo q to tag) v = Counts ∷ SlotSet q None ∷ Puts (lane r to kind.Move tag) (Carried (made_in r v)) ∷ []
acts_by r (instr.MoveFrom q from tag) v = Takes (lane from r kind.Move tag) ∷ SlotSet q (Some (wire_carried v.load)) ∷ []
acts_by r (instr.ReachTo q to tag) v = Counts ∷ Takes (lane to r kind.Back tag) ∷ []
acts_by r (instr.ReachFrom q from tag) v = Puts (lane r from kind.Back tag) Token ∷ []

abbrev pub view : Programs → IdealTables → ℕ → Instr → View
view p t r i = record { part = t.parts r; slots = t.slots r; load = front_read t (rule_of r i); offered = offered_read p t (rule_of r i) }

abbrev pub step_by : ℕ → Instr → View → IdealRow
step_by r i v = ideal_row (rule_of r i) (letters_by r i v) (acts_by r i v)

-- the step is what the rank's view of the tables says
pub step_is : (p : Programs) (t : IdealTables) (r : ℕ) (i : Instr) → ideal_row_of p t r i ≡ step_by r i (view p t r i)
step_is p t r (instr.UndoTo q to tag) =
    let w = ideal_wire_in t r q in
    let a = lane r to kind.Undo tag in
    ap (λ b. ideal_row (Engaged a) (Cx (cond b (ideal_wire_offered p t to) no_wire) w ∷ Take w false ∷ []) (SlotSet q None ∷ Puts a Token ∷ [])) (sym (number_itself to))
step_is p t r (instr.ReachFrom q from tag) =
    let back = lane r from kind.Back tag in
    ap (λ b. ideal_row (Lent (lane from r kind.Reach tag) back) (Cx (cond b (ideal_wire_offered p t from) no_wire) (ideal_wire_in t r q) ∷ []) (Puts back Token ∷ [])) (sym (number_itself from))
step_is p t r _ = refl

-- tables of which the rank has the same view
pub view_same : (p : Programs) (t u : IdealTables) (r : ℕ) (i : Instr) → u.parts r ≡ t.parts r → ((q : ℕ) → u.slots r q ≡ t.slots r q)
    → front_read u (rule_of r i) ≡ front_read t (rule_of r i)
    → ((h : ℕ) → reads (rule_of r i) h ≡ true → ideal_wire_offered p u h ≡ ideal_wire_offered p t h)
    → view p u r i ≡ view p t r i
view_same p t u r i part slots front offers =
    let rule = rule_of r i in
    let row : u.slots r ≡ t.slots r = fun_ext slots in
    let wires : offered_read p u rule ≡ offered_read p t rule = fun_ext (λ h. by_bool h (reads rule h) refl) in
    ap (λ x. let v : View = record { part = x; slots = u.slots r; load = front_read u rule; offered = offered_read p u rule } in v) part
    ∙ ap (λ x. let v : View = record { part = t.parts r; slots = x; load = front_read u rule; offered = offered_read p u rule } in v) row
    ∙ ap (λ x. let v : View = record { part = t.parts r; slots = t.slots r; load = x; offered = offered_read p u rule } in v) front
    ∙ ap (λ x. let v : View = record { part = t.parts r; slots = t.slots r; load = front_read t rule; offered = x } in v) wires
  where
    by_bool : (h : ℕ) (b : Bool) → reads (rule_of r i) h ≡ b → cond b (ideal_wire_offered p u h) no_wire ≡ cond b (ideal_wire_offered p t h) no_wire
    by_bool h true e = offers h e
    by_bool h false e = refl

-- ---- lanes: rank r puts on lanes from it, and takes from lanes to it
abbrev pub FitsAct : ℕ → IdealAct → Type 0
FitsAct r (Puts a x) = a.from ≡ r
FitsAct r (Takes a) = a.to ≡ r
FitsAct r _ = Unit {0}

abbrev pub AllFit : ℕ → List IdealAct → Type 0
AllFit r [] = Unit {0}
AllFit r (a ∷ acts) = FitsAct r a × AllFit r acts

pub fits : (r : ℕ) (i : Instr) (v : View) → AllFit r (acts_by r i v)
fits r (instr.Alloc q) v = (tt, (tt, tt))
fits r (instr.Free q) v = (tt, tt)
fits r (instr.Measure q b) v = (tt, (tt, tt))
fits r (instr.Set b x) v = (tt, tt)
fits r (instr.Xor b c) v = (tt, tt)
fits r (instr.SendBit b to tag) v = (refl, tt)
fits r (instr.RecvBit b from tag) v = (refl, (tt, tt))
fits r (instr.CopyTo q to tag) v = (tt, (refl, tt))
fits r (instr.CopyFrom q from tag) v = (refl, (tt, tt))
fits r (instr.UndoTo q to tag) v = (tt, (refl, tt))
fits r (instr.UndoFrom q from tag) v = (refl, tt)
fits r (instr.MoveTo q to tag) v = (tt, (tt, (refl, tt)))
fits r (instr.MoveFrom q from tag) v = (refl, (tt, tt))
fits r (instr.ReachTo q to tag) v = (tt, (refl, tt))
fits r (instr.ReachFrom q from tag) v = (refl, tt)
fits r _ v = tt

-- the loads that acts put on lane c, and how many they take from it
abbrev pub puts : Lane → List IdealAct → List Load
puts c [] = []
puts c (Puts a x ∷ acts) = cond (is_lane c a) (x ∷ puts c acts) (puts c acts)
puts c (Takes a ∷ acts) = puts c acts
puts c (Counts ∷ acts) = puts c acts
puts c (SlotSet q w ∷ acts) = puts c acts
puts c (OwnUsed ∷ acts) = puts c acts
puts c (BitSet b v ∷ acts) = puts c acts

abbrev pub takes : Lane → List IdealAct → ℕ
takes c [] = 0
takes c (Takes a ∷ acts) = cond (is_lane c a) 1 0 + takes c acts
takes c (Puts a x ∷ acts) = takes c acts
takes c (Counts ∷ acts) = takes c acts
takes c (SlotSet q w ∷ acts) = takes c acts
takes c (OwnUsed ∷ acts) = takes c acts
takes c (BitSet b v ∷ acts) = takes c acts

-- a step takes no more than a lane has
one_taken : (f : Lane → List Load) (a c : Lane) → nat_lt 0 (length (f a)) ≡ true → cond (is_lane c a) 1 0 + 0 ≤ length (f c)
one_taken f a c some = by_bool (is_lane c a) refl
  where
    by_bool : (b : Bool) → is_lane c a ≡ b → cond b 1 0 + 0 ≤ length (f c)
    by_bool true same = let more : 0 < length (f c) = subst (λ d. 0 < length (f d)) (sym (same_lane c a same)) (ltb-true 0 (length (f a)) some) in omega (arith, more)
    by_bool false same = omega arith

pub takes_few : (p : Programs) (t : IdealTables) (r : ℕ) (i : Instr) (v : View) → ideal_holds p t (rule_of r i) ≡ true → (c : Lane) → takes c (acts_by r i v) ≤ length (t.lanes c)
takes_few p t r (instr.RecvBit b from tag) v some c = one_taken t.lanes (lane from r kind.Bit tag) c some
takes_few p t r (instr.CopyFrom q from tag) v some c = one_taken t.lanes (lane from r kind.Copy tag) c some
takes_few p t r (instr.UndoFrom q from tag) v some c = one_taken t.lanes (lane from r kind.Undo tag) c some
takes_few p t r (instr.MoveFrom q from tag) v some c = one_taken t.lanes (lane from r kind.Move tag) c some
takes_few p t r (instr.ReachTo q to tag) v some c = one_taken t.lanes (lane to r kind.Back tag) c some
takes_few p t r _ v some c = omega arith
