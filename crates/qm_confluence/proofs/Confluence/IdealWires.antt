-- The wires of the ideal machine are far ones that it has counted
use Rattle.std.proofs.Common.{◌≡◌, ℕ, ◌+◌, ◌≤◌, List, [], ◌∷◌, ◌++◌, drop, fold, Option, Some, None, Contains, sym, subst, arith, ⊎_elim}
use Rattle.std.proofs.lemmas.List.Elements.{Contains-push_cases, Contains-append_right}
use Rattle.std.proofs.lemmas.Option.{same_Some}
use Rattle.qm_denot.specs.declared.Wire.{Wire}
use Rattle.qm_denot.specs.Circuits.{Circuit, IsBlank}
use Rattle.qm_denot.specs.Weights.{operands}
use Rattle.qm_denot.proofs.Agreement.{Apart, LettersApart}
use Rattle.qm_denot.proofs.Support.{IsBlank-append, IsBlank-unnamed}
use Rattle.qm_instr.specs.declared.Lane.{Lane}
use Rattle.qm_proto.specs.Model.State.{with_lane}
use Rattle.qm_proto.specs.Model.Ideal.{IdealPart, IdealTables, Load, Carried, IdealAct, Counts, SlotSet, Puts, Takes, OwnUsed, BitSet, ideal_after_act, ideal_past_instr, with_ideal_part}
use Rattle.qm_proto.proofs.Changes.{by_rank, by_slot, by_lane}
use Rattle.qm_confluence.specs.Counted.{IsCounted, AllCounted, NamesCounted}

-- every wire in a slot or on a lane is counted
pub record AreWiresCounted (t : IdealTables) : Type 0 where
  pub slots : (r q : ℕ) (w : Wire) → t.slots r q ≡ Some w → IsCounted t w
  pub loads : (a : Lane) (w : Wire) → Contains (t.lanes a) (Carried w) → IsCounted t w

-- no rank counts fewer
abbrev pub CountsGrow : IdealTables → IdealTables → Type 0
CountsGrow t u = (r : ℕ) → (t.parts r).made ≤ (u.parts r).made

pub counted_on : (t u : IdealTables) (w : Wire) → CountsGrow t u → IsCounted t w → IsCounted u w
counted_on t u w grow c =
    let more : (t.parts w.rank).made ≤ (u.parts w.rank).made = grow w.rank in
    record { far = c.far; below = omega (arith, c.below) }

all_counted_on : (t u : IdealTables) (ws : List Wire) → CountsGrow t u → AllCounted t ws → AllCounted u ws
all_counted_on t u [] grow c = tt
all_counted_on t u (w ∷ ws) grow c = (counted_on t u w grow c.0, all_counted_on t u ws grow c.1)

pub names_counted_on : (t u : IdealTables) (c : Circuit) → CountsGrow t u → NamesCounted t c → NamesCounted u c
names_counted_on t u [] grow n = tt
names_counted_on t u (l ∷ ls) grow n = (all_counted_on t u (operands l) grow n.0, names_counted_on t u ls grow n.1)

pub names_counted_append : (t : IdealTables) (c ls : Circuit) → NamesCounted t c → NamesCounted t ls → NamesCounted t (c ++ ls)
names_counted_append t [] ls a b = b
names_counted_append t (l ∷ c) ls a b = (a.0, names_counted_append t c ls a.1 b)

part_grows : (t : IdealTables) (r : ℕ) (x : IdealPart) → (t.parts r).made ≤ x.made → CountsGrow t (with_ideal_part t r x)
part_grows t r x more k =
    by_rank (λ (y : IdealPart). (t.parts k).made ≤ y.made) t.parts r x k
    (λ e. subst (λ j. (t.parts j).made ≤ x.made) (sym e) more) (λ _. omega arith)

-- ---- acts
pub grows : (r : ℕ) (t : IdealTables) (a : IdealAct) → CountsGrow t (ideal_after_act r t a)
grows r t Counts = part_grows t r (record (t.parts r) { made = (t.parts r).made + 1 }) (omega arith)
grows r t (SlotSet q w) = λ k. omega arith
grows r t (Puts b x) = λ k. omega arith
grows r t (Takes b) = λ k. omega arith
grows r t OwnUsed = part_grows t r (record (t.parts r) { own = drop 1 (t.parts r).own }) (omega arith)
grows r t (BitSet b v) = part_grows t r _ (omega arith)

pub all_grow : (r : ℕ) (acts : List IdealAct) (t : IdealTables) → CountsGrow t (fold (ideal_after_act r) t acts)
all_grow r [] t = λ k. omega arith
all_grow r (a ∷ acts) t = λ k. let one = grows r t a k in let later = all_grow r acts (ideal_after_act r t a) k in omega arith

pub moved_grows : (r : ℕ) (t : IdealTables) → CountsGrow t (ideal_past_instr t r)
moved_grows r t = part_grows t r (record (t.parts r) { at = (t.parts r).at + 1 }) (omega arith)

-- what an act must bring
abbrev pub BringsCounted : IdealTables → IdealAct → Type 0
BringsCounted t (SlotSet q (Some w)) = IsCounted t w
BringsCounted t (Puts b (Carried w)) = IsCounted t w
BringsCounted t _ = Unit {0}

-- a change of a rank's part alone
part_counted : (t : IdealTables) (r : ℕ) (x : IdealPart) → (t.parts r).made ≤ x.made → AreWiresCounted t → AreWiresCounted (with_ideal_part t r x)
part_counted t r x more c =
    let u = with_ideal_part t r x in
    let grow : CountsGrow t u = part_grows t r x more in
    record {
      slots = λ k q w e. counted_on t u w grow (c.slots k q w e);
      loads = λ a w h. counted_on t u w grow (c.loads a w h);
    }

slot_counted : (t : IdealTables) (r q : ℕ) (o : Option Wire) → ((w : Wire) → o ≡ Some w → IsCounted t w) → AreWiresCounted t
    → AreWiresCounted (ideal_after_act r t (SlotSet q o))
slot_counted t r q o new c =
    let u = ideal_after_act r t (SlotSet q o) in
    let grow : CountsGrow t u = λ k. omega arith in
    record {
      slots = λ k j w e. counted_on t u w grow (by_slot (λ v. v ≡ Some w → IsCounted t w) t.slots r q o k j (λ _. new w) (λ _. c.slots k j w) e);
      loads = λ a w h. counted_on t u w grow (c.loads a w h);
    }

lane_counted : (t : IdealTables) (a : Lane) (xs : List Load) → ((w : Wire) → Contains xs (Carried w) → IsCounted t w) → AreWiresCounted t
    → AreWiresCounted (record t { lanes = with_lane t.lanes a xs })
lane_counted t a xs new c =
    let u : IdealTables = record t { lanes = with_lane t.lanes a xs } in
    let grow : CountsGrow t u = λ k. omega arith in
    record {
      slots = λ k q w e. counted_on t u w grow (c.slots k q w e);
      loads = λ b w h. counted_on t u w grow (by_lane (λ ys. Contains ys (Carried w) → IsCounted t w) t.lanes a xs b (λ _. new w) (λ _. c.loads b w) h);
    }

pub contains_drop : {A : Type 0} (xs : List A) (x : A) → Contains (drop 1 xs) x → Contains xs x
contains_drop [] x h = h
contains_drop (y ∷ ys) x h = Contains-append_right (y ∷ []) ys x h

pub act_counted : (r : ℕ) (t : IdealTables) (a : IdealAct) → AreWiresCounted t → BringsCounted t a → AreWiresCounted (ideal_after_act r t a)
act_counted r t Counts c b = part_counted t r _ (omega arith) c
act_counted r t (SlotSet q (Some v)) c b = slot_counted t r q (Some v) (λ w e. subst (IsCounted t) (same_Some v w e) b) c
act_counted r t (SlotSet q None) c b = slot_counted t r q None (λ w e. absurd (let n : ⊥ = cc in n)) c
act_counted r t (Puts a x) c b =
    lane_counted t a (t.lanes a ++ x ∷ []) (λ w h. ⊎_elim (λ (old : Contains (t.lanes a) (Carried w)). c.loads a w old)
    (λ (new : x ≡ Carried w). (let f : BringsCounted t (Puts a (Carried w)) = subst (λ y. BringsCounted t (Puts a y)) new b in f)) (Contains-push_cases (t.lanes a) x (Carried w) h)) c
act_counted r t (Takes a) c b = lane_counted t a (drop 1 (t.lanes a)) (λ w h. c.loads a w (contains_drop (t.lanes a) (Carried w) h)) c
act_counted r t OwnUsed c b = part_counted t r _ (omega arith) c
act_counted r t (BitSet k v) c b = part_counted t r _ (omega arith) c

-- ---- what the circuit doesn't name is blank in it
lacks_uncounted : (t : IdealTables) (w : Wire) → ¬ IsCounted t w → (ws : List Wire) → AllCounted t ws → Apart ws (w ∷ [])
lacks_uncounted t w out [] all = tt
lacks_uncounted t w out (v ∷ ws) all = (((λ e. out (subst (IsCounted t) (sym e) all.0)), tt), lacks_uncounted t w out ws all.1)

unnamed : (t : IdealTables) (w : Wire) → ¬ IsCounted t w → (c : Circuit) → NamesCounted t c → LettersApart c (w ∷ [])
unnamed t w out [] named = tt
unnamed t w out (l ∷ ls) named = (lacks_uncounted t w out (operands l) named.0, unnamed t w out ls named.1)

pub blank_where : (t : IdealTables) (c : Circuit) (w : Wire) → NamesCounted t c → ¬ IsCounted t w → IsBlank c w
blank_where t c w named out = IsBlank-append [] c w (unnamed t w out c named) (IsBlank-unnamed [] w tt)

pub moved_counted : (r : ℕ) (t : IdealTables) → AreWiresCounted t → AreWiresCounted (ideal_past_instr t r)
moved_counted r t c = part_counted t r (record (t.parts r) { at = (t.parts r).at + 1 }) (omega arith) c
