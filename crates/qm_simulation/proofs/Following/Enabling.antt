-- At a deciding event the ideal machine may do the step, and its wires stay counted
use Rattle.std.proofs.Common.{◌≡◌, ℕ, zero, suc, ◌+◌, nat_eq, nat_lt, Bool, true, false, cond, ◌&&◌, List, [], ◌∷◌, length, fold, Some, is_some, slice_index_or, Contains, refl, sym, ap, ap₂, subst, ◌∙◌, arith}
use Rattle.std.proofs.lemmas.Bool.{lt-ltb, eqb-true}
use Rattle.std.proofs.lemmas.List.Elements.{Contains-push, Contains-append_left}
use Rattle.qm_denot.specs.declared.Wire.{Wire}
use Rattle.qm_instr.specs.declared.Instr.{Instr}
use Rattle.qm_instr.specs.declared.Instr.TheVariants as instr
use Rattle.qm_instr.specs.declared.Kind.{Kind}
use Rattle.qm_instr.specs.declared.Kind.TheVariants as kind
use Rattle.qm_instr.specs.declared.Lane.{Lane}
use Rattle.qm_instr.specs.Lanes.{lane}
use Rattle.qm_instr.specs.Programs.{Programs, IsInRange}
use Rattle.qm_instr.proofs.LaneOrder.{lane_itself}
use Rattle.qm_check.specs.Checks.{IsReady}
use Rattle.qm_denot.specs.declared.Parcel.{Parcel}
use Rattle.qm_proto.specs.Model.State.{Tables, no_parcel, front}
use Rattle.qm_proto.specs.Model.Rows.{instr_at}
use Rattle.qm_proto.specs.Model.Runs.{receives_on}
use Rattle.qm_proto.specs.Model.Ideal.{IdealPart, IdealTables, Load, Carried, Token, IdealAct, Counts, Takes, ideal_after_act, ideal_past_instr, ideal_wire_made, ideal_current, wire_carried, load_at, ideal_row_of, instr_enabled, sends_on, is_empty_lane}
use Rattle.qm_proto.proofs.Changes.{with_at-here}
use Rattle.qm_simulation.specs.Following.Deciding.{events_before, is_decided}
use Rattle.qm_simulation.specs.Following.Seen.{tables_seen, part_seen, load_seen, is_seen, loads_seen}
use Rattle.qm_confluence.specs.Counted.{IsCounted}
use Rattle.qm_safety.proofs.Tables.NextEvents.{IsNext}
use Rattle.qm_confluence.proofs.Confluence.IdealWires.{AreWiresCounted, BringsCounted, act_counted, moved_counted}
use Rattle.qm_simulation.proofs.Following.Places.{IsIn, before_event}
use Rattle.qm_simulation.proofs.Following.Stood.{IsStood}
use Rattle.qm_simulation.proofs.Following.Safe.{taken_half}
use Rattle.qm_simulation.proofs.Following.Agreeing.{giving}
use Rattle.qm_simulation.proofs.Following.Deeds.{ideal_after}
use Rattle.qm_simulation.proofs.Following.SeenSteps.{front_load}

never_zero : {A : Type 0} (s : ℕ) → nat_eq (suc s) 0 ≡ true → A
never_zero s e = absurd (let z : suc s ≡ 0 = eqb-true (suc s) 0 e in omega arith)

-- ---- the wires of the ideal machine
-- what the acts of a step bring
abbrev AllBring : ℕ → IdealTables → List IdealAct → Type 0
AllBring r x [] = Unit {0}
AllBring r x (a ∷ acts) = BringsCounted x a × AllBring r (ideal_after_act r x a) acts

all_counted : (r : ℕ) (acts : List IdealAct) (x : IdealTables) → AreWiresCounted x → AllBring r x acts → AreWiresCounted (fold (ideal_after_act r) x acts)
all_counted r [] x c b = c
all_counted r (a ∷ acts) x c b = all_counted r acts (ideal_after_act r x a) (act_counted r x a c b.0) b.1

front_contains : (xs : List Load) (w : Wire) → slice_index_or xs 0 Token ≡ Carried w → Contains xs (Carried w)
front_contains [] w e = absurd (let n : ⊥ = cc in n)
front_contains (x ∷ xs) w e = subst (Contains (x ∷ xs)) e (Contains-append_left (x ∷ []) xs x (Contains-push [] x))

module _ (p : Programs) (t : Tables) (r : ℕ) (counted : AreWiresCounted (tables_seen p t)) where
  -- the wire that is made is counted
  new_counted : IsCounted (ideal_after_act r (tables_seen p t) Counts) (ideal_wire_made (tables_seen p t) r)
  new_counted =
      let x = tables_seen p t in
      let e : ((ideal_after_act r x Counts).parts r).made ≡ (x.parts r).made + 1 = ap (λ (y : IdealPart). y.made) (with_at-here x.parts r (record (x.parts r) { made = (x.parts r).made + 1 })) in
      record { far = refl; below = omega arith }

  -- and so is the wire at the front of a lane
  front_counted : (a : Lane) (f : Wire) → is_seen a.kind ≡ true → is_some (front t a).bits ≡ true → load_seen a.kind (front t a) ≡ Carried f
      → IsCounted (ideal_after_act r (tables_seen p t) (Takes a)) (wire_carried (load_at (tables_seen p t) a))
  front_counted a f seen bits is =
      let e : load_at (tables_seen p t) a ≡ Carried f = front_load a.kind (t.lanes a) seen bits ∙ is in
      let h = counted.loads a f (front_contains ((tables_seen p t).lanes a) f e) in
      subst (λ (y : Load). IsCounted (ideal_after_act r (tables_seen p t) (Takes a)) (wire_carried y)) (sym e) (record { far = h.far; below = h.below })

  brings : (i : Instr) (s : ℕ) → IsNext p t r i s → nat_eq s (events_before i) ≡ true → AllBring r (tables_seen p t) (ideal_row_of p (tables_seen p t) r i).acts
  brings (instr.Alloc q) s next e = (tt, (new_counted, tt))
  brings (instr.Do g) s next e = tt
  brings (instr.Free q) s next e = (tt, tt)
  brings (instr.Measure q b) s next e = (tt, (tt, tt))
  brings (instr.Set b v) s next e = (tt, tt)
  brings (instr.Xor b c) s next e = (tt, tt)
  brings (instr.When b g) s next e = tt
  brings (instr.SendBit b to tag) s next e = (tt, tt)
  brings (instr.RecvBit b from tag) s next e = (tt, (tt, tt))
  brings (instr.CopyTo q to tag) s next e = (tt, (new_counted, tt))
  brings (instr.CopyFrom q from tag) zero next e = (tt, (front_counted (lane from r kind.Copy tag) _ refl next.holds refl, tt))
  brings (instr.CopyFrom q from tag) (suc s) next e = never_zero s e
  brings (instr.UndoTo q to tag) s next e = (tt, (tt, tt))
  brings (instr.UndoFrom q from tag) s next e = (tt, tt)
  brings (instr.MoveTo q to tag) s next e = let h = new_counted in (tt, (tt, (record { far = h.far; below = h.below }, tt)))
  brings (instr.MoveFrom q from tag) zero next e = (tt, (front_counted (lane from r kind.Move tag) _ refl next.holds refl, tt))
  brings (instr.MoveFrom q from tag) (suc s) next e = never_zero s e
  brings (instr.ReachTo q to tag) s next e = (tt, (tt, tt))
  brings (instr.ReachFrom q from tag) s next e = (tt, tt)

  pub counted_event : (i : Instr) (s : ℕ) → IsNext p t r i s → AreWiresCounted (ideal_after p t r i s)
  counted_event i s next = by_test (nat_eq s (events_before i)) refl
    where
      by_test : (b : Bool) → nat_eq s (events_before i) ≡ b
          → AreWiresCounted (cond b (ideal_past_instr (fold (ideal_after_act r) (tables_seen p t) (ideal_row_of p (tables_seen p t) r i).acts) r) (tables_seen p t))
      by_test true e = moved_counted r _ (all_counted r (ideal_row_of p (tables_seen p t) r i).acts (tables_seen p t) counted (brings i s next e))
      by_test false e = counted

-- ---- what the step waits for
-- a lane whose front parcel has its bits is not empty to the ideal machine
load_there : (k : Kind) (xs : List Parcel) → is_seen k ≡ true → is_some (slice_index_or xs 0 no_parcel).bits ≡ true → nat_lt 0 (length (loads_seen k xs)) ≡ true
load_there k [] seen h = absurd (let n : ⊥ = cc in n)
load_there k (x ∷ xs) seen h =
    ap (λ b. nat_lt 0 (length (cond b (load_seen k x ∷ loads_seen k xs) (loads_seen k xs)))) (ap₂ (λ a b. a && b) seen h)
    ∙ lt-ltb 0 (length (load_seen k x ∷ loads_seen k xs)) (omega arith)

-- a rank whose instruction is not decided stands where it stands
pub stands_seen : (p : Programs) (t : Tables) (d : ℕ) (j : Instr) (k : ℕ) → IsIn p t d j k → is_decided (Some j) k ≡ false → ideal_current p (tables_seen p t) d ≡ Some j
stands_seen p t d j k here early =
    let v = t.parts d in
    ap (instr_at p d) (ap₂ (λ o m. (part_seen o m v).at) here.read here.stage ∙ ap (λ b. cond b (v.at + 1) v.at) early) ∙ here.read

empty_seen : (p : Programs) (t : Tables) (a : Lane) → t.lanes a ≡ [] → is_empty_lane (tables_seen p t) a ≡ true
empty_seen p t a e = ap (λ xs. nat_eq (length (loads_seen a.kind xs)) 0) e

module _ (p : Programs) (ready : IsReady p) (ranges : IsInRange p) (t : Tables) (r : ℕ) (stood : IsStood p t) where
  pub enables : (i : Instr) (s : ℕ) → IsNext p t r i s → nat_eq s (events_before i) ≡ true → instr_enabled p (tables_seen p t) r (Some i) ≡ true
  enables (instr.RecvBit b from tag) zero next e = load_there kind.Bit (t.lanes (lane from r kind.Bit tag)) refl next.holds
  enables (instr.RecvBit b from tag) (suc s) next e = never_zero s e
  enables (instr.CopyFrom q from tag) zero next e = load_there kind.Copy (t.lanes (lane from r kind.Copy tag)) refl next.holds
  enables (instr.CopyFrom q from tag) (suc s) next e = never_zero s e
  enables (instr.MoveFrom q from tag) zero next e = load_there kind.Move (t.lanes (lane from r kind.Move tag)) refl next.holds
  enables (instr.MoveFrom q from tag) (suc s) next e = never_zero s e
  enables (instr.UndoFrom q from tag) zero next e = load_there kind.Undo (t.lanes (lane from r kind.Undo tag)) refl next.holds
  enables (instr.UndoFrom q from tag) (suc s) next e = never_zero s e
  enables (instr.ReachTo q to tag) zero next e = cc
  enables (instr.ReachTo q to tag) (suc zero) next e = cc
  enables (instr.ReachTo q to tag) (suc (suc zero)) next e = cc
  enables (instr.ReachTo q to tag) (suc (suc (suc zero))) next e = load_there kind.Back (t.lanes (lane to r kind.Back tag)) refl next.holds
  enables (instr.ReachTo q to tag) (suc (suc (suc (suc s)))) next e = absurd (over s e)
    where
      over : (s : ℕ) → nat_eq (suc (suc (suc (suc s)))) 3 ≡ true → ⊥
      over s e = let z : suc (suc (suc (suc s))) ≡ 3 = eqb-true (suc (suc (suc (suc s)))) 3 e in omega arith
  enables (instr.UndoTo q to tag) zero next e = cc
  enables (instr.UndoTo q to tag) (suc zero) next e =
      let a = lane r to kind.Undo tag in
      let x = giving p ready ranges t r stood (instr.UndoTo q to tag) 1 next r q to tag (before_event p t r (instr.UndoTo q to tag) 1 next) in
      ap₂ (λ o b. receives_on to o a && b) (stands_seen p t to (instr.UndoFrom x.source r tag) 0 x.ready_there refl) (empty_seen p t a x.empty)
      ∙ ap (λ b. b && true) (lane_itself a)
  enables (instr.UndoTo q to tag) (suc (suc s)) next e = absurd (over s e)
    where
      over : (s : ℕ) → nat_eq (suc (suc s)) 1 ≡ true → ⊥
      over s e = let z : suc (suc s) ≡ 1 = eqb-true (suc (suc s)) 1 e in omega arith
  enables (instr.ReachFrom q from tag) zero next e = cc
  enables (instr.ReachFrom q from tag) (suc zero) next e = cc
  enables (instr.ReachFrom q from tag) (suc (suc zero)) next e = cc
  enables (instr.ReachFrom q from tag) (suc (suc (suc zero))) next e = cc
  enables (instr.ReachFrom q from tag) (suc (suc (suc (suc zero)))) next e =
      let here = before_event p t r (instr.ReachFrom q from tag) 4 next in
      let taken = taken_half p ready ranges t stood r q from tag 4 here refl in
      let waits = taken.0 in
      let a = lane from r kind.Reach tag in
      let back = lane r from kind.Back tag in
      ap₂ (λ o b. sends_on from o a && b) (stands_seen p t from (instr.ReachTo waits.slot r tag) 3 waits.here refl) (empty_seen p t back taken.1)
      ∙ ap (λ b. b && true) (lane_itself a)
  enables (instr.ReachFrom q from tag) (suc (suc (suc (suc (suc s))))) next e = absurd (over s e)
    where
      over : (s : ℕ) → nat_eq (suc (suc (suc (suc (suc s))))) 4 ≡ true → ⊥
      over s e = let z : suc (suc (suc (suc (suc s)))) ≡ 4 = eqb-true (suc (suc (suc (suc (suc s))))) 4 e in omega arith
  enables _ s next e = refl
