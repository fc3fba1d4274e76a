-- A step that is told the outcome at the front of a tape is the step of the programs with that tape
use mathlib.Core.Path.{fun_ext}
use Rattle.std.proofs.Common.{◌≡◌, ◌∙◌, ℕ, ◌+◌, Bool, false, cond, List, [], ◌∷◌, ◌++◌, drop, fold, Some, slice_index_or, slice_get, refl, sym, ap, ap₂}
use Rattle.std.specs.Prelude.{slice_set}
use Rattle.qm_denot.specs.declared.Letter.TheVariants.{Keep}
use Rattle.qm_instr.specs.declared.Instr.{Instr}
use Rattle.qm_instr.specs.declared.Instr.TheVariants as instr
use Rattle.qm_instr.specs.Programs.{Programs, rank_of}
use Rattle.qm_proto.specs.Model.State.{with_at, no_wire}
use Rattle.qm_proto.specs.Model.Rows.{wire_offered}
use Rattle.qm_proto.specs.Model.Ideal.{ideal_row_of, IdealPart, IdealTables, IdealState, IdealRule, IdealRow, Always, Filled, Engaged, Lent, IdealAct, Counts, SlotSet, Puts, Takes, OwnUsed, BitSet, ideal_after_act, ideal_past_instr, ideal_current, ideal_next, ideal_wire_in}
use Rattle.qm_proto.proofs.Changes.{by_number, with_at-here, with_at-elsewhere}
use Rattle.qm_confluence.specs.Told.{filled, told, without_own, told_instr, told_next, left_after}
use Rattle.qm_confluence.proofs.Confluence.ByView.{View, slot_wire, front_read, reads, offered_read, rule_of, letters_by, acts_by, view, step_by, step_is}
use Rattle.qm_confluence.proofs.Confluence.Diamond.{next_is, state_by}
use Rattle.qm_confluence.proofs.Confluence.Effects.{stepped}

-- a rank's part with these outcomes left
abbrev taped : List Bool → IdealPart → IdealPart
taped xs x = record x { own = xs }

module _ (r : ℕ) (left : ℕ → List Bool) where
  -- a change of the rank's part that doesn't look at its tape
  parts_filled : (f : ℕ → IdealPart) (g : IdealPart → IdealPart) → ((x : IdealPart) (xs : List Bool) → g (taped xs x) ≡ taped xs (g x))
      → (with_at (λ k. taped (left k) (f k)) r (g (taped (left r) (f r)))) ≡ (λ k. taped (left k) (with_at f r (g (f r)) k))
  parts_filled f g free = fun_ext (λ k. by_number (λ k. with_at (λ k. taped (left k) (f k)) r (g (taped (left r) (f r))) k ≡ taped (left k) (with_at f r (g (f r)) k)) r
      (with_at-here (λ k. taped (left k) (f k)) r (g (taped (left r) (f r))) ∙ free (f r) (left r) ∙ ap (taped (left r)) (sym (with_at-here f r (g (f r)))))
      (λ k other. with_at-elsewhere (λ k. taped (left k) (f k)) r (g (taped (left r) (f r))) k other ∙ ap (taped (left k)) (sym (with_at-elsewhere f r (g (f r)) k other))) k)

  part_filled : (t : IdealTables) (g : IdealPart → IdealPart) → ((x : IdealPart) (xs : List Bool) → g (taped xs x) ≡ taped xs (g x))
      → (let u : IdealTables = record (filled left t) { parts = with_at (filled left t).parts r (g ((filled left t).parts r)) } in u)
      ≡ filled left (let u : IdealTables = record t { parts = with_at t.parts r (g (t.parts r)) } in u)
  part_filled t g free = ap (λ f. let u : IdealTables = record t { parts = f } in u) (parts_filled t.parts g free)

  -- an act but for the use of an outcome
  abbrev IsOther : IdealAct → Type 0
  IsOther OwnUsed = ⊥
  IsOther _ = Unit {0}

  abbrev AllOther : List IdealAct → Type 0
  AllOther [] = Unit {0}
  AllOther (a ∷ acts) = IsOther a × AllOther acts

  act_filled : (t : IdealTables) (a : IdealAct) → IsOther a → ideal_after_act r (filled left t) a ≡ filled left (ideal_after_act r t a)
  act_filled t Counts h = part_filled t (λ x. record x { made = x.made + 1 }) (λ x xs. refl)
  act_filled t (BitSet b v) h = part_filled t (λ x. record x { bits = slice_set x.bits b v }) (λ x xs. refl)
  act_filled t (SlotSet q w) h = refl
  act_filled t (Puts a x) h = refl
  act_filled t (Takes a) h = refl
  act_filled t OwnUsed h = absurd h

  acts_filled : (acts : List IdealAct) (t : IdealTables) → AllOther acts → fold (ideal_after_act r) (filled left t) acts ≡ filled left (fold (ideal_after_act r) t acts)
  acts_filled [] t h = refl
  acts_filled (a ∷ acts) t h =
      ap (λ u. fold (ideal_after_act r) u acts) (act_filled t a h.0) ∙ acts_filled acts (ideal_after_act r t a) h.1

  past_filled : (t : IdealTables) → ideal_past_instr (filled left t) r ≡ filled left (ideal_past_instr t r)
  past_filled t = part_filled t (λ x. record x { at = x.at + 1 }) (λ x xs. refl)

  -- the use of an outcome
  own_filled : (t : IdealTables) → ideal_after_act r (filled left t) OwnUsed ≡ filled (with_at left r (drop 1 (left r))) t
  own_filled t = ap (λ f. let u : IdealTables = record t { parts = f } in u) (fun_ext (λ k.
      by_number (λ k. with_at (filled left t).parts r (taped (drop 1 (left r)) (t.parts r)) k ≡ taped (with_at left r (drop 1 (left r)) k) (t.parts k)) r
      (with_at-here (filled left t).parts r _ ∙ ap (λ xs. taped xs (t.parts r)) (sym (with_at-here left r (drop 1 (left r)))))
      (λ k other. with_at-elsewhere (filled left t).parts r _ k other ∙ ap (λ xs. taped xs (t.parts k)) (sym (with_at-elsewhere left r (drop 1 (left r)) k other))) k))

-- ---- a rank's view, with these outcomes left
module _ (p : Programs) (t : IdealTables) (r : ℕ) (i : Instr) where
  abbrev pub seen : List Bool → View
  seen xs = record { part = taped xs (t.parts r); slots = t.slots r; load = front_read t (rule_of r i); offered = offered_read p t (rule_of r i) }

  front_same : (left : ℕ → List Bool) (rule : IdealRule) → front_read (filled left t) rule ≡ front_read t rule
  front_same left Always = refl
  front_same left (Filled a) = refl
  front_same left (Engaged a) = refl
  front_same left (Lent a back) = refl

  module _ (q : Programs) (same : (r : ℕ) → (rank_of q r).instructions ≡ (rank_of p r).instructions) (left : ℕ → List Bool) where
    offered_same : offered_read q (filled left t) (rule_of r i) ≡ offered_read p t (rule_of r i)
    offered_same = fun_ext (λ h. ap (λ o. cond (reads (rule_of r i) h) (wire_offered (ideal_wire_in t h) o) no_wire) (ap (λ is. slice_get is (t.parts h).at) (same h)))

    seen_so : view q (filled left t) r i ≡ seen (left r)
    seen_so =
        ap₂ (λ x o. let v : View = record { part = taped (left r) (t.parts r); slots = t.slots r; load = x; offered = o } in v)
        (front_same left (rule_of r i)) offered_same

-- letters and acts look at the outcome alone, where the instruction measures
abbrev pub IsTold : Instr → List Bool → Bool → Type 0
IsTold (instr.Measure q b) xs m = slice_index_or xs 0 false ≡ m
IsTold _ xs m = Unit {0}

module _ (p : Programs) (t : IdealTables) (r : ℕ) (xs : List Bool) (m : Bool) where
  letters_told : (i : Instr) → IsTold i xs m → letters_by r i (seen p t r i xs) ≡ letters_by r i (seen p t r i (m ∷ []))
  letters_told (instr.Measure q b) e = ap (λ m. Keep (slot_wire (seen p t r (instr.Measure q b) xs) q) m ∷ []) e
  letters_told (instr.Alloc q) e = refl
  letters_told (instr.Free q) e = refl
  letters_told (instr.Do g) e = refl
  letters_told (instr.Set b x) e = refl
  letters_told (instr.Xor b c) e = refl
  letters_told (instr.When b g) e = refl
  letters_told (instr.SendBit b to tag) e = refl
  letters_told (instr.RecvBit b from tag) e = refl
  letters_told (instr.CopyTo q to tag) e = refl
  letters_told (instr.CopyFrom q from tag) e = refl
  letters_told (instr.UndoTo q to tag) e = refl
  letters_told (instr.UndoFrom q from tag) e = refl
  letters_told (instr.MoveTo q to tag) e = refl
  letters_told (instr.MoveFrom q from tag) e = refl
  letters_told (instr.ReachTo q to tag) e = refl
  letters_told (instr.ReachFrom q from tag) e = refl

  -- the acts of an instruction that doesn't measure
  module _ (left : ℕ → List Bool) (here : left r ≡ xs) where
    abbrev IsDone : Instr → Type 0
    IsDone i =
        fold (ideal_after_act r) (filled left t) (acts_by r i (seen p t r i xs))
        ≡ filled (left_after left r i) (fold (ideal_after_act r) t (without_own (acts_by r i (seen p t r i (m ∷ [])))))

    acts_told : (i : Instr) → IsTold i xs m → IsDone i
    acts_told (instr.Measure q b) e =
        let now = with_at left r (drop 1 (left r)) in
        ap (λ m. fold (ideal_after_act r) (filled left t) (OwnUsed ∷ BitSet b m ∷ [])) e
        ∙ ap (λ u. ideal_after_act r u (BitSet b m)) (own_filled r left t)
        ∙ act_filled r now t (BitSet b m) tt
    acts_told (instr.Alloc q) e = acts_filled r left (acts_by r (instr.Alloc q) (seen p t r (instr.Alloc q) xs)) t (tt, (tt, tt))
    acts_told (instr.Free q) e = acts_filled r left (acts_by r (instr.Free q) (seen p t r (instr.Free q) xs)) t (tt, tt)
    acts_told (instr.Do g) e = refl
    acts_told (instr.When b g) e = refl
    acts_told (instr.Set b x) e = acts_filled r left (acts_by r (instr.Set b x) (seen p t r (instr.Set b x) xs)) t (tt, tt)
    acts_told (instr.Xor b c) e = acts_filled r left (acts_by r (instr.Xor b c) (seen p t r (instr.Xor b c) xs)) t (tt, tt)
    acts_told (instr.SendBit b to tag) e = acts_filled r left (acts_by r (instr.SendBit b to tag) (seen p t r (instr.SendBit b to tag) xs)) t (tt, tt)
    acts_told (instr.RecvBit b from tag) e = acts_filled r left (acts_by r (instr.RecvBit b from tag) (seen p t r (instr.RecvBit b from tag) xs)) t (tt, (tt, tt))
    acts_told (instr.CopyTo q to tag) e = acts_filled r left (acts_by r (instr.CopyTo q to tag) (seen p t r (instr.CopyTo q to tag) xs)) t (tt, (tt, tt))
    acts_told (instr.CopyFrom q from tag) e = acts_filled r left (acts_by r (instr.CopyFrom q from tag) (seen p t r (instr.CopyFrom q from tag) xs)) t (tt, (tt, tt))
    acts_told (instr.UndoTo q to tag) e = acts_filled r left (acts_by r (instr.UndoTo q to tag) (seen p t r (instr.UndoTo q to tag) xs)) t (tt, (tt, tt))
    acts_told (instr.UndoFrom q from tag) e = acts_filled r left (acts_by r (instr.UndoFrom q from tag) (seen p t r (instr.UndoFrom q from tag) xs)) t (tt, tt)
    acts_told (instr.MoveTo q to tag) e = acts_filled r left (acts_by r (instr.MoveTo q to tag) (seen p t r (instr.MoveTo q to tag) xs)) t (tt, (tt, (tt, tt)))
    acts_told (instr.MoveFrom q from tag) e = acts_filled r left (acts_by r (instr.MoveFrom q from tag) (seen p t r (instr.MoveFrom q from tag) xs)) t (tt, (tt, tt))
    acts_told (instr.ReachTo q to tag) e = acts_filled r left (acts_by r (instr.ReachTo q to tag) (seen p t r (instr.ReachTo q to tag) xs)) t (tt, (tt, tt))
    acts_told (instr.ReachFrom q from tag) e = acts_filled r left (acts_by r (instr.ReachFrom q from tag) (seen p t r (instr.ReachFrom q from tag) xs)) t (tt, tt)

-- ---- a step
abbrev pub filled_state : (ℕ → List Bool) → IdealState → IdealState
filled_state left s = record s { tables = filled left s.tables }

module _ (p q : Programs) (same : (r : ℕ) → (rank_of q r).instructions ≡ (rank_of p r).instructions) (s : IdealState) (left : ℕ → List Bool) (r : ℕ) (m : Bool) where
  pub told_row : (i : Instr) → ideal_row_of p (told s.tables m) r i ≡ step_by r i (seen p s.tables r i (m ∷ []))
  told_row i = step_is p (told s.tables m) r i ∙ ap (step_by r i) (seen_so p s.tables r i p (λ r. refl) (λ r. m ∷ []))

  pub told_is : (i : Instr) → ideal_current p s.tables r ≡ Some i
      → told_next p s r m ≡ (let u : IdealState = record { tables = stepped r (without_own (acts_by r i (seen p s.tables r i (m ∷ [])))) s.tables; circuit = s.circuit ++ letters_by r i (seen p s.tables r i (m ∷ [])) } in u)
  told_is i read =
      ap (told_instr p s r m) read
      ∙ ap (λ (x : IdealRow). let u : IdealState = record { tables = ideal_past_instr (fold (ideal_after_act r) s.tables (without_own x.acts)) r; circuit = s.circuit ++ x.letters } in u)
      (told_row i)

  pub next_told : (i : Instr) → ideal_current p s.tables r ≡ Some i → IsTold i (left r) m
      → ideal_next q (filled_state left s) r ≡ filled_state (left_after left r i) (told_next p s r m)
  next_told i read takes =
      let t = s.tables in
      let here : ideal_current q (filled left t) r ≡ Some i = ap (λ is. slice_get is (t.parts r).at) (same r) ∙ read in
      let w = seen p t r i (m ∷ []) in
      next_is q (filled_state left s) r i here
      ∙ ap (λ v. state_by r i v (filled_state left s)) (seen_so p t r i q same left)
      ∙ ap (λ ls. let u : IdealState = record { tables = stepped r (acts_by r i (seen p t r i (left r))) (filled left t); circuit = s.circuit ++ ls } in u) (letters_told p t r (left r) m i takes)
      ∙ ap (λ v. let u : IdealState = record { tables = ideal_past_instr v r; circuit = s.circuit ++ letters_by r i w } in u) (acts_told p t r (left r) m left refl i takes)
      ∙ ap (λ v. let u : IdealState = record { tables = v; circuit = s.circuit ++ letters_by r i w } in u) (past_filled r (left_after left r i) (fold (ideal_after_act r) t (without_own (acts_by r i w))))
      ∙ ap (filled_state (left_after left r i)) (sym (told_is i read))
