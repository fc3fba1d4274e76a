-- Each event is seen by the ideal machine as the step of its instruction where it is the deciding one, and else as nothing
use Rattle.std.proofs.Common.{◌≡◌, ℕ, zero, suc, ◌+◌, ◌-◌, ◌<◌, nat_lt, Bool, true, false, cond, ◌&&◌, List, [], ◌∷◌, ◌++◌, drop, fold, Some, None, is_some, slice_index_or, refl, sym, ap, ap₂, ◌∙◌, append-nil, arith}
use Rattle.std.specs.Prelude.{slice_set}
use Rattle.qm_denot.specs.declared.Wire.{Wire}
use Rattle.qm_denot.specs.declared.Letter.{Letter}
use Rattle.qm_denot.specs.declared.Letter.TheVariants.{Flip, Phase}
use Rattle.qm_denot.specs.Parcels.{filled}
use Rattle.qm_instr.specs.declared.Instr.{Instr}
use Rattle.qm_instr.specs.declared.Instr.TheVariants as instr
use Rattle.qm_instr.specs.declared.Kind.{Kind}
use Rattle.qm_instr.specs.declared.Kind.TheVariants as kind
use Rattle.qm_instr.specs.declared.Lane.{Lane}
use Rattle.qm_instr.specs.Lanes.{lane, lane_sent}
use Rattle.qm_instr.specs.Programs.{Programs, IsInRange}
use Rattle.qm_check.specs.Checks.{IsReady}
use Rattle.qm_denot.specs.declared.Parcel.{Parcel}
use Rattle.qm_proto.specs.declared.Act.{Act}
use Rattle.qm_proto.specs.Model.State.{Tables, with_slot, with_lane, no_parcel, front, far_made, wire_in, wire_of, first_bit, second_bit, bit_of, protocol_next}
use Rattle.qm_proto.specs.Model.Acts.{list_of}
use Rattle.qm_proto.specs.Model.Rows.{half_parcel, bit_parcel, letter, few_if, gate_letter}
use Rattle.qm_proto.specs.Model.Ideal.{IdealPart, IdealTables, Load, Carried, Told, Token, IdealAct, Counts, SlotSet, Puts, Takes, OwnUsed, BitSet, ideal_after_act, ideal_past_instr, ideal_wire_made, wire_carried, bit_told, ideal_row_of}
use Rattle.qm_proto.proofs.Changes.{with_at-here}
use Rattle.qm_safety.specs.Tables.Well.{middle_of, middle_at, is_open, sent_at}
use Rattle.qm_safety.specs.Tables.Lines.{row_at, acts_of}
use Rattle.qm_simulation.specs.Following.Seen.{part_seen, load_seen, is_seen, loads_seen, tables_seen}
use Rattle.qm_simulation.specs.Following.Debts.{far_counted}
use Rattle.qm_safety.proofs.Tables.NextEvents.{IsNext, event_done}
use Rattle.qm_simulation.proofs.Following.Places.{before_event, after, part_all, part_all_done, part_at, part_stage, letters_tables}
use Rattle.qm_simulation.proofs.Following.SeenLaws.{past, seen_before, seen_on, seen_ended, seen_same, seen_step, loads_changed, loads_kept, loads_posted, filled_last}
use Rattle.qm_simulation.proofs.Following.Opens.{IsLast}
use Rattle.qm_simulation.proofs.Following.Stood.{IsStood}
use Rattle.qm_simulation.proofs.Following.Safe.{made_some}
use Rattle.qm_simulation.proofs.Following.Deeds.{ideal_after}
use Rattle.qm_proto.proofs.Lines.{never}

-- ---- the ideal part of the acting rank
abbrev ideal_one : IdealAct → IdealPart → IdealPart
ideal_one Counts y = record y { made = y.made + 1 }
ideal_one OwnUsed y = record y { own = drop 1 y.own }
ideal_one (BitSet b v) y = record y { bits = slice_set y.bits b v }
ideal_one _ y = y

abbrev ideal_all : List IdealAct → IdealPart → IdealPart
ideal_all [] y = y
ideal_all (a ∷ acts) y = ideal_all acts (ideal_one a y)

module _ (r : ℕ) where
  ideal_one_done : (x : IdealTables) (a : IdealAct) → (ideal_after_act r x a).parts r ≡ ideal_one a (x.parts r)
  ideal_one_done x Counts = with_at-here x.parts r (record (x.parts r) { made = (x.parts r).made + 1 })
  ideal_one_done x OwnUsed = with_at-here x.parts r (record (x.parts r) { own = drop 1 (x.parts r).own })
  ideal_one_done x (BitSet b v) = with_at-here x.parts r (record (x.parts r) { bits = slice_set (x.parts r).bits b v })
  ideal_one_done x (SlotSet q w) = refl
  ideal_one_done x (Puts a y) = refl
  ideal_one_done x (Takes a) = refl

  ideal_all_done : (acts : List IdealAct) (x : IdealTables) → (fold (ideal_after_act r) x acts).parts r ≡ ideal_all acts (x.parts r)
  ideal_all_done [] x = refl
  ideal_all_done (a ∷ acts) x = ideal_all_done acts (ideal_after_act r x a) ∙ ap (ideal_all acts) (ideal_one_done x a)

-- ---- loads
seen_bits : (k : Kind) (x : Parcel) → is_seen k ≡ true → is_some x.bits ≡ true → (is_seen k && is_some x.bits) ≡ true
seen_bits k x e f = ap₂ (λ a b. a && b) e f

-- the front parcel, which has its bits, is the front load
pub front_load : (k : Kind) (xs : List Parcel) → is_seen k ≡ true → is_some (slice_index_or xs 0 no_parcel).bits ≡ true
    → slice_index_or (loads_seen k xs) 0 Token ≡ load_seen k (slice_index_or xs 0 no_parcel)
front_load k [] e h = absurd (let n : ⊥ = cc in n)
front_load k (x ∷ xs) e h = ap (λ b. slice_index_or (cond b (load_seen k x ∷ loads_seen k xs) (loads_seen k xs)) 0 Token) (seen_bits k x e h)

pub rest_load : (k : Kind) (xs : List Parcel) → is_seen k ≡ true → is_some (slice_index_or xs 0 no_parcel).bits ≡ true
    → loads_seen k (drop 1 xs) ≡ drop 1 (loads_seen k xs)
rest_load k [] e h = refl
rest_load k (x ∷ xs) e h = sym (ap (λ b. drop 1 (cond b (load_seen k x ∷ loads_seen k xs) (loads_seen k xs))) (seen_bits k x e h))

-- the ideal machine has no lanes for the halves of a reach
none_seen : (xs : List Parcel) → loads_seen kind.Reach xs ≡ []
none_seen [] = refl
none_seen (x ∷ xs) = none_seen xs

-- the last parcel gets its bits, and is seen from then on
told_load : (k : Kind) (xs : List Parcel) (f : Wire) (b : Bool × Bool) → is_seen k ≡ true → IsLast xs (half_parcel f)
    → loads_seen k (filled xs b) ≡ loads_seen k xs ++ load_seen k (record (half_parcel f) { bits = Some b }) ∷ []
told_load k xs f b e last =
    let y : Parcel = record (half_parcel f) { bits = Some b } in
    ap (λ ys. loads_seen k (filled ys b)) last.is ∙ ap (loads_seen k) (filled_last last.front (half_parcel f) b) ∙ loads_posted k last.front y
    ∙ ap₂ (λ ls c. ls ++ cond c (load_seen k y ∷ []) []) (sym before) (seen_bits k y e refl)
  where
    unseen : (c : Bool) → (c && false) ≡ false
    unseen true = refl
    unseen false = refl

    before : loads_seen k xs ≡ loads_seen k last.front
    before =
        ap (loads_seen k) last.is ∙ loads_posted k last.front (half_parcel f)
        ∙ ap (λ c. loads_seen k last.front ++ cond c (load_seen k (half_parcel f) ∷ []) []) (unseen (is_seen k)) ∙ append-nil (loads_seen k last.front)

-- ---- two shapes
module _ (p : Programs) (t : Tables) (r : ℕ) (i : Instr) (s : ℕ) (next : IsNext p t r i s) (n : ℕ) (acts : List Act) where
  on_part : nat_lt (s + 1) n ≡ true → (tables_seen p (event_done n r acts t)).parts r ≡ part_seen (Some i) (s + 1) (part_all r acts t (t.parts r))
  on_part more = seen_on p t r i s next n acts (part_all r acts t (t.parts r)) (part_all_done r acts t) (part_at r acts t) (part_stage r acts t ∙ next.stage) more

  ended_part : nat_lt (s + 1) n ≡ false → (tables_seen p (event_done n r acts t)).parts r ≡ past (part_seen None 0 (part_all r acts t (t.parts r)))
  ended_part last = seen_ended p t r i s next n acts (part_all r acts t (t.parts r)) (part_all_done r acts t) (part_at r acts t) (part_stage r acts t ∙ next.stage) last

  -- nothing is seen of the event
  unseen_on : nat_lt (s + 1) n ≡ true → part_seen (Some i) (s + 1) (part_all r acts t (t.parts r)) ≡ part_seen (Some i) s (t.parts r)
      → (let u = event_done n r acts t in ((k q : ℕ) → u.slots k q ≡ t.slots k q) → ((a : Lane) → loads_seen a.kind (u.lanes a) ≡ loads_seen a.kind (t.lanes a))
      → tables_seen p u ≡ tables_seen p t)
  unseen_on more part slots lanes = seen_same p t r i s next n acts (on_part more ∙ part) slots lanes

  unseen_ended : nat_lt (s + 1) n ≡ false → past (part_seen None 0 (part_all r acts t (t.parts r))) ≡ part_seen (Some i) s (t.parts r)
      → (let u = event_done n r acts t in ((k q : ℕ) → u.slots k q ≡ t.slots k q) → ((a : Lane) → loads_seen a.kind (u.lanes a) ≡ loads_seen a.kind (t.lanes a))
      → tables_seen p u ≡ tables_seen p t)
  unseen_ended last part slots lanes = seen_same p t r i s next n acts (ended_part last ∙ part) slots lanes

  -- a step is seen
  module _ (steps : List IdealAct) (part : ideal_all steps (part_seen (Some i) s (t.parts r)) ≡ part_seen None 0 (part_all r acts t (t.parts r))) where
    abbrev w : IdealTables
    w = fold (ideal_after_act r) (tables_seen p t) steps

    here : (fold (ideal_after_act r) (tables_seen p t) steps).parts r ≡ part_seen None 0 (part_all r acts t (t.parts r))
    here = ideal_all_done r steps (tables_seen p t) ∙ ap (ideal_all steps) (seen_before p t r i s next) ∙ part

    step_ended : nat_lt (s + 1) n ≡ false
        → (let u = event_done n r acts t in let w = fold (ideal_after_act r) (tables_seen p t) steps in
        ((k q : ℕ) → u.slots k q ≡ w.slots k q) → ((a : Lane) → loads_seen a.kind (u.lanes a) ≡ w.lanes a) → tables_seen p u ≡ ideal_past_instr w r)
    step_ended last slots lanes = seen_step p t r i s next n acts steps (part_seen None 0 (part_all r acts t (t.parts r))) (ended_part last) here slots lanes

    step_on : nat_lt (s + 1) n ≡ true → part_seen (Some i) (s + 1) (part_all r acts t (t.parts r)) ≡ past (part_seen None 0 (part_all r acts t (t.parts r)))
        → (let u = event_done n r acts t in let w = fold (ideal_after_act r) (tables_seen p t) steps in
        ((k q : ℕ) → u.slots k q ≡ w.slots k q) → ((a : Lane) → loads_seen a.kind (u.lanes a) ≡ w.lanes a) → tables_seen p u ≡ ideal_past_instr w r)
    step_on more decided slots lanes = seen_step p t r i s next n acts steps (part_seen None 0 (part_all r acts t (t.parts r))) (on_part more ∙ decided) here slots lanes

module _ (p : Programs) (ready : IsReady p) (ranges : IsInRange p) (t : Tables) (r : ℕ) (stood : IsStood p t) where
  abbrev steps : Instr → List IdealAct
  steps i = (ideal_row_of p (tables_seen p t) r i).acts

  -- letters that may be there change nothing
  quiet_letters : (i : Instr) (s n : ℕ) (next : IsNext p t r i s) (b : Bool) (l : Letter) → nat_lt (s + 1) n ≡ true
      → part_seen (Some i) (s + 1) (t.parts r) ≡ part_seen (Some i) s (t.parts r)
      → tables_seen p (event_done n r (list_of (few_if b (letter l))) t) ≡ tables_seen p t
  quiet_letters i s n next b l more part = ap (tables_seen p) (letters_tables r n b l t) ∙ unseen_on p t r i s next n [] more part (λ k q. refl) (λ a. refl)

  last_letters : (i : Instr) (s n : ℕ) (next : IsNext p t r i s) (b : Bool) (l : Letter) → nat_lt (s + 1) n ≡ false
      → past (part_seen None 0 (t.parts r)) ≡ part_seen (Some i) s (t.parts r)
      → tables_seen p (event_done n r (list_of (few_if b (letter l))) t) ≡ tables_seen p t
  last_letters i s n next b l last part = ap (tables_seen p) (letters_tables r n b l t) ∙ unseen_ended p t r i s next n [] last part (λ k q. refl) (λ a. refl)

  -- the wire that the ideal machine makes
  made_before : (i : Instr) (s : ℕ) → IsNext p t r i s → (m : ℕ) → (part_seen (Some i) s (t.parts r)).made ≡ m
      → (let f : Wire = record { rank = r; made = m; near = false } in f ≡ ideal_wire_made (tables_seen p t) r)
  made_before i s next m e =
      ap (λ k. let w : Wire = record { rank = r; made = k; near = false } in w) (sym (ap (λ (x : IdealPart). x.made) (seen_before p t r i s next) ∙ e))

  one_more : 0 < (t.parts r).made → (v : IdealPart) → (let y : IdealPart = record v { made = (t.parts r).made - 1 + 1 } in y) ≡ record v { made = (t.parts r).made }
  one_more some v =
      let e : (t.parts r).made - 1 + 1 ≡ (t.parts r).made = omega arith in
      ap (λ k. let y : IdealPart = record v { made = k } in y) e

  pair_part : (v : IdealPart) → (let y : IdealPart = record v { made = (t.parts r).made + 1 - 1 } in y) ≡ record v { made = (t.parts r).made }
  pair_part v =
      let e : (t.parts r).made + 1 - 1 ≡ (t.parts r).made = omega arith in
      ap (λ k. let y : IdealPart = record v { made = k } in y) e

  last_half : (i : Instr) (s : ℕ) (a : Lane) → IsNext p t r i s → is_open (middle_of i) s ≡ true → lane_sent r i ≡ Some a → IsLast (t.lanes a) (half_parcel (far_counted r (t.parts r)))
  last_half i s a next opens sent =
      (stood.opens r).last a (ap (λ o. is_open (middle_at o) (t.parts r).stage) next.read ∙ ap (is_open (middle_of i)) next.stage ∙ opens) (ap (sent_at r) next.read ∙ sent)

  -- a lane gains a load, and loses one
  gains : (a : Lane) (y : Parcel) (l : Load) → loads_seen a.kind (y ∷ []) ≡ l ∷ [] → (b : Lane)
      → loads_seen b.kind (with_lane t.lanes a (t.lanes a ++ y ∷ []) b)
      ≡ with_lane (tables_seen p t).lanes a ((tables_seen p t).lanes a ++ l ∷ []) b
  gains a y l e b = loads_changed t.lanes a (t.lanes a ++ y ∷ []) _ b (loads_posted a.kind (t.lanes a) y ∙ ap (λ ls. loads_seen a.kind (t.lanes a) ++ ls) e)

  loses : (a : Lane) → is_seen a.kind ≡ true → is_some (front t a).bits ≡ true → (b : Lane)
      → loads_seen b.kind (with_lane t.lanes a (drop 1 (t.lanes a)) b)
      ≡ with_lane (tables_seen p t).lanes a (drop 1 ((tables_seen p t).lanes a)) b
  loses a e bits b = loads_changed t.lanes a (drop 1 (t.lanes a)) _ b (rest_load a.kind (t.lanes a) e bits)

  told_lane : (a : Lane) (b : Bool × Bool) (f g : Wire) (l : Load) → is_seen a.kind ≡ true → IsLast (t.lanes a) (half_parcel f) → load_seen a.kind (record (half_parcel f) { bits = Some b }) ≡ l → (c : Lane)
      → loads_seen c.kind (with_lane t.lanes a (filled (t.lanes a) b) c)
      ≡ with_lane (tables_seen p t).lanes a ((tables_seen p t).lanes a ++ l ∷ []) c
  told_lane a b f g l e last is c =
      loads_changed t.lanes a (filled (t.lanes a) b) _ c (told_load a.kind (t.lanes a) f b e last ∙ ap (λ x. loads_seen a.kind (t.lanes a) ++ x ∷ []) is)

  -- a half is posted, unseen
  posts_unseen : (a : Lane) (f : Wire) (c : Bool) → is_seen a.kind ≡ c → (b : Lane)
      → loads_seen b.kind (with_lane t.lanes a (t.lanes a ++ half_parcel f ∷ []) b) ≡ loads_seen b.kind (t.lanes b)
  posts_unseen a f c e b =
      loads_kept t.lanes a (t.lanes a ++ half_parcel f ∷ []) b
      (loads_posted a.kind (t.lanes a) (half_parcel f) ∙ ap (λ d. loads_seen a.kind (t.lanes a) ++ cond d (load_seen a.kind (half_parcel f) ∷ []) []) (none (is_seen a.kind)) ∙ append-nil (loads_seen a.kind (t.lanes a)))
    where
      none : (c : Bool) → (c && false) ≡ false
      none true = refl
      none false = refl

  -- what changes on a lane of halves of reaches is unseen
  reach_unseen : (x y g : ℕ) (xs : List Parcel) (b : Lane)
      → loads_seen b.kind (with_lane t.lanes (lane x y kind.Reach g) xs b) ≡ loads_seen b.kind (t.lanes b)
  reach_unseen x y g xs b = loads_kept t.lanes (lane x y kind.Reach g) xs b (none_seen xs ∙ sym (none_seen (t.lanes (lane x y kind.Reach g))))

  pub sees : (i : Instr) (s : ℕ) → IsNext p t r i s → tables_seen p (after p t r i s) ≡ ideal_after p t r i s
  sees (instr.Alloc q) zero next =
      let i = instr.Alloc q in
      step_ended p t r i 0 next 1 (acts_of (row_at p t r i 0)) (steps i) refl refl
      (λ k j. ap (λ w. with_slot t.slots r q (Some w) k j) (made_before i 0 next (t.parts r).made refl)) (λ a. refl)
  sees (instr.Do g) zero next = let i = instr.Do g in step_ended p t r i 0 next 1 (acts_of (row_at p t r i 0)) (steps i) refl refl (λ k j. refl) (λ a. refl)
  sees (instr.Set b v) zero next = let i = instr.Set b v in step_ended p t r i 0 next 1 (acts_of (row_at p t r i 0)) (steps i) refl refl (λ k j. refl) (λ a. refl)
  sees (instr.Xor b c) zero next = let i = instr.Xor b c in step_ended p t r i 0 next 1 (acts_of (row_at p t r i 0)) (steps i) refl refl (λ k j. refl) (λ a. refl)
  sees (instr.When b g) zero next =
      let i = instr.When b g in
      ap (tables_seen p) (letters_tables r 1 (bit_of t r b) (gate_letter (wire_in t r) g) t)
      ∙ step_ended p t r i 0 next 1 [] (steps i) refl refl (λ k j. refl) (λ a. refl)
  sees (instr.Measure q b) zero next = let i = instr.Measure q b in step_ended p t r i 0 next 1 (acts_of (row_at p t r i 0)) (steps i) refl refl (λ k j. refl) (λ a. refl)
  sees (instr.Free q) zero next = let i = instr.Free q in step_ended p t r i 0 next 1 (acts_of (row_at p t r i 0)) (steps i) refl refl (λ k j. refl) (λ a. refl)
  sees (instr.SendBit b to tag) zero next =
      let i = instr.SendBit b to tag in
      step_ended p t r i 0 next 1 (acts_of (row_at p t r i 0)) (steps i) refl refl (λ k j. refl) (gains (lane r to kind.Bit tag) (bit_parcel (bit_of t r b)) (Told (bit_of t r b)) refl)
  sees (instr.RecvBit b from tag) zero next =
      let i = instr.RecvBit b from tag in
      let a = lane from r kind.Bit tag in
      step_ended p t r i 0 next 1 (acts_of (row_at p t r i 0)) (steps i)
      (ap (λ x. let y : IdealPart = record (part_seen (Some i) 0 (t.parts r)) { bits = slice_set (t.parts r).bits b (bit_told x) } in y) (front_load kind.Bit (t.lanes a) refl next.holds))
      refl (λ k j. refl) (loses a refl next.holds)
  sees (instr.CopyTo q to tag) zero next =
      let i = instr.CopyTo q to tag in
      unseen_on p t r i 0 next 3 (acts_of (row_at p t r i 0)) refl (pair_part (part_seen (Some i) 0 (t.parts r))) (λ k j. refl) (posts_unseen (lane r to kind.Copy tag) (far_made t r) true refl)
  sees (instr.CopyTo q to tag) (suc zero) next =
      let i = instr.CopyTo q to tag in unseen_on p t r i 1 next 3 (acts_of (row_at p t r i 1)) refl refl (λ k j. refl) (λ a. refl)
  sees (instr.CopyTo q to tag) (suc (suc zero)) next =
      let i = instr.CopyTo q to tag in
      let some = made_some p ready ranges t stood r i 2 (before_event p t r i 2 next) refl refl in
      step_ended p t r i 2 next 3 (acts_of (row_at p t r i 2)) (steps i) (one_more some (part_seen None 0 (t.parts r))) refl (λ k j. refl)
      (told_lane (lane r to kind.Copy tag) (protocol_next t r, false) (far_counted r (t.parts r)) (ideal_wire_made (tables_seen p t) r) (Carried (ideal_wire_made (tables_seen p t) r)) refl
      (last_half i 2 (lane r to kind.Copy tag) next refl refl) (ap (λ w. Carried w) (made_before i 2 next ((t.parts r).made - 1) refl)))
  sees (instr.CopyFrom q from tag) zero next =
      let i = instr.CopyFrom q from tag in
      let a = lane from r kind.Copy tag in
      step_on p t r i 0 next 2 (acts_of (row_at p t r i 0)) (steps i) refl refl refl
      (λ k j. ap (λ (x : Load). with_slot t.slots r q (Some (wire_carried x)) k j) (sym (front_load kind.Copy (t.lanes a) refl next.holds))) (loses a refl next.holds)
  sees (instr.CopyFrom q from tag) (suc zero) next = last_letters (instr.CopyFrom q from tag) 1 2 next (first_bit (t.parts r).taken) (Flip (wire_of (t.parts r).taken)) refl refl
  sees (instr.MoveTo q to tag) zero next =
      let i = instr.MoveTo q to tag in
      unseen_on p t r i 0 next 5 (acts_of (row_at p t r i 0)) refl (pair_part (part_seen (Some i) 0 (t.parts r))) (λ k j. refl) (posts_unseen (lane r to kind.Move tag) (far_made t r) true refl)
  sees (instr.MoveTo q to tag) (suc zero) next = let i = instr.MoveTo q to tag in unseen_on p t r i 1 next 5 (acts_of (row_at p t r i 1)) refl refl (λ k j. refl) (λ a. refl)
  sees (instr.MoveTo q to tag) (suc (suc zero)) next = let i = instr.MoveTo q to tag in unseen_on p t r i 2 next 5 (acts_of (row_at p t r i 2)) refl refl (λ k j. refl) (λ a. refl)
  sees (instr.MoveTo q to tag) (suc (suc (suc zero))) next = let i = instr.MoveTo q to tag in unseen_on p t r i 3 next 5 (acts_of (row_at p t r i 3)) refl refl (λ k j. refl) (λ a. refl)
  sees (instr.MoveTo q to tag) (suc (suc (suc (suc zero)))) next =
      let i = instr.MoveTo q to tag in
      let some = made_some p ready ranges t stood r i 4 (before_event p t r i 4 next) refl refl in
      step_ended p t r i 4 next 5 (acts_of (row_at p t r i 4)) (steps i) (one_more some (part_seen None 0 (t.parts r))) refl (λ k j. refl)
      (told_lane (lane r to kind.Move tag) ((t.parts r).first, protocol_next t r) (far_counted r (t.parts r)) (ideal_wire_made (tables_seen p t) r) (Carried (ideal_wire_made (tables_seen p t) r)) refl
      (last_half i 4 (lane r to kind.Move tag) next refl refl) (ap (λ w. Carried w) (made_before i 4 next ((t.parts r).made - 1) refl)))
  sees (instr.MoveFrom q from tag) zero next =
      let i = instr.MoveFrom q from tag in
      let a = lane from r kind.Move tag in
      step_on p t r i 0 next 3 (acts_of (row_at p t r i 0)) (steps i) refl refl refl
      (λ k j. ap (λ (x : Load). with_slot t.slots r q (Some (wire_carried x)) k j) (sym (front_load kind.Move (t.lanes a) refl next.holds))) (loses a refl next.holds)
  sees (instr.MoveFrom q from tag) (suc zero) next = quiet_letters (instr.MoveFrom q from tag) 1 3 next (first_bit (t.parts r).taken) (Flip (wire_of (t.parts r).taken)) refl refl
  sees (instr.MoveFrom q from tag) (suc (suc zero)) next = last_letters (instr.MoveFrom q from tag) 2 3 next (second_bit (t.parts r).taken) (Phase 4 (wire_of (t.parts r).taken)) refl refl
  sees (instr.UndoTo q to tag) zero next = let i = instr.UndoTo q to tag in unseen_on p t r i 0 next 2 (acts_of (row_at p t r i 0)) refl refl (λ k j. refl) (λ a. refl)
  sees (instr.UndoTo q to tag) (suc zero) next =
      let i = instr.UndoTo q to tag in
      step_ended p t r i 1 next 2 (acts_of (row_at p t r i 1)) (steps i) refl refl (λ k j. refl) (gains (lane r to kind.Undo tag) (bit_parcel (protocol_next t r)) Token refl)
  sees (instr.UndoFrom q from tag) zero next =
      let i = instr.UndoFrom q from tag in
      step_on p t r i 0 next 2 (acts_of (row_at p t r i 0)) (steps i) refl refl refl (λ k j. refl) (loses (lane from r kind.Undo tag) refl next.holds)
  sees (instr.UndoFrom q from tag) (suc zero) next = last_letters (instr.UndoFrom q from tag) 1 2 next (first_bit (t.parts r).taken) (Phase 4 (wire_in t r q)) refl refl
  sees (instr.ReachTo q to tag) zero next =
      let i = instr.ReachTo q to tag in
      unseen_on p t r i 0 next 5 (acts_of (row_at p t r i 0)) refl (pair_part (part_seen (Some i) 0 (t.parts r))) (λ k j. refl) (posts_unseen (lane r to kind.Reach tag) (far_made t r) false refl)
  sees (instr.ReachTo q to tag) (suc zero) next = let i = instr.ReachTo q to tag in unseen_on p t r i 1 next 5 (acts_of (row_at p t r i 1)) refl refl (λ k j. refl) (λ a. refl)
  sees (instr.ReachTo q to tag) (suc (suc zero)) next =
      let i = instr.ReachTo q to tag in
      unseen_on p t r i 2 next 5 (acts_of (row_at p t r i 2)) refl refl (λ k j. refl) (reach_unseen r to tag _)
  sees (instr.ReachTo q to tag) (suc (suc (suc zero))) next =
      let i = instr.ReachTo q to tag in
      let some = made_some p ready ranges t stood r i 3 (before_event p t r i 3 next) refl refl in
      step_on p t r i 3 next 5 (acts_of (row_at p t r i 3)) (steps i) (one_more some (part_seen None 0 (t.parts r))) refl refl (λ k j. refl) (loses (lane to r kind.Back tag) refl next.holds)
  sees (instr.ReachTo q to tag) (suc (suc (suc (suc zero)))) next = last_letters (instr.ReachTo q to tag) 4 5 next (first_bit (t.parts r).taken) (Phase 4 (wire_in t r q)) refl refl
  sees (instr.ReachFrom q from tag) zero next =
      let i = instr.ReachFrom q from tag in
      unseen_on p t r i 0 next 5 (acts_of (row_at p t r i 0)) refl refl (λ k j. refl) (reach_unseen from r tag _)
  sees (instr.ReachFrom q from tag) (suc zero) next = quiet_letters (instr.ReachFrom q from tag) 1 5 next (first_bit (t.parts r).taken) (Flip (wire_of (t.parts r).taken)) refl refl
  sees (instr.ReachFrom q from tag) (suc (suc zero)) next = let i = instr.ReachFrom q from tag in unseen_on p t r i 2 next 5 (acts_of (row_at p t r i 2)) refl refl (λ k j. refl) (λ a. refl)
  sees (instr.ReachFrom q from tag) (suc (suc (suc zero))) next = let i = instr.ReachFrom q from tag in unseen_on p t r i 3 next 5 (acts_of (row_at p t r i 3)) refl refl (λ k j. refl) (λ a. refl)
  sees (instr.ReachFrom q from tag) (suc (suc (suc (suc zero)))) next =
      let i = instr.ReachFrom q from tag in
      step_ended p t r i 4 next 5 (acts_of (row_at p t r i 4)) (steps i) refl refl (λ k j. refl) (gains (lane r from kind.Back tag) (bit_parcel (protocol_next t r)) Token refl)
  sees (instr.CopyTo q to tag) (suc (suc (suc s))) next = never next.holds
  sees (instr.CopyFrom q from tag) (suc (suc s)) next = never next.holds
  sees (instr.MoveTo q to tag) (suc (suc (suc (suc (suc s))))) next = never next.holds
  sees (instr.MoveFrom q from tag) (suc (suc (suc s))) next = never next.holds
  sees (instr.UndoTo q to tag) (suc (suc s)) next = never next.holds
  sees (instr.UndoFrom q from tag) (suc (suc s)) next = never next.holds
  sees (instr.ReachTo q to tag) (suc (suc (suc (suc (suc s))))) next = never next.holds
  sees (instr.ReachFrom q from tag) (suc (suc (suc (suc (suc s))))) next = never next.holds
  sees _ (suc s) next = never next.holds
