-- Each event of a message at its receiver keeps the invariant: copies and moves arrive and are corrected, and answers come back
use Rattle.std.proofs.Common.{◌≡◌, ℕ, ◌+◌, ◌-◌, ◌<◌, nat_lt, Bool, true, false, cond, List, [], ◌∷◌, ◌++◌, length, drop, Some, None, is_some, slice_index_or, Contains, refl, sym, ap, subst, ◌∙◌, append-nil, append_assoc, arith}
use Rattle.qm_denot.specs.declared.Wire.{Wire}
use Rattle.qm_denot.specs.declared.Letter.{Letter}
use Rattle.qm_denot.specs.declared.Letter.TheVariants.{Flip, Phase, Cx, Had}
use Rattle.qm_denot.specs.Circuits.{Circuit, IsEqualUpTo}
use Rattle.qm_denot.specs.Protocols.{letter_if}
use Rattle.qm_denot.specs.Weights.{operands}
use Rattle.qm_denot.specs.Tags.{Tagged}
use Rattle.qm_denot.proofs.EqualUpTo.{equal_refl}
use Rattle.qm_denot.proofs.Inverses.{equal_flip_twice, equal_sign_twice}
use Rattle.qm_instr.specs.declared.Instr.{Instr}
use Rattle.qm_instr.specs.declared.Instr.TheVariants as instr
use Rattle.qm_instr.specs.declared.Kind.TheVariants as kind
use Rattle.qm_instr.specs.declared.Lane.{Lane}
use Rattle.qm_instr.specs.Counts.{events_of}
use Rattle.qm_instr.specs.Lanes.{lane}
use Rattle.qm_instr.specs.Programs.{Programs, IsInRange}
use Rattle.qm_check.specs.Checks.{IsReady}
use Rattle.qm_denot.specs.declared.Parcel.{Parcel}
use Rattle.qm_proto.specs.Model.State.{Tables, with_lane, wire_in, no_parcel, front, wire_of, first_bit, second_bit}
use Rattle.qm_proto.specs.Model.Acts.{list_of, acts_letters}
use Rattle.qm_proto.specs.Model.Rows.{letter, few_if, source_wire, wire_offered}
use Rattle.qm_proto.specs.Model.Places.{InSlot}
use Rattle.qm_safety.specs.Tables.Well.{is_half}
use Rattle.qm_safety.specs.Tables.Lines.{row_at, acts_of}
use Rattle.qm_simulation.specs.Following.Deciding.{outcomes}
use Rattle.qm_simulation.specs.Following.Seen.{tables_seen}
use Rattle.qm_simulation.specs.Following.Debts.{Message, ByPair, BackTo, pair_of, Debt, debt, rank_debt, parcel_debt, IsInCustody}
use Rattle.qm_simulation.specs.Following.Follows.{Follows}
use Rattle.qm_safety.proofs.Tables.FarSteps.{front_wire}
use Rattle.qm_safety.proofs.Tables.NextEvents.{IsNext, event_done}
use Rattle.qm_confluence.proofs.Confluence.IdealWires.{AreWiresCounted, CountsGrow}
use Rattle.qm_simulation.proofs.Following.Places.{before_event, after, letters_tables, letters_none_used}
use Rattle.qm_simulation.proofs.Following.Stood.{IsStood, answer_on_way}
use Rattle.qm_simulation.proofs.Following.SafeDebts.{corrections_of}
use Rattle.qm_simulation.proofs.Following.Safe.{step_in, operand_at, settled_at, engaged_so, slot_in, half_in, target_in}
use Rattle.qm_simulation.proofs.Following.Frames.{rank_debt_at, fresh_debt, debt_on, debt_ended, same_lanes_kept, front_once, none_left, offered_same}
use Rattle.qm_simulation.proofs.Following.Agreeing.{is_test}
use Rattle.qm_simulation.proofs.Following.Deeds.{GoesOn, ideal_grows, follow_middle, follow_take}
use Rattle.qm_simulation.proofs.Following.Events.{Keeps, one_free, two_free, if_named, letters_so, quiet_brings}

-- a parcel with bits owes what its kind says
with_bits : (b : Bool) (d : Debt) → b ≡ true → cond b (Some d) None ≡ Some d
with_bits b d e = ap (λ c. cond c (Some d) None) e

front_length : (xs : List Parcel) → is_some (slice_index_or xs 0 no_parcel).bits ≡ true → 0 < length xs
front_length [] h = absurd (let n : ⊥ = cc in n)
front_length (x ∷ xs) h = omega arith

module _ (p : Programs) (ready : IsReady p) (ranges : IsInRange p) (t : Tables) (r : ℕ) (stood : IsStood p t) (ideal : AreWiresCounted (tables_seen p t)) where
  -- ---- a message is taken from the front of a lane
  take_any : (i : Instr) (s : ℕ) (next : IsNext p t r i s) (a : Lane) (k : Message) (ls : List Letter) → is_test i s ≡ false → is_some (front t a).bits ≡ true
      → parcel_debt p t a (front t a) ≡ Some (debt k ls) → rank_debt p t r ≡ None → rank_debt p (after p t r i s) r ≡ Some (debt k ls)
      → (after p t r i s).lanes ≡ with_lane t.lanes a (drop 1 (t.lanes a)) → (Contains (drop 1 (t.lanes a)) (front t a) → ⊥)
      → (n : ℕ) (g c : Circuit) (ds : Tagged Message) → Follows p t n g c ds → CountsGrow (tables_seen p t) (tables_seen p (after p t r i s))
      → GoesOn p t r (after p t r i s) k None (Some a) (n + 0) (g ++ []) (c ++ [])
  take_any i s next a k ls no_test bits owed fresh new lanes once n g c ds before grow =
      follow_take p ready ranges t r stood i s next n g c ds before k ls a bits owed fresh new lanes once
      (quiet_brings p ready ranges t r stood ideal i s next n g c ds before grow no_test k [] (λ w h. absurd h))

  -- a half is on its lane only once
  half_once : (a : Lane) → is_half a.kind ≡ true → is_some (front t a).bits ≡ true → Contains (drop 1 (t.lanes a)) (front t a) → ⊥
  half_once a half bits = front_once t a (wire_of (front t a)) stood.well.tidy (front_wire (t.lanes a) ((stood.well.lanes a).wired half) bits)

  pub copy_deliver_follows : (q from tag : ℕ) → IsNext p t r (instr.CopyFrom q from tag) 0 → Keeps p t r (instr.CopyFrom q from tag) 0
  copy_deliver_follows q from tag next n g c ds before seen allowed =
      let i = instr.CopyFrom q from tag in
      let a = lane from r kind.Copy tag in
      let x = front t a in
      let f = wire_of x in
      let ls = letter_if (first_bit x) (Flip f) in
      take_any i 0 next a (pair_of f) ls refl next.holds (with_bits (is_some x.bits) (debt (pair_of f) ls) next.holds) (fresh_debt p t r next.stage)
      (debt_on p t r 2 (acts_of (row_at p t r i 0)) i 0 next refl) refl (half_once a refl next.holds) n g c ds before (ideal_grows p t (after p t r i 0) r i 0 seen)

  pub move_deliver_follows : (q from tag : ℕ) → IsNext p t r (instr.MoveFrom q from tag) 0 → Keeps p t r (instr.MoveFrom q from tag) 0
  move_deliver_follows q from tag next n g c ds before seen allowed =
      let i = instr.MoveFrom q from tag in
      let a = lane from r kind.Move tag in
      let x = front t a in
      let f = wire_of x in
      let ls = corrections_of (second_bit x) (first_bit x) f in
      take_any i 0 next a (pair_of f) ls refl next.holds (with_bits (is_some x.bits) (debt (pair_of f) ls) next.holds) (fresh_debt p t r next.stage)
      (debt_on p t r 3 (acts_of (row_at p t r i 0)) i 0 next refl) refl (half_once a refl next.holds) n g c ds before (ideal_grows p t (after p t r i 0) r i 0 seen)

  pub reach_deliver_follows : (q from tag : ℕ) → IsNext p t r (instr.ReachFrom q from tag) 0 → Keeps p t r (instr.ReachFrom q from tag) 0
  reach_deliver_follows q from tag next n g c ds before seen allowed =
      let i = instr.ReachFrom q from tag in
      let a = lane from r kind.Reach tag in
      let x = front t a in
      let f = wire_of x in
      let ls = Cx (source_wire p t from) f ∷ letter_if (first_bit x) (Flip f) in
      let other = ((step_in p ready ranges t stood r i 0 (before_event p t r i 0 next)).partner from refl).other in
      take_any i 0 next a (pair_of f) ls refl next.holds (with_bits (is_some x.bits) (debt (pair_of f) ls) next.holds) (fresh_debt p t r next.stage)
      (debt_on p t r 5 (acts_of (row_at p t r i 0)) i 0 next refl
      ∙ ap (λ w. Some (debt (pair_of f) (Cx w f ∷ letter_if (first_bit x) (Flip f)))) (offered_same p t r 5 (acts_of (row_at p t r i 0)) from other))
      refl (half_once a refl next.holds) n g c ds before (ideal_grows p t (after p t r i 0) r i 0 seen)

  pub undo_deliver_follows : (q from tag : ℕ) → IsNext p t r (instr.UndoFrom q from tag) 0 → Keeps p t r (instr.UndoFrom q from tag) 0
  undo_deliver_follows q from tag next n g c ds before seen allowed =
      let i = instr.UndoFrom q from tag in
      let a = lane from r kind.Undo tag in
      let x = front t a in
      let ls = letter_if (first_bit x) (Phase 4 (wire_in t r q)) in
      let own : source_wire p t r ≡ wire_in t r q = ap (wire_offered (wire_in t r)) next.read in
      let other = ((step_in p ready ranges t stood r i 0 (before_event p t r i 0 next)).partner from refl).other in
      let link = stood.undo from r tag (λ e. other (sym e)) in
      take_any i 0 next a (BackTo r) ls refl next.holds
      (with_bits (is_some x.bits) (debt (BackTo r) (letter_if (first_bit x) (Phase 4 (source_wire p t r)))) next.holds ∙ ap (λ w. Some (debt (BackTo r) (letter_if (first_bit x) (Phase 4 w)))) own)
      (fresh_debt p t r next.stage) (debt_on p t r 2 (acts_of (row_at p t r i 0)) i 0 next refl) refl (none_left (t.lanes a) x link.single)
      n g c ds before (ideal_grows p t (after p t r i 0) r i 0 seen)

  pub answer_follows : (q to tag : ℕ) → IsNext p t r (instr.ReachTo q to tag) 3 → Keeps p t r (instr.ReachTo q to tag) 3
  answer_follows q to tag next n g c ds before seen allowed =
      let i = instr.ReachTo q to tag in
      let a = lane to r kind.Back tag in
      let x = front t a in
      let k = ByPair r ((t.parts r).made - 1) in
      let ls = letter_if (first_bit x) (Phase 4 (wire_in t r q)) in
      let here = before_event p t r i 3 next in
      let own : source_wire p t r ≡ wire_in t r q = ap (wire_offered (wire_in t r)) next.read in
      let other = ((step_in p ready ranges t stood r i 3 here).partner to refl).other in
      let way = answer_on_way p t stood r to tag (λ e. other (sym e)) (front_length (t.lanes a) next.holds) in
      take_any i 3 next a k ls refl next.holds
      (with_bits (is_some x.bits) (debt k (letter_if (first_bit x) (Phase 4 (source_wire p t r)))) next.holds ∙ ap (λ w. Some (debt k (letter_if (first_bit x) (Phase 4 w)))) own)
      (rank_debt_at p t r i 3 here) (debt_on p t r 5 (acts_of (row_at p t r i 3)) i 3 next refl) refl (none_left (t.lanes a) x way.1)
      n g c ds before (ideal_grows p t (after p t r i 3) r i 3 seen)

  -- ---- a correction that ends a message
  finish : (u : Tables) (k : Message) (n : ℕ) (g c : Circuit) (b : Bool) (l : Letter) → GoesOn p t r u k None None (n + 0) (g ++ letter_if b l) (c ++ [])
      → GoesOn p t r u k None None (n + outcomes (list_of (few_if b (letter l)))) (g ++ acts_letters r (list_of (few_if b (letter l))) t) (c ++ [])
  finish u k n g c b l f =
      subst (λ m. GoesOn p t r u k None None (n + m) (g ++ acts_letters r (list_of (few_if b (letter l))) t) (c ++ [])) (sym (letters_none_used b l))
      (subst (λ xs. GoesOn p t r u k None None (n + 0) (g ++ xs) (c ++ [])) (sym (letters_so r t b l)) f)

  end_any : (i : Instr) (s : ℕ) (next : IsNext p t r i s) (b : Bool) (l : Letter) (w : Wire) (k : Message) → is_test i s ≡ false → nat_lt (s + 1) (events_of i) ≡ false
      → operands l ≡ w ∷ [] → IsInCustody p t w k → rank_debt p t r ≡ Some (debt k (letter_if b l)) → (after p t r i s).lanes ≡ t.lanes
      → ((c : Circuit) → IsEqualUpTo 0 (c ++ (letter_if b l ++ letter_if b l)) c)
      → (n : ℕ) (g c : Circuit) (ds : Tagged Message) → Follows p t n g c ds → CountsGrow (tables_seen p t) (tables_seen p (after p t r i s))
      → GoesOn p t r (after p t r i s) k None None (n + 0) (g ++ letter_if b l) (c ++ [])
  end_any i s next b l w k no_test end wires own old lanes law n g c ds before grow =
      follow_middle p ready ranges t r stood i s next n g c ds before k (letter_if b l) None (letter_if b l) 0 old
      (debt_ended p t r (events_of i) (acts_of (row_at p t r i s)) i s next end) (same_lanes_kept p t (after p t r i s) lanes)
      (subst (IsEqualUpTo 0 (c ++ (letter_if b l ++ letter_if b l))) (sym (append-nil c)) (law c))
      (quiet_brings p ready ranges t r stood ideal i s next n g c ds before grow no_test k (letter_if b l)
      (λ y h. one_free p ready ranges t r stood ideal l w k wires own y (if_named b l y h)))

  pub copy_fix_follows : (q from tag : ℕ) → IsNext p t r (instr.CopyFrom q from tag) 1 → Keeps p t r (instr.CopyFrom q from tag) 1
  copy_fix_follows q from tag next n g c ds before seen allowed =
      let i = instr.CopyFrom q from tag in
      let b = first_bit (t.parts r).taken in
      let f = wire_of (t.parts r).taken in
      let here = before_event p t r i 1 next in
      let own : IsInCustody p t f (pair_of f) = (InSlot r q, settled_at p ready ranges t stood r i 1 here q refl refl, engaged_so p ready ranges t stood r i 1 here (pair_of f) refl refl) in
      finish (after p t r i 1) (pair_of f) n g c b (Flip f)
      (end_any i 1 next b (Flip f) f (pair_of f) refl refl refl own (rank_debt_at p t r i 1 here) (ap (λ (x : Tables). x.lanes) (letters_tables r 2 b (Flip f) t))
      (λ c. equal_flip_twice c b f) n g c ds before (ideal_grows p t (after p t r i 1) r i 1 seen))

  pub move_sign_follows : (q from tag : ℕ) → IsNext p t r (instr.MoveFrom q from tag) 2 → Keeps p t r (instr.MoveFrom q from tag) 2
  move_sign_follows q from tag next n g c ds before seen allowed =
      let i = instr.MoveFrom q from tag in
      let b = second_bit (t.parts r).taken in
      let f = wire_of (t.parts r).taken in
      let here = before_event p t r i 2 next in
      let own : IsInCustody p t f (pair_of f) = (InSlot r q, settled_at p ready ranges t stood r i 2 here q refl refl, engaged_so p ready ranges t stood r i 2 here (pair_of f) refl refl) in
      finish (after p t r i 2) (pair_of f) n g c b (Phase 4 f)
      (end_any i 2 next b (Phase 4 f) f (pair_of f) refl refl refl own (rank_debt_at p t r i 2 here) (ap (λ (x : Tables). x.lanes) (letters_tables r 3 b (Phase 4 f) t))
      (λ c. equal_sign_twice c b f) n g c ds before (ideal_grows p t (after p t r i 2) r i 2 seen))

  pub undo_fix_follows : (q from tag : ℕ) → IsNext p t r (instr.UndoFrom q from tag) 1 → Keeps p t r (instr.UndoFrom q from tag) 1
  undo_fix_follows q from tag next n g c ds before seen allowed =
      let i = instr.UndoFrom q from tag in
      let b = first_bit (t.parts r).taken in
      let w = wire_in t r q in
      let here = before_event p t r i 1 next in
      let own = slot_in p ready ranges t stood r i 1 here q (BackTo r) (operand_at p ready ranges t stood r i 1 here q refl (step_in p ready ranges t stood r i 1 here).slots) refl refl in
      finish (after p t r i 1) (BackTo r) n g c b (Phase 4 w)
      (end_any i 1 next b (Phase 4 w) w (BackTo r) refl refl refl own (rank_debt_at p t r i 1 here) (ap (λ (x : Tables). x.lanes) (letters_tables r 2 b (Phase 4 w) t))
      (λ c. equal_sign_twice c b w) n g c ds before (ideal_grows p t (after p t r i 1) r i 1 seen))

  pub answer_fix_follows : (q to tag : ℕ) → IsNext p t r (instr.ReachTo q to tag) 4 → Keeps p t r (instr.ReachTo q to tag) 4
  answer_fix_follows q to tag next n g c ds before seen allowed =
      let i = instr.ReachTo q to tag in
      let b = first_bit (t.parts r).taken in
      let w = wire_in t r q in
      let k = ByPair r ((t.parts r).made - 1) in
      let here = before_event p t r i 4 next in
      let own = slot_in p ready ranges t stood r i 4 here q k (operand_at p ready ranges t stood r i 4 here q refl (step_in p ready ranges t stood r i 4 here).slots) refl refl in
      finish (after p t r i 4) k n g c b (Phase 4 w)
      (end_any i 4 next b (Phase 4 w) w k refl refl refl own (rank_debt_at p t r i 4 here) (ap (λ (x : Tables). x.lanes) (letters_tables r 5 b (Phase 4 w) t))
      (λ c. equal_sign_twice c b w) n g c ds before (ideal_grows p t (after p t r i 4) r i 4 seen))

  -- ---- a correction in the middle of a message
  pub corrected_law : (c ys ls : List Letter) → ((d : Circuit) → IsEqualUpTo 0 (d ++ (ls ++ ls)) d) → IsEqualUpTo 0 (c ++ ((ys ++ ls) ++ ls)) (c ++ ys)
  corrected_law c ys ls twice =
      subst (λ z. IsEqualUpTo 0 z (c ++ ys)) (append_assoc c ys (ls ++ ls) ∙ ap (λ zs. c ++ zs) (sym (append_assoc ys ls ls))) (twice (c ++ ys))

  pub move_flip_follows : (q from tag : ℕ) → IsNext p t r (instr.MoveFrom q from tag) 1 → Keeps p t r (instr.MoveFrom q from tag) 1
  move_flip_follows q from tag next n g c ds before seen allowed =
      let i = instr.MoveFrom q from tag in
      let b = first_bit (t.parts r).taken in
      let f = wire_of (t.parts r).taken in
      let k = pair_of f in
      let ls = letter_if b (Flip f) in
      let ys = letter_if (second_bit (t.parts r).taken) (Phase 4 f) in
      let here = before_event p t r i 1 next in
      let same = letters_tables r 3 b (Flip f) t in
      let own : IsInCustody p t f k = (InSlot r q, settled_at p ready ranges t stood r i 1 here q refl refl, engaged_so p ready ranges t stood r i 1 here k refl refl) in
      finish (after p t r i 1) k n g c b (Flip f)
      (follow_middle p ready ranges t r stood i 1 next n g c ds before k (ys ++ ls) (Some ys) ls 0 (rank_debt_at p t r i 1 here)
      (ap (λ (u : Tables). rank_debt p u r) same ∙ debt_on p t r 3 [] i 1 next refl) (same_lanes_kept p t (after p t r i 1) (ap (λ (x : Tables). x.lanes) same))
      (corrected_law c ys ls (λ d. equal_flip_twice d b f))
      (quiet_brings p ready ranges t r stood ideal i 1 next n g c ds before (ideal_grows p t (after p t r i 1) r i 1 seen) refl k ls
      (λ y h. one_free p ready ranges t r stood ideal (Flip f) f k refl own y (if_named b (Flip f) y h))))

  -- ---- the second rank of a reach: it corrects its half, and crosses its target with it
  reach_new : (q from tag s : ℕ) (next : IsNext p t r (instr.ReachFrom q from tag) s) → source_wire p (event_done 5 r [] t) from ≡ source_wire p t from
  reach_new q from tag s next =
      offered_same p t r 5 [] from (((step_in p ready ranges t stood r (instr.ReachFrom q from tag) s (before_event p t r (instr.ReachFrom q from tag) s next)).partner from refl).other)

  pub reach_flip_follows : (q from tag : ℕ) → IsNext p t r (instr.ReachFrom q from tag) 1 → Keeps p t r (instr.ReachFrom q from tag) 1
  reach_flip_follows q from tag next n g c ds before seen allowed =
      let i = instr.ReachFrom q from tag in
      let b = first_bit (t.parts r).taken in
      let f = wire_of (t.parts r).taken in
      let k = pair_of f in
      let w = source_wire p t from in
      let ls = letter_if b (Flip f) in
      let here = before_event p t r i 1 next in
      let same = letters_tables r 5 b (Flip f) t in
      finish (after p t r i 1) k n g c b (Flip f)
      (follow_middle p ready ranges t r stood i 1 next n g c ds before k (Cx w f ∷ ls) (Some (Cx w f ∷ [])) ls 0 (rank_debt_at p t r i 1 here)
      (ap (λ (u : Tables). rank_debt p u r) same ∙ debt_on p t r 5 [] i 1 next refl ∙ ap (λ z. Some (debt k (Cx z f ∷ []))) (reach_new q from tag 1 next))
      (same_lanes_kept p t (after p t r i 1) (ap (λ (x : Tables). x.lanes) same))
      (corrected_law c (Cx w f ∷ []) ls (λ d. equal_flip_twice d b f))
      (quiet_brings p ready ranges t r stood ideal i 1 next n g c ds before (ideal_grows p t (after p t r i 1) r i 1 seen) refl k ls
      (λ y h. one_free p ready ranges t r stood ideal (Flip f) f k refl (half_in p ready ranges t stood r q from tag 1 here refl) y (if_named b (Flip f) y h))))

  pub reach_target_follows : (q from tag : ℕ) → IsNext p t r (instr.ReachFrom q from tag) 2 → Keeps p t r (instr.ReachFrom q from tag) 2
  reach_target_follows q from tag next n g c ds before seen allowed =
      let i = instr.ReachFrom q from tag in
      let f = wire_of (t.parts r).taken in
      let k = pair_of f in
      let w = source_wire p t from in
      let v = wire_in t r q in
      let here = before_event p t r i 2 next in
      let other = ((step_in p ready ranges t stood r i 2 here).partner from refl).other in
      follow_middle p ready ranges t r stood i 2 next n g c ds before k (Cx w f ∷ []) (Some (Cx w f ∷ Cx f v ∷ [])) (Cx f v ∷ []) 0 (rank_debt_at p t r i 2 here)
      (debt_on p t r 5 (acts_of (row_at p t r i 2)) i 2 next refl ∙ ap (λ z. Some (debt k (Cx z f ∷ Cx f v ∷ []))) (offered_same p t r 5 (acts_of (row_at p t r i 2)) from other))
      (same_lanes_kept p t (after p t r i 2) refl) (equal_refl (c ++ Cx w f ∷ Cx f v ∷ []))
      (quiet_brings p ready ranges t r stood ideal i 2 next n g c ds before (ideal_grows p t (after p t r i 2) r i 2 seen) refl k (Cx f v ∷ [])
      (two_free p ready ranges t r stood ideal (Cx f v) f v k refl (half_in p ready ranges t stood r q from tag 2 here refl) (target_in p ready ranges t stood r q from tag 2 here refl)))

  pub reach_had_follows : (q from tag : ℕ) → IsNext p t r (instr.ReachFrom q from tag) 3 → Keeps p t r (instr.ReachFrom q from tag) 3
  reach_had_follows q from tag next n g c ds before seen allowed =
      let i = instr.ReachFrom q from tag in
      let f = wire_of (t.parts r).taken in
      let k = pair_of f in
      let w = source_wire p t from in
      let v = wire_in t r q in
      let here = before_event p t r i 3 next in
      let other = ((step_in p ready ranges t stood r i 3 here).partner from refl).other in
      follow_middle p ready ranges t r stood i 3 next n g c ds before k (Cx w f ∷ Cx f v ∷ []) (Some (Cx w f ∷ Cx f v ∷ Had f ∷ [])) (Had f ∷ []) 0 (rank_debt_at p t r i 3 here)
      (debt_on p t r 5 (acts_of (row_at p t r i 3)) i 3 next refl ∙ ap (λ z. Some (debt k (Cx z f ∷ Cx f v ∷ Had f ∷ []))) (offered_same p t r 5 (acts_of (row_at p t r i 3)) from other))
      (same_lanes_kept p t (after p t r i 3) refl) (equal_refl (c ++ Cx w f ∷ Cx f v ∷ Had f ∷ []))
      (quiet_brings p ready ranges t r stood ideal i 3 next n g c ds before (ideal_grows p t (after p t r i 3) r i 3 seen) refl k (Had f ∷ [])
      (one_free p ready ranges t r stood ideal (Had f) f k refl (half_in p ready ranges t stood r q from tag 3 here refl)))
