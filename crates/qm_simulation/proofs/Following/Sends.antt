-- Each event of a message at its sender keeps the invariant: copies, moves, and the first half of a reach
use Rattle.std.proofs.Common.{◌≡◌, ◌≢◌, ℕ, ◌+◌, ◌-◌, ◌<◌, nat_lt, Bool, true, false, cond, ◌⊎◌, inl, inr, List, [], ◌∷◌, ◌++◌, drop, Option, Some, None, is_some, Contains, refl, sym, ap, ap₂, subst, ◌∙◌, append_assoc, arith, ⊎_elim}
use Rattle.std.proofs.lemmas.List.Elements.{Contains-push_cases, Contains-append_left}
use Rattle.qm_denot.specs.declared.Wire.{Wire}
use Rattle.qm_denot.specs.declared.Letter.{Letter}
use Rattle.qm_denot.specs.declared.Letter.TheVariants.{Flip, Had, Cx, Pair, Take, Rename}
use Rattle.qm_denot.specs.Circuits.{Circuit, IsEqualUpTo, IsBlank}
use Rattle.qm_denot.specs.Protocols.{letter_if}
use Rattle.qm_denot.specs.Tags.{Tagged}
use Rattle.qm_denot.proofs.EqualUpTo.{equal_refl}
use Rattle.qm_denot.proofs.ProtocolLaws.{equal_pair, equal_copy, equal_near, equal_move}
use Rattle.qm_denot.proofs.Weights.{IsNonzero-push_rename, IsNonzero-append_unitary}
use Rattle.qm_denot.proofs.Partings.{AreNaming}
use Rattle.qm_denot.specs.Parcels.{filled}
use Rattle.qm_instr.specs.declared.Instr.{Instr}
use Rattle.qm_instr.specs.declared.Instr.TheVariants as instr
use Rattle.qm_instr.specs.declared.Kind.TheVariants as kind
use Rattle.qm_instr.specs.declared.Lane.{Lane}
use Rattle.qm_instr.specs.Counts.{events_of}
use Rattle.qm_instr.specs.Lanes.{lane, lane_sent}
use Rattle.qm_instr.specs.Programs.{Programs, IsInRange}
use Rattle.qm_check.specs.Checks.{IsReady}
use Rattle.qm_denot.specs.declared.Parcel.{Parcel}
use Rattle.qm_proto.specs.Model.State.{Part, Tables, with_lane, wire_in, protocol_next, near_made, far_made}
use Rattle.qm_proto.specs.Model.Acts.{with_one_counted}
use Rattle.qm_proto.specs.Model.Rows.{current, half_parcel, source_wire, wire_offered}
use Rattle.qm_proto.specs.Model.Places.{InSlot, IsAt}
use Rattle.qm_proto.proofs.Changes.{with_at-here}
use Rattle.qm_proto.proofs.TidyActs.{far_made_absent, near_made_absent}
use Rattle.qm_safety.specs.Tables.Well.{middle_of, has_near, is_open, middle_at, sent_at}
use Rattle.qm_safety.specs.Tables.Lines.{row_at, acts_of}
use Rattle.qm_simulation.specs.Following.Seen.{tables_seen, counts_early, part_seen, has_pair}
use Rattle.qm_simulation.specs.Following.Debts.{Message, ByPair, near_counted, far_counted, pair_letters, crossed_letters, debt, rank_debt, parcel_debt, message_of}
use Rattle.qm_simulation.specs.Following.Follows.{Follows}
use Rattle.qm_confluence.specs.Counted.{IsCounted}
use Rattle.qm_safety.proofs.Tables.NextEvents.{IsNext}
use Rattle.qm_simulation.proofs.Following.Rewritings.{IsFree}
use Rattle.qm_confluence.proofs.Confluence.IdealWires.{AreWiresCounted, CountsGrow, blank_where, counted_on}
use Rattle.qm_simulation.proofs.Following.SeenLaws.{filled_last}
use Rattle.qm_simulation.proofs.Following.Places.{IsIn, before_event, after, own_ended, goes_on, fresh_stage}
use Rattle.qm_simulation.proofs.Following.Opens.{IsLast, makes, counts}
use Rattle.qm_simulation.proofs.Following.Stood.{IsStood}
use Rattle.qm_simulation.proofs.Following.SafeDebts.{moved_near, corrections_of}
use Rattle.qm_simulation.proofs.Following.Safe.{step_in, operand_at, operand_in, far_in, near_in, made_some}
use Rattle.qm_simulation.proofs.Following.Frames.{rank_debt_at, debt_on, debt_ended, fresh_debt, same_lanes_kept, pushed_kept}
use Rattle.qm_simulation.proofs.Following.Agreeing.{is_test}
use Rattle.qm_simulation.proofs.Following.Safe.{not_uncounted}
use Rattle.qm_simulation.proofs.Following.Deeds.{GoesOn, ideal_letters, ideal_grows, follow_own, follow_middle, follow_give}
use Rattle.qm_simulation.proofs.Following.Events.{Keeps, one_named, two_named, own_free, absent_free, near_uncounted, halves_differ, uncounted, quiet_brings, step_brings, not_back_pair}

-- a parcel with bits is there before one without
posted_there : (xs : List Parcel) (x y : Parcel) → x.bits ≡ None → is_some y.bits ≡ true → Contains (xs ++ x ∷ []) y → Contains xs y
posted_there xs x y none bits h =
    ⊎_elim (λ (old : Contains xs y). old)
    (λ (same : x ≡ y). absurd (let z : is_some y.bits ≡ false = ap (λ (z : Parcel). is_some z.bits) (sym same) ∙ ap (λ (o : Option (Bool × Bool)). is_some o) none in let n : ⊥ = cc in n))
    (Contains-push_cases xs x y h)

module _ (p : Programs) (ready : IsReady p) (ranges : IsInRange p) (t : Tables) (r : ℕ) (stood : IsStood p t) (ideal : AreWiresCounted (tables_seen p t)) where
  -- ---- a pair is prepared
  pair_any : (i : Instr) (a : Lane) (q : ℕ) (next : IsNext p t r i 0) → IsAt t (wire_in t r q) (InSlot r q) → is_test i 0 ≡ false
      → (after p t r i 0).lanes ≡ with_lane t.lanes a (t.lanes a ++ half_parcel (far_made t r) ∷ [])
      → rank_debt p (after p t r i 0) r ≡ Some (debt (ByPair r (t.parts r).made) (pair_letters (near_made t r) (far_made t r)))
      → (n : ℕ) (g c : Circuit) (ds : Tagged Message) → Follows p t n g c ds → CountsGrow (tables_seen p t) (tables_seen p (after p t r i 0))
      → GoesOn p t r (after p t r i 0) (ByPair r (t.parts r).made) None None (n + 0) (g ++ Pair (near_made t r) (far_made t r) ∷ []) (c ++ [])
  pair_any i a q next at no_test lanes new n g c ds before grow =
      let v = t.parts r in
      let u = after p t r i 0 in
      let k = ByPair r v.made in
      let e = near_made t r in
      let f = far_made t r in
      let w = wire_in t r q in
      let count : ((tables_seen p t).parts r).made ≡ v.made = ap (λ s. (part_seen (current p t r) s v).made) next.stage in
      let e_out : ¬ IsCounted (tables_seen p t) e = near_uncounted (tables_seen p t) e refl in
      let f_out : ¬ IsCounted (tables_seen p t) f = λ h. let low = h.below in omega arith in
      let w_in : IsCounted (tables_seen p t) w = ideal.slots r q w at in
      let we : w ≢ e = λ s. e_out (subst (IsCounted (tables_seen p t)) s w_in) in
      let wf : w ≢ f = λ s. f_out (subst (IsCounted (tables_seen p t)) s w_in) in
      let law = equal_pair c w e f we wf (halves_differ e f refl refl) (blank_where (tables_seen p t) c e before.named e_out) (blank_where (tables_seen p t) c f before.named f_out) in
      follow_own p ready ranges t r stood i 0 next n g c ds before k None (Some (pair_letters e f)) (Pair e f ∷ []) [] 0
      (fresh_debt p t r next.stage) new (pushed_kept p t u a (half_parcel f) lanes refl)
      (λ h d _ o. not_uncounted p ready ranges t stood r h d o) law
      (quiet_brings p ready ranges t r stood ideal i 0 next n g c ds before grow no_test k (Pair e f ∷ []) (λ x h. pair_free x (two_named (Pair e f) e f x refl h)))
    where
      pair_free : (x : Wire) → (near_made t r ≡ x) ⊎ (far_made t r ≡ x) → IsFree p t (ByPair r (t.parts r).made) x
      pair_free x (inl h) = subst (IsFree p t (ByPair r (t.parts r).made)) h (absent_free p ready ranges t r stood ideal (near_made t r) (ByPair r (t.parts r).made) (near_made_absent t stood.well.tidy r))
      pair_free x (inr h) = subst (IsFree p t (ByPair r (t.parts r).made)) h (absent_free p ready ranges t r stood ideal (far_made t r) (ByPair r (t.parts r).made) (far_made_absent t stood.well.tidy r))

  -- what it owes then
  new_pair : (v : Part) → Some (debt (ByPair r (v.made + 1 - 1)) (pair_letters (near_counted r (with_one_counted v)) (far_counted r (with_one_counted v))))
      ≡ Some (debt (ByPair r v.made) (pair_letters (record { rank = r; made = v.made; near = true }) (record { rank = r; made = v.made; near = false })))
  new_pair v =
      let count : v.made + 1 - 1 ≡ v.made = omega arith in
      ap (λ m. Some (debt (ByPair r m) (pair_letters (record { rank = r; made = m; near = true }) (record { rank = r; made = m; near = false })))) count

  pub copy_pair_follows : (q to tag : ℕ) → IsNext p t r (instr.CopyTo q to tag) 0 → Keeps p t r (instr.CopyTo q to tag) 0
  copy_pair_follows q to tag next n g c ds before seen allowed =
      let i = instr.CopyTo q to tag in
      let here = before_event p t r i 0 next in
      pair_any i (lane r to kind.Copy tag) q next (operand_at p ready ranges t stood r i 0 here q refl (step_in p ready ranges t stood r i 0 here).slots) refl refl
      (debt_on p t r 3 (acts_of (row_at p t r i 0)) i 0 next refl ∙ new_pair (t.parts r)) n g c ds before (ideal_grows p t (after p t r i 0) r i 0 seen)

  pub move_pair_follows : (q to tag : ℕ) → IsNext p t r (instr.MoveTo q to tag) 0 → Keeps p t r (instr.MoveTo q to tag) 0
  move_pair_follows q to tag next n g c ds before seen allowed =
      let i = instr.MoveTo q to tag in
      let here = before_event p t r i 0 next in
      pair_any i (lane r to kind.Move tag) q next (operand_at p ready ranges t stood r i 0 here q refl (step_in p ready ranges t stood r i 0 here).slots) refl refl
      (debt_on p t r 5 (acts_of (row_at p t r i 0)) i 0 next refl ∙ new_pair (t.parts r)) n g c ds before (ideal_grows p t (after p t r i 0) r i 0 seen)

  pub reach_pair_follows : (q to tag : ℕ) → IsNext p t r (instr.ReachTo q to tag) 0 → Keeps p t r (instr.ReachTo q to tag) 0
  reach_pair_follows q to tag next n g c ds before seen allowed =
      let i = instr.ReachTo q to tag in
      let here = before_event p t r i 0 next in
      pair_any i (lane r to kind.Reach tag) q next (operand_at p ready ranges t stood r i 0 here q refl (step_in p ready ranges t stood r i 0 here).slots) refl refl
      (debt_on p t r 5 (acts_of (row_at p t r i 0)) i 0 next refl ∙ new_pair (t.parts r)) n g c ds before (ideal_grows p t (after p t r i 0) r i 0 seen)

  -- ---- a rank in the middle of sending a half
  pub record Sending (i : Instr) (s q : ℕ) : Type 0 where
    pub here : IsIn p t r i s
    pub on : Lane
    pub sent : lane_sent r i ≡ Some on
    pub low : nat_lt 0 s ≡ true
    pub opens : is_open (middle_of i) s ≡ true
    pub message : message_of r (t.parts r) i ≡ Some (ByPair r ((t.parts r).made - 1))
    pub at : IsAt t (wire_in t r q) (InSlot r q)
    pub early : counts_early (Some i) s ≡ true
    pub pair : has_pair (Some i) ≡ true
    pub calm : is_test i s ≡ false

  module _ (i : Instr) (s q : ℕ) (x : Sending i s q) where
    w_in : IsCounted (tables_seen p t) (wire_in t r q)
    w_in = ideal.slots r q (wire_in t r q) x.at

    f_out : ¬ IsCounted (tables_seen p t) (far_counted r (t.parts r))
    f_out = uncounted p ready ranges t r stood ideal r i s x.here x.early

    pub we : wire_in t r q ≢ near_counted r (t.parts r)
    we e = near_uncounted (tables_seen p t) (near_counted r (t.parts r)) refl (subst (IsCounted (tables_seen p t)) e w_in)

    pub wf : wire_in t r q ≢ far_counted r (t.parts r)
    wf e = f_out (subst (IsCounted (tables_seen p t)) e w_in)

    some : 0 < (t.parts r).made
    some = made_some p ready ranges t stood r i s x.here x.pair x.low

    own_w : (y : Wire) → wire_in t r q ≡ y → IsFree p t (ByPair r ((t.parts r).made - 1)) y
    own_w y e =
        subst (IsFree p t (ByPair r ((t.parts r).made - 1))) e
        (own_free p ready ranges t r stood ideal (wire_in t r q) (ByPair r ((t.parts r).made - 1)) (operand_in p ready ranges t stood r i s q 0 x.here x.on x.sent x.low x.opens x.message x.at))

    own_f : (y : Wire) → far_counted r (t.parts r) ≡ y → IsFree p t (ByPair r ((t.parts r).made - 1)) y
    own_f y e =
        subst (IsFree p t (ByPair r ((t.parts r).made - 1))) e
        (own_free p ready ranges t r stood ideal (far_counted r (t.parts r)) (ByPair r ((t.parts r).made - 1)) (far_in p ready ranges t stood r i s q 0 x.here x.on x.sent x.low x.opens x.message x.at))

    free_two : (l : Letter) → ((y : Wire) → AreNaming (l ∷ []) y → (wire_in t r q ≡ y) ⊎ (far_counted r (t.parts r) ≡ y)) → (y : Wire) → AreNaming (l ∷ []) y
        → IsFree p t (ByPair r ((t.parts r).made - 1)) y
    free_two l names y h = ⊎_elim (λ (e : wire_in t r q ≡ y). own_w y e) (λ (e : far_counted r (t.parts r) ≡ y). own_f y e) (names y h)

    module _ (near : has_near (middle_of i) s ≡ true) where
      own_e : (y : Wire) → near_counted r (t.parts r) ≡ y → IsFree p t (ByPair r ((t.parts r).made - 1)) y
      own_e y e =
          subst (IsFree p t (ByPair r ((t.parts r).made - 1))) e
          (own_free p ready ranges t r stood ideal (near_counted r (t.parts r)) (ByPair r ((t.parts r).made - 1)) (near_in p ready ranges t stood r i s q 0 x.here x.on x.sent x.low x.opens x.message x.at near))

    module _ (n : ℕ) (g c : Circuit) (ds : Tagged Message) (before : Follows p t n g c ds) where
      pub f_blank : IsBlank c (far_counted r (t.parts r))
      f_blank = blank_where (tables_seen p t) c (far_counted r (t.parts r)) before.named f_out

      pub e_blank : IsBlank c (near_counted r (t.parts r))
      e_blank = blank_where (tables_seen p t) c (near_counted r (t.parts r)) before.named (near_uncounted (tables_seen p t) (near_counted r (t.parts r)) refl)

  -- where it has its near half still
  abbrev pub sending : (i : Instr) (s q : ℕ) (a : Lane) → IsIn p t r i s → lane_sent r i ≡ Some a → nat_lt 0 s ≡ true → is_open (middle_of i) s ≡ true
      → message_of r (t.parts r) i ≡ Some (ByPair r ((t.parts r).made - 1)) → IsAt t (wire_in t r q) (InSlot r q) → counts_early (Some i) s ≡ true → has_pair (Some i) ≡ true
      → is_test i s ≡ false → Sending i s q
  sending i s q a here sent low opens message at early pair calm =
      record { here = here; on = a; sent = sent; low = low; opens = opens; message = message; at = at; early = early; pair = pair; calm = calm }

  abbrev pub copying : (q to tag s : ℕ) → IsIn p t r (instr.CopyTo q to tag) s → nat_lt 0 s ≡ true → is_open (middle_of (instr.CopyTo q to tag)) s ≡ true
      → counts_early (Some (instr.CopyTo q to tag)) s ≡ true → is_test (instr.CopyTo q to tag) s ≡ false → IsAt t (wire_in t r q) (InSlot r q) → Sending (instr.CopyTo q to tag) s q
  copying q to tag s here low opens early calm at = sending (instr.CopyTo q to tag) s q (lane r to kind.Copy tag) here refl low opens refl at early refl calm

  -- ---- the controlled-not of the sender
  cross_any : (i : Instr) (q : ℕ) (next : IsNext p t r i 1) (x : Sending i 1 q) → has_near (middle_of i) 1 ≡ true
      → (let w = wire_in t r q in let e = near_counted r (t.parts r) in let f = far_counted r (t.parts r) in let k = ByPair r ((t.parts r).made - 1) in
      (after p t r i 1).lanes ≡ t.lanes
      → rank_debt p t r ≡ Some (debt k (pair_letters e f)) → rank_debt p (after p t r i 1) r ≡ Some (debt k (crossed_letters w e f))
      → (n : ℕ) (g c : Circuit) (ds : Tagged Message) → Follows p t n g c ds → CountsGrow (tables_seen p t) (tables_seen p (after p t r i 1))
      → GoesOn p t r (after p t r i 1) k None None (n + 0) (g ++ Cx w e ∷ []) (c ++ []))
  cross_any i q next x near lanes old new n g c ds before grow =
      let w = wire_in t r q in
      let e = near_counted r (t.parts r) in
      let f = far_counted r (t.parts r) in
      let k = ByPair r ((t.parts r).made - 1) in
      follow_middle p ready ranges t r stood i 1 next n g c ds before k (pair_letters e f) (Some (crossed_letters w e f)) (Cx w e ∷ []) 0 old new
      (same_lanes_kept p t (after p t r i 1) lanes) (equal_refl (c ++ crossed_letters w e f))
      (quiet_brings p ready ranges t r stood ideal i 1 next n g c ds before grow x.calm k (Cx w e ∷ [])
      (λ y h. ⊎_elim (λ (s : w ≡ y). own_w i 1 q x y s) (λ (s : e ≡ y). own_e i 1 q x near y s) (two_named (Cx w e) w e y refl h)))

  pub copy_cross_follows : (q to tag : ℕ) → IsNext p t r (instr.CopyTo q to tag) 1 → Keeps p t r (instr.CopyTo q to tag) 1
  copy_cross_follows q to tag next n g c ds before seen allowed =
      let i = instr.CopyTo q to tag in
      let here = before_event p t r i 1 next in
      let at = operand_at p ready ranges t stood r i 1 here q refl (step_in p ready ranges t stood r i 1 here).slots in
      cross_any i q next (copying q to tag 1 here refl refl refl refl at) refl refl (rank_debt_at p t r i 1 here)
      (debt_on p t r 3 (acts_of (row_at p t r i 1)) i 1 next refl) n g c ds before (ideal_grows p t (after p t r i 1) r i 1 seen)

  abbrev pub moving : (q to tag s : ℕ) → IsIn p t r (instr.MoveTo q to tag) s → nat_lt 0 s ≡ true → is_open (middle_of (instr.MoveTo q to tag)) s ≡ true
      → counts_early (Some (instr.MoveTo q to tag)) s ≡ true → is_test (instr.MoveTo q to tag) s ≡ false → IsAt t (wire_in t r q) (InSlot r q) → Sending (instr.MoveTo q to tag) s q
  moving q to tag s here low opens early calm at = sending (instr.MoveTo q to tag) s q (lane r to kind.Move tag) here refl low opens refl at early refl calm

  abbrev pub reaching : (q to tag s : ℕ) → IsIn p t r (instr.ReachTo q to tag) s → nat_lt 0 s ≡ true → is_open (middle_of (instr.ReachTo q to tag)) s ≡ true
      → counts_early (Some (instr.ReachTo q to tag)) s ≡ true → is_test (instr.ReachTo q to tag) s ≡ false → IsAt t (wire_in t r q) (InSlot r q) → Sending (instr.ReachTo q to tag) s q
  reaching q to tag s here low opens early calm at = sending (instr.ReachTo q to tag) s q (lane r to kind.Reach tag) here refl low opens refl at early refl calm

  pub move_cross_follows : (q to tag : ℕ) → IsNext p t r (instr.MoveTo q to tag) 1 → Keeps p t r (instr.MoveTo q to tag) 1
  move_cross_follows q to tag next n g c ds before seen allowed =
      let i = instr.MoveTo q to tag in
      let here = before_event p t r i 1 next in
      let at = operand_at p ready ranges t stood r i 1 here q refl (step_in p ready ranges t stood r i 1 here).slots in
      cross_any i q next (moving q to tag 1 here refl refl refl refl at) refl refl (rank_debt_at p t r i 1 here)
      (debt_on p t r 5 (acts_of (row_at p t r i 1)) i 1 next refl) n g c ds before (ideal_grows p t (after p t r i 1) r i 1 seen)

  pub reach_cross_follows : (q to tag : ℕ) → IsNext p t r (instr.ReachTo q to tag) 1 → Keeps p t r (instr.ReachTo q to tag) 1
  reach_cross_follows q to tag next n g c ds before seen allowed =
      let i = instr.ReachTo q to tag in
      let here = before_event p t r i 1 next in
      let at = operand_at p ready ranges t stood r i 1 here q refl (step_in p ready ranges t stood r i 1 here).slots in
      cross_any i q next (reaching q to tag 1 here refl refl refl refl at) refl refl (rank_debt_at p t r i 1 here)
      (debt_on p t r 5 (acts_of (row_at p t r i 1)) i 1 next refl) n g c ds before (ideal_grows p t (after p t r i 1) r i 1 seen)

  -- ---- the middle of a move: the sender's Hadamard gate, and its near half measured away
  pub move_had_follows : (q to tag : ℕ) → IsNext p t r (instr.MoveTo q to tag) 2 → Keeps p t r (instr.MoveTo q to tag) 2
  move_had_follows q to tag next n g c ds before seen allowed =
      let i = instr.MoveTo q to tag in
      let here = before_event p t r i 2 next in
      let at = operand_at p ready ranges t stood r i 2 here q refl (step_in p ready ranges t stood r i 2 here).slots in
      let x = moving q to tag 2 here refl refl refl refl at in
      let w = wire_in t r q in
      let e = near_counted r (t.parts r) in
      let f = far_counted r (t.parts r) in
      let k = ByPair r ((t.parts r).made - 1) in
      follow_middle p ready ranges t r stood i 2 next n g c ds before k (crossed_letters w e f) (Some (crossed_letters w e f ++ Had w ∷ [])) (Had w ∷ []) 0
      (rank_debt_at p t r i 2 here) (debt_on p t r 5 (acts_of (row_at p t r i 2)) i 2 next refl) (same_lanes_kept p t (after p t r i 2) refl)
      (equal_refl (c ++ (crossed_letters w e f ++ Had w ∷ [])))
      (quiet_brings p ready ranges t r stood ideal i 2 next n g c ds before (ideal_grows p t (after p t r i 2) r i 2 seen) refl k (Had w ∷ []) (λ y h. own_w i 2 q x y (one_named (Had w) w y refl h)))

  pub move_near_follows : (q to tag : ℕ) → IsNext p t r (instr.MoveTo q to tag) 3 → Keeps p t r (instr.MoveTo q to tag) 3
  move_near_follows q to tag next n g c ds before seen allowed =
      let i = instr.MoveTo q to tag in
      let v = t.parts r in
      let here = before_event p t r i 3 next in
      let at = operand_at p ready ranges t stood r i 3 here q refl (step_in p ready ranges t stood r i 3 here).slots in
      let x = moving q to tag 3 here refl refl refl refl at in
      let u = after p t r i 3 in
      let w = wire_in t r q in
      let e = near_counted r v in
      let f = far_counted r v in
      let k = ByPair r (v.made - 1) in
      let m = protocol_next t r in
      let law = equal_near c w e f (we i 3 q x) (wf i 3 q x) (halves_differ e f refl refl) (e_blank i 3 q x n g c ds before) (f_blank i 3 q x n g c ds before) m in
      let follows : GoesOn p t r u k None None (n + 1) (g ++ Take e m ∷ []) (c ++ []) =
      follow_middle p ready ranges t r stood i 3 next n g c ds before k (crossed_letters w e f ++ Had w ∷ []) (Some (moved_near w f m)) (Take e m ∷ []) 1
      (rank_debt_at p t r i 3 here) (debt_on p t r 5 (acts_of (row_at p t r i 3)) i 3 next refl) (same_lanes_kept p t u refl) law
      (quiet_brings p ready ranges t r stood ideal i 3 next n g c ds before (ideal_grows p t u r i 3 seen) refl k (Take e m ∷ []) (λ y h. own_e i 3 q x refl y (one_named (Take e m) e y refl h))) in
      let used : Part = record v { protocol = drop 1 v.protocol } in
      subst (λ y. GoesOn p t r u k None None (n + 1) (g ++ Take y m ∷ []) (c ++ [])) (sym (ap (λ (z : Part). near_counted r z) (with_at-here t.parts r used))) follows

  -- ---- the last parcel is filled
  module _ (i : Instr) (s q : ℕ) (x : Sending i s q) (bits : Bool × Bool) where
    last : IsLast (t.lanes x.on) (half_parcel (far_counted r (t.parts r)))
    last = (stood.opens r).last x.on (ap (λ o. is_open (middle_at o) (t.parts r).stage) x.here.read ∙ ap (is_open (middle_of i)) x.here.stage ∙ x.opens) (ap (sent_at r) x.here.read ∙ x.sent)

    lane_after : filled (t.lanes x.on) bits ≡ last.front ++ record (half_parcel (far_counted r (t.parts r))) { bits = Some bits } ∷ []
    lane_after = ap (λ xs. filled xs bits) last.is ∙ filled_last last.front (half_parcel (far_counted r (t.parts r))) bits

    was_there : (z : Parcel) → Contains last.front z → Contains (t.lanes x.on) z
    was_there z h = subst (λ ys. Contains ys z) (sym last.is) (Contains-append_left last.front (half_parcel (far_counted r (t.parts r)) ∷ []) z h)

    stays_there : (z : Parcel) → Contains (t.lanes x.on) z → is_some z.bits ≡ true → Contains last.front z
    stays_there z h b = posted_there last.front (half_parcel (far_counted r (t.parts r))) z refl b (subst (λ ys. Contains ys z) last.is h)

  -- the ideal machine has counted the half afterwards
  module _ (i : Instr) (s : ℕ) (next : IsNext p t r i s) (end : nat_lt (s + 1) (events_of i) ≡ false) (none : makes i s ≡ false) (some : 0 < (t.parts r).made) where
    counted_after : IsCounted (tables_seen p (after p t r i s)) (far_counted r (t.parts r))
    counted_after =
        let acts = acts_of (row_at p t r i s) in
        let u = after p t r i s in
        let stage = fresh_stage p t r (events_of i) acts i s next end in
        let made : ((tables_seen p u).parts r).made ≡ (t.parts r).made =
        ap (λ k. (part_seen (current p u r) k (u.parts r)).made) stage
        ∙ ap (λ (v : Part). v.made) (own_ended p t r (events_of i) acts i s next end)
        ∙ counts p t r i s ∙ ap (λ b. cond b ((t.parts r).made + 1) (t.parts r).made) none in
        record { far = refl; below = omega arith }

  -- ---- the deciding Posts of a copy and a move, and the first Post of a reach
  pub copy_post_follows : (q to tag : ℕ) → IsNext p t r (instr.CopyTo q to tag) 2 → Keeps p t r (instr.CopyTo q to tag) 2
  copy_post_follows q to tag next n g c ds before seen allowed =
      let i = instr.CopyTo q to tag in
      let v = t.parts r in
      let here = before_event p t r i 2 next in
      let at = operand_at p ready ranges t stood r i 2 here q refl (step_in p ready ranges t stood r i 2 here).slots in
      let x = copying q to tag 2 here refl refl refl refl at in
      let u = after p t r i 2 in
      let a = lane r to kind.Copy tag in
      let w = wire_in t r q in
      let e = near_counted r v in
      let f = far_counted r v in
      let k = ByPair r (v.made - 1) in
      let m = protocol_next t r in
      let bits : Bool × Bool = (m, false) in
      let y : Parcel = record (half_parcel f) { bits = Some bits } in
      let end = last i 2 q x bits in
      let grow = ideal_grows p t u r i 2 seen in
      let law = equal_copy c w e f (we i 2 q x) (wf i 2 q x) (halves_differ e f refl refl) (e_blank i 2 q x n g c ds before) (f_blank i 2 q x n g c ds before) m in
      let f_in = counted_after i 2 next refl refl (some i 2 q x) in
      let follows : GoesOn p t r u k (Some (a, y)) None (n + 1) (g ++ Take e m ∷ []) (c ++ Cx w f ∷ []) =
      follow_give p ready ranges t r stood i 2 next n g c ds before k (crossed_letters w e f) (letter_if m (Flip f)) (Take e m ∷ []) (Cx w f ∷ []) 1 a y end.front
      (rank_debt_at p t r i 2 here) (debt_ended p t r 3 (acts_of (row_at p t r i 2)) i 2 next refl)
      (ap (λ ys. with_lane t.lanes a ys) (lane_after i 2 q x bits)) (was_there i 2 q x bits) (stays_there i 2 q x bits) refl law
      (step_brings p ready ranges t r stood ideal i 2 next n g c ds before grow refl k (Take e m ∷ []) (Cx w f ∷ []) (λ d. not_back_pair r (v.made - 1) d)
      (λ z h. own_e i 2 q x refl z (one_named (Take e m) e z refl h)) (free_two i 2 q x (Cx w f) (λ z h. two_named (Cx w f) w f z refl h))
      ((counted_on (tables_seen p t) (tables_seen p u) w grow (w_in i 2 q x), (f_in, tt)), tt)
      (IsNonzero-append_unitary c (Cx w f ∷ []) (wf i 2 q x, tt) before.nonzero)) in
      let used : Part = record v { protocol = drop 1 v.protocol } in
      let count : ((tables_seen p t).parts r).made ≡ v.made - 1 = ap₂ (λ o j. (part_seen o j v).made) here.read here.stage in
      subst (λ z. GoesOn p t r u k (Some (a, y)) None (n + 1) (g ++ Take z m ∷ []) (c ++ ideal_letters p t r i 2)) (sym (ap (λ (z : Part). near_counted r z) (with_at-here t.parts r used)))
      (subst (λ j. GoesOn p t r u k (Some (a, y)) None (n + 1) (g ++ Take e m ∷ []) (c ++ Cx w (record { rank = r; made = j; near = false }) ∷ [])) (sym count) follows)

  pub move_post_follows : (q to tag : ℕ) → IsNext p t r (instr.MoveTo q to tag) 4 → Keeps p t r (instr.MoveTo q to tag) 4
  move_post_follows q to tag next n g c ds before seen allowed =
      let i = instr.MoveTo q to tag in
      let v = t.parts r in
      let here = before_event p t r i 4 next in
      let at = operand_at p ready ranges t stood r i 4 here q refl (step_in p ready ranges t stood r i 4 here).slots in
      let x = moving q to tag 4 here refl refl refl refl at in
      let u = after p t r i 4 in
      let a = lane r to kind.Move tag in
      let w = wire_in t r q in
      let f = far_counted r v in
      let k = ByPair r (v.made - 1) in
      let m = protocol_next t r in
      let bits : Bool × Bool = (v.first, m) in
      let y : Parcel = record (half_parcel f) { bits = Some bits } in
      let end = last i 4 q x bits in
      let es = corrections_of m v.first f in
      let grow = ideal_grows p t u r i 4 seen in
      let joined : Cx w f ∷ (letter_if v.first (Flip f) ++ Had w ∷ Take w m ∷ []) ≡ moved_near w f v.first ++ Take w m ∷ [] =
      ap (λ zs. Cx w f ∷ zs) (sym (append_assoc (letter_if v.first (Flip f)) (Had w ∷ []) (Take w m ∷ []))) in
      let law : IsEqualUpTo 1 (c ++ (moved_near w f v.first ++ Take w m ∷ [])) (c ++ (Rename w f ∷ es)) =
      subst (λ zs. IsEqualUpTo 1 (c ++ zs) (c ++ (Rename w f ∷ es))) joined (equal_move c w f (wf i 4 q x) (f_blank i 4 q x n g c ds before) v.first m) in
      let f_in = counted_after i 4 next refl refl (some i 4 q x) in
      let follows : GoesOn p t r u k (Some (a, y)) None (n + 1) (g ++ Take w m ∷ []) (c ++ Rename w f ∷ []) =
      follow_give p ready ranges t r stood i 4 next n g c ds before k (moved_near w f v.first) es (Take w m ∷ []) (Rename w f ∷ []) 1 a y end.front
      (rank_debt_at p t r i 4 here) (debt_ended p t r 5 (acts_of (row_at p t r i 4)) i 4 next refl)
      (ap (λ ys. with_lane t.lanes a ys) (lane_after i 4 q x bits)) (was_there i 4 q x bits) (stays_there i 4 q x bits) refl law
      (step_brings p ready ranges t r stood ideal i 4 next n g c ds before grow refl k (Take w m ∷ []) (Rename w f ∷ []) (λ d. not_back_pair r (v.made - 1) d)
      (λ z h. own_w i 4 q x z (one_named (Take w m) w z refl h)) (free_two i 4 q x (Rename w f) (λ z h. two_named (Rename w f) w f z refl h))
      ((counted_on (tables_seen p t) (tables_seen p u) w grow (w_in i 4 q x), (f_in, tt)), tt)
      (IsNonzero-push_rename c w f (wf i 4 q x) (f_blank i 4 q x n g c ds before) before.nonzero)) in
      let count : ((tables_seen p t).parts r).made ≡ v.made - 1 = ap₂ (λ o j. (part_seen o j v).made) here.read here.stage in
      subst (λ j. GoesOn p t r u k (Some (a, y)) None (n + 1) (g ++ Take w m ∷ []) (c ++ Rename w (record { rank = r; made = j; near = false }) ∷ [])) (sym count) follows

  pub reach_post_follows : (q to tag : ℕ) → IsNext p t r (instr.ReachTo q to tag) 2 → Keeps p t r (instr.ReachTo q to tag) 2
  reach_post_follows q to tag next n g c ds before seen allowed =
      let i = instr.ReachTo q to tag in
      let v = t.parts r in
      let here = before_event p t r i 2 next in
      let at = operand_at p ready ranges t stood r i 2 here q refl (step_in p ready ranges t stood r i 2 here).slots in
      let x = reaching q to tag 2 here refl refl refl refl at in
      let u = after p t r i 2 in
      let a = lane r to kind.Reach tag in
      let w = wire_in t r q in
      let e = near_counted r v in
      let f = far_counted r v in
      let k = ByPair r (v.made - 1) in
      let m = protocol_next t r in
      let bits : Bool × Bool = (m, false) in
      let y : Parcel = record (half_parcel f) { bits = Some bits } in
      let end = last i 2 q x bits in
      let es = Cx w f ∷ letter_if m (Flip f) in
      let offered : source_wire p u r ≡ w = ap (wire_offered (wire_in u r)) (goes_on p t r 5 (acts_of (row_at p t r i 2)) i 2 next refl).read in
      let posted : parcel_debt p u a y ≡ Some (debt k es) = ap (λ z. Some (debt k (Cx z f ∷ letter_if m (Flip f)))) offered in
      let law = equal_copy c w e f (we i 2 q x) (wf i 2 q x) (halves_differ e f refl refl) (e_blank i 2 q x n g c ds before) (f_blank i 2 q x n g c ds before) m in
      let follows : GoesOn p t r u k (Some (a, y)) None (n + 1) (g ++ Take e m ∷ []) (c ++ []) =
      follow_give p ready ranges t r stood i 2 next n g c ds before k (crossed_letters w e f) es (Take e m ∷ []) [] 1 a y end.front
      (rank_debt_at p t r i 2 here) (debt_on p t r 5 (acts_of (row_at p t r i 2)) i 2 next refl)
      (ap (λ ys. with_lane t.lanes a ys) (lane_after i 2 q x bits)) (was_there i 2 q x bits) (stays_there i 2 q x bits) posted law
      (quiet_brings p ready ranges t r stood ideal i 2 next n g c ds before (ideal_grows p t u r i 2 seen) refl k (Take e m ∷ [])
      (λ z h. own_e i 2 q x refl z (one_named (Take e m) e z refl h))) in
      let used : Part = record v { protocol = drop 1 v.protocol } in
      subst (λ z. GoesOn p t r u k (Some (a, y)) None (n + 1) (g ++ Take z m ∷ []) (c ++ [])) (sym (ap (λ (z : Part). near_counted r z) (with_at-here t.parts r used))) follows
