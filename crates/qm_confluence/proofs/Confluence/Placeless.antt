-- A wire that has no place in the tables of an ideal run is blank in its circuit
use Rattle.std.proofs.Common.{◌≡◌, ◌≢◌, ℕ, ◌<◌, ◌⊎◌, inl, inr, nat_eq, Bool, true, false, cond, List, [], ◌∷◌, ◌++◌, length, drop, fold, Option, Some, None, is_some, unwrap_or, slice_index_or, Contains, refl, sym, ap, subst, ◌∙◌, append_assoc, arith}
use Rattle.std.proofs.lemmas.Bool.{eqb-true}
use Rattle.std.proofs.lemmas.List.Elements.{Contains-append_left, Contains-append_cases, Contains-push, Contains-push_cases}
use Rattle.qm_denot.specs.declared.Wire.{Wire}
use Rattle.qm_denot.specs.declared.Letter.{Letter}
use Rattle.qm_denot.specs.declared.Letter.TheVariants.{Cx, Take, Rename}
use Rattle.qm_denot.specs.Circuits.{Circuit, amp, IsBlank}
use Rattle.qm_denot.specs.Weights.{operands}
use Rattle.qm_denot.specs.WireLists.{Lacks}
use Rattle.qm_denot.specs.Wires.{is_wire}
use Rattle.qm_denot.proofs.Amplitudes.{amp-push}
use Rattle.qm_denot.proofs.Agreement.{apart_one, LettersApart}
use Rattle.qm_denot.proofs.OperandFacts.{Each, EachOperand}
use Rattle.qm_denot.proofs.Sets.{same_from_is, is_wire_itself}
use Rattle.qm_denot.proofs.Support.{IsBlank-append, IsBlank-unnamed, IsBlankIn-take, IsBlankIn-rename}
use Rattle.qm_instr.specs.declared.Instr.{Instr}
use Rattle.qm_instr.specs.declared.Instr.TheVariants as instr
use Rattle.qm_instr.specs.declared.Kind.TheVariants as kind
use Rattle.qm_instr.specs.declared.Lane.{Lane}
use Rattle.qm_instr.specs.Lanes.{lane, is_lane}
use Rattle.qm_instr.specs.Programs.{Programs, IsInRange}
use Rattle.qm_instr.proofs.LaneOrder.{same_lane, lane_itself}
use Rattle.qm_check.specs.Checks.{IsReady}
use Rattle.qm_check.specs.Operands.{uses_of}
use Rattle.qm_check.specs.Slots.{full_after}
use Rattle.qm_check.proofs.Faultless.{FindsSlots, before}
use Rattle.qm_proto.specs.Model.State.{no_wire}
use Rattle.qm_proto.specs.Model.Ideal.{IdealTables, IdealState, IdealAct, Load, Carried, Told, Token, wire_carried, load_at, ideal_wire_made, ideal_next, ideal_at_start, ideal_replay, IsIdealFrom, IsIdealRun}
use Rattle.qm_proto.proofs.Changes.{by_number, number_itself}
use Rattle.qm_confluence.proofs.Confluence.ByView.{View, slot_wire, bit_in, made_in, letters_by, acts_by, view}
use Rattle.qm_confluence.proofs.Confluence.Diamond.{next_is, state_by}
use Rattle.qm_confluence.proofs.Confluence.Effects.{stepped, slot_act, lane_act, slot_stepped, slot_elsewhere, lane_stepped}
use Rattle.qm_confluence.proofs.Confluence.Helpers.{IsNextInstr, next_where_able}
use Rattle.qm_confluence.proofs.Confluence.LetterWires.{letters_where, names_made, slot_found, offered}
use Rattle.qm_confluence.proofs.Confluence.NamedWires.{IsWellState, state_next}
use Rattle.qm_confluence.proofs.Confluence.OnePlace.{Spot, InSlot, OnLane, Stands, carries}
use Rattle.qm_confluence.proofs.Confluence.WellIdeal.{IsWellIdeal, at_step, well_start}

-- the places of wires: slots, and lanes that carry wires
abbrev pub Holds : Spot → Type 0
Holds (InSlot r q) = Unit {0}
Holds (OnLane a) = carries a.kind ≡ true

-- the wire stands at one
abbrev pub IsHeld : IdealTables → Wire → Type 0
IsHeld t w = (z : Spot) × Holds z × Stands t w z

-- ---- the wire that an instruction gives up
abbrev gives_up : Instr → View → Wire → Bool
gives_up (instr.Free q) v w = is_wire w (slot_wire v q)
gives_up (instr.UndoTo q to tag) v w = is_wire w (slot_wire v q)
gives_up (instr.MoveTo q to tag) v w = is_wire w (slot_wire v q)
gives_up _ v w = false

taken_blank : (c : Circuit) (w : Wire) → IsBlank (c ++ Take w false ∷ []) w
taken_blank c w x h = amp-push c (Take w false) x ∙ IsBlankIn-take (amp c) w false x h

-- it is blank after the instruction's letters
given_up_blank : (r : ℕ) (i : Instr) (v : View) (c : Circuit) (w : Wire) → gives_up i v w ≡ true → IsBlank (c ++ letters_by r i v) w
given_up_blank r (instr.Free q) v c w e = rw (same_from_is w (slot_wire v q) e) (taken_blank c (slot_wire v q))
given_up_blank r (instr.UndoTo q to tag) v c w e =
    rw (same_from_is w (slot_wire v q) e)
    (subst (λ (d : Circuit). IsBlank d (slot_wire v q)) (append_assoc c (Cx (v.offered to) (slot_wire v q) ∷ []) (Take (slot_wire v q) false ∷ []))
    (taken_blank (c ++ Cx (v.offered to) (slot_wire v q) ∷ []) (slot_wire v q)))
given_up_blank r (instr.MoveTo q to tag) v c w e =
    rw (same_from_is w (slot_wire v q) e) (λ x h. amp-push c (Rename (slot_wire v q) (made_in r v)) x ∙ IsBlankIn-rename (amp c) (slot_wire v q) (made_in r v) x h)
given_up_blank r _ v c w e = absurd (let n : ⊥ = cc in n)

-- ---- the slots of the rank
module _ (v : View) (full : ℕ → Bool) (q : ℕ) (w : Wire) (here : v.slots q ≡ Some w) (is_full : full q ≡ true) where
  -- a slot that an instruction fills was empty
  not_filled : (k : ℕ) (o : Option Wire) → full k ≡ false → cond (nat_eq q k) o (Some w) ≡ Some w
  not_filled k o none = by_bool (nat_eq q k) refl
    where
      by_bool : (b : Bool) → nat_eq q k ≡ b → cond b o (Some w) ≡ Some w
      by_bool true e = let same = ap full (eqb-true q k e) in absurd (let n : ⊥ = cc in n)
      by_bool false e = refl

  -- one that it empties had the wire that it gives up
  emptied : (k : ℕ) → (is_wire w (slot_wire v k) ≡ true) ⊎ (cond (nat_eq q k) None (Some w) ≡ Some w)
  emptied k = by_bool (nat_eq q k) refl
    where
      by_bool : (b : Bool) → nat_eq q k ≡ b → (is_wire w (slot_wire v k) ≡ true) ⊎ (cond b None (Some w) ≡ Some w)
      by_bool true e =
          let wire : slot_wire v k ≡ w = ap (slot_wire v) (sym (eqb-true q k e)) ∙ ap (λ o. unwrap_or o no_wire) here in
          inl (subst (λ u. is_wire w u ≡ true) (sym wire) (is_wire_itself w))
      by_bool false e = inr refl

  slot_kept : (r : ℕ) (i : Instr) → FindsSlots full (uses_of i) → (gives_up i v w ≡ true) ⊎ (fold (slot_act q) (Some w) (acts_by r i v) ≡ Some w)
  slot_kept r (instr.Alloc k) found = inr (not_filled k _ found)
  slot_kept r (instr.CopyFrom k from tag) found = inr (not_filled k _ found)
  slot_kept r (instr.MoveFrom k from tag) found = inr (not_filled k _ found)
  slot_kept r (instr.Free k) found = emptied k
  slot_kept r (instr.UndoTo k to tag) found = emptied k
  slot_kept r (instr.MoveTo k to tag) found = emptied k
  slot_kept r _ found = inr refl

-- ---- the lanes
pub nothing_in : (x : Load) → Contains [] x → ⊥
nothing_in x (k, below, is) = omega arith

front_or_rest : (xs : List Load) (w : Wire) → Contains xs (Carried w) → (wire_carried (slice_index_or xs 0 Token) ≡ w) ⊎ Contains (drop 1 xs) (Carried w)
front_or_rest [] w h = absurd (nothing_in (Carried w) h)
front_or_rest (x ∷ xs) w h = elim (Contains-append_cases (x ∷ []) xs (Carried w) h) [
  | inl first ↦ elim (Contains-push_cases [] x (Carried w) first) [ inl n ↦ absurd (nothing_in (Carried w) n) | inr e ↦ inl (ap wire_carried e) ]
  | inr rest ↦ inr rest
]

module _ (p : Programs) (t : IdealTables) (r : ℕ) (a : Lane) (w : Wire) (wires : carries a.kind ≡ true) (here : Contains (t.lanes a) (Carried w)) where
  stays : (i : Instr) → Contains (fold (lane_act a) (t.lanes a) (acts_by r i (view p t r i))) (Carried w) → IsHeld (stepped r (acts_by r i (view p t r i)) t) w
  stays i h = (OnLane a, wires, subst (λ xs. Contains xs (Carried w)) (sym (lane_stepped r (acts_by r i (view p t r i)) t a)) h)

  pushed : (c : Lane) (x : Load) → Contains (cond (is_lane a c) (t.lanes a ++ x ∷ []) (t.lanes a)) (Carried w)
  pushed c x = by_bool (is_lane a c)
    where
      by_bool : (b : Bool) → Contains (cond b (t.lanes a ++ x ∷ []) (t.lanes a)) (Carried w)
      by_bool true = Contains-append_left (t.lanes a) (x ∷ []) (Carried w) here
      by_bool false = here

  -- nothing is taken from this lane where that one carries no wires
  not_taken : (c : Lane) → carries c.kind ≡ false → Contains (cond (is_lane a c) (drop 1 (t.lanes a)) (t.lanes a)) (Carried w)
  not_taken c none = by_bool (is_lane a c) refl
    where
      by_bool : (b : Bool) → is_lane a c ≡ b → Contains (cond b (drop 1 (t.lanes a)) (t.lanes a)) (Carried w)
      by_bool true e = let same = ap (λ (d : Lane). carries d.kind) (same_lane a c e) in absurd (let n : ⊥ = cc in n)
      by_bool false e = here

  -- the front goes into a slot
  taken : (c : Lane) → (wire_carried (load_at t c) ≡ w) ⊎ Contains (cond (is_lane a c) (drop 1 (t.lanes a)) (t.lanes a)) (Carried w)
  taken c = by_bool (is_lane a c) refl
    where
      by_bool : (b : Bool) → is_lane a c ≡ b → (wire_carried (load_at t c) ≡ w) ⊎ Contains (cond b (drop 1 (t.lanes a)) (t.lanes a)) (Carried w)
      by_bool true e = subst (λ d. (wire_carried (load_at t d) ≡ w) ⊎ Contains (drop 1 (t.lanes a)) (Carried w)) (same_lane a c e) (front_or_rest (t.lanes a) w here)
      by_bool false e = inr here

  settles : (i : Instr) (q : ℕ) → fold (slot_act q) (t.slots r q) (acts_by r i (view p t r i)) ≡ Some w → IsHeld (stepped r (acts_by r i (view p t r i)) t) w
  settles i q e = (InSlot r q, tt, slot_stepped r (acts_by r i (view p t r i)) t q ∙ e)

  filled : (q : ℕ) (c : Lane) → wire_carried (load_at t c) ≡ w → cond (nat_eq q q) (Some (wire_carried (load_at t c))) (t.slots r q) ≡ Some w
  filled q c e = ap (λ b. cond b (Some (wire_carried (load_at t c))) (t.slots r q)) (number_itself q) ∙ ap (λ x. Some x) e

  lane_kept : (i : Instr) → IsHeld (stepped r (acts_by r i (view p t r i)) t) w
  lane_kept (instr.SendBit b to tag) = stays (instr.SendBit b to tag) (pushed (lane r to kind.Bit tag) (Told (bit_in (view p t r (instr.SendBit b to tag)) b)))
  lane_kept (instr.UndoTo q to tag) = stays (instr.UndoTo q to tag) (pushed (lane r to kind.Undo tag) Token)
  lane_kept (instr.ReachFrom q from tag) = stays (instr.ReachFrom q from tag) (pushed (lane r from kind.Back tag) Token)
  lane_kept (instr.CopyTo q to tag) = stays (instr.CopyTo q to tag) (pushed (lane r to kind.Copy tag) (Carried (ideal_wire_made t r)))
  lane_kept (instr.MoveTo q to tag) = stays (instr.MoveTo q to tag) (pushed (lane r to kind.Move tag) (Carried (ideal_wire_made t r)))
  lane_kept (instr.RecvBit b from tag) = stays (instr.RecvBit b from tag) (not_taken (lane from r kind.Bit tag) refl)
  lane_kept (instr.UndoFrom q from tag) = stays (instr.UndoFrom q from tag) (not_taken (lane from r kind.Undo tag) refl)
  lane_kept (instr.ReachTo q to tag) = stays (instr.ReachTo q to tag) (not_taken (lane to r kind.Back tag) refl)
  lane_kept (instr.CopyFrom q from tag) =
      let c = lane from r kind.Copy tag in
      elim (taken c) [ inl e ↦ settles (instr.CopyFrom q from tag) q (filled q c e) | inr h ↦ stays (instr.CopyFrom q from tag) h ]
  lane_kept (instr.MoveFrom q from tag) =
      let c = lane from r kind.Move tag in
      elim (taken c) [ inl e ↦ settles (instr.MoveFrom q from tag) q (filled q c e) | inr h ↦ stays (instr.MoveFrom q from tag) h ]
  lane_kept (instr.Alloc q) = stays (instr.Alloc q) here
  lane_kept (instr.Do g) = stays (instr.Do g) here
  lane_kept (instr.Free q) = stays (instr.Free q) here
  lane_kept (instr.Measure q b) = stays (instr.Measure q b) here
  lane_kept (instr.Set b x) = stays (instr.Set b x) here
  lane_kept (instr.Xor b c) = stays (instr.Xor b c) here
  lane_kept (instr.When b g) = stays (instr.When b g) here

-- ---- the wire that a message counts goes onto a lane
put_held : (t : IdealTables) (r : ℕ) (acts : List IdealAct) (a : Lane) (w : Wire) → carries a.kind ≡ true
    → fold (lane_act a) (t.lanes a) acts ≡ cond (is_lane a a) (t.lanes a ++ Carried w ∷ []) (t.lanes a) → IsHeld (stepped r acts t) w
put_held t r acts a w wires put =
    let is : (stepped r acts t).lanes a ≡ t.lanes a ++ Carried w ∷ [] =
    lane_stepped r acts t a ∙ put ∙ ap (λ b. cond b (t.lanes a ++ Carried w ∷ []) (t.lanes a)) (lane_itself a) in
    (OnLane a, wires, subst (λ xs. Contains xs (Carried w)) (sym is) (Contains-push (t.lanes a) (Carried w)))

made_held : (p : Programs) (t : IdealTables) (r : ℕ) (i : Instr) → names_made i ≡ true → IsHeld (stepped r (acts_by r i (view p t r i)) t) (ideal_wire_made t r)
made_held p t r (instr.CopyTo q to tag) e =
    let i = instr.CopyTo q to tag in
    put_held t r (acts_by r i (view p t r i)) (lane r to kind.Copy tag) (ideal_wire_made t r) refl refl
made_held p t r (instr.MoveTo q to tag) e =
    let i = instr.MoveTo q to tag in
    put_held t r (acts_by r i (view p t r i)) (lane r to kind.Move tag) (ideal_wire_made t r) refl refl
made_held p t r _ e = absurd (let n : ⊥ = cc in n)

-- ---- a step
module _ (p : Programs) (ready : IsReady p) (ranges : IsInRange p) (t : IdealTables) (well : IsWellIdeal p t) (r : ℕ) (known : r < length p.ranks) (i : Instr) (next : IsNextInstr p t r i) where
  abbrev v : View
  v = view p t r i

  abbrev after : IdealTables
  after = stepped r (acts_by r i v) t

  abbrev Kept : Wire → Type 0
  Kept w = (gives_up i v w ≡ true) ⊎ IsHeld after w

  kept : (w : Wire) → IsHeld t w → Kept w
  kept w (OnLane a, wires, here) = inr (lane_kept p t r a w wires here i)
  kept w (InSlot k q, u, here) =
      by_number (λ k. t.slots k q ≡ Some w → Kept w) r
      (λ e.
      let full : full_after (before p r (t.parts r).at) q ≡ true = sym (well.full r q) ∙ ap (λ (o : Option Wire). is_some o) e in
      elim (slot_kept v (full_after (before p r (t.parts r).at)) q w e full r i (at_step p ready ranges t well r known i next).slots) [
        | inl lost ↦ inl lost
        | inr same ↦ inr (InSlot r q, tt, slot_stepped r (acts_by r i v) t q ∙ ap (λ o. fold (slot_act q) o (acts_by r i v)) e ∙ same)
      ])
      (λ k other e. inr (InSlot k q, tt, slot_elsewhere r (acts_by r i v) t k other q ∙ e)) k here

  operands_kept : EachOperand Kept (letters_by r i v)
  operands_kept =
      letters_where Kept r i v (full_after (before p r (t.parts r).at)) (at_step p ready ranges t well r known i next).slots
      (λ q full. kept (slot_wire v q) (InSlot r q, tt, slot_found p ready ranges t well r q full))
      (λ e. inr (made_held p t r i e))
      (λ h e. let o = offered p ready ranges t well r known i next h e in kept (v.offered h) (InSlot h o.q, tt, o.there))

  module _ (w : Wire) (lost : gives_up i v w ≡ false) (gone : ¬ IsHeld after w) where
    not_kept : (u : Wire) → Kept u → u ≢ w
    not_kept u (inl e) same = let f = subst (λ x. gives_up i v x ≡ true) same e in absurd (let n : ⊥ = cc in n)
    not_kept u (inr h) same = gone (subst (IsHeld after) same h)

    lacked : (ws : List Wire) → Each Kept ws → Lacks ws w
    lacked [] h = tt
    lacked (u ∷ ws) h = (not_kept u h.0, lacked ws h.1)

    apart : (ls : List Letter) → EachOperand Kept ls → LettersApart ls (w ∷ [])
    apart [] h = tt
    apart (l ∷ ls) h = (apart_one (operands l) w (lacked (operands l) h.0), apart ls h.1)

    unheld : ¬ IsHeld t w
    unheld h = elim (kept w h) [ inl e ↦ absurd (let n : ⊥ = cc in n) | inr g ↦ gone g ]

  blank_after : (c : Circuit) → ((w : Wire) → ¬ IsHeld t w → IsBlank c w) → (w : Wire) → ¬ IsHeld after w → IsBlank (c ++ letters_by r i v) w
  blank_after c old w gone = by_bool (gives_up i v w) refl
    where
      by_bool : (b : Bool) → gives_up i v w ≡ b → IsBlank (c ++ letters_by r i v) w
      by_bool true e = given_up_blank r i v c w e
      by_bool false e = IsBlank-append c (letters_by r i v) w (apart w e gone (letters_by r i v) operands_kept) (old w (unheld w e gone))

-- ---- a run
module _ (p : Programs) (ready : IsReady p) (ranges : IsInRange p) where
  abbrev BlankElsewhere : IdealState → Type 0
  BlankElsewhere s = (w : Wire) → ¬ IsHeld s.tables w → IsBlank s.circuit w

  blank_along : (rs : List ℕ) (s : IdealState) → IsWellState p ready ranges s → BlankElsewhere s → IsIdealFrom p s rs → BlankElsewhere (fold (ideal_next p) s rs)
  blank_along [] s well blank run = blank
  blank_along (r ∷ rs) s well blank run =
      let n = next_where_able p s.tables r run.1 in
      let is = next_is p s r n.0 n.1.read in
      let here : BlankElsewhere (state_by r n.0 (view p s.tables r n.0) s) =
      blank_after p ready ranges s.tables well.tables r run.0 n.0 n.1 s.circuit blank in
      blank_along rs (ideal_next p s r) (state_next p ready ranges s r well run.0 run.1) (subst BlankElsewhere (sym is) here) run.2

  pub placeless_blank : (rs : List ℕ) → IsIdealRun p rs → (w : Wire) → ¬ IsHeld (ideal_replay p rs).tables w → IsBlank (ideal_replay p rs).circuit w
  unfolding ideal_replay IsIdealRun
  placeless_blank rs run = blank_along rs (ideal_at_start p) (record { tables = well_start p; proper = tt; named = tt }) (λ w gone. IsBlank-unnamed [] w tt) run
