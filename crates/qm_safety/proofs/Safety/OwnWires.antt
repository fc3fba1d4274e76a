-- Each letter of an event names wires of its rank alone, or makes the two halves of its new pair
use Rattle.std.proofs.Common.{◌≡◌, ℕ, ◌<◌, nat_lt, Bool, true, false, List, [], ◌∷◌, All, Some, None, is_some, drop, length, refl, sym, ap, subst, ◌∙◌, arith}
use Rattle.std.proofs.lemmas.List.Elements.{All-nil, All-cons, All-head, All-tail}
use Rattle.qm_denot.specs.declared.Letter.{Letter}
use Rattle.qm_denot.specs.declared.Letter.TheVariants.{Phase, Flip, Had, Cx, Pair, Keep, Take}
use Rattle.qm_denot.specs.declared.Wire.{Wire}
use Rattle.qm_denot.specs.Wires.{has, put, no_wires}
use Rattle.qm_denot.proofs.Sets.{has-put_same}
use Rattle.qm_instr.specs.declared.Gate.{Gate}
use Rattle.qm_instr.specs.declared.Gate.TheVariants as gate
use Rattle.qm_instr.specs.declared.Instr.{Instr}
use Rattle.qm_instr.specs.declared.Instr.TheVariants as instr
use Rattle.qm_instr.specs.declared.Kind.TheVariants as kind
use Rattle.qm_instr.specs.declared.Lane.{Lane}
use Rattle.qm_instr.specs.declared.OneGate.{OneGate}
use Rattle.qm_instr.specs.declared.OneGate.TheVariants as one
use Rattle.qm_instr.specs.Counts.{events_of}
use Rattle.qm_instr.specs.Lanes.{lane}
use Rattle.qm_instr.specs.Operands.{gate_slots, slots_of}
use Rattle.qm_instr.specs.Programs.{Programs}
use Rattle.qm_check.specs.Operands.{partner_of}
use Rattle.qm_proto.specs.declared.Act.TheVariants.{Twin, Posts, ProtocolUsed}
use Rattle.qm_denot.specs.declared.Parcel.{Parcel}
use Rattle.qm_proto.specs.declared.Row.{Row}
use Rattle.qm_proto.specs.Model.Acts.{list_of, after_act, acts_letters}
use Rattle.qm_proto.specs.Model.Places.{InSlot, NearOf, FarOf, IsOwn}
use Rattle.qm_proto.specs.Model.Rows.{rows, letter, gate_letter, one_letter, few_if}
use Rattle.qm_proto.specs.Model.Runs.{enabled, next_tables, next_letters, row_letters}
use Rattle.qm_proto.specs.Model.Schedules.{replay}
use Rattle.qm_proto.specs.Model.State.{Tables, no_wire, own_next, protocol_next, bit_of, wire_in, far_made, near_made, near_last, wire_of, first_bit, second_bit}
use Rattle.qm_proto.proofs.Changes.{with_at-here}
use Rattle.qm_proto.proofs.TidyActs.{far_made_absent, near_made_absent}
use Rattle.qm_proto.proofs.TidyPlaces.{has_new}
use Rattle.qm_safety.specs.Safety.Legal.{IsLegalRun}
use Rattle.qm_safety.specs.Safety.Operands.{slot_filled}
use Rattle.qm_safety.specs.Safety.Wires.{AreNewHalves, KeepsToOwn, OwnWiresLaw}
use Rattle.qm_safety.specs.Tables.Lines.{row_at, acts_of}
use Rattle.qm_safety.specs.Tables.Well.{keeps_half, middle_of, has_near, one_if, near_of, IsWell}
use Rattle.qm_safety.proofs.Safety.Mayings.{well_here, next_here, next_row}
use Rattle.qm_safety.proofs.Safety.Operands.{has_slots}
use Rattle.qm_proto.proofs.Lines.{EachFrom, at_stage}
use Rattle.qm_safety.proofs.Tables.NextEvents.{IsNext, event_done, next_is}
use Rattle.qm_safety.proofs.Tables.RankSteps.{some_is, standing}

module _ (p : Programs) (schedule : List ℕ) (run : IsLegalRun p schedule) (r : ℕ) (known : r < length p.ranks) where
  abbrev t : Tables
  t = (replay p schedule).tables

  abbrev Own : Letter → Type 0
  Own = KeepsToOwn p t r

  here : IsWell p t
  here = well_here p schedule run r known

  -- ---- lists of one letter, and of none
  one_letter_own : (l : Letter) → Own l → All Own (l ∷ [])
  one_letter_own l h = All-cons Own l [] h (All-nil Own)

  if_own : (b : Bool) (l : Letter) → Own l → All Own (acts_letters r (list_of (few_if b (letter l))) t)
  if_own true l h = one_letter_own l h
  if_own false l h = All-nil Own

  -- ---- wires of the rank
  one_own : (w : Wire) → IsOwn t r w → All (IsOwn t r) (w ∷ [])
  one_own w h = All-cons (IsOwn t r) w [] h (All-nil (IsOwn t r))

  two_own : (w v : Wire) → IsOwn t r w → IsOwn t r v → All (IsOwn t r) (w ∷ v ∷ [])
  two_own w v h k = All-cons (IsOwn t r) w (v ∷ []) h (one_own v k)

  slot_own : (q : ℕ) → is_some (t.slots r q) ≡ true → IsOwn t r (wire_in t r q)
  slot_own q full = (InSlot r q, some_is (t.slots r q) no_wire full, refl)

  -- the wire of the one slot of an instruction that reads it, and the wires of a gate's slots
  read_own : (i : Instr) (q s : ℕ) → IsNext p t r i s → slots_of i ≡ q ∷ [] → slot_filled i ≡ None → IsOwn t r (wire_in t r q)
  read_own i q s next is none =
      let full = (has_slots p schedule run r known).full i next.read none in
      slot_own q (All-head (λ k. is_some (t.slots r k) ≡ true) q [] (subst (λ qs. All (λ k. is_some (t.slots r k) ≡ true) qs) is full))

  one_gate_own : (g : OneGate) (w : Wire) → IsOwn t r w → Own (one_letter g w)
  one_gate_own one.X w h = one_own w h
  one_gate_own one.Z w h = one_own w h
  one_gate_own one.H w h = one_own w h
  one_gate_own one.S w h = one_own w h
  one_gate_own one.Sdg w h = one_own w h
  one_gate_own one.T w h = one_own w h
  one_gate_own one.Tdg w h = one_own w h

  two_slots : (c q : ℕ) → All (λ k. is_some (t.slots r k) ≡ true) (c ∷ q ∷ []) → All (IsOwn t r) (wire_in t r c ∷ wire_in t r q ∷ [])
  two_slots c q full =
      let first = All-head (λ k. is_some (t.slots r k) ≡ true) c (q ∷ []) full in
      let second = All-head (λ k. is_some (t.slots r k) ≡ true) q [] (All-tail (λ k. is_some (t.slots r k) ≡ true) c (q ∷ []) full) in
      two_own (wire_in t r c) (wire_in t r q) (slot_own c first) (slot_own q second)

  gate_own : (g : Gate) → All (λ q. is_some (t.slots r q) ≡ true) (gate_slots g) → Own (gate_letter (wire_in t r) g)
  gate_own (gate.One g q) full = one_gate_own g (wire_in t r q) (slot_own q (All-head (λ k. is_some (t.slots r k) ≡ true) q [] full))
  gate_own (gate.Cx c q) full = two_slots c q full
  gate_own (gate.Cz c q) full = two_slots c q full

  -- the half that rank r took into a slot, its near half, and a far half that it keeps
  taken_own : (i : Instr) (q s : ℕ) → IsNext p t r i s → slot_filled i ≡ Some q → 0 < s → IsOwn t r (wire_of (t.parts r).taken)
  taken_own i q s next fills begun =
      (InSlot r q, (has_slots p schedule run r known).taken i q next.read fills (subst (λ k. 0 < k) (sym next.stage) begun), refl)

  near_own : (i : Instr) (s : ℕ) → IsNext p t r i s → has_near (middle_of i) s ≡ true → IsOwn t r (near_last t r)
  near_own i s next held =
      let near : t.near r ≡ put no_wires (near_last t r) true = (standing p t r i s next (here.ranks r)).near_so ∙ ap (λ b. one_if b (near_last t r)) held in
      (NearOf r, ap (λ ws. has ws (near_last t r)) near ∙ has-put_same no_wires (near_last t r) true, refl)

  far_own : (i : Instr) (s : ℕ) → IsNext p t r i s → keeps_half (Some i) ≡ true → nat_lt 0 s ≡ true → IsOwn t r (wire_of (t.parts r).taken)
  far_own i s next keeps begun = (FarOf r, (here.held r (ap keeps_half next.read ∙ keeps) (ap (nat_lt 0) next.stage ∙ begun)).half, refl)

  -- the near half goes out after an outcome is used
  near_out : (i : Instr) (s : ℕ) (m : Bool) → IsNext p t r i s → has_near (middle_of i) s ≡ true → Own (Take (near_last (after_act r ProtocolUsed t) r) m)
  near_out i s m next held =
      let last : near_last (after_act r ProtocolUsed t) r ≡ near_last t r = ap (near_of r) (with_at-here t.parts r (record (t.parts r) { protocol = drop 1 (t.parts r).protocol })) in
      one_own (near_last (after_act r ProtocolUsed t) r) (subst (IsOwn t r) (sym last) (near_own i s next held))

  -- ---- the halves of a new pair
  module _ (i : Instr) (to : ℕ) (x : Parcel) (a : Lane) (next : IsNext p t r i 0) (is : acts_of (row_at p t r i 0) ≡ Twin to ∷ Posts a x ∷ []) (names : partner_of i ≡ Some to) where
    abbrev after : Tables
    after = event_done (events_of i) r (Twin to ∷ Posts a x ∷ []) t

    after_is : next_tables p t r ≡ after
    after_is = next_is p t r i 0 next ∙ ap (λ acts. event_done (events_of i) r acts t) is

    new_halves : AreNewHalves p t r (near_made t r) (far_made t r)
    new_halves =
        let e = near_made t r in
        let f = far_made t r in
        let near : has (after.near r) e ≡ true = ap (λ ws. has ws e) (with_at-here t.near r (put (t.near r) e true)) ∙ has_new (t.near r) e in
        let far : has (after.far to) f ≡ true = ap (λ ws. has ws f) (with_at-here t.far to (put (t.far to) f true)) ∙ has_new (t.far to) f in
        record {
          near = refl;
          far = refl;
          near_new = near_made_absent t here.tidy r;
          far_new = far_made_absent t here.tidy r;
          instruction = i;
          here = next.read;
          to = to;
          named = names;
          near_there = subst (λ (u : Tables). has (u.near r) e ≡ true) (sym after_is) near;
          far_there = subst (λ (u : Tables). has (u.far to) f ≡ true) (sym after_is) far;
        }

    pair_own : All Own (Pair (near_made t r) (far_made t r) ∷ [])
    pair_own = one_letter_own (Pair (near_made t r) (far_made t r)) new_halves

  -- ---- the table
  record LettersOwn (i : Instr) (s : ℕ) (w : Row) : Type 0 where
    own : IsNext p t r i s → All Own (acts_letters r (list_of w.acts) t)

  silent : {i : Instr} {s : ℕ} {w : Row} → acts_letters r (list_of w.acts) t ≡ [] → LettersOwn i s w
  silent e = record { own = λ _. subst (All Own) (sym e) (All-nil Own) }

  says : {i : Instr} {s : ℕ} {w : Row} (l : Letter) → acts_letters r (list_of w.acts) t ≡ l ∷ [] → (IsNext p t r i s → Own l) → LettersOwn i s w
  says l e h = record { own = λ next. subst (All Own) (sym e) (one_letter_own l (h next)) }

  -- a letter that is done or not
  may_say : {i : Instr} {s : ℕ} {w : Row} (b : Bool) (l : Letter) → list_of w.acts ≡ list_of (few_if b (letter l)) → (IsNext p t r i s → Own l) → LettersOwn i s w
  may_say b l e h = record { own = λ next. subst (λ acts. All Own (acts_letters r acts t)) (sym e) (if_own b l (h next)) }

  pairs : (i : Instr) (w : Row) (to : ℕ) (x : Parcel) (a : Lane) → list_of w.acts ≡ Twin to ∷ Posts a x ∷ [] → acts_of (row_at p t r i 0) ≡ Twin to ∷ Posts a x ∷ []
      → partner_of i ≡ Some to → LettersOwn i 0 w
  pairs i w to x a e is names = record { own = λ next. subst (λ acts. All Own (acts_letters r acts t)) (sym e) (pair_own i to x a next is names) }

  table : (i : Instr) → EachFrom (LettersOwn i) 0 (rows p t r i)
  table (instr.Alloc q) = (silent refl, tt)
  table (instr.Do g) = (says (gate_letter (wire_in t r) g) refl (λ next. gate_own g ((has_slots p schedule run r known).full (instr.Do g) next.read refl)), tt)
  table (instr.Free q) = (says (Take (wire_in t r q) false) refl (λ next. one_own (wire_in t r q) (read_own (instr.Free q) q 0 next refl refl)), tt)
  table (instr.Measure q b) = (
    says (Keep (wire_in t r q) (own_next t r)) refl (λ next. one_own (wire_in t r q) (read_own (instr.Measure q b) q 0 next refl refl)),
    tt,
  )
  table (instr.Set b v) = (silent refl, tt)
  table (instr.Xor b c) = (silent refl, tt)
  table (instr.When b g) = (
    may_say (bit_of t r b) (gate_letter (wire_in t r) g) refl (λ next. gate_own g ((has_slots p schedule run r known).full (instr.When b g) next.read refl)),
    tt,
  )
  table (instr.SendBit b to tag) = (silent refl, tt)
  table (instr.RecvBit b from tag) = (silent refl, tt)
  table (instr.CopyTo q to tag) =
      let i = instr.CopyTo q to tag in
      let w = wire_in t r q in (
        pairs i _ to _ (lane r to kind.Copy tag) refl refl refl,
        (
          says (Cx w (near_last t r)) refl (λ next. two_own w (near_last t r) (read_own i q 1 next refl refl) (near_own i 1 next refl)),
          (says (Take (near_last (after_act r ProtocolUsed t) r) (protocol_next t r)) refl (λ next. near_out i 2 (protocol_next t r) next refl), tt),
        ),
      )
  table (instr.CopyFrom q from tag) =
      let i = instr.CopyFrom q from tag in
      let x = (t.parts r).taken in (
        silent refl,
        (may_say (first_bit x) (Flip (wire_of x)) refl (λ next. one_own (wire_of x) (taken_own i q 1 next refl (omega arith))), tt),
      )
  table (instr.UndoTo q to tag) =
      let i = instr.UndoTo q to tag in
      let w = wire_in t r q in (
        says (Had w) refl (λ next. one_own w (read_own i q 0 next refl refl)),
        (says (Take w (protocol_next t r)) refl (λ next. one_own w (read_own i q 1 next refl refl)), tt),
      )
  table (instr.UndoFrom q from tag) =
      let i = instr.UndoFrom q from tag in
      let w = wire_in t r q in
      (silent refl, (may_say (first_bit (t.parts r).taken) (Phase 4 w) refl (λ next. one_own w (read_own i q 1 next refl refl)), tt))
  table (instr.MoveTo q to tag) =
      let i = instr.MoveTo q to tag in
      let w = wire_in t r q in (
        pairs i _ to _ (lane r to kind.Move tag) refl refl refl,
        (
          says (Cx w (near_last t r)) refl (λ next. two_own w (near_last t r) (read_own i q 1 next refl refl) (near_own i 1 next refl)),
          (
            says (Had w) refl (λ next. one_own w (read_own i q 2 next refl refl)),
            (
              says (Take (near_last (after_act r ProtocolUsed t) r) (protocol_next t r)) refl (λ next. near_out i 3 (protocol_next t r) next refl),
              (says (Take w (protocol_next t r)) refl (λ next. one_own w (read_own i q 4 next refl refl)), tt),
            ),
          ),
        ),
      )
  table (instr.MoveFrom q from tag) =
      let i = instr.MoveFrom q from tag in
      let x = (t.parts r).taken in (
        silent refl,
        (
          may_say (first_bit x) (Flip (wire_of x)) refl (λ next. one_own (wire_of x) (taken_own i q 1 next refl (omega arith))),
          (may_say (second_bit x) (Phase 4 (wire_of x)) refl (λ next. one_own (wire_of x) (taken_own i q 2 next refl (omega arith))), tt),
        ),
      )
  table (instr.ReachTo q to tag) =
      let i = instr.ReachTo q to tag in
      let w = wire_in t r q in (
        pairs i _ to _ (lane r to kind.Reach tag) refl refl refl,
        (
          says (Cx w (near_last t r)) refl (λ next. two_own w (near_last t r) (read_own i q 1 next refl refl) (near_own i 1 next refl)),
          (
            says (Take (near_last (after_act r ProtocolUsed t) r) (protocol_next t r)) refl (λ next. near_out i 2 (protocol_next t r) next refl),
            (silent refl, (may_say (first_bit (t.parts r).taken) (Phase 4 w) refl (λ next. one_own w (read_own i q 4 next refl refl)), tt)),
          ),
        ),
      )
  table (instr.ReachFrom q from tag) =
      let i = instr.ReachFrom q from tag in
      let f = wire_of (t.parts r).taken in (
        silent refl,
        (
          may_say (first_bit (t.parts r).taken) (Flip f) refl (λ next. one_own f (far_own i 1 next refl refl)),
          (
            says (Cx f (wire_in t r q)) refl (λ next. two_own f (wire_in t r q) (far_own i 2 next refl refl) (read_own i q 2 next refl refl)),
            (
              says (Had f) refl (λ next. one_own f (far_own i 3 next refl refl)),
              (says (Take f (protocol_next t r)) refl (λ next. one_own f (far_own i 4 next refl refl)), tt),
            ),
          ),
        ),
      )

  pub letters_own : enabled p t r ≡ true → All Own (next_letters p t r)
  letters_own able =
      let n = next_here p schedule run r known able in
      subst (λ o. All Own (row_letters r o t)) (sym (next_row p schedule run r known able))
      ((at_stage (LettersOwn n.i) (rows p t r n.i) n.s n.w (table n.i) n.line).own n.next)

pub own_wires_law : OwnWiresLaw
own_wires_law p schedule run r known able = letters_own p schedule run r known able
