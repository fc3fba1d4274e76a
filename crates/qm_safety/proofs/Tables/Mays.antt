-- Each event that is next may be done: what its tests and its acts need is there
use Rattle.std.proofs.Common.{◌≡◌, ◌≢◌, ℕ, ◌+◌, ◌<◌, ◌≤◌, ◌^◌, nat_eq, nat_lt, Bool, true, false, List, [], ◌∷◌, length, drop, take, cond, slice_get, Option, Some, None, is_some, refl, sym, ap, ap₂, subst, ◌∙◌, arith}
use Rattle.std.proofs.lemmas.Bool.{and_parts, eqb-true, ltb-true}
use Rattle.std.proofs.lemmas.List.Elements.{All-get_or, All-head}
use Rattle.std.proofs.lemmas.List.Sums.{sum_by-take-le}
use Rattle.std.proofs.lemmas.Option.{get_or_from_slice_get, slice_get_within}
use Rattle.qm_denot.specs.declared.Letter.{Letter}
use Rattle.qm_denot.specs.declared.Letter.TheVariants.{Phase, Flip}
use Rattle.qm_denot.specs.declared.Wire.{Wire}
use Rattle.qm_denot.specs.Wires.{has, put, no_wires}
use Rattle.qm_denot.proofs.Sets.{has-put_same}
use Rattle.qm_denot.specs.Parcels.{IsFillable}
use Rattle.qm_instr.specs.declared.Gate.{Gate}
use Rattle.qm_instr.specs.declared.Gate.TheVariants as gate
use Rattle.qm_instr.specs.declared.Instr.{Instr}
use Rattle.qm_instr.specs.declared.Instr.TheVariants as instr
use Rattle.qm_instr.specs.declared.Kind.{Kind}
use Rattle.qm_instr.specs.declared.Kind.TheVariants as kind
use Rattle.qm_instr.specs.declared.Lane.{Lane}
use Rattle.qm_instr.specs.declared.OneGate.{OneGate}
use Rattle.qm_instr.specs.declared.OneGate.TheVariants as one
use Rattle.qm_instr.specs.Counts.{protocol_of, own_of}
use Rattle.qm_instr.specs.Lanes.{lane, lane_sent, is_on}
use Rattle.qm_instr.specs.Operands.{HasOperands}
use Rattle.qm_instr.specs.Programs.{Programs, rank_of, IsInRange}
use Rattle.qm_instr.proofs.Ranges.{rank_of-in_range}
use Rattle.qm_instr.proofs.LaneOrder.{same_lane, lane_itself}
use Rattle.qm_check.specs.Checks.{IsReady}
use Rattle.qm_check.specs.Messages.{posts_on, lane_sends, posts_in}
use Rattle.qm_check.specs.Operands.{gate_uses, partner_of}
use Rattle.qm_check.specs.Slots.{full_after}
use Rattle.qm_check.proofs.Faultless.{IsStep, FindsSlots, before, posts-take-le, step_of}
use Rattle.qm_proto.specs.Model.State.{Tables, with_part, no_wire, bit_of, wire_in, far_made, near_last, front, wire_of, first_bit, second_bit}
use Rattle.qm_proto.specs.declared.Act.{Act}
use Rattle.qm_proto.specs.declared.Check.{Check}
use Rattle.qm_proto.specs.declared.Few.{Few}
use Rattle.qm_proto.specs.declared.Row.{Row}
use Rattle.qm_proto.specs.declared.Rule.TheVariants.{PairRoom}
use Rattle.qm_proto.specs.Model.Acts.{after_act, list_of}
use Rattle.qm_proto.specs.declared.Act.TheVariants.{Fresh, Twin, Posts, Receives, Settle}
use Rattle.qm_proto.specs.Model.Rows.{instr_at, current, rows, half_parcel, letter, gate_letter, one_letter, letter_checks, few_if, source_wire, wire_offered}
use Rattle.qm_proto.specs.Model.Runs.{holds, receives_on}
use Rattle.qm_proto.specs.Model.Places.{Place, InSlot, NearOf, FarOf, IsPlaced, rank_at, IsOwn}
use Rattle.qm_proto.specs.May.{Limits, AreTwo, AreOwnTwo, MayLetter, MayFresh, MayTwin, MaySlotOut, MayHalfOut, AllMay, AllMayCheck}
use Rattle.qm_proto.specs.Model.Tidy.{IsTidy, IsInHand}
use Rattle.qm_proto.proofs.Changes.{with_at-here}
use Rattle.qm_proto.proofs.TidyActs.{only_at, far_made_absent, near_made_absent, settle_may, tidy_part, tidy_done, received_in_hand}
use Rattle.qm_safety.proofs.Tables.NextEvents.{IsNext}
use Rattle.qm_safety.proofs.Tables.FarSteps.{front_wire, room_before_pair}
use Rattle.qm_safety.proofs.Tables.LaneSteps.{own_lane}
use Rattle.qm_proto.proofs.Lines.{EachFrom, at_stage}
use Rattle.qm_safety.proofs.Tables.RankSteps.{full_before, none_is, some_is, standing, standing_at}
use Rattle.qm_safety.proofs.Tables.Standing.{step_here}
use Rattle.qm_safety.specs.Tables.Well.{middle_of, has_posted, is_open, is_half, keeps_half, outcomes_in, Stands, near_of, IsWell}

-- room for what any event of rank r makes, but for its wires
pub record HasRoom (p : Programs) (t : Tables) (r : ℕ) (s : Limits) : Type 0 where
  pub ranks : length p.ranks ≤ s.ranks
  pub parcels : (a : Lane) → lane_sends p a ≤ s.parcels a
  pub letters : 1 ≤ s.letters
  pub countable : (t.parts r).made + 1 < 2 ^ 32

-- how many wires the acts of a line make
abbrev pub asks : List Act → ℕ
asks (Fresh q ∷ []) = 1
asks (Twin to ∷ Posts a x ∷ []) = 2
asks _ = 0

-- ---- letters
one_may : (r : ℕ) (g : OneGate) (w : Wire) (t : Tables) → IsOwn t r w → MayLetter r (one_letter g w) t
one_may r one.X w t h = h
one_may r one.Z w t h = (omega arith, h)
one_may r one.H w t h = h
one_may r one.S w t h = (omega arith, h)
one_may r one.Sdg w t h = (omega arith, h)
one_may r one.T w t h = (omega arith, h)
one_may r one.Tdg w t h = (omega arith, h)

one_checks : (g : OneGate) (w : Wire) (t : Tables) → IsPlaced t w → AllMayCheck t (list_of (letter_checks (one_letter g w)))
one_checks one.H w t h = (h, tt)
one_checks one.X w t h = tt
one_checks _ w t h = tt

-- a letter that is done or not, and its tests
letter_may : (s : Limits) (r : ℕ) (b : Bool) (l : Letter) (t : Tables) → MayLetter r l t → 1 ≤ s.letters → AllMay s r (list_of (few_if b (letter l))) t
letter_may s r true l t may room = ((may, room), tt)
letter_may s r false l t may room = tt

checks_may : (b : Bool) (ks : Few Check) (t : Tables) → AllMayCheck t (list_of ks) → AllMayCheck t (list_of (few_if b ks))
checks_may true ks t h = h
checks_may false ks t h = tt

-- the slot's number of a place
abbrev slot_number : Place → ℕ
slot_number (InSlot r q) = q
slot_number _ = 0

-- a receive of an undo lane
receives_undo : (d r tag : ℕ) (o : Option Instr) → receives_on d o (lane r d kind.Undo tag) ≡ true → (q : ℕ) × (o ≡ Some (instr.UndoFrom q r tag))
receives_undo d r tag (Some (instr.UndoFrom q from g)) e =
    let same = same_lane (lane from d kind.Undo g) (lane r d kind.Undo tag) e in
    (q, ap₂ (λ f h. Some (instr.UndoFrom q f h)) (ap (λ (c : Lane). c.from) same) (ap (λ (c : Lane). c.tag) same))
receives_undo d r tag (Some (instr.RecvBit b from g)) e =
    let z : kind.Bit ≡ kind.Undo = ap (λ (c : Lane). c.kind) (same_lane (lane from d kind.Bit g) (lane r d kind.Undo tag) e) in cc
receives_undo d r tag (Some (instr.CopyFrom b from g)) e =
    let z : kind.Copy ≡ kind.Undo = ap (λ (c : Lane). c.kind) (same_lane (lane from d kind.Copy g) (lane r d kind.Undo tag) e) in cc
receives_undo d r tag (Some (instr.MoveFrom b from g)) e =
    let z : kind.Move ≡ kind.Undo = ap (λ (c : Lane). c.kind) (same_lane (lane from d kind.Move g) (lane r d kind.Undo tag) e) in cc
receives_undo d r tag (Some (instr.ReachFrom b from g)) e =
    let z : kind.Reach ≡ kind.Undo = ap (λ (c : Lane). c.kind) (same_lane (lane from d kind.Reach g) (lane r d kind.Undo tag) e) in cc
receives_undo d r tag _ e = cc

-- bits that are there
no_none : {A : Type 0} (o : Option A) → is_some o ≡ true → o ≢ None
no_none {A = A} o some none = let n : is_some o ≡ false = ap (λ (x : Option A). is_some x) none in cc

module _ (p : Programs) (t : Tables) (r : ℕ) (ready : IsReady p) (ranges : IsInRange p) (well : IsWell p t) (known : r < length p.ranks) (s : Limits) (room : HasRoom p t r s) where
  -- rank r before its event, and its instruction
  here : (i : Instr) (k : ℕ) → IsNext p t r i k → Stands r (rank_of p r) (middle_of i) (t.parts r).at k (t.parts r) (t.slots r) (t.near r)
  here i k next = standing p t r i k next (well.ranks r)

  step : (i : Instr) → instr_at p r (t.parts r).at ≡ Some i → IsStep p r (t.parts r).at i
  step = step_here p t r ready ranges well known

  operands : (i : Instr) → instr_at p r (t.parts r).at ≡ Some i → HasOperands (rank_of p r).qubits i
  operands i read =
      let is = (rank_of p r).instructions in
      let k = (t.parts r).at in
      subst (HasOperands (rank_of p r).qubits) (get_or_from_slice_get is k i i read)
      (All-get_or (HasOperands (rank_of p r).qubits) is k i (slice_get_within is k i read) (rank_of-in_range p r known ranges).operands)

  -- ---- wires that are there
  full_placed : (q : ℕ) → is_some (t.slots r q) ≡ true → IsPlaced t (wire_in t r q)
  full_placed q full = (InSlot r q, some_is (t.slots r q) no_wire full)

  full_own : (q : ℕ) → is_some (t.slots r q) ≡ true → IsOwn t r (wire_in t r q)
  full_own q full = (InSlot r q, some_is (t.slots r q) no_wire full, refl)

  -- the wire of a full slot is another one than that of another slot
  slots_apart : (c q : ℕ) → c ≢ q → is_some (t.slots r c) ≡ true → is_some (t.slots r q) ≡ true → AreOwnTwo t r (wire_in t r c) (wire_in t r q)
  slots_apart c q other first second =
      record {
        first = full_own c first;
        second = full_own q second;
        differ = λ same.
            let at_q : t.slots r q ≡ Some (wire_in t r c) = some_is (t.slots r q) no_wire second ∙ ap (λ (w : Wire). Some w) (sym same) in
            other (ap slot_number (well.tidy.one_place (wire_in t r c) (InSlot r c) (InSlot r q) (some_is (t.slots r c) no_wire first) at_q));
      }

  -- and than a near half, or a far one
  near_here : t.near r ≡ put no_wires (near_of r (t.parts r)) true → has (t.near r) (near_last t r) ≡ true
  near_here e = ap (λ ws. has ws (near_last t r)) e ∙ has-put_same no_wires (near_last t r) true

  near_apart : (q : ℕ) → is_some (t.slots r q) ≡ true → t.near r ≡ put no_wires (near_of r (t.parts r)) true → AreOwnTwo t r (wire_in t r q) (near_last t r)
  near_apart q full e =
      let near = near_here e in
      let w = wire_in t r q in
      record {
        first = full_own q full;
        second = (NearOf r, near, refl);
        differ = λ same.
            let k : InSlot r q ≡ NearOf r = well.tidy.one_place w (InSlot r q) (NearOf r) (some_is (t.slots r q) no_wire full) (subst (λ v. has (t.near r) v ≡ true) (sym same) near) in cc;
      }

  far_apart : (f : Wire) (q : ℕ) → has (t.far r) f ≡ true → is_some (t.slots r q) ≡ true → AreOwnTwo t r f (wire_in t r q)
  far_apart f q far full =
      record {
        first = (FarOf r, far, refl);
        second = full_own q full;
        differ = λ same.
            let k : InSlot r q ≡ FarOf r = well.tidy.one_place (wire_in t r q) (InSlot r q) (FarOf r) (some_is (t.slots r q) no_wire full) (subst (λ v. has (t.far r) v ≡ true) same far) in cc;
      }

  hand : (i : Instr) (k : ℕ) → IsNext p t r i k → keeps_half (Some i) ≡ true → nat_lt 0 k ≡ true → IsInHand t r (wire_of (t.parts r).taken)
  hand i k next keeps begun = well.held r (ap keeps_half next.read ∙ keeps) (ap (nat_lt 0) next.stage ∙ begun)

  -- ---- gates
  gate_may : (g : Gate) → ((q : ℕ) → is_some (t.slots r q) ≡ full_after (before p r (t.parts r).at) q) → FindsSlots (full_after (before p r (t.parts r).at)) (gate_uses g)
      → MayLetter r (gate_letter (wire_in t r) g) t × AllMayCheck t (list_of (letter_checks (gate_letter (wire_in t r) g)))
  gate_may (gate.One g q) full slots =
      let own = full_own q (full q ∙ slots) in
      (one_may r g (wire_in t r q) t own, one_checks g (wire_in t r q) t (own.0, own.1))
  gate_may (gate.Cx c q) full slots = (slots_apart c q slots.0 (full c ∙ slots.1) (full q ∙ slots.2), tt)
  gate_may (gate.Cz c q) full slots = (slots_apart c q slots.0 (full c ∙ slots.1) (full q ∙ slots.2), tt)

  -- ---- tapes
  outcome : (i : Instr) (k : ℕ) → IsNext p t r i k → nat_lt (outcomes_in (middle_of i) k) (protocol_of i) ≡ true → 0 < length (t.parts r).protocol
  outcome i k next left =
      let at = step i next.read in
      let more : outcomes_in (middle_of i) k < protocol_of i = ltb-true (outcomes_in (middle_of i) k) (protocol_of i) left in
      omega (arith, (here i k next).protocol, at.protocol, at.protocol_few)

  own_outcome : (i : Instr) (k : ℕ) → IsNext p t r i k → own_of i ≡ 1 → 0 < length (t.parts r).own
  own_outcome i k next one =
      let at = step i next.read in
      omega (arith, (here i k next).own, at.own, sum_by-take-le own_of (rank_of p r).instructions ((t.parts r).at + 1))

  -- the tables after an outcome is used
  abbrev used : Tables
  used = with_part t r (record (t.parts r) { protocol = drop 1 (t.parts r).protocol })

  tidy_used : IsTidy used
  tidy_used = tidy_part t r (record (t.parts r) { protocol = drop 1 (t.parts r).protocol }) well.tidy refl

  -- ---- wires that go out after it
  slot_out : (q : ℕ) → q < 16 → is_some (t.slots r q) ≡ true → MaySlotOut s r q used
  slot_out q few full =
      record {
        slot = few;
        wire = wire_in t r q;
        only = only_at used (wire_in t r q) (InSlot r q) tidy_used (some_is (t.slots r q) no_wire full);
        letter = room.letters;
      }

  near_out : t.near r ≡ put no_wires (near_of r (t.parts r)) true → MayHalfOut s (near_last used r) (NearOf r) used
  near_out e =
      let last : near_last used r ≡ near_last t r = ap (near_of r) (with_at-here t.parts r (record (t.parts r) { protocol = drop 1 (t.parts r).protocol })) in
      record {
        only = only_at used (near_last used r) (NearOf r) tidy_used (subst (λ v. has (t.near r) v ≡ true) (sym last) (near_here e));
        letter = room.letters;
      }

  far_out : (f : Wire) → has (t.far r) f ≡ true → MayHalfOut s f (FarOf r) used
  far_out f far = record { only = only_at used f (FarOf r) tidy_used far; letter = room.letters }

  -- ---- lanes
  post_room : (i : Instr) (k : ℕ) → IsNext p t r i k → (to : ℕ) (d : Kind) (tag : ℕ) → has_posted (middle_of i) k ≡ false → posts_on r i (lane r to d tag) ≡ true
      → length (t.lanes (lane r to d tag)) < s.parcels (lane r to d tag)
  post_room i k next to d tag not_yet posts =
      let a = lane r to d tag in
      let n = (t.parts r).at in
      let is = (rank_of p r).instructions in
      let at = step i next.read in
      let few : length (t.lanes a) ≤ posts_in r a (take n is) =
      subst (λ c. length (t.lanes a) ≤ posts_in r a (take (cond c (n + 1) n) is)) not_yet (own_lane p t r well.lanes step i k next to d tag).few in
      let more : posts_in r a (take (n + 1) is) ≡ posts_in r a (take n is) + cond (posts_on r i a) 1 0 = at.posts a in
      let one : cond (posts_on r i a) 1 0 ≡ (let j : ℕ = 1 in j) = ap (λ (c : Bool). let j : ℕ = cond c 1 0 in j) posts in
      omega (arith, posts-take-le r a is (n + 1), room.parcels a)

  fillable : (i : Instr) (k : ℕ) → IsNext p t r i k → (to : ℕ) (d : Kind) (tag : ℕ) → is_open (middle_of i) k ≡ true → lane_sent r i ≡ Some (lane r to d tag)
      → IsFillable (t.lanes (lane r to d tag))
  fillable i k next to d tag opens sends =
      let a = lane r to d tag in
      (own_lane p t r well.lanes step i k next to d tag).fillable opens (ap (λ o. is_on o a) sends ∙ lane_itself a)

  -- ---- the shapes of more than one line
  pair_may : (i : Instr) → IsNext p t r i 0 → (to : ℕ) (d : Kind) (tag : ℕ) → partner_of i ≡ Some to → is_half d ≡ true → holds p t (PairRoom (lane r to d tag)) ≡ true
      → has_posted (middle_of i) 0 ≡ false → posts_on r i (lane r to d tag) ≡ true → 2 ≤ s.wires
      → AllMay s r (Twin to ∷ Posts (lane r to d tag) (half_parcel (far_made t r)) ∷ []) t
  pair_may i next to d tag names carries free not_yet posts wires =
      let a = lane r to d tag in
      let partner = (step i next.read).partner to names in
      let there : to < length p.ranks = partner.known in
      let buffer = (rank_of-in_range p to there ranges).most_buffer in
      let twin : MayTwin s r to t = record {
        known = omega (arith, there, room.ranks);
        alone = (here i 0 next).near_so;
        few = omega (arith, room_before_pair p t a carries (well.far to) (well.ranks to) (well.counted to) free, buffer);
        near_absent = near_made_absent t well.tidy r;
        far_absent = far_made_absent t well.tidy r;
        room = wires;
        countable = room.countable;
        letter = room.letters;
      } in
      (twin, (post_room i 0 next to d tag not_yet posts, tt))

  settles_may : (a : Lane) (q : ℕ) → a.to ≡ r → is_half a.kind ≡ true → is_some (front t a).bits ≡ true → is_some (t.slots r q) ≡ false → q < 16
      → AllMay s r (Receives a ∷ Settle (wire_of (front t a)) q ∷ []) t
  settles_may a q to carries bits empty few =
      let f = wire_of (front t a) in
      let wire : (front t a).wire ≡ Some f = front_wire (t.lanes a) ((well.lanes a).wired carries) bits in
      let u = after_act r (Receives a) t in
      let hand : IsInHand u r f = subst (λ k. IsInHand (after_act k (Receives a) t) k f) to (received_in_hand t a f well.tidy wire) in
      (no_none (front t a).bits bits, (settle_may u r f q (tidy_done r (Receives a) t well.tidy tt) hand (none_is (t.slots r q) empty) few, tt))

  -- the source's slot of a copy that may be given back
  undo_may : (q to tag : ℕ) → IsNext p t r (instr.UndoTo q to tag) 0 → is_some (t.slots r q) ≡ true → AreTwo t (wire_in t r q) (source_wire p t to)
  undo_may q to tag next full =
      let i = instr.UndoTo q to tag in
      let a = lane r to kind.Undo tag in
      let partner = (step i next.read).partner to refl in
      let o = current p t to in
      let one = and_parts (nat_eq (t.parts to).stage 0) _ next.holds in
      let two = and_parts (receives_on to o a) (nat_eq (length (t.lanes a)) 0) one.1 in
      let source = receives_undo to r tag o two.0 in
      let j = source.0 in
      let stands = standing_at p t to (instr.UndoFrom j r tag) 0 source.1 (eqb-true (t.parts to).stage 0 one.0) (well.ranks to) in
      let there : is_some (t.slots to j) ≡ true = stands.full j ∙ (step_of p to (t.parts to).at (instr.UndoFrom j r tag) ready ranges partner.known source.1).slots in
      let v = wire_in t to j in
      let two_wires : AreTwo t (wire_in t r q) v = record {
        first = full_placed q full;
        second = (InSlot to j, some_is (t.slots to j) no_wire there);
        differ = λ same.
            let at_source : t.slots to j ≡ Some (wire_in t r q) = some_is (t.slots to j) no_wire there ∙ ap (λ (w : Wire). Some w) (sym same) in
            partner.other (sym (ap rank_at (well.tidy.one_place (wire_in t r q) (InSlot r q) (InSlot to j) (some_is (t.slots r q) no_wire full) at_source)));
      } in
      subst (AreTwo t (wire_in t r q)) (sym (ap (wire_offered (wire_in t to)) source.1)) two_wires

  -- ---- the table
  pub record MayLine (i : Instr) (k : ℕ) (w : Row) : Type 0 where
    pub may : IsNext p t r i k → asks (list_of w.acts) ≤ s.wires → AllMay s r (list_of w.acts) t × AllMayCheck t (list_of w.checks)

  -- a slot of an instruction that needs it full, where its events don't fill it
  full_at : (i : Instr) (k q : ℕ) → IsNext p t r i k → (middle_of i).settles ≡ None → full_after (before p r (t.parts r).at) q ≡ true → is_some (t.slots r q) ≡ true
  full_at i k q next none full = full_before p t r i next.read none (well.ranks r) q ∙ full

  table : (i : Instr) → EachFrom (MayLine i) 0 (rows p t r i)
  table (instr.Alloc q) =
      let i = instr.Alloc q in (
        record {
          may = λ next wires.
              let at = step i next.read in
              let fresh : MayFresh s r q t = record {
                slot = at.few;
                empty = none_is (t.slots r q) ((here i 0 next).full q ∙ at.slots);
                absent = far_made_absent t well.tidy r;
                room = wires;
                countable = room.countable;
              } in
              ((fresh, tt), tt);
        },
        tt,
      )
  table (instr.Free q) =
      let i = instr.Free q in (
        record {
          may = λ next wires.
              let at = step i next.read in
              let full = full_at i 0 q next refl at.slots in
              let out : MaySlotOut s r q t = record {
                slot = at.few;
                wire = wire_in t r q;
                only = only_at t (wire_in t r q) (InSlot r q) well.tidy (some_is (t.slots r q) no_wire full);
                letter = room.letters;
              } in
              ((out, tt), (full_placed q full, tt));
        },
        tt,
      )
  table (instr.Do g) =
      let i = instr.Do g in
      (record { may = λ next wires. let h = gate_may g (here i 0 next).full (step i next.read).slots in (((h.0, room.letters), tt), h.1) }, tt)
  table (instr.When b g) =
      let i = instr.When b g in
      let l = gate_letter (wire_in t r) g in (
        record {
          may = λ next wires.
              let h = gate_may g (here i 0 next).full (step i next.read).slots in
              (letter_may s r (bit_of t r b) l t h.0 room.letters, checks_may (bit_of t r b) (letter_checks l) t h.1);
        },
        tt,
      )
  table (instr.Measure q b) =
      let i = instr.Measure q b in (
        record {
          may = λ next wires.
              let full = full_at i 0 q next refl (step i next.read).slots in (
                (own_outcome i 0 next refl, (((InSlot r q, some_is (t.slots r q) no_wire full, refl), room.letters), (All-head (λ c. c < 32) b [] (operands i next.read).bits, tt))),
                (full_placed q full, tt),
              );
        },
        tt,
      )
  table (instr.Set b v) = (record { may = λ next wires. ((All-head (λ c. c < 32) b [] (operands (instr.Set b v) next.read).bits, tt), tt) }, tt)
  table (instr.Xor b c) = (record { may = λ next wires. ((All-head (λ c. c < 32) b (c ∷ []) (operands (instr.Xor b c) next.read).bits, tt), tt) }, tt)
  table (instr.SendBit b to tag) = (record { may = λ next wires. ((post_room (instr.SendBit b to tag) 0 next to kind.Bit tag refl (lane_itself (lane r to kind.Bit tag)), tt), tt) }, tt)
  table (instr.RecvBit b from tag) =
      let a = lane from r kind.Bit tag in (
        record {
          may = λ next wires.
              ((no_none (front t a).bits next.holds, (All-head (λ c. c < 32) b [] (operands (instr.RecvBit b from tag) next.read).bits, tt)), tt);
        },
        tt,
      )
  table (instr.CopyTo q to tag) =
      let i = instr.CopyTo q to tag in (
        record { may = λ next wires. (pair_may i next to kind.Copy tag refl refl next.holds refl (lane_itself (lane r to kind.Copy tag)) wires, tt) },
        (
          record { may = λ next wires. (((near_apart q (full_at i 1 q next refl (step i next.read).slots) (here i 1 next).near_so, room.letters), tt), tt) },
          (record { may = λ next wires. ((outcome i 2 next refl, (near_out (here i 2 next).near_so, (fillable i 2 next to kind.Copy tag refl refl, tt))), tt) }, tt),
        ),
      )
  table (instr.CopyFrom q from tag) =
      let i = instr.CopyFrom q from tag in
      let x = (t.parts r).taken in (
        record {
          may = λ next wires.
              let at = step i next.read in
              (settles_may (lane from r kind.Copy tag) q refl refl next.holds ((here i 0 next).full q ∙ at.slots) at.few, tt);
        },
        (record { may = λ next wires. (letter_may s r (first_bit x) (Flip (wire_of x)) t (InSlot r q, (here i 1 next).in_hand q refl refl, refl) room.letters, tt) }, tt),
      )
  table (instr.UndoTo q to tag) =
      let i = instr.UndoTo q to tag in (
        record {
          may = λ next wires.
              let full = full_at i 0 q next refl (step i next.read).slots in
              (((full_own q full, room.letters), tt), (undo_may q to tag next full, (full_placed q full, tt)));
        },
        (
          record {
            may = λ next wires.
                let at = step i next.read in
                ((outcome i 1 next refl, (slot_out q at.few (full_at i 1 q next refl at.slots), (post_room i 1 next to kind.Undo tag refl (lane_itself (lane r to kind.Undo tag)), tt))), tt);
          },
          tt,
        ),
      )
  table (instr.UndoFrom q from tag) =
      let i = instr.UndoFrom q from tag in (
        record { may = λ next wires. ((no_none (front t (lane from r kind.Undo tag)).bits next.holds, tt), tt) },
        (
          record {
            may = λ next wires.
                (letter_may s r (first_bit (t.parts r).taken) (Phase 4 (wire_in t r q)) t (omega arith, full_own q (full_at i 1 q next refl (step i next.read).slots)) room.letters, tt);
          },
          tt,
        ),
      )
  table (instr.MoveTo q to tag) =
      let i = instr.MoveTo q to tag in (
        record { may = λ next wires. (pair_may i next to kind.Move tag refl refl next.holds refl (lane_itself (lane r to kind.Move tag)) wires, tt) },
        (
          record { may = λ next wires. (((near_apart q (full_at i 1 q next refl (step i next.read).slots) (here i 1 next).near_so, room.letters), tt), tt) },
          (
            record { may = λ next wires. let own = full_own q (full_at i 2 q next refl (step i next.read).slots) in (((own, room.letters), tt), ((own.0, own.1), tt)) },
            (
              record { may = λ next wires. ((outcome i 3 next refl, (near_out (here i 3 next).near_so, (tt, tt))), tt) },
              (
                record {
                  may = λ next wires.
                      let at = step i next.read in
                      ((outcome i 4 next refl, (slot_out q at.few (full_at i 4 q next refl at.slots), (fillable i 4 next to kind.Move tag refl refl, tt))), tt);
                },
                tt,
              ),
            ),
          ),
        ),
      )
  table (instr.MoveFrom q from tag) =
      let i = instr.MoveFrom q from tag in
      let x = (t.parts r).taken in (
        record {
          may = λ next wires.
              let at = step i next.read in
              (settles_may (lane from r kind.Move tag) q refl refl next.holds ((here i 0 next).full q ∙ at.slots) at.few, tt);
        },
        (
          record { may = λ next wires. (letter_may s r (first_bit x) (Flip (wire_of x)) t (InSlot r q, (here i 1 next).in_hand q refl refl, refl) room.letters, tt) },
          (record { may = λ next wires. (letter_may s r (second_bit x) (Phase 4 (wire_of x)) t (omega arith, (InSlot r q, (here i 2 next).in_hand q refl refl, refl)) room.letters, tt) }, tt),
        ),
      )
  table (instr.ReachTo q to tag) =
      let i = instr.ReachTo q to tag in (
        record { may = λ next wires. (pair_may i next to kind.Reach tag refl refl next.holds refl (lane_itself (lane r to kind.Reach tag)) wires, tt) },
        (
          record { may = λ next wires. (((near_apart q (full_at i 1 q next refl (step i next.read).slots) (here i 1 next).near_so, room.letters), tt), tt) },
          (
            record { may = λ next wires. ((outcome i 2 next refl, (near_out (here i 2 next).near_so, (fillable i 2 next to kind.Reach tag refl refl, tt))), tt) },
            (
              record { may = λ next wires. ((no_none (front t (lane to r kind.Back tag)).bits next.holds, tt), tt) },
              (
                record {
                  may = λ next wires.
                      (letter_may s r (first_bit (t.parts r).taken) (Phase 4 (wire_in t r q)) t (omega arith, full_own q (full_at i 4 q next refl (step i next.read).slots)) room.letters, tt);
                },
                tt,
              ),
            ),
          ),
        ),
      )
  table (instr.ReachFrom q from tag) =
      let i = instr.ReachFrom q from tag in
      let x = (t.parts r).taken in
      let f = wire_of x in (
        record { may = λ next wires. ((no_none (front t (lane from r kind.Reach tag)).bits next.holds, tt), tt) },
        (
          record { may = λ next wires. (letter_may s r (first_bit x) (Flip f) t (FarOf r, (hand i 1 next refl refl).half, refl) room.letters, tt) },
          (
            record { may = λ next wires. (((far_apart f q (hand i 2 next refl refl).half (full_at i 2 q next refl (step i next.read).slots), room.letters), tt), tt) },
            (
              record { may = λ next wires. let far = (hand i 3 next refl refl).half in ((((FarOf r, far, refl), room.letters), tt), ((FarOf r, far), tt)) },
              (
                record {
                  may = λ next wires.
                      ((outcome i 4 next refl, (far_out f (hand i 4 next refl refl).half, (post_room i 4 next from kind.Back tag refl (lane_itself (lane r from kind.Back tag)), tt))), tt);
                },
                tt,
              ),
            ),
          ),
        ),
      )

  -- every line that is next, where there is room for its wires
  pub may_line : (i : Instr) (k : ℕ) (w : Row) → IsNext p t r i k → slice_get (rows p t r i) k ≡ Some w → asks (list_of w.acts) ≤ s.wires
      → AllMay s r (list_of w.acts) t × AllMayCheck t (list_of w.checks)
  may_line i k w next line wires = (at_stage (MayLine i) (rows p t r i) k w (table i) line).may next wires
