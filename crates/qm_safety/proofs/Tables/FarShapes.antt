-- After each event each rank has room for its far halves: by act for other ranks, by four cases for the acting one
use Rattle.std.proofs.Common.{◌≡◌, ◌≢◌, ℕ, ◌+◌, ◌<◌, ◌≤◌, nat_lt, Bool, true, false, ◌||◌, List, [], ◌∷◌, ◌++◌, length, drop, slice_get, Some, is_some, inl, inr, refl, sym, ap, subst, ◌∙◌, arith, length-append}
use Rattle.std.proofs.lemmas.Bool.{or_cases, ltb-true, false_from_ne_true}
use Rattle.qm_denot.specs.declared.Letter.{Letter}
use Rattle.qm_denot.specs.declared.Letter.TheVariants.{Phase, Flip, Keep}
use Rattle.qm_denot.specs.declared.Wire.{Wire}
use Rattle.qm_denot.specs.Protocols.{differing}
use Rattle.qm_denot.specs.Wires.{has, put, how_many}
use Rattle.qm_denot.proofs.Sets.{how_many-more, how_many-less, how_many-fewer}
use Rattle.qm_instr.specs.declared.Instr.{Instr}
use Rattle.qm_instr.specs.declared.Instr.TheVariants as instr
use Rattle.qm_instr.specs.declared.Kind.TheVariants as kind
use Rattle.qm_instr.specs.declared.Lane.{Lane}
use Rattle.qm_instr.specs.Counts.{events_of}
use Rattle.qm_instr.specs.Lanes.{lane}
use Rattle.qm_instr.specs.Programs.{Programs, rank_of}
use Rattle.qm_check.specs.Operands.{partner_of}
use Rattle.qm_check.proofs.Faultless.{IsStep}
use Rattle.qm_proto.specs.declared.Act.{Act}
use Rattle.qm_proto.specs.declared.Act.TheVariants.{Fresh, Twin, Apply, SlotOut, FarOut, Settle, Posts, Fills, Receives, OwnUsed, ProtocolUsed, BitSet}
use Rattle.qm_proto.specs.declared.Row.{Row}
use Rattle.qm_proto.specs.declared.Rule.TheVariants.{PairRoom}
use Rattle.qm_denot.specs.declared.Parcel.{Parcel}
use Rattle.qm_proto.specs.Model.State.{Tables, own_next, protocol_next, wire_in, far_made, front, wire_of, first_bit, second_bit, bit_of}
use Rattle.qm_proto.specs.Model.Acts.{list_of, after_acts, after_act}
use Rattle.qm_denot.specs.Parcels.{filled}
use Rattle.qm_proto.specs.Model.Rows.{rows, instr_at, current, half_parcel, bit_parcel, letter, gate_letter, few_if}
use Rattle.qm_proto.specs.Model.Runs.{holds, is_wanted, halves}
use Rattle.qm_proto.specs.Model.Places.{FarOf}
use Rattle.qm_proto.specs.Model.Tidy.{IsTidy, IsInHand}
use Rattle.qm_proto.proofs.Changes.{by_lane, with_at-here, with_at-elsewhere, with_lane-here, by_number}
use Rattle.qm_proto.proofs.TidyActs.{far_made_absent}
use Rattle.qm_proto.proofs.TidyLanes.{front_carried}
use Rattle.qm_safety.specs.Tables.Well.{is_half, keeps_half, is_taking, IsFarWell, AreCounted, IsLaneWell}
use Rattle.qm_safety.proofs.Tables.NextEvents.{event_done, stage_on, part_elsewhere}
use Rattle.qm_safety.proofs.Tables.LaneSteps.{length-filled}
use Rattle.qm_proto.proofs.Lines.{EachFrom, at_stage}
use Rattle.qm_safety.proofs.Tables.FarSteps.{front_wire, IsFarAll, far_by, taking_before, is_wanted_so, wanted_not_taking, taking_at_start}

-- ---- by act
module _ (r : ℕ) where
  -- the act prepares no pair, and takes parcels from lanes to rank r alone
  abbrev pub Plain : Act → Type 0
  Plain (Twin to) = ⊥
  Plain (Receives a) = a.to ≡ r
  Plain _ = Unit {0}

  abbrev pub AllPlain : List Act → Type 0
  AllPlain [] = Unit {0}
  AllPlain (a ∷ acts) = Plain a × AllPlain acts

  -- a lane to another rank has no fewer parcels
  lane_kept : (act : Act) (t : Tables) (c : Lane) → Plain act → c.to ≢ r → length (t.lanes c) ≤ length ((after_act r act t).lanes c)
  lane_kept (Posts a x) t c h other =
      by_lane (λ xs. length (t.lanes c) ≤ length xs) t.lanes a (t.lanes a ++ x ∷ []) c
      (λ same. let e : length (t.lanes c) ≡ length (t.lanes a) = ap (λ d. length (t.lanes d)) same in omega (arith, length-append (t.lanes a) (x ∷ [])))
      (λ _. omega arith)
  lane_kept (Fills a b) t c h other =
      by_lane (λ xs. length (t.lanes c) ≤ length xs) t.lanes a (filled (t.lanes a) b) c
      (λ same. let e : length (t.lanes c) ≡ length (t.lanes a) = ap (λ d. length (t.lanes d)) same in omega (arith, length-filled (t.lanes a) b))
      (λ _. omega arith)
  lane_kept (Receives a) t c h other =
      by_lane (λ xs. length (t.lanes c) ≤ length xs) t.lanes a (drop 1 (t.lanes a)) c
      (λ same. absurd (other (ap (λ (d : Lane). d.to) same ∙ h))) (λ _. omega arith)
  lane_kept (Twin to) t c h other = absurd h
  lane_kept _ t c h other = omega arith

  lanes_kept : (acts : List Act) (t : Tables) (c : Lane) → AllPlain acts → c.to ≢ r → length (t.lanes c) ≤ length ((after_acts r acts t).lanes c)
  lanes_kept [] t c h other = omega arith
  lanes_kept (a ∷ acts) t c h other =
      let first = lane_kept a t c h.0 other in
      let rest = lanes_kept acts (after_act r a t) c h.1 other in
      omega arith

  -- rank r has no more far halves
  own_less : (act : Act) (t : Tables) → Plain act → how_many ((after_act r act t).far r) ≤ how_many (t.far r)
  own_less (FarOut f m) t h = rw (with_at-here t.far r (put (t.far r) f false)) (how_many-fewer (t.far r) f)
  own_less (Settle f q) t h = rw (with_at-here t.far r (put (t.far r) f false)) (how_many-fewer (t.far r) f)
  own_less (Twin to) t h = absurd h
  own_less _ t h = omega arith

  all_less : (acts : List Act) (t : Tables) → AllPlain acts → how_many ((after_acts r acts t).far r) ≤ how_many (t.far r)
  all_less [] t h = omega arith
  all_less (a ∷ acts) t h =
      let first = own_less a t h.0 in
      let rest = all_less acts (after_act r a t) h.1 in
      omega arith

  -- another rank has those that it had
  far_same : (k : ℕ) → k ≢ r → (act : Act) (t : Tables) → Plain act → (after_act r act t).far k ≡ t.far k
  far_same k other (FarOut f m) t h = with_at-elsewhere t.far r _ k other
  far_same k other (Settle f q) t h = with_at-elsewhere t.far r _ k other
  far_same k other (Twin to) t h = absurd h
  far_same k other _ t h = refl

  all_same : (k : ℕ) → k ≢ r → (acts : List Act) (t : Tables) → AllPlain acts → (after_acts r acts t).far k ≡ t.far k
  all_same k other [] t h = refl
  all_same k other (a ∷ acts) t h = all_same k other acts (after_act r a t) h.1 ∙ far_same k other a t h.0

-- ---- the four cases of the acting rank
pub data FarCase : Type 0 where
  Idle : FarCase  -- it is not taking a half
  Holds : FarCase  -- it keeps the half that it took, and goes on
  Gives : (f : Wire) → FarCase  -- it gives the far half f up
  Sends : (a : Lane) (y : Parcel) → FarCase  -- it prepares a pair

module _ (p : Programs) (t : Tables) (r : ℕ) (i : Instr) where
  abbrev pub IsCase : ℕ → Row → FarCase → Type 0
  IsCase s w Idle = AllPlain r (list_of w.acts) × (is_taking t.lanes r (Some i) s ≡ false)
  IsCase s w Holds = AllPlain r (list_of w.acts) × (nat_lt (s + 1) (events_of i) ≡ true) × ((lanes : Lane → List Parcel) → is_taking lanes r (Some i) (s + 1) ≡ true)
  IsCase s w (Gives f) = AllPlain r (list_of w.acts) × ((after_acts r (list_of w.acts) t).far r ≡ put (t.far r) f false) × (has (t.far r) f ≡ true)
  IsCase s w (Sends a y) =
      (list_of w.acts ≡ Twin a.to ∷ Posts a y ∷ []) × (w.rule ≡ PairRoom a) × (is_half a.kind ≡ true) × (partner_of i ≡ Some a.to)
      × (is_taking t.lanes r (Some i) s ≡ false)

  -- a line that is next is of one of the cases
  pub record HasCase (s : ℕ) (w : Row) : Type 0 where
    pub found : (t.parts r).stage ≡ s → holds p t w.rule ≡ true → (c : FarCase) × IsCase s w c

-- ---- the table
plain_if : (r : ℕ) (b : Bool) (l : Letter) → AllPlain r (list_of (few_if b (letter l)))
plain_if r true l = (tt, tt)
plain_if r false l = tt

alone : (r : ℕ) (act : Act) → Plain r act → AllPlain r (act ∷ [])
alone r act h = (h, tt)

module _ (p : Programs) (t : Tables) (r : ℕ) (tidy : IsTidy t) (lanes : (b : Lane) → IsLaneWell p t b)
    (held : keeps_half (current p t r) ≡ true → nat_lt 0 (t.parts r).stage ≡ true → IsInHand t r (wire_of (t.parts r).taken)) where
  -- a half that a receive puts into a slot was a far half
  carried : (a : Lane) → is_half a.kind ≡ true → a.to ≡ r → is_some (front t a).bits ≡ true → has (t.far r) (wire_of (front t a)) ≡ true
  carried a h to bits =
      let f = wire_of (front t a) in
      let wire : (front t a).wire ≡ Some f = front_wire (t.lanes a) ((lanes a).wired h) bits in
      subst (λ k. has (t.far k) f ≡ true) to (tidy.carried a 0 f (front_carried t a f wire))

  settles : (i : Instr) (w : Row) (a : Lane) (q : ℕ) → is_half a.kind ≡ true → a.to ≡ r
      → list_of w.acts ≡ Receives a ∷ Settle (wire_of (front t a)) q ∷ [] → (holds p t w.rule ≡ true → is_some (front t a).bits ≡ true) → HasCase p t r i 0 w
  settles i w a q h to acts bits =
      let f = wire_of (front t a) in
      let plain : AllPlain r (Receives a ∷ Settle f q ∷ []) = (to, (tt, tt)) in
      let gone : (after_acts r (Receives a ∷ Settle f q ∷ []) t).far r ≡ put (t.far r) f false = with_at-here t.far r (put (t.far r) f false) in
      let shown : AllPlain r (list_of w.acts) = subst (AllPlain r) (sym acts) plain in
      let less : (after_acts r (list_of w.acts) t).far r ≡ put (t.far r) f false = subst (λ xs. (after_acts r xs t).far r ≡ put (t.far r) f false) (sym acts) gone in
      record { found = λ _ free. (Gives f, (shown, less, carried a h to (bits free))) }

  idle : (i : Instr) (s : ℕ) (w : Row) → AllPlain r (list_of w.acts) → is_taking t.lanes r (Some i) s ≡ false → HasCase p t r i s w
  idle i s w plain none = record { found = λ _ _. (Idle, (plain, none)) }

  holding : (i : Instr) (s : ℕ) (w : Row) → AllPlain r (list_of w.acts) → nat_lt (s + 1) (events_of i) ≡ true
      → ((lanes : Lane → List Parcel) → is_taking lanes r (Some i) (s + 1) ≡ true) → HasCase p t r i s w
  holding i s w plain more taking = record { found = λ _ _. (Holds, (plain, more, taking)) }

  drops : (i : Instr) (w : Row) (f : Wire) → AllPlain r (list_of w.acts) → (after_acts r (list_of w.acts) t).far r ≡ put (t.far r) f false
      → ((t.parts r).stage ≡ 4 → has (t.far r) f ≡ true) → HasCase p t r i 4 w
  drops i w f plain gone here = record { found = λ stage _. (Gives f, (plain, gone, here stage)) }

  sends : (i : Instr) (w : Row) (a : Lane) (y : Parcel) → IsCase p t r i 0 w (Sends a y) → HasCase p t r i 0 w
  sends i w a y h = record { found = λ _ _. (Sends a y, h) }

  table : (i : Instr) → current p t r ≡ Some i → EachFrom (HasCase p t r i) 0 (rows p t r i)
  table (instr.CopyTo q to tag) read =
      let i = instr.CopyTo q to tag in (
        sends i _ (lane r to kind.Copy tag) (half_parcel (far_made t r)) (refl, refl, refl, refl, refl),
        (idle i 1 _ (tt, tt) refl, (idle i 2 _ (tt, (tt, (tt, tt))) refl, tt)),
      )
  table (instr.CopyFrom q from tag) read =
      let i = instr.CopyFrom q from tag in
      let x = (t.parts r).taken in (
        settles i _ (lane from r kind.Copy tag) q refl refl refl (λ h. h),
        (idle i 1 _ (plain_if r (first_bit x) (Flip (wire_of x))) refl, tt),
      )
  table (instr.UndoTo q to tag) read =
      let i = instr.UndoTo q to tag in (idle i 0 _ (tt, tt) refl, (idle i 1 _ (tt, (tt, (tt, tt))) refl, tt))
  table (instr.UndoFrom q from tag) read =
      let i = instr.UndoFrom q from tag in
      (idle i 0 _ (refl, tt) refl, (idle i 1 _ (plain_if r (first_bit (t.parts r).taken) (Phase 4 (wire_in t r q))) refl, tt))
  table (instr.MoveTo q to tag) read =
      let i = instr.MoveTo q to tag in (
        sends i _ (lane r to kind.Move tag) (half_parcel (far_made t r)) (refl, refl, refl, refl, refl),
        (idle i 1 _ (tt, tt) refl, (idle i 2 _ (tt, tt) refl, (idle i 3 _ (tt, (tt, (tt, tt))) refl, (idle i 4 _ (tt, (tt, (tt, tt))) refl, tt)))),
      )
  table (instr.MoveFrom q from tag) read =
      let i = instr.MoveFrom q from tag in
      let x = (t.parts r).taken in (
        settles i _ (lane from r kind.Move tag) q refl refl refl (λ h. h),
        (idle i 1 _ (plain_if r (first_bit x) (Flip (wire_of x))) refl, (idle i 2 _ (plain_if r (second_bit x) (Phase 4 (wire_of x))) refl, tt)),
      )
  table (instr.ReachTo q to tag) read =
      let i = instr.ReachTo q to tag in (
        sends i _ (lane r to kind.Reach tag) (half_parcel (far_made t r)) (refl, refl, refl, refl, refl),
        (
          idle i 1 _ (tt, tt) refl,
          (
            idle i 2 _ (tt, (tt, (tt, tt))) refl,
            (
              idle i 3 _ (refl, tt) refl,
              (idle i 4 _ (plain_if r (first_bit (t.parts r).taken) (Phase 4 (wire_in t r q))) refl, tt),
            ),
          ),
        ),
      )
  table (instr.ReachFrom q from tag) read =
      let i = instr.ReachFrom q from tag in
      let x = (t.parts r).taken in
      let f = wire_of x in
      let three : AllPlain r (ProtocolUsed ∷ FarOut f (protocol_next t r) ∷ Posts (lane r from kind.Back tag) (bit_parcel (protocol_next t r)) ∷ []) = (tt, (tt, (tt, tt))) in (
        holding i 0 _ (refl, tt) refl (λ _. refl),
        (
          holding i 1 _ (plain_if r (first_bit x) (Flip f)) refl (λ _. refl),
          (
            holding i 2 _ (tt, tt) refl (λ _. refl),
            (
              holding i 3 _ (tt, tt) refl (λ _. refl),
              (drops i _ f three (with_at-here t.far r (put (t.far r) f false)) (λ stage. (held (ap keeps_half read) (ap (nat_lt 0) stage)).half), tt),
            ),
          ),
        ),
      )
  table (instr.When b g) read = (idle (instr.When b g) 0 _ (plain_if r (bit_of t r b) (gate_letter (wire_in t r) g)) refl, tt)
  table (instr.Measure q b) read =
      let m = own_next t r in
      let three : AllPlain r (OwnUsed ∷ Apply (Keep (wire_in t r q) m) ∷ BitSet b m ∷ []) = (tt, (tt, (tt, tt))) in
      (idle (instr.Measure q b) 0 _ three refl, tt)
  table (instr.RecvBit b from tag) read =
      let a = lane from r kind.Bit tag in
      let two : AllPlain r (Receives a ∷ BitSet b (first_bit (front t a)) ∷ []) = (refl, (tt, tt)) in
      (idle (instr.RecvBit b from tag) 0 _ two refl, tt)
  table (instr.Alloc q) read = (idle (instr.Alloc q) 0 _ (alone r (Fresh q) tt) refl, tt)
  table (instr.Free q) read = (idle (instr.Free q) 0 _ (alone r (SlotOut q false) tt) refl, tt)
  table (instr.Do g) read = (idle (instr.Do g) 0 _ (alone r (Apply (gate_letter (wire_in t r) g)) tt) refl, tt)
  table (instr.Set b v) read = (idle (instr.Set b v) 0 _ (alone r (BitSet b v) tt) refl, tt)
  table (instr.Xor b c) read = (idle (instr.Xor b c) 0 _ (alone r (BitSet b (differing (bit_of t r b) (bit_of t r c))) tt) refl, tt)
  table (instr.SendBit b to tag) read = (idle (instr.SendBit b to tag) 0 _ (alone r (Posts (lane r to kind.Bit tag) (bit_parcel (bit_of t r b))) tt) refl, tt)

-- ---- one lemma for each case
module _ (p : Programs) (t : Tables) (r : ℕ) (known : r < length p.ranks) (all : IsFarAll p t) (n : ℕ) (acts : List Act) where
  abbrev after : Tables
  after = event_done n r acts t

  -- another rank, of which nothing changes
  other : (k : ℕ) → k ≢ r → after.far k ≡ t.far k → ((c : Lane) → c.to ≡ k → length (t.lanes c) ≤ length (after.lanes c)) → IsFarWell p after k
  other k ne same more =
      let v = t.parts k in
      let old = all.well k in
      far_by p after k v (part_elsewhere n r k acts t ne)
      (record { few = rw same old.few; room = λ e. rw same (old.room (taking_before t.lanes after.lanes k (instr_at p k v.at) v.stage more e)) })

  plainly : AllPlain r acts → IsFarWell p after r → IsFarAll p after
  plainly plain own =
      record {
        well = by_number (IsFarWell p after) r own
            (λ k ne. other k ne (all_same r k ne acts t plain) (λ c to. lanes_kept r acts t c plain (λ e. ne (sym to ∙ e))));
        known = λ k past. all_same r k (λ e. absurd (omega arith)) acts t plain ∙ all.known k past;
      }

  roomy : how_many (after.far r) < (rank_of p r).buffer → IsFarWell p after r
  roomy few = record { few = omega arith; room = λ _. few }

  module _ (i : Instr) (s : ℕ) (read : current p t r ≡ Some i) (stage : (t.parts r).stage ≡ s) where
    room_before : is_taking t.lanes r (Some i) s ≡ false → how_many (t.far r) < (rank_of p r).buffer
    room_before e =
        (all.well r).room (ap (λ o. is_taking t.lanes r o (t.parts r).stage) read ∙ ap (λ k. is_taking t.lanes r (Some i) k) stage ∙ e)

    held_on : AllPlain r acts → nat_lt (s + 1) n ≡ true → ((ls : Lane → List Parcel) → is_taking ls r (Some i) (s + 1) ≡ true) → IsFarWell p after r
    held_on plain more taking =
        let place = stage_on n s r acts t stage more in
        let now : is_taking after.lanes r (current p after r) (after.parts r).stage ≡ true =
        ap (λ k. is_taking after.lanes r (current p after r) k) place.stage
        ∙ ap (λ k. is_taking after.lanes r (instr_at p r k) (s + 1)) place.at
        ∙ ap (λ o. is_taking after.lanes r o (s + 1)) read ∙ taking after.lanes in
        record { few = omega (arith, all_less r acts t plain, (all.well r).few); room = λ e. let k : ⊥ = cc in absurd k }

    -- the receiver of a pair has room for one half more, or takes it
    module _ (a : Lane) (y : Parcel) (is : acts ≡ Twin a.to ∷ Posts a y ∷ []) (apart : a.to ≢ r) (there : a.to < length p.ranks) (carries : is_half a.kind ≡ true)
        (free : (nat_lt (halves t a.to + 1) (rank_of p a.to).buffer || is_wanted p t a) ≡ true)
        (counted : AreCounted t a.to) (new : has (t.far a.to) (far_made t r) ≡ false) where
      abbrev w : Wire
      w = far_made t r

      far_is : (k : ℕ) → after.far k ≡ (event_done n r (Twin a.to ∷ Posts a y ∷ []) t).far k
      far_is k = ap (λ xs. (event_done n r xs t).far k) is

      lane_is : (c : Lane) → after.lanes c ≡ (event_done n r (Twin a.to ∷ Posts a y ∷ []) t).lanes c
      lane_is c = ap (λ xs. (event_done n r xs t).lanes c) is

      far_elsewhere : (k : ℕ) → k ≢ a.to → after.far k ≡ t.far k
      far_elsewhere k ne = far_is k ∙ with_at-elsewhere t.far a.to (put (t.far a.to) w true) k ne

      size : how_many (after.far a.to) ≡ how_many (t.far a.to) + 1
      size = ap how_many (far_is a.to ∙ with_at-here t.far a.to (put (t.far a.to) w true)) ∙ how_many-more (t.far a.to) w new

      longer : (c : Lane) → length (t.lanes c) ≤ length (after.lanes c)
      longer c =
          rw (lane_is c)
          (by_lane (λ xs. length (t.lanes c) ≤ length xs) t.lanes a (t.lanes a ++ y ∷ []) c
          (λ same. let e : length (t.lanes c) ≡ length (t.lanes a) = ap (λ d. length (t.lanes d)) same in omega (arith, length-append (t.lanes a) (y ∷ [])))
          (λ _. omega arith))

      wanted : is_wanted p t a ≡ true → IsFarWell p after a.to
      wanted e =
          let d = a.to in
          let v = t.parts d in
          let o = current p t d in
          let u = is_wanted_so p t a carries e in
          let more : length (after.lanes a) ≡ 1 =
          ap (λ (xs : List Parcel). length xs) (lane_is a ∙ with_lane-here t.lanes a (t.lanes a ++ y ∷ [])) ∙ length-append (t.lanes a) (y ∷ []) ∙ ap (λ k. k + 1) u.none in
          let now : is_taking after.lanes d o v.stage ≡ true = taking_at_start after.lanes d o v.stage a u.start u.takes ∙ ap (λ k. nat_lt 0 k || false) more in
          let room : how_many (t.far d) < (rank_of p d).buffer = (all.well d).room (wanted_not_taking p t a u) in
          far_by p after d v (part_elsewhere n r d acts t apart) (record { few = omega (arith, size, counted); room = λ e. let k : ⊥ = cc in absurd k })

      target : IsFarWell p after a.to
      target = elim (or_cases (nat_lt (halves t a.to + 1) (rank_of p a.to).buffer) _ free) [
        | inl h ↦
            let below : halves t a.to + 1 < (rank_of p a.to).buffer = ltb-true (halves t a.to + 1) (rank_of p a.to).buffer h in
            record { few = omega (arith, size, counted); room = λ _. omega (arith, size, counted) }
        | inr h ↦ wanted h
      ]

      sent : is_taking t.lanes r (Some i) s ≡ false → IsFarAll p after
      sent none =
          record {
            well = by_number (IsFarWell p after) r (roomy (rw (far_elsewhere r (λ e. apart (sym e))) (room_before none)))
                (λ k ne. by_number (λ j. j ≢ r → IsFarWell p after j) a.to (λ _. target)
                (λ j elsewhere ne. other j ne (far_elsewhere j elsewhere) (λ c _. longer c)) k ne);
            known = λ k past. far_elsewhere k (λ e. absurd (omega arith)) ∙ all.known k past;
          }

-- ---- every event of every instruction
module _ (p : Programs) (t : Tables) (r : ℕ) (known : r < length p.ranks) (all : IsFarAll p t) (i : Instr) (s : ℕ) (w : Row)
    (read : current p t r ≡ Some i) (stage : (t.parts r).stage ≡ s) (free : holds p t w.rule ≡ true) (step : IsStep p r (t.parts r).at i)
    (tidy : IsTidy t) (counted : (k : ℕ) → AreCounted t k) where
  by_case : (c : FarCase) → IsCase p t r i s w c → IsFarAll p (event_done (events_of i) r (list_of w.acts) t)
  by_case Idle h =
      let few = room_before p t r known all (events_of i) (list_of w.acts) i s read stage h.1 in
      let less = all_less r (list_of w.acts) t h.0 in
      plainly p t r known all (events_of i) (list_of w.acts) h.0 (roomy p t r known all (events_of i) (list_of w.acts) (omega arith))
  by_case Holds h =
      plainly p t r known all (events_of i) (list_of w.acts) h.0
      (held_on p t r known all (events_of i) (list_of w.acts) i s read stage h.0 h.1 h.2)
  by_case (Gives f) h =
      let fewer = how_many-less (t.far r) f h.2 in
      let few : how_many (t.far r) ≤ (rank_of p r).buffer = (all.well r).few in
      plainly p t r known all (events_of i) (list_of w.acts) h.0
      (roomy p t r known all (events_of i) (list_of w.acts) (rw h.1 (omega arith)))
  by_case (Sends a y) (is, rule, carries, names, none) =
      let partner = step.partner a.to names in
      sent p t r known all (events_of i) (list_of w.acts) i s read stage a y is partner.other partner.known carries
      (subst (λ e. holds p t e ≡ true) rule free) (counted a.to) (false_from_ne_true (has (t.far a.to) (far_made t r)) (λ e. far_made_absent t tidy r (FarOf a.to, e))) none

pub far_event : (p : Programs) (t : Tables) (r : ℕ) (known : r < length p.ranks) (all : IsFarAll p t) (i : Instr) (s : ℕ) (w : Row)
    → current p t r ≡ Some i → (t.parts r).stage ≡ s → slice_get (rows p t r i) s ≡ Some w → holds p t w.rule ≡ true → IsStep p r (t.parts r).at i
    → IsTidy t → ((k : ℕ) → AreCounted t k) → ((b : Lane) → IsLaneWell p t b)
    → (keeps_half (current p t r) ≡ true → nat_lt 0 (t.parts r).stage ≡ true → IsInHand t r (wire_of (t.parts r).taken))
    → IsFarAll p (event_done (events_of i) r (list_of w.acts) t)
far_event p t r known all i s w read stage line free step tidy counted lanes held =
    let c = (at_stage (HasCase p t r i) (rows p t r i) s w (table p t r tidy lanes held i read) line).found stage free in
    by_case p t r known all i s w read stage free step tidy counted c.0 c.1
