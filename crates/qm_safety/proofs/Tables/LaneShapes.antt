-- After each event each lane is as it should be, by four cases of what the event does to lanes
use Rattle.std.proofs.Common.{◌≡◌, ◌≢◌, ℕ, ◌+◌, ◌≤◌, nat_lt, Bool, true, false, cond, List, [], ◌∷◌, ◌++◌, length, take, drop, slice_get, All, Some, None, is_some, refl, sym, ap, subst, ◌∙◌, arith, length-drop, length-append}
use Rattle.std.proofs.lemmas.Option.{same_Some}
use Rattle.std.proofs.lemmas.List.Elements.{All-push, All-drop}
use Rattle.qm_denot.specs.declared.Letter.{Letter}
use Rattle.qm_denot.specs.declared.Letter.TheVariants.{Phase, Flip}
use Rattle.qm_denot.specs.declared.Wire.{Wire}
use Rattle.qm_instr.specs.declared.Instr.{Instr}
use Rattle.qm_instr.specs.declared.Instr.TheVariants as instr
use Rattle.qm_instr.specs.declared.Kind.{Kind}
use Rattle.qm_instr.specs.declared.Kind.TheVariants as kind
use Rattle.qm_instr.specs.declared.Lane.{Lane}
use Rattle.qm_instr.specs.Counts.{events_of}
use Rattle.qm_instr.specs.Lanes.{lane, lane_sent, is_on}
use Rattle.qm_instr.specs.Programs.{Programs, rank_of}
use Rattle.qm_instr.proofs.LaneOrder.{same_lane, lane_itself}
use Rattle.qm_check.specs.Messages.{posts_on, posts_in}
use Rattle.qm_check.specs.Operands.{partner_of}
use Rattle.qm_check.proofs.Faultless.{IsStep}
use Rattle.qm_denot.specs.declared.Parcel.{Parcel}
use Rattle.qm_proto.specs.declared.Row.{Row}
use Rattle.qm_proto.specs.declared.Rule.TheVariants.{Filled}
use Rattle.qm_proto.specs.Model.State.{Tables, with_lane, far_made, front, protocol_next, wire_in, wire_of, bit_of, first_bit, second_bit}
use Rattle.qm_proto.specs.Model.Acts.{list_of, after_acts}
use Rattle.qm_denot.specs.Parcels.{filled, IsFillable}
use Rattle.qm_proto.specs.Model.Rows.{instr_at, current, rows, half_parcel, bit_parcel, letter, gate_letter, few_if}
use Rattle.qm_proto.specs.Model.Runs.{holds, row_holds}
use Rattle.qm_proto.proofs.Changes.{by_lane, with_lane-elsewhere}
use Rattle.qm_safety.specs.Tables.Well.{middle_of, has_posted, is_open, is_half, IsLaneSound, IsLaneWell}
use Rattle.qm_safety.proofs.Tables.NextEvents.{IsNext, event_done, stage_on, stage_ended}
use Rattle.qm_safety.proofs.Tables.LaneSteps.{HasWire, length-filled, fillable_push, fillable_drop, wired_filled, lane_by, by_sender, own_lane, other_lane, other_lane_same}
use Rattle.qm_proto.proofs.Lines.{EachFrom, at_stage, never}

-- ---- what an event does to lanes
pub data LaneCase : Type 0 where
  Still : LaneCase  -- nothing
  Puts : (a : Lane) (x : Parcel) → LaneCase  -- it posts a parcel on a lane of its rank
  Tells : (a : Lane) (b : Bool × Bool) → LaneCase  -- it puts bits into the last parcel of a lane of its rank
  Takes : (a : Lane) → LaneCase  -- it takes the front parcel of a lane to its rank

-- the lanes after it
abbrev pub lanes_by : LaneCase → (Lane → List Parcel) → Lane → List Parcel
lanes_by Still f = f
lanes_by (Puts a x) f = with_lane f a (f a ++ x ∷ [])
lanes_by (Tells a b) f = with_lane f a (filled (f a) b)
lanes_by (Takes a) f = with_lane f a (drop 1 (f a))

-- after a stage of an instruction: whether it has posted, and whether what it posted waits for its bits
abbrev pub posted_after : Instr → ℕ → Bool
posted_after i s = cond (nat_lt (s + 1) (events_of i)) (has_posted (middle_of i) (s + 1)) true

abbrev pub open_after : Instr → ℕ → Bool
open_after i s = cond (nat_lt (s + 1) (events_of i)) (is_open (middle_of i) (s + 1)) false

-- whether the second is so where the first is
abbrev pub follows : Bool → Bool → Bool
follows a b = cond a b true

-- the parcel carries no wire but the far half that the rank's count names
abbrev pub CarriesNew : Tables → ℕ → Parcel → Type 0
CarriesNew t r x = (w : Wire) → x.wire ≡ Some w → w ≡ far_made t r

module _ (p : Programs) (t : Tables) (r : ℕ) (i : Instr) (s : ℕ) (w : Row) where
  abbrev pub IsLaneCase : LaneCase → Type 0
  IsLaneCase Still = (follows (has_posted (middle_of i) s) (posted_after i s) ≡ true) × (follows (open_after i s) (is_open (middle_of i) s) ≡ true)
  IsLaneCase (Puts a x) =
      (a.from ≡ r) × (posts_on r i a ≡ true) × (has_posted (middle_of i) s ≡ false) × (posted_after i s ≡ true)
      × ((open_after i s ≡ true) → (lane_sent r i ≡ Some a) × (x.bits ≡ None))
      × (is_half a.kind ≡ true → HasWire x) × CarriesNew t r x
  IsLaneCase (Tells a b) = (a.from ≡ r) × (follows (has_posted (middle_of i) s) (posted_after i s) ≡ true) × (open_after i s ≡ false)
  IsLaneCase (Takes a) =
      (follows (has_posted (middle_of i) s) (posted_after i s) ≡ true) × (follows (open_after i s) (is_open (middle_of i) s) ≡ true)
      × (w.rule ≡ Filled a) × (a.to ≡ r) × (partner_of i ≡ Some a.from)

  -- the event does to lanes what the case says
  pub record DoesToLanes : Type 0 where
    pub case : LaneCase
    pub lanes : (after_acts r (list_of w.acts) t).lanes ≡ lanes_by case t.lanes
    pub so : IsLaneCase case

-- ---- the table
lanes_if : (r : ℕ) (b : Bool) (l : Letter) (t : Tables) → (after_acts r (list_of (few_if b (letter l))) t).lanes ≡ t.lanes
lanes_if r true l t = refl
lanes_if r false l t = refl

module _ (p : Programs) (t : Tables) (r : ℕ) where
  still : {i : Instr} {s : ℕ} {w : Row} → (after_acts r (list_of w.acts) t).lanes ≡ t.lanes
      → follows (has_posted (middle_of i) s) (posted_after i s) ≡ true → follows (open_after i s) (is_open (middle_of i) s) ≡ true → DoesToLanes p t r i s w
  still same posted opens = record { case = Still; lanes = same; so = (posted, opens) }

  puts : {i : Instr} {s : ℕ} {w : Row} (a : Lane) (x : Parcel) → (after_acts r (list_of w.acts) t).lanes ≡ with_lane t.lanes a (t.lanes a ++ x ∷ [])
      → IsLaneCase p t r i s w (Puts a x) → DoesToLanes p t r i s w
  puts a x same so = record { case = Puts a x; lanes = same; so = so }

  tells : {i : Instr} {s : ℕ} {w : Row} (a : Lane) (b : Bool × Bool) → (after_acts r (list_of w.acts) t).lanes ≡ with_lane t.lanes a (filled (t.lanes a) b)
      → IsLaneCase p t r i s w (Tells a b) → DoesToLanes p t r i s w
  tells a b same so = record { case = Tells a b; lanes = same; so = so }

  takes : {i : Instr} {s : ℕ} {w : Row} (a : Lane) → (after_acts r (list_of w.acts) t).lanes ≡ with_lane t.lanes a (drop 1 (t.lanes a))
      → IsLaneCase p t r i s w (Takes a) → DoesToLanes p t r i s w
  takes a same so = record { case = Takes a; lanes = same; so = so }

  -- a half, and bits, as they are posted
  half_new : CarriesNew t r (half_parcel (far_made t r))
  half_new w e = sym (same_Some (far_made t r) w e)

  told_new : (m : Bool) → CarriesNew t r (bit_parcel m)
  told_new m w e = cc

  -- an instruction that ends has nothing open
  table : (i : Instr) → EachFrom (DoesToLanes p t r i) 0 (rows p t r i)
  table (instr.Alloc q) = (still refl refl refl, tt)
  table (instr.Free q) = (still refl refl refl, tt)
  table (instr.Do g) = (still refl refl refl, tt)
  table (instr.Measure q b) = (still refl refl refl, tt)
  table (instr.Set b v) = (still refl refl refl, tt)
  table (instr.Xor b c) = (still refl refl refl, tt)
  table (instr.When b g) = (still (lanes_if r (bit_of t r b) (gate_letter (wire_in t r) g) t) refl refl, tt)
  table (instr.SendBit b to tag) =
      (puts (lane r to kind.Bit tag) (bit_parcel (bit_of t r b)) refl (refl, lane_itself (lane r to kind.Bit tag), refl, refl, (λ e. never e), (λ e. cc), told_new (bit_of t r b)), tt)
  table (instr.RecvBit b from tag) = (takes (lane from r kind.Bit tag) refl (refl, refl, refl, refl, refl), tt)
  table (instr.CopyTo q to tag) =
      let a = lane r to kind.Copy tag in (
        puts a (half_parcel (far_made t r)) refl (refl, lane_itself a, refl, refl, (λ e. (refl, refl)), (λ e. refl), half_new),
        (still refl refl refl, (tells a (protocol_next t r, false) refl (refl, refl, refl), tt)),
      )
  table (instr.CopyFrom q from tag) =
      let x = (t.parts r).taken in
      (takes (lane from r kind.Copy tag) refl (refl, refl, refl, refl, refl), (still (lanes_if r (first_bit x) (Flip (wire_of x)) t) refl refl, tt))
  table (instr.UndoTo q to tag) =
      (still refl refl refl, (puts (lane r to kind.Undo tag) (bit_parcel (protocol_next t r)) refl (refl, lane_itself (lane r to kind.Undo tag), refl, refl, (λ e. never e), (λ e. cc), told_new (protocol_next t r)), tt))
  table (instr.UndoFrom q from tag) = (
    takes (lane from r kind.Undo tag) refl (refl, refl, refl, refl, refl),
    (still (lanes_if r (first_bit (t.parts r).taken) (Phase 4 (wire_in t r q)) t) refl refl, tt),
  )
  table (instr.MoveTo q to tag) =
      let a = lane r to kind.Move tag in (
        puts a (half_parcel (far_made t r)) refl (refl, lane_itself a, refl, refl, (λ e. (refl, refl)), (λ e. refl), half_new),
        (
          still refl refl refl,
          (
            still refl refl refl,
            (
              still refl refl refl,
              (tells a ((t.parts r).first, protocol_next t r) refl (refl, refl, refl), tt),
            ),
          ),
        ),
      )
  table (instr.MoveFrom q from tag) =
      let x = (t.parts r).taken in (
        takes (lane from r kind.Move tag) refl (refl, refl, refl, refl, refl),
        (
          still (lanes_if r (first_bit x) (Flip (wire_of x)) t) refl refl,
          (still (lanes_if r (second_bit x) (Phase 4 (wire_of x)) t) refl refl, tt),
        ),
      )
  table (instr.ReachTo q to tag) =
      let a = lane r to kind.Reach tag in (
        puts a (half_parcel (far_made t r)) refl (refl, lane_itself a, refl, refl, (λ e. (refl, refl)), (λ e. refl), half_new),
        (
          still refl refl refl,
          (
            tells a (protocol_next t r, false) refl (refl, refl, refl),
            (
              takes (lane to r kind.Back tag) refl (refl, refl, refl, refl, refl),
              (still (lanes_if r (first_bit (t.parts r).taken) (Phase 4 (wire_in t r q)) t) refl refl, tt),
            ),
          ),
        ),
      )
  table (instr.ReachFrom q from tag) =
      let x = (t.parts r).taken in (
        takes (lane from r kind.Reach tag) refl (refl, refl, refl, refl, refl),
        (
          still (lanes_if r (first_bit x) (Flip (wire_of x)) t) refl refl,
          (
            still refl refl refl,
            (
              still refl refl refl,
              (puts (lane r from kind.Back tag) (bit_parcel (protocol_next t r)) refl (refl, lane_itself (lane r from kind.Back tag), refl, refl, (λ e. never e), (λ e. cc), told_new (protocol_next t r)), tt),
            ),
          ),
        ),
      )

  pub lane_case : (i : Instr) (s : ℕ) (w : Row) → slice_get (rows p t r i) s ≡ Some w → DoesToLanes p t r i s w
  lane_case i s w line = at_stage (DoesToLanes p t r i) (rows p t r i) s w (table i) line

-- ---- one lemma for each case
follow : (a b : Bool) → follows a b ≡ true → a ≡ true → b ≡ true
follow true b h e = h
follow false b h e = cc

-- at most what the instructions before come to, and this one where it has posted
few_later : (b c : Bool) (f : ℕ → ℕ) (k n : ℕ) → follows b c ≡ true → f k ≤ f (k + 1) → n ≤ f (cond b (k + 1) k) → n ≤ f (cond c (k + 1) k)
few_later true true f k n h grows few = few
few_later true false f k n h grows few = cc
few_later false true f k n h grows few = omega arith
few_later false false f k n h grows few = few

module _ (p : Programs) (t : Tables) (r : ℕ) (well : (b : Lane) → IsLaneWell p t b) (step : (i : Instr) → instr_at p r (t.parts r).at ≡ Some i → IsStep p r (t.parts r).at i)
    (i : Instr) (s : ℕ) (w : Row) (next : IsNext p t r i s) where
  abbrev after : Tables
  after = event_done (events_of i) r (list_of w.acts) t

  abbrev is : List Instr
  is = (rank_of p r).instructions

  abbrev k : ℕ
  k = (t.parts r).at

  at : IsStep p r (t.parts r).at i
  at = step i next.read

  -- a lane of the rank
  own_after : (to : ℕ) (d : Kind) (tag : ℕ)
      → length (after.lanes (lane r to d tag)) ≤ posts_in r (lane r to d tag) (take (cond (posted_after i s) ((t.parts r).at + 1) (t.parts r).at) (rank_of p r).instructions)
      → (open_after i s ≡ true → is_on (lane_sent r i) (lane r to d tag) ≡ true → IsFillable (after.lanes (lane r to d tag)))
      → (is_half d ≡ true → All HasWire (after.lanes (lane r to d tag)))
      → IsLaneWell p after (lane r to d tag)
  own_after to d tag few fillable wired = by_end (nat_lt (s + 1) (events_of i)) refl
    where
      by_end : (b : Bool) → nat_lt (s + 1) (events_of i) ≡ b → IsLaneWell p after (lane r to d tag)
      by_end true more =
          let b = lane r to d tag in
          let u = event_done (events_of i) r (list_of w.acts) t in
          let n = (t.parts r).at in
          lane_by p u b n (s + 1) (stage_on (events_of i) s r (list_of w.acts) t next.stage more)
          (subst (λ o. IsLaneSound b (rank_of p r) o n (s + 1) (u.lanes b)) (sym next.read)
          (record {
            few = subst (λ c. length (u.lanes b) ≤ posts_in r b (take (cond (cond c (has_posted (middle_of i) (s + 1)) true) (n + 1) n) (rank_of p r).instructions)) more few;
            fillable = λ e on. fillable (ap (λ c. cond c (is_open (middle_of i) (s + 1)) false) more ∙ e) on;
            wired = wired;
          }))
      by_end false last =
          let b = lane r to d tag in
          let u = event_done (events_of i) r (list_of w.acts) t in
          let n = (t.parts r).at in
          lane_by p u b (n + 1) 0 (stage_ended (events_of i) s r (list_of w.acts) t next.stage last)
          (record {
            few = subst (λ c. length (u.lanes b) ≤ posts_in r b (take (cond (cond c (has_posted (middle_of i) (s + 1)) true) (n + 1) n) (rank_of p r).instructions)) last few;
            fillable = λ e _. cc;
            wired = wired;
          })

  -- a lane of the rank that stays
  own_same : (to : ℕ) (d : Kind) (tag : ℕ) → after.lanes (lane r to d tag) ≡ t.lanes (lane r to d tag)
      → follows (has_posted (middle_of i) s) (posted_after i s) ≡ true → follows (open_after i s) (is_open (middle_of i) s) ≡ true
      → IsLaneWell p after (lane r to d tag)
  own_same to d tag same posted opens =
      let b = lane r to d tag in
      let old = own_lane p t r well step i s next to d tag in
      own_after to d tag
      (rw same (few_later (has_posted (middle_of i) s) (posted_after i s) (λ j. posts_in r b (take j (rank_of p r).instructions)) (t.parts r).at (length (t.lanes b)) posted
      (omega (arith, at.posts b)) old.few))
      (λ e on. rw same (old.fillable (follow (open_after i s) (is_open (middle_of i) s) opens e) on))
      (λ h. rw same (old.wired h))

  -- a lane of another sender is not one of the rank's
  other_from : (a b : Lane) → a.from ≡ r → b.from ≢ r → b ≢ a
  other_from a b from other same = other (ap (λ (c : Lane). c.from) same ∙ from)

  all_still : (after_acts r (list_of w.acts) t).lanes ≡ t.lanes → IsLaneCase p t r i s w Still → (b : Lane) → IsLaneWell p after b
  all_still same so =
      let here : (b : Lane) → (event_done (events_of i) r (list_of w.acts) t).lanes b ≡ t.lanes b = λ b. ap (λ (f : Lane → List Parcel). f b) same in
      by_sender (IsLaneWell p after) r (λ to d tag. own_same to d tag (here (lane r to d tag)) so.0 so.1)
      (λ b other. other_lane_same p t r well step (events_of i) (list_of w.acts) b other (here b))

  all_puts : (a : Lane) (x : Parcel) → (after_acts r (list_of w.acts) t).lanes ≡ with_lane t.lanes a (t.lanes a ++ x ∷ []) → IsLaneCase p t r i s w (Puts a x)
      → (b : Lane) → IsLaneWell p after b
  all_puts a x same (from, posts, before, later, waits, wired, new) =
      let u = event_done (events_of i) r (list_of w.acts) t in
      let here : (b : Lane) → u.lanes b ≡ with_lane t.lanes a (t.lanes a ++ x ∷ []) b = λ b. ap (λ (f : Lane → List Parcel). f b) same in
      by_sender (IsLaneWell p u) r
      (λ to d tag.
      let b = lane r to d tag in
      let n = (t.parts r).at in
      let is = (rank_of p r).instructions in
      let old = own_lane p t r well step i s next to d tag in
      let few : length (t.lanes b) ≤ posts_in r b (take n is) = subst (λ c. length (t.lanes b) ≤ posts_in r b (take (cond c (n + 1) n) is)) before old.few in
      let more : posts_in r b (take (n + 1) is) ≡ posts_in r b (take n is) + cond (posts_on r i b) 1 0 = at.posts b in
      own_after to d tag
      (rw (here b, later)
      (by_lane (λ xs. length xs ≤ posts_in r b (take (n + 1) is)) t.lanes a (t.lanes a ++ x ∷ []) b
      (λ e.
      let l : length (t.lanes b) ≡ length (t.lanes a) = ap (λ c. length (t.lanes c)) e in
      let one : cond (posts_on r i b) 1 0 ≡ 1 = ap (λ (c : Bool). let j : ℕ = cond c 1 0 in j) (ap (posts_on r i) e ∙ posts) in
      omega (arith, length-append (t.lanes a) (x ∷ [])))
      (λ ne. omega arith)))
      (λ e on. rw (here b)
      (by_lane IsFillable t.lanes a (t.lanes a ++ x ∷ []) b (λ _. fillable_push (t.lanes a) x (waits e).1)
      (λ ne. absurd (ne (sym (same_lane a b (ap (λ o. is_on o b) (sym (waits e).0) ∙ on)))))))
      (λ h. rw (here b)
      (by_lane (All HasWire) t.lanes a (t.lanes a ++ x ∷ []) b
      (λ e. All-push HasWire (t.lanes a) x (subst (λ c. All HasWire (t.lanes c)) e (old.wired h)) (wired (subst (λ (c : Lane). is_half c.kind ≡ true) e h)))
      (λ ne. old.wired h))))
      (λ b other. other_lane_same p t r well step (events_of i) (list_of w.acts) b other
      (here b ∙ with_lane-elsewhere t.lanes a (t.lanes a ++ x ∷ []) b (other_from a b from other)))

  all_tells : (a : Lane) (m : Bool × Bool) → (after_acts r (list_of w.acts) t).lanes ≡ with_lane t.lanes a (filled (t.lanes a) m) → IsLaneCase p t r i s w (Tells a m)
      → (b : Lane) → IsLaneWell p after b
  all_tells a m same (from, posted, opens) =
      let u = event_done (events_of i) r (list_of w.acts) t in
      let ys = filled (t.lanes a) m in
      let here : (b : Lane) → u.lanes b ≡ with_lane t.lanes a (filled (t.lanes a) m) b = λ b. ap (λ (f : Lane → List Parcel). f b) same in
      by_sender (IsLaneWell p u) r
      (λ to d tag.
      let b = lane r to d tag in
      let old = own_lane p t r well step i s next to d tag in
      let size : length (with_lane t.lanes a (filled (t.lanes a) m) b) ≡ length (t.lanes b) =
      by_lane (λ xs. length xs ≡ length (t.lanes b)) t.lanes a (filled (t.lanes a) m) b
      (λ e. length-filled (t.lanes a) m ∙ ap (λ c. length (t.lanes c)) (sym e)) (λ _. refl) in
      own_after to d tag
      (rw (here b, size) (few_later (has_posted (middle_of i) s) (posted_after i s) (λ j. posts_in r b (take j (rank_of p r).instructions)) (t.parts r).at (length (t.lanes b)) posted
      (omega (arith, at.posts b)) old.few))
      (λ e on. let n : true ≡ false = sym e ∙ opens in cc)
      (λ h. rw (here b)
      (by_lane (All HasWire) t.lanes a ys b (λ e. wired_filled (t.lanes a) m (subst (λ c. All HasWire (t.lanes c)) e (old.wired h))) (λ ne. old.wired h))))
      (λ b other. other_lane_same p t r well step (events_of i) (list_of w.acts) b other
      (here b ∙ with_lane-elsewhere t.lanes a ys b (other_from a b from other)))

  -- a lane from which a parcel with bits was taken
  taken : (a b : Lane) → b ≡ a → is_some (front t a).bits ≡ true
      → (let v = t.parts b.from in IsLaneSound b (rank_of p b.from) (current p t b.from) v.at v.stage (drop 1 (t.lanes a)))
  taken a b same bits =
      let old = well b in
      let v = t.parts b.from in
      let some : is_some (front t b).bits ≡ true = subst (λ c. is_some (front t c).bits ≡ true) (sym same) bits in
      subst (λ c. IsLaneSound b (rank_of p b.from) (current p t b.from) v.at v.stage (drop 1 (t.lanes c))) same
      (record {
        few = omega (arith, old.few, length-drop 1 (t.lanes b));
        fillable = λ e on. fillable_drop (t.lanes b) some (old.fillable e on);
        wired = λ h. All-drop HasWire 1 (t.lanes b) (old.wired h);
      })

  all_takes : (a : Lane) → (after_acts r (list_of w.acts) t).lanes ≡ with_lane t.lanes a (drop 1 (t.lanes a)) → IsLaneCase p t r i s w (Takes a)
      → holds p t w.rule ≡ true → (b : Lane) → IsLaneWell p after b
  all_takes a same (posted, opens, rule, to, names) free =
      let u = event_done (events_of i) r (list_of w.acts) t in
      let ys = drop 1 (t.lanes a) in
      let here : (b : Lane) → u.lanes b ≡ with_lane t.lanes a (drop 1 (t.lanes a)) b = λ b. ap (λ (f : Lane → List Parcel). f b) same in
      let apart : a.from ≢ r = (at.partner a.from names).other in
      let bits : is_some (front t a).bits ≡ true = ap (holds p t) (sym rule) ∙ free in
      by_sender (IsLaneWell p u) r
      (λ d k tag. own_same d k tag (here (lane r d k tag) ∙ with_lane-elsewhere t.lanes a ys (lane r d k tag) (λ e. apart (sym (ap (λ (c : Lane). c.from) e)))) posted opens)
      (λ b other.
      other_lane p t r well step (events_of i) (list_of w.acts) b other
      (let v = t.parts b.from in
      subst (λ xs. IsLaneSound b (rank_of p b.from) (current p t b.from) v.at v.stage xs) (sym (here b))
      (by_lane (λ xs. IsLaneSound b (rank_of p b.from) (current p t b.from) v.at v.stage xs) t.lanes a ys b
      (λ e. taken a b e bits) (λ ne. well b))))

  by_case : (c : LaneCase) → (after_acts r (list_of w.acts) t).lanes ≡ lanes_by c t.lanes → IsLaneCase p t r i s w c → holds p t w.rule ≡ true
      → (b : Lane) → IsLaneWell p after b
  by_case Still same so free = all_still same so
  by_case (Puts a x) same so free = all_puts a x same so
  by_case (Tells a m) same so free = all_tells a m same so
  by_case (Takes a) same so free = all_takes a same so free

  -- every event of every instruction
  pub lanes_event : slice_get (rows p t r i) s ≡ Some w → (b : Lane) → IsLaneWell p (event_done (events_of i) r (list_of w.acts) t) b
  lanes_event line =
      let does = lane_case p t r i s w line in
      by_case does.case does.lanes does.so (subst (λ o. row_holds p t o ≡ true) line next.holds)
