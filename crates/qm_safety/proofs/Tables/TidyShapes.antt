-- Each event keeps the tables tidy: by act, and for each instruction what its acts find
use Rattle.std.proofs.Common.{◌≡◌, ℕ, nat_lt, Bool, true, false, List, [], ◌∷◌, Some, None, is_some, slice_get, refl, sym, ap, subst, ◌∙◌}
use Rattle.qm_denot.specs.declared.Letter.{Letter}
use Rattle.qm_denot.specs.declared.Letter.TheVariants.{Phase, Flip}
use Rattle.qm_denot.specs.declared.Wire.{Wire}
use Rattle.qm_instr.specs.declared.Instr.{Instr}
use Rattle.qm_instr.specs.declared.Instr.TheVariants as instr
use Rattle.qm_instr.specs.declared.Kind.TheVariants as kind
use Rattle.qm_instr.specs.declared.Lane.{Lane}
use Rattle.qm_instr.specs.Counts.{events_of}
use Rattle.qm_instr.specs.Lanes.{lane}
use Rattle.qm_instr.specs.Programs.{Programs}
use Rattle.qm_check.proofs.Faultless.{IsStep}
use Rattle.qm_proto.specs.declared.Row.{Row}
use Rattle.qm_proto.specs.declared.Act.{Act}
use Rattle.qm_proto.specs.declared.Act.TheVariants.{ProtocolUsed, Posts, Receives, Settle, Twin}
use Rattle.qm_proto.specs.Model.State.{Tables, far_made, wire_in, bit_of, front, wire_of, first_bit, second_bit}
use Rattle.qm_proto.specs.Model.Acts.{list_of, after_acts, after_act}
use Rattle.qm_proto.specs.Model.Rows.{rows, instr_at, current, half_parcel, bit_parcel, letter, gate_letter, few_if}
use Rattle.qm_proto.specs.Model.Tidy.{IsTidy, IsPostable, IsInHand}
use Rattle.qm_proto.proofs.TidyActs.{AllKeepTidy, tidy_all_done, tidy_part, received_in_hand, twin_postable}
use Rattle.qm_proto.specs.Model.Runs.{part_after_event}
use Rattle.qm_safety.specs.Tables.Well.{is_half, keeps_half, IsRankWell, IsLaneWell}
use Rattle.qm_safety.proofs.Tables.NextEvents.{IsNext, event_done}
use Rattle.qm_safety.proofs.Tables.RankSteps.{none_is, standing}
use Rattle.qm_safety.proofs.Tables.FarSteps.{front_wire}
use Rattle.qm_proto.proofs.Lines.{EachFrom, at_stage}
use Rattle.qm_proto.proofs.Positions.{moved_made}

module _ (p : Programs) (t : Tables) (r : ℕ) (tidy : IsTidy t) where
  pub tidy_event : (n : ℕ) (acts : List Act) → AllKeepTidy r acts t → IsTidy (event_done n r acts t)
  tidy_event n acts keeps =
      let u = after_acts r acts t in
      tidy_part u r (part_after_event n (u.parts r)) (tidy_all_done r acts t tidy keeps) (moved_made n (u.parts r))

-- ---- acts that find what they need
-- a parcel without a wire may be posted
told_postable : (t : Tables) (a : Lane) (m : Bool) → IsPostable t a (bit_parcel m)
told_postable t a m = record { half = λ w e. cc; free = λ w e. cc }

-- a half in hand is so after an outcome is used
hand_after_use : (t : Tables) (r : ℕ) (f : Wire) → IsInHand t r f → IsInHand (after_act r ProtocolUsed t) r f
hand_after_use t r f hand =
    record { half = hand.half; free = λ (c, k, h). hand.free (c, k, record { parcel = h.parcel; there = h.there; wire = h.wire }) }

-- a letter that is done or not
if_keeps : (r : ℕ) (b : Bool) (l : Letter) (t : Tables) → AllKeepTidy r (list_of (few_if b (letter l))) t
if_keeps r true l t = (tt, tt)
if_keeps r false l t = tt

module _ (p : Programs) (t : Tables) (r : ℕ) (tidy : IsTidy t) (well : IsRankWell p t r) (lanes : (b : Lane) → IsLaneWell p t b)
    (held : keeps_half (current p t r) ≡ true → nat_lt 0 (t.parts r).stage ≡ true → IsInHand t r (wire_of (t.parts r).taken))
    (step : (i : Instr) → instr_at p r (t.parts r).at ≡ Some i → IsStep p r (t.parts r).at i) where
  -- the acts of a line that is next find what they need
  pub record Finds (i : Instr) (s : ℕ) (w : Row) : Type 0 where
    pub keeps : IsNext p t r i s → AllKeepTidy r (list_of w.acts) t

  plainly : {i : Instr} {s : ℕ} {w : Row} → AllKeepTidy r (list_of w.acts) t → Finds i s w
  plainly h = record { keeps = λ _. h }

  pair : (i : Instr) (s : ℕ) (w : Row) (a : Lane) → list_of w.acts ≡ Twin a.to ∷ Posts a (half_parcel (far_made t r)) ∷ [] → Finds i s w
  pair i s w a is = record {
    keeps = λ _.
        let all : AllKeepTidy r (Twin a.to ∷ Posts a (half_parcel (far_made t r)) ∷ []) t = (tt, (twin_postable r a.to t a tidy refl, tt)) in
        subst (λ xs. AllKeepTidy r xs t) (sym is) all;
  }

  settle : (i : Instr) (w : Row) (a : Lane) (q : ℕ) → is_half a.kind ≡ true → a.to ≡ r → (IsNext p t r i 0 → is_some (front t a).bits ≡ true)
      → (IsNext p t r i 0 → t.slots r q ≡ None) → list_of w.acts ≡ Receives a ∷ Settle (wire_of (front t a)) q ∷ [] → Finds i 0 w
  settle i w a q carries to bits empty is = record {
    keeps = λ next.
        let f = wire_of (front t a) in
        let wire : (front t a).wire ≡ Some f = front_wire (t.lanes a) ((lanes a).wired carries) (bits next) in
        let hand : IsInHand (after_act r (Receives a) t) r f = subst (λ k. IsInHand (after_act k (Receives a) t) k f) to (received_in_hand t a f tidy wire) in
        let all : AllKeepTidy r (Receives a ∷ Settle f q ∷ []) t = (tt, ((hand, empty next), tt)) in
        subst (λ xs. AllKeepTidy r xs t) (sym is) all;
  }

  table : (i : Instr) → EachFrom (Finds i) 0 (rows p t r i)
  table (instr.Alloc q) = (record { keeps = λ next. let i = instr.Alloc q in (none_is (t.slots r q) ((standing p t r i 0 next well).full q ∙ (step i next.read).slots), tt) }, tt)
  table (instr.CopyTo q to tag) = (pair _ 0 _ (lane r to kind.Copy tag) refl, (plainly (tt, tt), (plainly (tt, (tt, (tt, tt))), tt)))
  table (instr.MoveTo q to tag) =
      (pair _ 0 _ (lane r to kind.Move tag) refl, (plainly (tt, tt), (plainly (tt, tt), (plainly (tt, (tt, (tt, tt))), (plainly (tt, (tt, (tt, tt))), tt)))))
  table (instr.ReachTo q to tag) = (
    pair _ 0 _ (lane r to kind.Reach tag) refl,
    (
      plainly (tt, tt),
      (
        plainly (tt, (tt, (tt, tt))),
        (
          plainly (tt, tt),
          (plainly (if_keeps r (first_bit (t.parts r).taken) (Phase 4 (wire_in t r q)) t), tt),
        ),
      ),
    ),
  )
  table (instr.CopyFrom q from tag) =
      let i = instr.CopyFrom q from tag in
      let x = (t.parts r).taken in (
        settle i _ (lane from r kind.Copy tag) q refl refl (λ next. next.holds)
            (λ next. none_is (t.slots r q) ((standing p t r i 0 next well).full q ∙ (step i next.read).slots)) refl,
        (plainly (if_keeps r (first_bit x) (Flip (wire_of x)) t), tt),
      )
  table (instr.MoveFrom q from tag) =
      let i = instr.MoveFrom q from tag in
      let x = (t.parts r).taken in (
        settle i _ (lane from r kind.Move tag) q refl refl (λ next. next.holds)
            (λ next. none_is (t.slots r q) ((standing p t r i 0 next well).full q ∙ (step i next.read).slots)) refl,
        (plainly (if_keeps r (first_bit x) (Flip (wire_of x)) t), (plainly (if_keeps r (second_bit x) (Phase 4 (wire_of x)) t), tt)),
      )
  table (instr.UndoTo q to tag) = (plainly (tt, tt), (plainly (tt, (tt, (told_postable _ _ _, tt))), tt))
  table (instr.UndoFrom q from tag) = (plainly (tt, tt), (plainly (if_keeps r (first_bit (t.parts r).taken) (Phase 4 (wire_in t r q)) t), tt))
  table (instr.ReachFrom q from tag) =
      let f = wire_of (t.parts r).taken in (
        plainly (tt, tt),
        (
          plainly (if_keeps r (first_bit (t.parts r).taken) (Flip f) t),
          (
            plainly (tt, tt),
            (
              plainly (tt, tt),
              (record { keeps = λ next. (tt, (hand_after_use t r f (held (ap keeps_half next.read) (ap (nat_lt 0) next.stage)), (told_postable _ _ _, tt))) }, tt),
            ),
          ),
        ),
      )
  table (instr.SendBit b to tag) = (plainly (told_postable _ _ _, tt), tt)
  table (instr.When b g) = (plainly (if_keeps r (bit_of t r b) (gate_letter (wire_in t r) g) t), tt)
  table (instr.Do g) = (plainly (tt, tt), tt)
  table (instr.Free q) = (plainly (tt, tt), tt)
  table (instr.Measure q b) = (plainly (tt, (tt, (tt, tt))), tt)
  table (instr.Set b v) = (plainly (tt, tt), tt)
  table (instr.Xor b c) = (plainly (tt, tt), tt)
  table (instr.RecvBit b from tag) = (plainly (tt, (tt, tt)), tt)

  -- every event of every instruction
  pub keeps_tidy : (i : Instr) (s : ℕ) (w : Row) → IsNext p t r i s → slice_get (rows p t r i) s ≡ Some w → AllKeepTidy r (list_of w.acts) t
  keeps_tidy i s w next line = (at_stage (Finds i) (rows p t r i) s w (table i) line).keeps next

  pub tidy_after : (i : Instr) (s : ℕ) (w : Row) → IsNext p t r i s → slice_get (rows p t r i) s ≡ Some w → IsTidy (event_done (events_of i) r (list_of w.acts) t)
  tidy_after i s w next line = tidy_event p t r tidy (events_of i) (list_of w.acts) (keeps_tidy i s w next line)
