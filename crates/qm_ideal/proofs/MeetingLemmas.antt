-- With buffers of one, where ranks stand and which parcels have bits decide who is enabled
use Rattle.std.proofs.Common.{◌≡◌, ◌∙◌, ℕ, zero, suc, ◌+◌, nat_eq, nat_lt, Bool, true, false, ◌&&◌, ◌||◌, cond, List, [], ◌∷◌, ◌++◌, length, map, drop, fold, Option, Some, None, is_some, slice_get, slice_index_or, refl, sym, ap, ap₂, arith}
use Rattle.std.proofs.Math.Path.{fun_ext}
use Rattle.std.proofs.lemmas.Bool.{le-ltb}
use Rattle.std.proofs.lemmas.List.{length-map, map-append, drop-map}
use Rattle.qm_denot.specs.Parcels.{filled}
use Rattle.qm_instr.specs.declared.Instr.{Instr}
use Rattle.qm_instr.specs.declared.Lane.{Lane}
use Rattle.qm_instr.specs.Programs.{Programs, RankProgram, rank_of}
use Rattle.qm_proto.specs.declared.Act.{Act}
use Rattle.qm_proto.specs.declared.Act.TheVariants.{Fresh, Twin, Apply, SlotOut, NearOut, FarOut, Settle, Posts, Fills, Receives, OwnUsed, ProtocolUsed, FirstKept, BitSet}
use Rattle.qm_denot.specs.declared.Parcel.{Parcel}
use Rattle.qm_proto.specs.declared.Row.{Row}
use Rattle.qm_proto.specs.declared.Rule.{Rule}
use Rattle.qm_proto.specs.declared.Rule.TheVariants.{Always, PairRoom, Engaged, Filled}
use Rattle.qm_proto.specs.Model.Acts.{list_of, after_act, after_acts}
use Rattle.qm_proto.specs.Model.Rows.{rows, current, instr_at}
use Rattle.qm_proto.specs.Model.Runs.{row_in, row_next, row_holds, enabled, has_event, holds, halves, is_wanted, receives_on, part_after_event, events_at, row_tables, next_tables}
use Rattle.qm_proto.specs.Model.Schedules.{with_buffer_of_one, with_buffers_of_one}
use Rattle.qm_proto.specs.Model.State.{Part, Tables, with_at, with_lane, no_parcel}
use Rattle.qm_proto.proofs.Changes.{by_lane, by_number, with_at-here, with_at-elsewhere}
use Rattle.qm_proto.proofs.Positions.{all_at_kept, all_stage_kept}
use Rattle.qm_confluence.specs.Stuck.Shapes.{moves, Shape, shape_of}
use Rattle.qm_ideal.specs.Meetings.{Stand, has_bits, stand_of, last_set, lanes_after, shape_in, shape_next, is_wanted_at, rule_holds, shape_holds, may_go, stand_past, go}
use Rattle.qm_confluence.proofs.Stuck.Rendezvous.{one_rank}
use Rattle.qm_confluence.proofs.Stuck.Shapes.{rows_shapes}

-- ---- the lines of an instruction have its shapes
-- the shape of a row, where there is one
shape_in_row : Option Row → Option Shape
shape_in_row None = None
shape_in_row (Some w) = Some (shape_of w)

get_shape : (ws : List Row) (k : ℕ) → slice_get (map shape_of ws) k ≡ shape_in_row (slice_get ws k)
unfolding shape_in_row
get_shape [] k = refl
get_shape (w ∷ ws) zero = refl
get_shape (w ∷ ws) (suc k) = get_shape ws k

row_shape : (p : Programs) (t : Tables) (r : ℕ) (o : Option Instr) → shape_in r (t.parts r).stage o ≡ shape_in_row (row_in p t r o)
unfolding shape_in_row
row_shape p t r None = refl
row_shape p t r (Some i) = ap (λ ss. slice_get ss (t.parts r).stage) (sym (rows_shapes p t r i)) ∙ get_shape (rows p t r i) (t.parts r).stage

next_shape : (p : Programs) (t : Tables) (r : ℕ) → shape_next (instr_at p) (stand_of t) r ≡ shape_in_row (row_next p t r)
next_shape p t r = row_shape p t r (current p t r)

-- whether a rank has an event left
pub left_same : (p : Programs) (t : Tables) (r : ℕ) → has_event p t r ≡ is_some (shape_next (instr_at p) (stand_of t) r)
unfolding shape_in_row
left_same p t r = by_row (row_next p t r) ∙ ap is_some (sym (next_shape p t r))
  where
    by_row : (o : Option Row) → is_some o ≡ is_some (shape_in_row o)
    by_row None = refl
    by_row (Some w) = refl

-- ---- who is enabled
front_told : (xs : List Parcel) → is_some (slice_index_or xs 0 no_parcel).bits ≡ slice_index_or (map has_bits xs) 0 false
front_told [] = refl
front_told (x ∷ xs) = refl

module _ (p : Programs) (small : (r : ℕ) → (rank_of p r).buffer ≡ 1) (t : Tables) where
  wanted_same : (a : Lane) → is_wanted p t a ≡ is_wanted_at (instr_at p) (stand_of t) a
  wanted_same a =
      ap (λ n. nat_eq (t.parts a.to).stage 0 && (receives_on a.to (current p t a.to) a && nat_eq n 0)) (sym (length-map (t.lanes a) has_bits))

  no_room : (a : Lane) → nat_lt (halves t a.to + 1) (rank_of p a.to).buffer ≡ false
  no_room a = ap (nat_lt (halves t a.to + 1)) (small a.to) ∙ never (halves t a.to)
    where
      never : (n : ℕ) → nat_lt (n + 1) 1 ≡ false
      never n = le-ltb (n + 1) 1 (omega arith)

  rule_same : (rule : Rule) → holds p t rule ≡ rule_holds (instr_at p) (stand_of t) rule
  rule_same Always = refl
  rule_same (PairRoom a) = ap (λ b. b || is_wanted p t a) (no_room a) ∙ wanted_same a
  rule_same (Engaged a) = wanted_same a
  rule_same (Filled a) = front_told (t.lanes a)

  pub able_same : (r : ℕ) → enabled p t r ≡ may_go (instr_at p) (stand_of t) r
  unfolding shape_in_row
  able_same r = by_row (row_next p t r) ∙ ap (shape_holds (instr_at p) (stand_of t)) (sym (next_shape p t r))
    where
      by_row : (o : Option Row) → row_holds p t o ≡ shape_holds (instr_at p) (stand_of t) (shape_in_row o)
      by_row None = refl
      by_row (Some w) = rule_same w.rule

-- ---- an event
filled_told : (xs : List Parcel) (b : Bool × Bool) → map has_bits (filled xs b) ≡ last_set (map has_bits xs) true
filled_told [] b = refl
filled_told (x ∷ []) b = refl
filled_told (x ∷ y ∷ xs) b = ap (λ bs. has_bits x ∷ bs) (filled_told (y ∷ xs) b)

told : (Lane → List Parcel) → Lane → List Bool
told f a = map has_bits (f a)

told_with : (f : Lane → List Parcel) (a : Lane) (xs : List Parcel) → told (with_lane f a xs) ≡ with_lane (told f) a (map has_bits xs)
unfolding told
told_with f a xs =
    fun_ext (λ b. by_lane (λ ys. map has_bits ys ≡ with_lane (told f) a (map has_bits xs) b) f a xs b
    (λ e. sym (by_lane (λ ys. ys ≡ map has_bits xs) (told f) a (map has_bits xs) b (λ _. refl) (λ apart. absurd (apart e))))
    (λ apart. sym (by_lane (λ ys. ys ≡ map has_bits (f b)) (told f) a (map has_bits xs) b (λ e. absurd (apart e)) (λ _. refl))))

lanes_moved : (r : ℕ) (acts : List Act) (t : Tables) → told (after_acts r acts t).lanes ≡ fold lanes_after (told t.lanes) (moves acts)
unfolding told
lanes_moved r [] t = refl
lanes_moved r (Posts a x ∷ acts) t =
    lanes_moved r acts (after_act r (Posts a x) t)
    ∙ ap (λ f. fold lanes_after f (moves acts)) (told_with t.lanes a (t.lanes a ++ x ∷ []) ∙ ap (with_lane (told t.lanes) a) (map-append has_bits (t.lanes a) (x ∷ [])))
lanes_moved r (Fills a b ∷ acts) t =
    lanes_moved r acts (after_act r (Fills a b) t)
    ∙ ap (λ f. fold lanes_after f (moves acts)) (told_with t.lanes a (filled (t.lanes a) b) ∙ ap (with_lane (told t.lanes) a) (filled_told (t.lanes a) b))
lanes_moved r (Receives a ∷ acts) t =
    lanes_moved r acts (after_act r (Receives a) t)
    ∙ ap (λ f. fold lanes_after f (moves acts)) (told_with t.lanes a (drop 1 (t.lanes a)) ∙ ap (with_lane (told t.lanes) a) (sym (drop-map has_bits 1 (t.lanes a))))
lanes_moved r (Fresh q ∷ acts) t = lanes_moved r acts (after_act r (Fresh q) t)
lanes_moved r (Twin to ∷ acts) t = lanes_moved r acts (after_act r (Twin to) t)
lanes_moved r (Apply l ∷ acts) t = lanes_moved r acts (after_act r (Apply l) t)
lanes_moved r (SlotOut q m ∷ acts) t = lanes_moved r acts (after_act r (SlotOut q m) t)
lanes_moved r (NearOut m ∷ acts) t = lanes_moved r acts (after_act r (NearOut m) t)
lanes_moved r (FarOut f m ∷ acts) t = lanes_moved r acts (after_act r (FarOut f m) t)
lanes_moved r (Settle f q ∷ acts) t = lanes_moved r acts (after_act r (Settle f q) t)
lanes_moved r (OwnUsed ∷ acts) t = lanes_moved r acts (after_act r OwnUsed t)
lanes_moved r (ProtocolUsed ∷ acts) t = lanes_moved r acts (after_act r ProtocolUsed t)
lanes_moved r (FirstKept m ∷ acts) t = lanes_moved r acts (after_act r (FirstKept m) t)
lanes_moved r (BitSet b v ∷ acts) t = lanes_moved r acts (after_act r (BitSet b v) t)

stands_same : (s u : Stand) → s.at ≡ u.at → s.stage ≡ u.stage → s.lanes ≡ u.lanes → s ≡ u
stands_same s u at stage lanes =
    ap (λ f. let x : Stand = record { at = f; stage = s.stage; lanes = s.lanes } in x) at
    ∙ ap (λ f. let x : Stand = record { at = u.at; stage = f; lanes = s.lanes } in x) stage
    ∙ ap (λ f. let x : Stand = record { at = u.at; stage = u.stage; lanes = f } in x) lanes

moved_at : (b : Bool) (x : Part) → (cond b (record x { stage = x.stage + 1 }) (record x { at = x.at + 1; stage = 0 })).at ≡ cond b x.at (x.at + 1)
moved_at true x = refl
moved_at false x = refl

moved_stage : (b : Bool) (x : Part) → (cond b (record x { stage = x.stage + 1 }) (record x { at = x.at + 1; stage = 0 })).stage ≡ cond b (x.stage + 1) 0
moved_stage true x = refl
moved_stage false x = refl

module _ (p : Programs) (t : Tables) (r n : ℕ) (w : Row) where
  abbrev acted : Tables
  acted = after_acts r (list_of w.acts) t

  at_r : (k : ℕ) → ((acted).parts k).at ≡ (t.parts k).at
  at_r k = all_at_kept r k (list_of w.acts) t

  stage_r : (k : ℕ) → ((acted).parts k).stage ≡ (t.parts k).stage
  stage_r k = all_stage_kept r k (list_of w.acts) t

  event_done : stand_of (row_tables n r (Some w) t) ≡ stand_past n (stand_of t) r (Some (shape_of w))
  unfolding told
  event_done =
      let s = stand_of t in
      let u = acted.parts in
      let v = row_tables n r (Some w) t in
      let more = nat_lt (s.stage r + 1) n in
      let x = part_after_event n (u r) in
      stands_same (stand_of v) (stand_past n s r (Some (shape_of w)))
      (fun_ext (by_number (λ k. (v.parts k).at ≡ with_at s.at r (cond more (s.at r) (s.at r + 1)) k) r
      (ap (λ (y : Part). y.at) (with_at-here u r x) ∙ moved_at (nat_lt ((u r).stage + 1) n) (u r)
      ∙ ap₂ (λ i j. cond (nat_lt (i + 1) n) j (j + 1)) (stage_r r) (at_r r) ∙ sym (with_at-here s.at r (cond more (s.at r) (s.at r + 1))))
      (λ k other. ap (λ (y : Part). y.at) (with_at-elsewhere u r x k other) ∙ at_r k ∙ sym (with_at-elsewhere s.at r _ k other))))
      (fun_ext (by_number (λ k. (v.parts k).stage ≡ with_at s.stage r (cond more (s.stage r + 1) 0) k) r
      (ap (λ (y : Part). y.stage) (with_at-here u r x) ∙ moved_stage (nat_lt ((u r).stage + 1) n) (u r)
      ∙ ap (λ i. cond (nat_lt (i + 1) n) (i + 1) 0) (stage_r r) ∙ sym (with_at-here s.stage r (cond more (s.stage r + 1) 0)))
      (λ k other. ap (λ (y : Part). y.stage) (with_at-elsewhere u r x k other) ∙ stage_r k ∙ sym (with_at-elsewhere s.stage r _ k other))))
      (lanes_moved r (list_of w.acts) t)

pub next_same : (p : Programs) (t : Tables) (r : ℕ) → stand_of (next_tables p t r) ≡ go (instr_at p) (stand_of t) r
unfolding shape_in_row
next_same p t r = by_row (row_next p t r) ∙ ap (stand_past (events_at (current p t r)) (stand_of t) r) (sym (next_shape p t r))
  where
    by_row : (o : Option Row) → stand_of (row_tables (events_at (current p t r)) r o t) ≡ stand_past (events_at (current p t r)) (stand_of t) r (shape_in_row o)
    by_row None = refl
    by_row (Some w) = event_done p t r (events_at (current p t r)) w

-- ---- programs with buffers of one have the same instructions
pub same_reader : (p : Programs) → instr_at (with_buffers_of_one p) ≡ instr_at p
same_reader p = fun_ext (λ r. fun_ext (λ k. ap (λ (x : RankProgram). slice_get x.instructions k) (one_rank p.ranks r)))

pub same_count : (p : Programs) → length (with_buffers_of_one p).ranks ≡ length p.ranks
same_count p = length-map p.ranks with_buffer_of_one
