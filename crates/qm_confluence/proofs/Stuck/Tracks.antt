-- In a run each lane has what its sender has put there by itself, less what its receiver has taken
use Rattle.std.proofs.Common.{◌≡◌, ℕ, suc, ◌+◌, nat_lt, Bool, true, false, cond, List, map, fold, Option, Some, None, is_some, slice_get, inl, inr, refl, sym, ap, subst, ◌∙◌}
use Rattle.std.specs.Option.{option_map}
use Rattle.std.proofs.lemmas.Bool.{cases_eq}
use Rattle.std.proofs.lemmas.Option.{slice_get-map}
use Rattle.qm_instr.specs.declared.Instr.{Instr}
use Rattle.qm_instr.specs.declared.Lane.{Lane}
use Rattle.qm_instr.specs.Programs.{Programs, rank_of}
use Rattle.qm_instr.specs.Lanes.{is_lane}
use Rattle.qm_instr.proofs.LaneOrder.{same_lane}
use Rattle.qm_proto.specs.declared.Rule.TheVariants.{Filled}
use Rattle.qm_proto.specs.Model.State.{Part, Tables, with_at, front}
use Rattle.qm_proto.specs.declared.Row.{Row}
use Rattle.qm_proto.specs.Model.Acts.{list_of, after_acts}
use Rattle.qm_proto.specs.Model.Rows.{rows, current}
use Rattle.qm_proto.specs.Model.Runs.{row_in, row_next, row_holds, row_tables, holds, enabled, events_at, part_after_event, next_tables}
use Rattle.qm_proto.proofs.Changes.{with_at-here, with_at-elsewhere}
use Rattle.qm_proto.proofs.Positions.{position, position_kept, over_acts}
use Rattle.qm_confluence.specs.Stuck.Shapes.{Shape, shape_of}
use Rattle.qm_confluence.proofs.Stuck.Shapes.{rows_shapes, Fits, fits}
use Rattle.qm_confluence.proofs.Stuck.LaneFits.{has_bits, seen_by, acts_seen, LaneFits, fits_next, told_else, taken_else, front_seen}
use Rattle.qm_confluence.proofs.Stuck.Alone.{Alone, told_by, taken_by, past, shape_in, shape_next, stepped, alone}

-- ---- where a rank stands after an event
place_moved : (n : ℕ) (x : Part) → position (part_after_event n x) ≡ past n (position x)
place_moved n x = by_bool (nat_lt (x.stage + 1) n)
  where
    by_bool : (b : Bool) → position (cond b (record x { stage = x.stage + 1 }) (record x { at = x.at + 1; stage = 0 })) ≡ cond b (x.at, x.stage + 1) (x.at + 1, 0)
    by_bool true = refl
    by_bool false = refl

-- ---- tables whose ranks have had so many events
abbrev pub lists : Programs → ℕ → List Instr
lists p r = (rank_of p r).instructions

-- each rank stands where it stands by itself after as many events, and each lane is what its sender has told by itself, past what its
-- receiver has taken
pub record Tracks (is : ℕ → List Instr) (t : Tables) (n : ℕ → ℕ) : Type 0 where
  pub place : (r : ℕ) → position (t.parts r) ≡ (alone r (is r) (n r)).place
  pub lanes : (c : Lane) → LaneFits (map has_bits (t.lanes c)) ((alone c.to (is c.to) (n c.to)).taken c) ((alone c.from (is c.from) (n c.from)).told c)

-- the next event of an enabled rank
pub record HasRow (p : Programs) (t : Tables) (r : ℕ) : Type 0 where
  pub row : Row
  pub next : row_next p t r ≡ Some row
  pub holds : holds p t row.rule ≡ true

pub has_row : (p : Programs) (t : Tables) (r : ℕ) → enabled p t r ≡ true → HasRow p t r
has_row p t r able = by_row (row_next p t r) refl able
  where
    by_row : (o : Option Row) → row_next p t r ≡ o → row_holds p t o ≡ true → HasRow p t r
    by_row None e h = cc
    by_row (Some w) e h = record { row = w; next = e; holds = h }

-- its shape
pub shape_same : (p : Programs) (t : Tables) (r : ℕ) → shape_next r (lists p r) (position (t.parts r)) ≡ option_map shape_of (row_next p t r)
shape_same p t r = by_current (current p t r)
  where
    by_current : (o : Option Instr) → shape_in r (t.parts r).stage o ≡ option_map shape_of (row_in p t r o)
    by_current None = refl
    by_current (Some i) = ap (λ hs. slice_get hs (t.parts r).stage) (sym (rows_shapes p t r i)) ∙ slice_get-map shape_of (rows p t r i) (t.parts r).stage

pub fits_in : (r s : ℕ) (o : Option Instr) (h : Shape) → shape_in r s o ≡ Some h → Fits r h
fits_in r s None h e = cc
fits_in r s (Some i) h e = fits r i s h e

module _ (p : Programs) (t : Tables) (n : ℕ → ℕ) (old : Tracks (lists p) t n) (r : ℕ) (able : enabled p t r ≡ true) where
  abbrev w : HasRow p t r
  w = has_row p t r able

  abbrev h : Shape
  h = shape_of w.row

  abbrev events : ℕ
  events = events_at (current p t r)

  abbrev before : ℕ → Alone
  before k = alone k (lists p k) (n k)

  abbrev after : ℕ → Alone
  after k = alone k (lists p k) (with_at n r (suc (n r)) k)

  shape_is : shape_next r (lists p r) (position (t.parts r)) ≡ Some h
  shape_is = shape_same p t r ∙ ap (option_map shape_of) w.next

  h_fits : Fits r h
  h_fits = fits_in r (t.parts r).stage (current p t r) h shape_is

  own : alone r (lists p r) (suc (n r)) ≡ stepped events (Some h) (before r)
  own =
      ap (λ (x : ℕ × ℕ). stepped (events_at (slice_get (lists p r) x.0)) (shape_next r (lists p r) x) (before r)) (sym (old.place r))
      ∙ ap (λ o. stepped events o (before r)) shape_is

  tables : next_tables p t r ≡ row_tables events r (Some w.row) t
  tables = ap (λ o. row_tables events r o t) w.next

  place_after : (k : ℕ) → position ((row_tables events r (Some w.row) t).parts k) ≡ (after k).place
  place_after k = elim (cases_eq k r) [
    | inl e ↦ subst (λ k. position ((row_tables events r (Some w.row) t).parts k) ≡ (after k).place) (sym e) here
    | inr ne ↦
        let u = after_acts r (list_of w.row.acts) t in
        ap position (with_at-elsewhere u.parts r (part_after_event events (u.parts r)) k ne) ∙ over_acts (λ (t : Tables). position (t.parts k)) r (position_kept r k) (list_of w.row.acts) t
        ∙ old.place k ∙ ap (λ m. (alone k (lists p k) m).place) (sym (with_at-elsewhere n r (suc (n r)) k ne))
  ]
    where
      here : position ((row_tables events r (Some w.row) t).parts r) ≡ (after r).place
      here =
          let u = after_acts r (list_of w.row.acts) t in
          ap position (with_at-here u.parts r (part_after_event events (u.parts r))) ∙ place_moved events (u.parts r)
          ∙ ap (past events) (over_acts (λ (t : Tables). position (t.parts r)) r (position_kept r r) (list_of w.row.acts) t ∙ old.place r)
          ∙ ap (λ (s : Alone). s.place) (sym own) ∙ ap (λ m. (alone r (lists p r) m).place) (sym (with_at-here n r (suc (n r))))

  told_after : (c : Lane) → fold (told_by c) ((before c.from).told c) h.moves ≡ (after c.from).told c
  told_after c = elim (cases_eq c.from r) [
    | inl e ↦ subst (λ k. fold (told_by c) ((before k).told c) h.moves ≡ (after k).told c) (sym e)
        (ap (λ (s : Alone). s.told c) (sym own) ∙ ap (λ m. (alone r (lists p r) m).told c) (sym (with_at-here n r (suc (n r)))))
    | inr ne ↦ told_else c r h.rule h.moves h_fits.moves ne ((before c.from).told c) ∙ ap (λ m. (alone c.from (lists p c.from) m).told c) (sym (with_at-elsewhere n r (suc (n r)) c.from ne))
  ]

  taken_after : (c : Lane) → fold (taken_by c) ((before c.to).taken c) h.moves ≡ (after c.to).taken c
  taken_after c = elim (cases_eq c.to r) [
    | inl e ↦ subst (λ k. fold (taken_by c) ((before k).taken c) h.moves ≡ (after k).taken c) (sym e)
        (ap (λ (s : Alone). s.taken c) (sym own) ∙ ap (λ m. (alone r (lists p r) m).taken c) (sym (with_at-here n r (suc (n r)))))
    | inr ne ↦ taken_else c r h.rule h.moves h_fits.moves ne ((before c.to).taken c) ∙ ap (λ m. (alone c.to (lists p c.to) m).taken c) (sym (with_at-elsewhere n r (suc (n r)) c.to ne))
  ]

  front_ready : (c a : Lane) → h.rule ≡ Filled a → is_lane c a ≡ true → slice_get (map has_bits (t.lanes c)) 0 ≡ Some true
  front_ready c a rule same =
      front_seen (t.lanes c)
      (subst (λ d. is_some (front t d).bits ≡ true) (sym (same_lane c a same)) (subst (λ x. holds p t x ≡ true) rule w.holds))

  lanes_after : (c : Lane) → LaneFits (map has_bits ((row_tables events r (Some w.row) t).lanes c)) ((after c.to).taken c) ((after c.from).told c)
  lanes_after c =
      let x = fits_next c r h.rule h.moves h_fits.moves (map has_bits (t.lanes c)) ((before c.to).taken c) ((before c.from).told c) (old.lanes c) (front_ready c) in
      subst (λ xs. LaneFits xs ((after c.to).taken c) ((after c.from).told c)) (sym (acts_seen r c (list_of w.row.acts) t))
      (subst (λ k. LaneFits (fold (seen_by c) (map has_bits (t.lanes c)) h.moves) k ((after c.from).told c)) (taken_after c)
      (subst (λ hs. LaneFits (fold (seen_by c) (map has_bits (t.lanes c)) h.moves) (fold (taken_by c) ((before c.to).taken c) h.moves) hs) (told_after c) x))

  -- after the event of an enabled rank it has had one more
  pub tracks_next : Tracks (lists p) (next_tables p t r) (with_at n r (suc (n r)))
  tracks_next = subst (λ u. Tracks (lists p) u (with_at n r (suc (n r)))) (sym tables) (record { place = place_after; lanes = lanes_after })
