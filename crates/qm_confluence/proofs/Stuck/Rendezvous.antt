-- The first event of the rendezvous run past a state in which no rank is enabled would be enabled there
use mathlib.Core.Path.{fun_ext}
use Rattle.std.proofs.Common.{◌≡◌, ℕ, zero, suc, ◌+◌, ◌≤◌, ◌<◌, nat_lt, nat_eq, Bool, true, false, cond, ◌&&◌, ◌||◌, List, [], ◌∷◌, length, map, drop, fold, Option, Some, None, is_some, slice_get, slice_index_or, inl, inr, refl, sym, ap, ap₂, subst, ◌∙◌, arith, length-drop}
use Rattle.std.specs.Option.{option_map}
use Rattle.std.proofs.lemmas.Bool.{and_parts, cases_eq, eqb-true, ltb-true}
use Rattle.std.proofs.lemmas.List.{length-map}
use Rattle.std.proofs.lemmas.Option.{same_Some}
use Rattle.qm_instr.specs.declared.Instr.{Instr}
use Rattle.qm_instr.specs.declared.Lane.{Lane}
use Rattle.qm_instr.specs.Programs.{RankProgram, Programs, rank_of, idle_rank}
use Rattle.qm_instr.proofs.LaneOrder.{lane_itself}
use Rattle.qm_proto.specs.declared.Rule.{Rule}
use Rattle.qm_proto.specs.declared.Rule.TheVariants.{Always, PairRoom, Engaged, Filled}
use Rattle.qm_proto.specs.Model.State.{Tables, State, with_at}
use Rattle.qm_proto.specs.declared.Row.{Row}
use Rattle.qm_proto.specs.Model.Rows.{current}
use Rattle.qm_proto.specs.Model.Runs.{row_next, row_holds, holds, enabled, has_event, events_at, halves, receives_on, is_wanted, next_tables, next}
use Rattle.qm_proto.specs.Model.Schedules.{tables_at_start, state_at_start, replay, IsLegal, IsLegalFrom, NoneEnabled, IsMeetingFrom, RendezvousEnds, with_buffer_of_one, with_buffers_of_one}
use Rattle.qm_proto.proofs.Changes.{by_rank}
use Rattle.qm_proto.proofs.Positions.{position}
use Rattle.qm_confluence.specs.Stuck.NeverStuck.{NeverStuck, EndsComplete, NeverStuckLaw}
use Rattle.qm_confluence.specs.Stuck.Shapes.{Shape, shape, shape_of, Gets}
use Rattle.qm_confluence.proofs.Stuck.Shapes.{RuleFits, first_gets}
use Rattle.qm_confluence.proofs.Stuck.Alone.{Alone, shape_in, shape_next, stepped, alone, grows, stays}
use Rattle.qm_confluence.proofs.Stuck.LaneFits.{has_bits, taken_few, get_drop, front_seen, seen_front}
use Rattle.qm_confluence.proofs.Stuck.Tracks.{lists, Tracks, has_row, shape_same, fits_in, tracks_next}

-- ---- the programs with buffers of one
pub one_rank : (xs : List RankProgram) (r : ℕ) → slice_index_or (map with_buffer_of_one xs) r idle_rank ≡ with_buffer_of_one (slice_index_or xs r idle_rank)
one_rank [] r = refl
one_rank (x ∷ xs) zero = refl
one_rank (x ∷ xs) (suc r) = one_rank xs r

same_lists : (p : Programs) → lists (with_buffers_of_one p) ≡ lists p
same_lists p = fun_ext (λ r. ap (λ (x : RankProgram). x.instructions) (one_rank p.ranks r))

pub small : (p : Programs) (r : ℕ) → (rank_of (with_buffers_of_one p) r).buffer ≡ 1
small p r = ap (λ (x : RankProgram). x.buffer) (one_rank p.ranks r)

-- ---- tests
no_room : (n m : ℕ) (w : Bool) → m ≡ 1 → (nat_lt (n + 1) m || w) ≡ true → w ≡ true
no_room n m w one e = by_bool (nat_lt (n + 1) m) refl e
  where
    by_bool : (b : Bool) → nat_lt (n + 1) m ≡ b → (b || w) ≡ true → w ≡ true
    by_bool true room e = absurd (let h = ltb-true (n + 1) m room in omega (arith, h, one))
    by_bool false room e = e

or_second : (a b : Bool) → b ≡ true → (a || b) ≡ true
or_second true b e = refl
or_second false b e = e

-- ---- a rank that stands at the first event of a receive takes with it
takes : (r : ℕ) (is : List Instr) (n : ℕ) (i : Instr) (a : Lane) → slice_get is (alone r is n).place.0 ≡ Some i → (alone r is n).place.1 ≡ 0 → receives_on r (Some i) a ≡ true
    → (alone r is (suc n)).taken a ≡ suc ((alone r is n).taken a)
takes r is n i a read first e =
    let s = alone r is n in
    let g = first_gets r i a e in
    let next : shape_next r is s.place ≡ Some (shape g.rule (Gets a ∷ [])) = ap₂ (λ k o. shape_in r k o) first read ∙ g.first in
    let k = s.taken a in
    ap (λ o. (stepped (events_at (slice_get is s.place.0)) o s).taken a) next ∙ ap (λ (b : Bool). let j : ℕ = cond b (suc k) k in j) (lane_itself a)

-- ---- two runs: in one of them no rank has had more events, and rank r as many
module _ (p : Programs) (t u : Tables) (n m : ℕ → ℕ) (was : Tracks (lists p) t n) (is : Tracks (lists p) u m) (few : (k : ℕ) → n k ≤ m k) where
  abbrev q : Programs
  q = with_buffers_of_one p

  -- one that has had as many stands where it stood
  same_place : (k : ℕ) → n k ≡ m k → position (t.parts k) ≡ position (u.parts k)
  same_place k e = was.place k ∙ ap (λ j. (alone k (lists p k) j).place) e ∙ sym (is.place k)

  -- and a lane between two such is the same
  same_lane_seen : (a : Lane) → n a.from ≡ m a.from → n a.to ≡ m a.to → map has_bits (t.lanes a) ≡ map has_bits (u.lanes a)
  same_lane_seen a from to =
      (was.lanes a).rest
      ∙ ap₂ (λ k j. drop ((alone a.to (lists p a.to) k).taken a) ((alone a.from (lists p a.from) j).told a)) to from
      ∙ sym (is.lanes a).rest

  -- the front parcel had its bits, and the receiver has taken no more: it has them
  filled_still : (a : Lane) → n a.to ≡ m a.to → holds q t (Filled a) ≡ true → holds p u (Filled a) ≡ true
  filled_still a to e =
      let taken_there = (alone a.to (lists p a.to) (n a.to)).taken a in
      let told_there = (alone a.from (lists p a.from) (n a.from)).told a in
      let told_here = (alone a.from (lists p a.from) (m a.from)).told a in
      let seen : slice_get told_there taken_there ≡ Some true = sym (get_drop taken_there told_there) ∙ sym (ap (λ ys. slice_get ys 0) (was.lanes a).rest) ∙ front_seen (t.lanes a) e in
      let later : slice_get told_here taken_there ≡ Some true = (grows a.from (lists p a.from) (n a.from) (m a.from) (few a.from)).told a taken_there seen in
      seen_front (u.lanes a)
      (ap (λ ys. slice_get ys 0) (is.lanes a).rest ∙ get_drop ((alone a.to (lists p a.to) (m a.to)).taken a) told_here
      ∙ ap (λ k. slice_get told_here ((alone a.to (lists p a.to) k).taken a)) (sym to) ∙ later)

  -- the send was wanted, and its sender has put no more: the receiver still stands there
  module _ (a : Lane) (from : n a.from ≡ m a.from) (e : is_wanted q t a ≡ true) where
    -- how many parcels the receiver has taken there, and what the sender has told
    abbrev taken_there : ℕ
    taken_there = (alone a.to (lists p a.to) (n a.to)).taken a

    abbrev told_there : List Bool
    told_there = (alone a.from (lists p a.from) (n a.from)).told a

    reads : current q t a.to ≡ current p t a.to
    reads = ap (λ (f : ℕ → List Instr). slice_get (f a.to) (t.parts a.to).at) (same_lists p)

    parts : (nat_eq (t.parts a.to).stage 0 ≡ true) × (receives_on a.to (current q t a.to) a ≡ true) × (nat_eq (length (t.lanes a)) 0 ≡ true)
    parts =
        let x = and_parts (nat_eq (t.parts a.to).stage 0) (receives_on a.to (current q t a.to) a && nat_eq (length (t.lanes a)) 0) e in
        let y = and_parts (receives_on a.to (current q t a.to) a) (nat_eq (length (t.lanes a)) 0) x.1 in
        (x.0, y.0, y.1)

    all_taken : length told_there ≤ taken_there
    all_taken =
        let none : length (t.lanes a) ≡ 0 = eqb-true (length (t.lanes a)) 0 parts.2 in
        let same : length (map has_bits (t.lanes a)) ≡ length (drop taken_there told_there) = ap (λ (ys : List Bool). length ys) (was.lanes a).rest in
        omega (arith, none, same, length-map (t.lanes a) has_bits, length-drop taken_there told_there)

    -- it would have taken more than there is
    not_past : suc (n a.to) ≤ m a.to → ⊥
    not_past more = by_current (current p t a.to) refl (ap (λ o. receives_on a.to o a) (sym reads) ∙ parts.1)
      where
        by_current : (o : Option Instr) → current p t a.to ≡ o → receives_on a.to o a ≡ true → ⊥
        by_current None read r = cc
        by_current (Some i) read r =
            let place = was.place a.to in
            let one = takes a.to (lists p a.to) (n a.to) i a
            (ap (λ (x : ℕ × ℕ). slice_get (lists p a.to) x.0) (sym place) ∙ read)
            (ap (λ (x : ℕ × ℕ). x.1) (sym place) ∙ eqb-true (t.parts a.to).stage 0 parts.0) r in
            let up = (grows a.to (lists p a.to) (suc (n a.to)) (m a.to) more).taken a in
            let low = taken_few ((alone a.to (lists p a.to) (m a.to)).taken a) ((alone a.from (lists p a.from) (m a.from)).told a) (is.lanes a).before in
            let told_same : length told_there ≡ length ((alone a.from (lists p a.from) (m a.from)).told a) = ap (λ j. length ((alone a.from (lists p a.from) j).told a)) from in
            let full = all_taken in
            omega (arith, one, up, low, told_same, full)

    stands : n a.to ≡ m a.to
    stands = elim (cases_eq (n a.to) (m a.to)) [
      | inl e ↦ e
      | inr ne ↦ absurd (not_past (let le = few a.to in omega (arith, le, ne)))
    ]

    wanted_still : is_wanted p u a ≡ true
    wanted_still =
        let seen = same_lane_seen a from stands in
        let long : length (t.lanes a) ≡ length (u.lanes a) = sym (length-map (t.lanes a) has_bits) ∙ ap (λ (ys : List Bool). length ys) seen ∙ length-map (u.lanes a) has_bits in
        ap₂ (λ (x : ℕ × ℕ) (k : ℕ). nat_eq x.1 0 && (receives_on a.to (slice_get (lists p a.to) x.0) a && nat_eq k 0)) (sym (same_place a.to stands)) (sym long)
        ∙ ap (λ o. nat_eq (t.parts a.to).stage 0 && (receives_on a.to o a && nat_eq (length (t.lanes a)) 0)) (sym reads) ∙ e

  -- what a rule of rank r asked for is so, for every size of the buffers
  rule_still : (r : ℕ) → n r ≡ m r → (rule : Rule) → RuleFits r rule → holds q t rule ≡ true → holds p u rule ≡ true
  rule_still r same Always fit e = refl
  rule_still r same (PairRoom a) fit e =
      or_second (nat_lt (halves u a.to + 1) (rank_of p a.to).buffer) (is_wanted p u a)
      (wanted_still a (subst (λ k. n k ≡ m k) (sym fit) same) (no_room (halves t a.to) (rank_of q a.to).buffer (is_wanted q t a) (small p a.to) e))
  rule_still r same (Engaged a) fit e = wanted_still a (subst (λ k. n k ≡ m k) (sym fit) same) e
  rule_still r same (Filled a) fit e = filled_still a (subst (λ k. n k ≡ m k) (sym fit) same) e

  row_from : (r : ℕ) (w : Row) (o : Option Row) → row_next p u r ≡ o → option_map shape_of o ≡ Some (shape_of w) → holds p u w.rule ≡ true → enabled p u r ≡ true
  row_from r w None e same h = cc
  row_from r w (Some v) e same h =
      let rule : v.rule ≡ w.rule = ap (λ (x : Shape). x.rule) (same_Some (shape_of v) (shape_of w) same) in
      ap (row_holds p u) e ∙ ap (holds p u) rule ∙ h

  -- so the rank is enabled here too
  pub enabled_still : (r : ℕ) → n r ≡ m r → enabled q t r ≡ true → enabled p u r ≡ true
  enabled_still r same able =
      let w = has_row q t r able in
      let there : shape_next r (lists p r) (position (t.parts r)) ≡ Some (shape_of w.row) =
      ap (λ (f : ℕ → List Instr). shape_next r (f r) (position (t.parts r))) (sym (same_lists p)) ∙ shape_same q t r ∙ ap (option_map shape_of) w.next in
      let here : option_map shape_of (row_next p u r) ≡ Some (shape_of w.row) =
      sym (shape_same p u r) ∙ ap (shape_next r (lists p r)) (sym (same_place r same)) ∙ there in
      row_from r w.row (row_next p u r) refl here
      (rule_still r same w.row.rule (fits_in r (t.parts r).stage (slice_get (lists p r) (t.parts r).at) (shape_of w.row) there).rule w.holds)

-- ---- runs
pub tracks_start : (p : Programs) → Tracks (lists p) (tables_at_start p) (λ r. 0)
tracks_start p = record { place = λ r. refl; lanes = λ c. record { rest = refl; before = λ j below. absurd (omega (arith, below)) } }

pub legal_tracks : (p : Programs) (rs : List ℕ) (s : State) (n : ℕ → ℕ) → Tracks (lists p) s.tables n → IsLegalFrom p s rs
    → (m : ℕ → ℕ) × Tracks (lists p) (fold (next p) s rs).tables m
legal_tracks p [] s n old legal = (n, old)
legal_tracks p (r ∷ rs) s n old legal = legal_tracks p rs (next p s r) (with_at n r (suc (n r))) (tracks_next p s.tables n old r legal.0.able) legal.1

module _ (p : Programs) (u : Tables) (m : ℕ → ℕ) (is : Tracks (lists p) u m) (none : NoneEnabled p u) where
  -- the rendezvous run never goes past
  within : (rs : List ℕ) (t : Tables) (n : ℕ → ℕ) → Tracks (lists p) t n → ((k : ℕ) → n k ≤ m k) → IsMeetingFrom (with_buffers_of_one p) t rs
      → (l : ℕ → ℕ) × Tracks (lists p) (fold (next_tables (with_buffers_of_one p)) t rs) l × ((k : ℕ) → l k ≤ m k)
  within [] t n old few run = (n, old, few)
  within (r ∷ rs) t n old few run = elim (cases_eq (n r) (m r)) [
    | inl e ↦
        let on = enabled_still p t u n m old is few r e run.0.able in
        let known : r < length p.ranks = let k = run.0.known in omega (arith, k, length-map p.ranks with_buffer_of_one) in
        let off = none r known in
        absurd (let z : ⊥ = cc in z)
    | inr ne ↦
        let q = with_buffers_of_one p in
        let one = subst (λ f. Tracks f (next_tables q t r) (with_at n r (suc (n r)))) (same_lists p)
        (tracks_next q t n (subst (λ f. Tracks f t n) (sym (same_lists p)) old) r run.0.able) in
        within rs (next_tables q t r) (with_at n r (suc (n r))) one
        (λ k. by_rank (λ j. j ≤ m k) n r (suc (n r)) k (λ e. subst (λ i. suc (n r) ≤ m i) (sym e) (let le = few r in omega (arith, le, ne))) (λ _. few k)) run.1
  ]

  -- a rank that has no event left at its end has none here
  ended_here : (v : Tables) (l : ℕ → ℕ) → Tracks (lists p) v l → ((k : ℕ) → l k ≤ m k) → (r : ℕ)
      → has_event (with_buffers_of_one p) v r ≡ false → has_event p u r ≡ false
  ended_here v l end few r e =
      let q = with_buffers_of_one p in
      let there : shape_next r (lists p r) (alone r (lists p r) (l r)).place ≡ None =
      ap (shape_next r (lists p r)) (sym (end.place r)) ∙ ap (λ (f : ℕ → List Instr). shape_next r (f r) (position (v.parts r))) (sym (same_lists p))
      ∙ shape_same q v r ∙ no_row (row_next q v r) e in
      let still = stays_at r (l r) (m r) (few r) there in
      row_none (row_next p u r) (sym (shape_same p u r) ∙ ap (shape_next r (lists p r)) (is.place r ∙ ap (λ (s : Alone). s.place) still) ∙ there)
    where
      stays_at : (r n m : ℕ) → n ≤ m → shape_next r (lists p r) (alone r (lists p r) n).place ≡ None → alone r (lists p r) m ≡ alone r (lists p r) n
      stays_at r n m few e = stays r (lists p r) n e m few

      no_row : (o : Option Row) → is_some o ≡ false → option_map shape_of o ≡ None
      no_row None e = refl
      no_row (Some w) e = cc

      row_none : (o : Option Row) → option_map shape_of o ≡ None → is_some o ≡ false
      row_none None e = refl
      row_none (Some w) e = cc

module _ (p : Programs) (ends : RendezvousEnds p) where
  never_stuck : NeverStuck p
  unfolding replay IsLegal RendezvousEnds
  never_stuck schedule legal stuck =
      let here = legal_tracks p schedule (state_at_start p) (λ r. 0) (tracks_start p) legal in
      let q = with_buffers_of_one p in
      let end = within p (fold (next p) (state_at_start p) schedule).tables here.0 here.1 stuck.none ends.0 (tables_at_start q) (λ r. 0)
      (subst (λ f. Tracks f (tables_at_start q) (λ r. 0)) (same_lists p) (tracks_start q)) (λ k. omega arith) ends.1 in
      let r = stuck.left.0 in
      let known : r < length q.ranks = let k = stuck.left.1 in omega (arith, k, length-map p.ranks with_buffer_of_one) in
      let off = ended_here p (fold (next p) (state_at_start p) schedule).tables here.0 here.1 stuck.none (fold (next_tables q) (tables_at_start q) ends.0) end.0 end.1 end.2 r (ends.2 r known) in
      let on = stuck.left.2 in
      let z : ⊥ = cc in z

  ends_complete : EndsComplete p
  ends_complete schedule legal none = record { legal = legal; ended = λ r known. by_bool r known (has_event p (replay p schedule).tables r) refl }
    where
      by_bool : (r : ℕ) → r < length p.ranks → (b : Bool) → has_event p (replay p schedule).tables r ≡ b → has_event p (replay p schedule).tables r ≡ false
      by_bool r known true e = absurd (never_stuck schedule legal (record { left = (r, known, e); none = none }))
      by_bool r known false e = e

pub never_stuck_law : NeverStuckLaw
never_stuck_law p ends = (never_stuck p ends, ends_complete p ends)
