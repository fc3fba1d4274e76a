-- Where the ranks stand after an event
use Rattle.std.proofs.Common.{◌≡◌, ◌≢◌, ℕ, zero, suc, ◌+◌, ◌<◌, nat_lt, Bool, true, false, cond, List, [], ◌∷◌, length, Option, Some, None, slice_get, slice_set, slice_index_or, replicate, inl, inr, refl, sym, ap, subst, ◌∙◌, arith}
use Rattle.std.proofs.lemmas.Bool.Decides.{eqb_tells}
use Rattle.std.proofs.lemmas.Option.{same_Some}
use Rattle.qm_instr.specs.declared.Instr.{Instr}
use Rattle.qm_instr.specs.Counts.{events_of}
use Rattle.qm_instr.specs.Programs.{Programs, rank_of}
use Rattle.qm_proto.specs.declared.Row.{Row}
use Rattle.qm_proto.specs.Events.{events_in}
use Rattle.qm_proto.specs.Model.State.{Part, Tables}
use Rattle.qm_proto.specs.Model.Acts.{list_of, after_acts}
use Rattle.qm_proto.specs.Model.Rows.{current}
use Rattle.qm_proto.specs.Model.Runs.{part_after_event, events_at, row_in, row_next, row_tables, next_tables}
use Rattle.qm_proto.specs.Model.Schedules.{tables_at_start}
use Rattle.qm_proto.proofs.Changes.{with_at-here, with_at-elsewhere}
use Rattle.qm_proto.proofs.Positions.{position, position_kept, over_acts}
use Rattle.qm_walk.specs.declared.Note.{Note}
use Rattle.qm_walk.specs.declared.Place.{Place}
use Rattle.qm_walk.specs.Notes.{noted, note_next, place_of, AreStanding}
use Rattle.qm_walk.specs.Says.{note_from, place_after}
use Rattle.qm_walk.proofs.Noting.{line_noted}

-- what an instruction, where there is one, tells of a stage
abbrev pub note_by : ℕ → Option Instr → ℕ → Option Note
note_by r None k = None
note_by r (Some i) k = note_from r i (slice_get (events_in i) k)

by_current : (p : Programs) (t : Tables) (r : ℕ) (o : Option Instr) → noted r (row_in p t r o) ≡ note_by r o (t.parts r).stage
by_current p t r None = refl
by_current p t r (Some i) = line_noted p t r i

-- ---- lists
set_length : (xs : List Place) (k : ℕ) (x : Place) → length (slice_set xs k x) ≡ length xs
set_length [] k x = refl
set_length (y ∷ xs) zero x = refl
set_length (y ∷ xs) (suc k) x = ap suc (set_length xs k x)

set_here : (xs : List Place) (k : ℕ) (x : Place) → k < length xs → slice_get (slice_set xs k x) k ≡ Some x
set_here [] k x h = absurd (omega arith)
set_here (y ∷ xs) zero x h = refl
set_here (y ∷ xs) (suc k) x h = set_here xs k x (omega arith)

set_elsewhere : (xs : List Place) (k j : ℕ) (x : Place) → j ≢ k → slice_get (slice_set xs k x) j ≡ slice_get xs j
set_elsewhere [] k j x ne = refl
set_elsewhere (y ∷ xs) zero zero x ne = absurd (ne refl)
set_elsewhere (y ∷ xs) zero (suc j) x ne = refl
set_elsewhere (y ∷ xs) (suc k) zero x ne = refl
set_elsewhere (y ∷ xs) (suc k) (suc j) x ne = set_elsewhere xs k j x (λ e. ne (ap suc e))

read_place : (xs : List Place) (k : ℕ) (d : Place) → k < length xs → slice_get xs k ≡ Some (slice_index_or xs k d)
read_place [] k d h = absurd (omega arith)
read_place (y ∷ xs) zero d h = refl
read_place (y ∷ xs) (suc k) d h = read_place xs k d (omega arith)

-- ---- one rank
choice : (b : Bool) (x : Part)
    → place_of (cond b (record x { stage = x.stage + 1 }) (record x { at = x.at + 1; stage = 0 }))
    ≡ cond b (record { at = x.at; stage = x.stage + 1 }) (record { at = x.at + 1; stage = 0 })
choice true x = refl
choice false x = refl

moved_place : (n : ℕ) (x : Part) → place_of (part_after_event n x) ≡ place_after n (place_of x)
moved_place n x = choice (nat_lt (x.stage + 1) n) x

abbrev at_position : ℕ × ℕ → Place
at_position x = record { at = x.0; stage = x.1 }

acts_kept : (r k : ℕ) (w : Row) (t : Tables) → place_of ((after_acts r (list_of w.acts) t).parts k) ≡ place_of (t.parts k)
acts_kept r k w t = ap at_position (over_acts (λ (v : Tables). position (v.parts k)) r (position_kept r k) (list_of w.acts) t)

stands_here : (n r : ℕ) (w : Row) (t : Tables) → place_of ((row_tables n r (Some w) t).parts r) ≡ place_after n (place_of (t.parts r))
stands_here n r w t =
    let u : Tables = after_acts r (list_of w.acts) t in
    ap place_of (with_at-here u.parts r (part_after_event n (u.parts r))) ∙ moved_place n (u.parts r)
    ∙ ap (place_after n) (acts_kept r r w t)

stands_elsewhere : (n r k : ℕ) (w : Row) (t : Tables) → k ≢ r → place_of ((row_tables n r (Some w) t).parts k) ≡ place_of (t.parts k)
stands_elsewhere n r k w t other =
    let u : Tables = after_acts r (list_of w.acts) t in
    ap place_of (with_at-elsewhere u.parts r (part_after_event n (u.parts r)) k other) ∙ acts_kept r k w t

-- ---- all ranks
module _ (p : Programs) (places : List Place) (r : ℕ) (known : r < length p.ranks) where
  module _ (t : Tables) (so : AreStanding p t places) where
    place_there : (d : Place) → slice_index_or places r d ≡ place_of (t.parts r)
    place_there d =
        let c : length places ≡ length p.ranks = so.count in
        let lt : r < length places = omega arith in
        same_Some _ _ (sym (read_place places r d lt) ∙ so.each r known)

    -- the instruction read there is the model's
    current_there : (d : Place) (o : Option Instr) → o ≡ slice_get (rank_of p r).instructions (slice_index_or places r d).at → current p t r ≡ o
    current_there d o e = sym (e ∙ ap (λ (x : Place). slice_get (rank_of p r).instructions x.at) (place_there d))

    pub note_there : (d : Place) (o : Option Instr) → o ≡ slice_get (rank_of p r).instructions (slice_index_or places r d).at
        → note_by r o (slice_index_or places r d).stage ≡ note_next p t r
    note_there d o e =
        ap (λ (x : Place). note_by r o x.stage) (place_there d) ∙ sym (by_current p t r o)
        ∙ ap (λ i. noted r (row_in p t r i)) (sym (current_there d o e))

    stays_by : (n : ℕ) (w : Option Row) → noted r w ≡ None → row_tables n r w t ≡ t
    stays_by n None e = refl
    stays_by n (Some w) e = absurd (cc)

    -- a rank without an event changes nothing
    pub stays : note_next p t r ≡ None → AreStanding p (next_tables p t r) places
    stays e = subst (λ u. AreStanding p u places) (sym (stays_by (events_at (current p t r)) (row_next p t r) e)) so

    moves_by : (d : Place) (n : ℕ) (w : Option Row) → noted r w ≢ None
        → AreStanding p (row_tables n r w t) (slice_set places r (place_after n (slice_index_or places r d)))
    moves_by d n None ne = absurd (ne refl)
    moves_by d n (Some w) ne =
        let x : Place = place_after n (slice_index_or places r d) in
        let c : length places ≡ length p.ranks = so.count in
        let lt : r < length places = omega arith in
        record {
          count = set_length places r x ∙ so.count;
          each = λ k h. elim (eqb_tells k r) [
            | inl e ↦
                subst (λ j. slice_get (slice_set places r x) j ≡ Some (place_of ((row_tables n r (Some w) t).parts j))) (sym e.1)
                (set_here places r x lt ∙ ap (λ y. Some (place_after n y)) (place_there d) ∙ ap Some (sym (stands_here n r w t)))
            | inr e ↦ set_elsewhere places r k x e.1 ∙ so.each k h ∙ ap Some (sym (stands_elsewhere n r k w t e.1))
          ];
        }

    -- a rank with an event stands behind it
    pub moves : (d : Place) (i : Instr) → Some i ≡ slice_get (rank_of p r).instructions (slice_index_or places r d).at → note_next p t r ≢ None
        → AreStanding p (next_tables p t r) (slice_set places r (place_after (events_of i) (slice_index_or places r d)))
    moves d i e ne =
        let c : current p t r ≡ Some i = current_there d (Some i) e in
        subst (λ o. AreStanding p (next_tables p t r) (slice_set places r (place_after (events_at o) (slice_index_or places r d)))) c
        (moves_by d (events_at (current p t r)) (row_next p t r) ne)

    -- ---- the steps of the code
    module _ (x : Place) (i : Instr) (n : Note) (read : x ≡ slice_index_or places r x) (here : Some i ≡ slice_get (rank_of p r).instructions x.at)
        (noted : Some n ≡ note_from r i (slice_get (events_in i) x.stage)) where
      read_at : Some i ≡ slice_get (rank_of p r).instructions (slice_index_or places r x).at
      read_at = here ∙ ap (λ (y : Place). slice_get (rank_of p r).instructions y.at) read

      pub note_step : Some n ≡ note_next p t r
      note_step = noted ∙ ap (λ (y : Place). note_by r (Some i) y.stage) read ∙ note_there x (Some i) read_at

      pub walk_step : (m : ℕ) (y : Place) → m ≡ events_of i → y ≡ place_after m x → AreStanding p (next_tables p t r) (slice_set places r y)
      walk_step m y e f =
          let some : note_next p t r ≢ None = λ g. let h : Some n ≡ None = note_step ∙ g in cc in
          let same : y ≡ place_after (events_of i) (slice_index_or places r x) = f ∙ ap (λ k. place_after k x) e ∙ ap (place_after (events_of i)) read in
          subst (λ z. AreStanding p (next_tables p t r) (slice_set places r z)) (sym same) (moves x i read_at some)

-- at the start each rank stands before its first event
abbrev pub first_place : Place
first_place = record { at = 0; stage = 0 }

get_replicate : (n k : ℕ) → k < n → slice_get (replicate n first_place) k ≡ Some first_place
get_replicate zero k h = absurd (omega arith)
get_replicate (suc n) zero h = refl
get_replicate (suc n) (suc k) h = get_replicate n k (omega arith)

length_replicate : (n : ℕ) → length (replicate n first_place) ≡ n
length_replicate zero = refl
length_replicate (suc n) = ap suc (length_replicate n)

pub standing_at_start : (p : Programs) (places : List Place) (n : ℕ) → n ≡ length p.ranks → places ≡ replicate n first_place
    → AreStanding p (tables_at_start p) places
standing_at_start p places n c e =
    record {
      count = ap length e ∙ length_replicate n ∙ c;
      each = λ r lt. ap (λ l. slice_get l r) e ∙ get_replicate n r (omega arith);
    }
