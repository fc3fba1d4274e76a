-- How long a schedule may be, and how many letters, halvings and counted wires it leaves
use Rattle.std.proofs.Common.{◌≡◌, ◌≢◌, ℕ, ◌+◌, ◌*◌, ◌<◌, ◌≤◌, nat_lt, nat_le, Bool, true, false, ◌&&◌, is_some, Option, Some, None, List, [], ◌∷◌, length, take, get_or, length-append, inl, inr, refl, sym, ap, subst, ◌∙◌, arith}
use Rattle.std.proofs.lemmas.Bool.Decides.{eqb_tells}
use Rattle.std.proofs.lemmas.Bool.{ltb-false, leb-true, and_parts}
use Rattle.std.proofs.lemmas.Option.{slice_get_within, get_or_from_slice_get}
use Rattle.std.proofs.lemmas.List.Elements.{All-from_recursion, All-get_or}
use Rattle.std.proofs.lemmas.List.Sums.{sum_by-cons, sum_by_more, sum_by_more_le}
use Rattle.std.specs.List.{AllByRecursion}
use Rattle.std.specs.Prelude.{slice_get, sum_by}
use Rattle.qm_denot.specs.declared.Letter.{Letter}
use Rattle.qm_denot.specs.declared.Letter.TheVariants.{Phase}
use Rattle.qm_denot.specs.Circuits.{Circuit, halves_of, halvings}
use Rattle.qm_instr.specs.declared.Instr.{Instr}
use Rattle.qm_instr.specs.declared.Instr.TheVariants as instr
use Rattle.qm_instr.specs.Counts.{events_of}
use Rattle.qm_instr.specs.Programs.{RankProgram, Programs, idle_rank, rank_of, IsInRange}
use Rattle.qm_proto.specs.Model.State.{Part, Tables, State, with_at}
use Rattle.qm_proto.specs.declared.Act.{Act}
use Rattle.qm_proto.specs.declared.Act.TheVariants.{Fresh, Twin, Apply, SlotOut, NearOut, FarOut, Receives, OwnUsed, ProtocolUsed, FirstKept, BitSet}
use Rattle.qm_proto.specs.Model.Acts.{after_act, after_acts, act_letters, acts_letters, list_of}
use Rattle.qm_proto.specs.declared.Row.{Row}
use Rattle.qm_proto.specs.Model.Rows.{current, rows, letter, few_if}
use Rattle.qm_proto.specs.Model.Runs.{row_in, row_next, has_event, row_holds, part_after_event, events_at, row_tables, row_letters, next_tables, next_letters, next}
use Rattle.qm_proto.specs.Model.Schedules.{tables_at_start, state_at_start, replay, MayStep, IsLegal}
use Rattle.qm_proto.proofs.Changes.{by_test, by_rank, with_at-here, with_at-elsewhere}
use Rattle.qm_proto.proofs.Positions.{all_at_kept, all_stage_kept, all_other_parts_kept}
use Rattle.qm_proto.proofs.Replays.{over_legal_counted}
use Rattle.qm_proto.proofs.Lines.{rows_count}
use Rattle.qm_proto.specs.Model.Totals.{event_total, sum_below}
use Rattle.qm_proto.proofs.Sums.{sum_below-none, sum_below-le, sum_below-lt, sum_below-one_more, sum_by-is_below}
use Rattle.qm_proto.proofs.Positions.{moved_made}

-- rank r stands at this instruction and this row of it
record StandsAtRow (p : Programs) (t : Tables) (r : ℕ) : Type 0 where
  instruction : Instr
  row : Row
  here : current p t r ≡ Some instruction
  there : slice_get (rows p t r instruction) (t.parts r).stage ≡ Some row

next_row : (p : Programs) (t : Tables) (r : ℕ) (o : Option Instr) → current p t r ≡ o
    → (w : Option Row) → row_in p t r o ≡ w → is_some w ≡ true → StandsAtRow p t r
next_row p t r None here w there e = cc
next_row p t r (Some i) here None there e = cc
next_row p t r (Some i) here (Some w) there e = record { instruction = i; row = w; here = here; there = there }

is_next : (p : Programs) (t : Tables) (r : ℕ) → has_event p t r ≡ true → StandsAtRow p t r
is_next p t r e = next_row p t r (current p t r) refl (row_next p t r) refl e

-- an enabled rank has an event left
pub event_where_held : (p : Programs) (t : Tables) (o : Option Row) → row_holds p t o ≡ true → is_some o ≡ true
event_where_held p t None e = cc
event_where_held p t (Some w) e = refl

next_tables_at : (p : Programs) (t : Tables) (r : ℕ) (n : StandsAtRow p t r)
    → next_tables p t r ≡ row_tables (events_of n.instruction) r (Some n.row) t
next_tables_at p t r n =
    ap (λ o. row_tables (events_at o) r (row_in p t r o) t) n.here ∙ ap (λ w. row_tables (events_of n.instruction) r w t) n.there

next_letters_at : (p : Programs) (t : Tables) (r : ℕ) (n : StandsAtRow p t r) → next_letters p t r ≡ acts_letters r (list_of n.row.acts) t
next_letters_at p t r n = ap (λ o. row_letters r (row_in p t r o) t) n.here ∙ ap (λ w. row_letters r w t) n.there

-- ---- how many events a rank has done
abbrev events_up_to : List Instr → Part → ℕ
events_up_to is x = sum_by events_of (take x.at is) + x.stage

-- a part that stands at this instruction, before one of its events
record StandsAt (is : List Instr) (x : Part) (i : Instr) : Type 0 where
  here : slice_get is x.at ≡ Some i
  below : x.stage < events_of i

same_position : (is : List Instr) (x y : Part) → y.at ≡ x.at → y.stage ≡ x.stage → events_up_to is y ≡ events_up_to is x
same_position is x y at stage = rw (at, stage) refl

this_instruction : (is : List Instr) (x : Part) (i : Instr) → StandsAt is x i → get_or is x.at i ≡ i
this_instruction is x i s = get_or_from_slice_get is x.at i i s.here

-- an event more
events_moved : (is : List Instr) (x : Part) (i : Instr) → StandsAt is x i
    → events_up_to is (part_after_event (events_of i) x) ≡ events_up_to is x + 1
events_moved is x i s =
    let more = rw (this_instruction is x i s) at (sum_by_more events_of is x.at i (slice_get_within is x.at i s.here)) in
    by_test (λ y. events_up_to is y ≡ events_up_to is x + 1) (nat_lt (x.stage + 1) (events_of i))
    (record x { stage = x.stage + 1 }) (record x { at = x.at + 1; stage = 0 })
    (λ _. omega arith) (λ e. let last = ltb-false (x.stage + 1) (events_of i) e in omega (arith, s.below))

-- and it was not the last of all before
events_left : (is : List Instr) (x : Part) (i : Instr) → StandsAt is x i → events_up_to is x < sum_by events_of is
events_left is x i s =
    let within = rw (this_instruction is x i s) at (sum_by_more_le events_of is x.at i (slice_get_within is x.at i s.here)) in
    omega (arith, s.below)

-- how many events rank k has done, and how many it has in all
abbrev events_done : Programs → Tables → ℕ → ℕ
events_done p t k = events_up_to (rank_of p k).instructions (t.parts k)

abbrev events_all : Programs → ℕ → ℕ
events_all p k = sum_by events_of (rank_of p k).instructions

module _ (p : Programs) (t : Tables) (r : ℕ) (n : StandsAtRow p t r) where
  stands : StandsAt (rank_of p r).instructions (t.parts r) n.instruction
  stands = record {
    here = n.here;
    below = omega (arith, rows_count p t r n.instruction, slice_get_within (rows p t r n.instruction) (t.parts r).stage n.row n.there);
  }

  -- the tables after the row's acts
  abbrev acted : Tables
  acted = after_acts r (list_of n.row.acts) t

  acted_position : events_up_to (rank_of p r).instructions (acted.parts r) ≡ events_done p t r
  acted_position =
      same_position (rank_of p r).instructions (t.parts r) (acted.parts r) (all_at_kept r r (list_of n.row.acts) t) (all_stage_kept r r (list_of n.row.acts) t)

  acted_stands : StandsAt (rank_of p r).instructions (acted.parts r) n.instruction
  acted_stands = record {
    here = rw (all_at_kept r r (list_of n.row.acts) t) n.here;
    below = rw (all_stage_kept r r (list_of n.row.acts) t) stands.below;
  }

  moved_part : (next_tables p t r).parts r ≡ part_after_event (events_of n.instruction) (acted.parts r)
  moved_part = ap (λ (u : Tables). u.parts r) (next_tables_at p t r n) ∙ with_at-here acted.parts r _

  -- an event done more by rank r
  one_more_done : events_done p (next_tables p t r) r ≡ events_done p t r + 1
  one_more_done =
      let is = (rank_of p r).instructions in
      ap (events_up_to is) moved_part ∙ events_moved is (acted.parts r) n.instruction acted_stands ∙ ap (λ k. k + 1) acted_position

  kept_part : (k : ℕ) → k ≢ r → (next_tables p t r).parts k ≡ t.parts k
  kept_part k other =
      ap (λ (u : Tables). u.parts k) (next_tables_at p t r n)
      ∙ with_at-elsewhere acted.parts r _ k other
      ∙ all_other_parts_kept r k other (list_of n.row.acts) t

  -- and by no other
  others_done : (k : ℕ) → k ≢ r → events_done p (next_tables p t r) k ≡ events_done p t k
  others_done k other = ap (events_up_to (rank_of p k).instructions) (kept_part k other)

  total_done : r < length p.ranks → sum_below (events_done p (next_tables p t r)) (length p.ranks) ≡ sum_below (events_done p t) (length p.ranks) + 1
  total_done known =
      sum_below-one_more (events_done p t) (events_done p (next_tables p t r)) (length p.ranks) r known one_more_done others_done

  fewer_done : events_done p t r < events_all p r
  fewer_done = events_left (rank_of p r).instructions (t.parts r) n.instruction stands

-- ---- letters and wires of a row
-- how many letters an act does, and how many wires it counts
abbrev letters_in : Act → ℕ
letters_in (Twin to) = 1
letters_in (Apply l) = 1
letters_in (SlotOut q m) = 1
letters_in (NearOut m) = 1
letters_in (FarOut f m) = 1
letters_in _ = 0

abbrev wires_in : Act → ℕ
wires_in (Fresh q) = 1
wires_in (Twin to) = 1
wires_in _ = 0

-- at most one letter and one wire
abbrev are_few : List Act → Bool
are_few acts = nat_le (sum_by letters_in acts) 1 && nat_le (sum_by wires_in acts) 1

few_once : (b : Bool) (l : Letter) → are_few (list_of (few_if b (letter l))) ≡ true
few_once true l = refl
few_once false l = refl

rows_few : (p : Programs) (t : Tables) (r : ℕ) (i : Instr) → AllByRecursion (λ w. are_few (list_of w.acts) ≡ true) (rows p t r i)
rows_few p t r (instr.Alloc q) = (refl, tt)
rows_few p t r (instr.Do g) = (refl, tt)
rows_few p t r (instr.Free q) = (refl, tt)
rows_few p t r (instr.Measure q b) = (refl, tt)
rows_few p t r (instr.Set b v) = (refl, tt)
rows_few p t r (instr.Xor b c) = (refl, tt)
rows_few p t r (instr.When b g) = (search few_once, tt)
rows_few p t r (instr.SendBit b to tag) = (refl, tt)
rows_few p t r (instr.RecvBit b from tag) = (refl, tt)
rows_few p t r (instr.CopyTo q to tag) = (refl, (refl, (refl, tt)))
rows_few p t r (instr.CopyFrom q from tag) = (refl, (search few_once, tt))
rows_few p t r (instr.UndoTo q to tag) = (refl, (refl, tt))
rows_few p t r (instr.UndoFrom q from tag) = (refl, (search few_once, tt))
rows_few p t r (instr.MoveTo q to tag) = (refl, (refl, (refl, (refl, (refl, tt)))))
rows_few p t r (instr.MoveFrom q from tag) = (refl, (search few_once, (search few_once, tt)))
rows_few p t r (instr.ReachTo q to tag) = (refl, (refl, (refl, (refl, (search few_once, tt)))))
rows_few p t r (instr.ReachFrom q from tag) = (refl, (search few_once, (refl, (refl, (refl, tt)))))

-- what the test says
record AreFew (acts : List Act) : Type 0 where
  letters : sum_by letters_in acts ≤ 1
  wires : sum_by wires_in acts ≤ 1

few : (acts : List Act) → are_few acts ≡ true → AreFew acts
few acts e =
    let h = and_parts (nat_le (sum_by letters_in acts) 1) (nat_le (sum_by wires_in acts) 1) e in
    record { letters = leb-true (sum_by letters_in acts) 1 h.0; wires = leb-true (sum_by wires_in acts) 1 h.1 }

row_few : (p : Programs) (t : Tables) (r : ℕ) (n : StandsAtRow p t r) → AreFew (list_of n.row.acts)
row_few p t r n =
    let ws = rows p t r n.instruction in
    let k = (t.parts r).stage in
    let P : Row → Type 0 = λ w. are_few (list_of w.acts) ≡ true in
    let all = All-from_recursion P ws (rows_few p t r n.instruction) in
    let this = All-get_or P ws k n.row (slice_get_within ws k n.row n.there) all in
    few (list_of n.row.acts) (subst P (get_or_from_slice_get ws k n.row n.row n.there) this)

-- ---- letters
letters_once : (r : ℕ) (a : Act) (t : Tables) → length (act_letters r a t) ≡ letters_in a
letters_once r (Twin to) t = refl
letters_once r _ t = refl

letters_in_all : (r : ℕ) (acts : List Act) (t : Tables) → length (acts_letters r acts t) ≡ sum_by letters_in acts
letters_in_all r [] t = refl
letters_in_all r (a ∷ acts) t =
    let rest = letters_in_all r acts (after_act r a t) in
    omega (arith, letters_once r a t, length-append (act_letters r a t) (acts_letters r acts (after_act r a t)), sum_by-cons letters_in a acts)

next_letters_few : (p : Programs) (t : Tables) (r : ℕ) → StandsAtRow p t r → length (next_letters p t r) ≤ 1
next_letters_few p t r n =
    let fewer = (row_few p t r n).letters in
    omega (arith, ap length (next_letters_at p t r n), letters_in_all r (list_of n.row.acts) t)

halves-le : (l : Letter) → halves_of l ≤ 1
halves-le (Phase k w) = omega arith
halves-le _ = omega arith

pub halvings-le : (c : Circuit) → halvings c ≤ length c
halvings-le [] = omega arith
halvings-le (l ∷ ls) = let rest = halvings-le ls in omega (arith, halves-le l)

-- ---- wires counted
made_at : (f : ℕ → Part) (r : ℕ) (v : Part) (m k : ℕ) → v.made ≤ (f r).made + m → (with_at f r v k).made ≤ (f k).made + m
made_at f r v m k h =
    by_rank (λ (x : Part). x.made ≤ (f k).made + m) f r v k (λ e. subst (λ j. v.made ≤ (f j).made + m) (sym e) h) (λ _. omega arith)

made_once : (r k : ℕ) (a : Act) (t : Tables) → ((after_act r a t).parts k).made ≤ (t.parts k).made + wires_in a
made_once r k (Fresh q) t = made_at t.parts r _ 1 k (omega arith)
made_once r k (Twin to) t = made_at t.parts r _ 1 k (omega arith)
made_once r k (Receives a) t = made_at t.parts r _ 0 k (omega arith)
made_once r k OwnUsed t = made_at t.parts r _ 0 k (omega arith)
made_once r k ProtocolUsed t = made_at t.parts r _ 0 k (omega arith)
made_once r k (FirstKept m) t = made_at t.parts r _ 0 k (omega arith)
made_once r k (BitSet b v) t = made_at t.parts r _ 0 k (omega arith)
made_once r k _ t = omega arith

made_in_all : (r k : ℕ) (acts : List Act) (t : Tables) → ((after_acts r acts t).parts k).made ≤ (t.parts k).made + sum_by wires_in acts
made_in_all r k [] t = omega arith
made_in_all r k (a ∷ acts) t =
    let rest = made_in_all r k acts (after_act r a t) in
    omega (arith, made_once r k a t, sum_by-cons wires_in a acts)

next_made_few : (p : Programs) (t : Tables) (r k : ℕ) → StandsAtRow p t r → ((next_tables p t r).parts k).made ≤ (t.parts k).made + 1
next_made_few p t r k n =
    let u = after_acts r (list_of n.row.acts) t in
    let m = events_of n.instruction in
    let moved = made_at u.parts r (part_after_event m (u.parts r)) 0 k (omega (arith, moved_made m (u.parts r))) in
    let fewer = (row_few p t r n).wires in
    omega (arith, ap (λ (v : Tables). (v.parts k).made) (next_tables_at p t r n), made_in_all r k (list_of n.row.acts) t)

-- ---- n events have been done
pub record AreDone (p : Programs) (n : ℕ) (t : Tables) : Type 0 where
  each : (k : ℕ) → events_done p t k ≤ events_all p k
  total : sum_below (events_done p t) (length p.ranks) ≡ n

pub done_at_start : (p : Programs) → AreDone p 0 (tables_at_start p)
done_at_start p = record { each = λ k. omega arith; total = sum_below-none (events_done p (tables_at_start p)) (length p.ranks) (λ k. omega arith) }

still_each : (p : Programs) (t : Tables) (r : ℕ) → StandsAtRow p t r → ((k : ℕ) → events_done p t k ≤ events_all p k)
    → (k : ℕ) → events_done p (next_tables p t r) k ≤ events_all p k
still_each p t r n each k = elim (eqb_tells k r) [
  | inl same ↦
      let here : events_done p (next_tables p t r) r ≤ events_all p r = omega (arith, one_more_done p t r n, fewer_done p t r n) in
      subst (λ j. events_done p (next_tables p t r) j ≤ events_all p j) (sym same.1) here
  | inr other ↦ omega (arith, others_done p t r n k other.1, each k)
]

pub done_after : (p : Programs) (m : ℕ) (t : Tables) (r : ℕ) → AreDone p m t → r < length p.ranks → has_event p t r ≡ true → AreDone p (m + 1) (next_tables p t r)
done_after p m t r was known left =
    let n = is_next p t r left in
    record { each = still_each p t r n was.each; total = omega (arith, was.total, total_done p t r n known) }

all_events : (p : Programs) → event_total p ≡ sum_below (events_all p) (length p.ranks)
all_events p = sum_by-is_below (λ (x : RankProgram). sum_by events_of x.instructions) p.ranks idle_rank

pub done_few : (p : Programs) (n : ℕ) (t : Tables) → AreDone p n t → n ≤ event_total p
done_few p n t d = omega (arith, d.total, all_events p, sum_below-le (events_done p t) (events_all p) (length p.ranks) (λ k _. d.each k))

-- and another one is left
pub done_more : (p : Programs) (n : ℕ) (t : Tables) (r : ℕ) → AreDone p n t → r < length p.ranks → has_event p t r ≡ true → n < event_total p
done_more p n t r d known left =
    let fewer = fewer_done p t r (is_next p t r left) in
    omega (arith, d.total, all_events p, sum_below-lt (events_done p t) (events_all p) (length p.ranks) r (λ k _. d.each k) known fewer)

-- ---- after n entries of a legal schedule
record IsCounted (p : Programs) (n : ℕ) (s : State) : Type 0 where
  done : AreDone p n s.tables
  letters : length s.circuit ≤ n
  made : (k : ℕ) → (s.tables.parts k).made ≤ n

counted_at_start : (p : Programs) → IsCounted p 0 (state_at_start p)
counted_at_start p = record { done = done_at_start p; letters = omega arith; made = λ k. omega arith }

counted_after : (p : Programs) (m : ℕ) (s : State) (r : ℕ) → IsCounted p m s → MayStep p s r → IsCounted p (m + 1) (next p s r)
counted_after p m s r was may =
    let t = s.tables in
    let left = event_where_held p t (row_next p t r) may.able in
    let n = is_next p t r left in
    record {
      done = done_after p m t r was.done may.known left;
      letters = omega (arith, was.letters, next_letters_few p t r n, length-append s.circuit (next_letters p t r));
      made = λ k. omega (arith, was.made k, next_made_few p t r k n);
    }

counted : (p : Programs) (rs : List ℕ) → IsLegal p rs → IsCounted p (length rs) (replay p rs)
counted p rs legal = over_legal_counted p (IsCounted p) (counted_at_start p) (counted_after p) rs legal

-- ---- the bounds
pub schedule_few : (p : Programs) (rs : List ℕ) → IsLegal p rs → length rs ≤ event_total p
schedule_few p rs legal = done_few p (length rs) (replay p rs).tables (counted p rs legal).done

pub schedule_more : (p : Programs) (rs : List ℕ) (r : ℕ) → IsLegal p rs → r < length p.ranks
    → has_event p (replay p rs).tables r ≡ true → length rs < event_total p
schedule_more p rs r legal known left = done_more p (length rs) (replay p rs).tables r (counted p rs legal).done known left

pub letters_few : (p : Programs) (rs : List ℕ) → IsLegal p rs → length (replay p rs).circuit ≤ length rs
letters_few p rs legal = (counted p rs legal).letters

pub halvings_few : (p : Programs) (rs : List ℕ) → IsLegal p rs → halvings (replay p rs).circuit ≤ length rs
halvings_few p rs legal = omega (arith, letters_few p rs legal, halvings-le (replay p rs).circuit)

pub made_few : (p : Programs) (rs : List ℕ) (r : ℕ) → IsLegal p rs → ((replay p rs).tables.parts r).made ≤ length rs
made_few p rs r legal = (counted p rs legal).made r

events-le : (i : Instr) → events_of i ≤ 5
events-le (instr.Alloc q) = omega arith
events-le _ = omega arith

instructions-le : (is : List Instr) → sum_by events_of is ≤ 5 * length is
instructions-le [] = omega arith
instructions-le (i ∷ is) = let rest = instructions-le is in omega (arith, events-le i, sum_by-cons events_of i is)

ranks-le : (xs : List RankProgram) → sum_by (λ x. sum_by events_of x.instructions) xs ≤ 5 * sum_by (λ x. length x.instructions) xs
ranks-le [] = omega arith
ranks-le (x ∷ xs) =
    let events : RankProgram → ℕ = λ x. sum_by events_of x.instructions in
    let size : RankProgram → ℕ = λ x. length x.instructions in
    let rest = ranks-le xs in
    omega (arith, instructions-le x.instructions, sum_by-cons events x xs, sum_by-cons size x xs)

pub event_total_few : (p : Programs) → IsInRange p → event_total p ≤ 500000
event_total_few p ranges = omega (arith, ranks-le p.ranks, ranges.few)
