-- Where the ranks stand after each turn, and which event is next there
use Rattle.std.proofs.Common.{◌≡◌, ◌∙◌, ℕ, suc, ◌+◌, ◌<◌, ◌≤◌, nat_lt, cond, Bool, true, false, is_some, List, [], ◌∷◌, ◌++◌, length, take, drop, map, fold, get_or, set, Option, Some, None, slice_get, option_map, refl, sym, ap, ap₂, subst, arith, add-one, append_assoc, drop-cons}
use Rattle.std.proofs.lemmas.List.{length-set, get_or-set_same, get_or-set_other, append-nil, take_more, take-append-drop}
use Rattle.std.proofs.lemmas.Option.{slice_get-map, slice_get_within}
use Rattle.std.proofs.lemmas.List.Sums.{fold_push, get_or-le-sum_by}
use Rattle.qm_instr.specs.declared.Instr.{Instr}
use Rattle.qm_instr.specs.declared.Instr.TheVariants as instr
use Rattle.qm_instr.specs.Programs.{Programs, RankProgram, idle_rank, rank_of, instruction_total, IsInRange}
use Rattle.qm_proto.specs.declared.Event.{Event}
use Rattle.qm_proto.specs.declared.Row.{Row}
use Rattle.qm_proto.specs.Events.{events_in}
use Rattle.qm_proto.specs.Model.Rows.{rows, current, instr_at}
use Rattle.qm_proto.specs.Model.Runs.{row_in, row_next, enabled, events_at, next_tables, next}
use Rattle.qm_proto.specs.Model.Schedules.{IsLegalFrom, state_at_start}
use Rattle.qm_proto.specs.Model.State.{Tables, State, with_at}
use Rattle.qm_proto.proofs.Changes.{by_number, with_at-here, with_at-elsewhere}
use Rattle.qm_confluence.specs.Stuck.Shapes.{Shape}
use Rattle.qm_ideal.specs.Meetings.{Stand, stand_of, shape_next, stand_past}
use Rattle.qm_ideal.proofs.MeetingLemmas.{left_same, next_same}
use Rattle.qm_print.specs.declared.blocks.Position.{Position}
use Rattle.qm_print.specs.Blocks.{row_name, event_name, event_line, event_lines}
use Rattle.qm_print.specs.Walks.{first_position, position_at, event_in, event_at, position_after, StandsIn}
use Rattle.qm_proto.proofs.Counting.{event_where_held}

-- ---- the event that is next
abbrev event_of : Row → Event
event_of w = w.event

rows_events : (p : Programs) (t : Tables) (r : ℕ) (i : Instr) → map event_of (rows p t r i) ≡ events_in i
rows_events p t r (instr.Alloc q) = refl
rows_events p t r (instr.Do g) = refl
rows_events p t r (instr.Free q) = refl
rows_events p t r (instr.Measure q b) = refl
rows_events p t r (instr.Set b v) = refl
rows_events p t r (instr.Xor b c) = refl
rows_events p t r (instr.When b g) = refl
rows_events p t r (instr.SendBit b to tag) = refl
rows_events p t r (instr.RecvBit b from tag) = refl
rows_events p t r (instr.CopyTo q to tag) = refl
rows_events p t r (instr.CopyFrom q from tag) = refl
rows_events p t r (instr.UndoTo q to tag) = refl
rows_events p t r (instr.UndoFrom q from tag) = refl
rows_events p t r (instr.MoveTo q to tag) = refl
rows_events p t r (instr.MoveFrom q from tag) = refl
rows_events p t r (instr.ReachTo q to tag) = refl
rows_events p t r (instr.ReachFrom q from tag) = refl

row_event : (p : Programs) (t : Tables) (r : ℕ) (o : Option Instr) → event_in o (t.parts r).stage ≡ option_map event_of (row_in p t r o)
row_event p t r None = refl
row_event p t r (Some i) =
    ap (λ (es : List Event). slice_get es (t.parts r).stage) (sym (rows_events p t r i)) ∙ slice_get-map event_of (rows p t r i) (t.parts r).stage

name_of_row : (o : Option Row) (e : Event) → option_map event_of o ≡ Some e → row_name o ≡ event_name e
name_of_row None e h = cc
name_of_row (Some w) e h = let same : w.event ≡ e = cc in ap event_name same

-- ---- where the ranks stand
module _ (p : Programs) (positions : List Position) (t : Tables) (r : ℕ) (known : r < length p.ranks) (stands : StandsIn p positions t) where
  abbrev position : Position
  position = position_at positions r

  next_event : event_at p r position ≡ option_map event_of (row_next p t r)
  next_event = rw (stands.at r known, stands.stage r known) (row_event p t r (current p t r))

  pub name_there : (e : Event) → event_at p r position ≡ Some e → row_name (row_next p t r) ≡ event_name e
  name_there e h = name_of_row (row_next p t r) e (sym next_event ∙ h)

-- ---- after a turn
is_some_cases : {T : Type 0} (o : Option T) → is_some o ≡ true → (x : T) × (o ≡ Some x)
is_some_cases None h = cc
is_some_cases (Some x) h = (x, refl)

after_at : (b : Bool) (x y : Position) → (cond b x y).at ≡ cond b x.at y.at
after_at true x y = refl
after_at false x y = refl

after_stage : (b : Bool) (x y : Position) → (cond b x y).stage ≡ cond b x.stage y.stage
after_stage true x y = refl
after_stage false x y = refl

module _ (p : Programs) (t : Tables) (r : ℕ) (able : enabled p t r ≡ true) where
  -- whether the rank has more events of its instruction
  abbrev more : Bool
  more = nat_lt ((t.parts r).stage + 1) (events_at (current p t r))

  some_shape : (w : Shape) × (shape_next (instr_at p) (stand_of t) r ≡ Some w)
  some_shape = is_some_cases _ (sym (left_same p t r) ∙ event_where_held p t (row_next p t r) able)

  stand_after : stand_of (next_tables p t r) ≡ stand_past (events_at (current p t r)) (stand_of t) r (Some some_shape.0)
  stand_after = next_same p t r ∙ ap (stand_past (events_at (current p t r)) (stand_of t) r) some_shape.1

  at_after : (k : ℕ) → ((next_tables p t r).parts k).at ≡ with_at (λ j. (t.parts j).at) r (cond more (t.parts r).at ((t.parts r).at + 1)) k
  at_after k = ap (λ (s : Stand). s.at k) stand_after

  stage_after : (k : ℕ) → ((next_tables p t r).parts k).stage ≡ with_at (λ j. (t.parts j).stage) r (cond more ((t.parts r).stage + 1) 0) k
  stage_after k = ap (λ (s : Stand). s.stage k) stand_after

  module _ (positions : List Position) (known : r < length p.ranks) (stands : StandsIn p positions t) where
    here_at : (position_after p r (position_at positions r)).at ≡ cond more (t.parts r).at ((t.parts r).at + 1)
    here_at = after_at (nat_lt ((position_at positions r).stage + 1) (events_at (instr_at p r (position_at positions r).at))) (record { at = (position_at positions r).at; stage = (position_at positions r).stage + 1 }) (record { at = (position_at positions r).at + 1; stage = 0 }) ∙ ap₂ (λ i j. cond (nat_lt (j + 1) (events_at (instr_at p r i))) i (i + 1)) (stands.at r known) (stands.stage r known)

    here_stage : (position_after p r (position_at positions r)).stage ≡ cond more ((t.parts r).stage + 1) 0
    here_stage = after_stage (nat_lt ((position_at positions r).stage + 1) (events_at (instr_at p r (position_at positions r).at))) (record { at = (position_at positions r).at; stage = (position_at positions r).stage + 1 }) (record { at = (position_at positions r).at + 1; stage = 0 }) ∙ ap₂ (λ i j. cond (nat_lt (j + 1) (events_at (instr_at p r i))) (j + 1) 0) (stands.at r known) (stands.stage r known)

    -- the ranks stand where the positions say after the turn
    pub StandsIn-next : StandsIn p (set positions r (position_after p r (position_at positions r))) (next_tables p t r)
    StandsIn-next =
        let x = position_after p r (position_at positions r) in
        let within : r < length positions = omega (arith, stands.all) in
        record {
          all = length-set positions r x ∙ stands.all;
          at = λ k k_known. by_number (λ j. j < length p.ranks → (get_or (set positions r x) j first_position).at ≡ ((next_tables p t r).parts j).at) r
              (λ _. ap (λ (y : Position). y.at) (get_or-set_same positions r x first_position within) ∙ here_at ∙ sym (at_after r ∙ with_at-here (λ j. (t.parts j).at) r _))
              (λ j other j_known. ap (λ (y : Position). y.at) (get_or-set_other positions r j x first_position other) ∙ stands.at j j_known ∙ sym (at_after j ∙ with_at-elsewhere (λ i. (t.parts i).at) r _ j other)) k k_known;
          stage = λ k k_known. by_number (λ j. j < length p.ranks → (get_or (set positions r x) j first_position).stage ≡ ((next_tables p t r).parts j).stage) r
              (λ _. ap (λ (y : Position). y.stage) (get_or-set_same positions r x first_position within) ∙ here_stage ∙ sym (stage_after r ∙ with_at-here (λ j. (t.parts j).stage) r _))
              (λ j other j_known. ap (λ (y : Position). y.stage) (get_or-set_other positions r j x first_position other) ∙ stands.stage j j_known ∙ sym (stage_after j ∙ with_at-elsewhere (λ i. (t.parts i).stage) r _ j other)) k k_known;
        }

-- ---- a schedule's lines, turn by turn
pub event_lines-push : (p : Programs) (s : State) (rs : List ℕ) (r : ℕ)
    → event_lines p s (rs ++ r ∷ []) ≡ event_lines p s rs ++ event_line r (row_name (row_next p (fold (next p) s rs).tables r))
event_lines-push p s [] r = append-nil _
event_lines-push p s (q ∷ rs) r =
    let line = event_line q (row_name (row_next p s.tables q)) in
    ap (λ x. line ++ x) (event_lines-push p (next p s q) rs r) ∙ sym (append_assoc line (event_lines p (next p s q) rs) (event_line r (row_name (row_next p (fold (next p) (next p s q) rs).tables r))))

event_lines-append : (p : Programs) (s : State) (qs rs : List ℕ) → event_lines p s (qs ++ rs) ≡ event_lines p s qs ++ event_lines p (fold (next p) s qs) rs
event_lines-append p s [] rs = refl
event_lines-append p s (q ∷ qs) rs =
    let line = event_line q (row_name (row_next p s.tables q)) in
    ap (λ x. line ++ x) (event_lines-append p (next p s q) qs rs) ∙ sym (append_assoc line (event_lines p (next p s q) qs) (event_lines p (fold (next p) (next p s q) qs) rs))

-- the run has come through n turns of a legal schedule, and the ranks stand so
pub record HasWalked (p : Programs) (schedule : List ℕ) (n : ℕ) (positions : List Position) : Type 0 where
  pub stands : StandsIn p positions (fold (next p) (state_at_start p) (take n schedule)).tables
  pub legal : IsLegalFrom p (fold (next p) (state_at_start p) (take n schedule)) (drop n schedule)

module _ (p : Programs) (schedule : List ℕ) (n : ℕ) (positions : List Position) (more : n < length schedule) (walked : HasWalked p schedule n positions) where
  abbrev rank : ℕ
  rank = get_or schedule n 0

  abbrev state : State
  state = fold (next p) (state_at_start p) (take n schedule)

  legal_here : IsLegalFrom p state (rank ∷ drop (suc n) schedule)
  legal_here = subst (IsLegalFrom p state) (drop-cons schedule n 0 more) walked.legal

  pub rank_known : rank < length p.ranks
  rank_known = legal_here.0.known

  state_next : fold (next p) (state_at_start p) (take (n + 1) schedule) ≡ next p state rank
  state_next = ap (fold (next p) (state_at_start p)) (take_more schedule n 0 more) ∙ fold_push (next p) (state_at_start p) (take n schedule) rank

  pub HasWalked-next : HasWalked p schedule (n + 1) (set positions rank (position_after p rank (position_at positions rank)))
  HasWalked-next = record {
    stands = subst (λ (s : State). StandsIn p (set positions rank (position_after p rank (position_at positions rank))) s.tables) (sym state_next) (StandsIn-next p state.tables rank legal_here.0.able positions rank_known walked.stands);
    legal = rw (state_next, add-one n) legal_here.1;
  }

  -- the line of this turn
  pub lines_next : (e : Event) → event_at p rank (position_at positions rank) ≡ Some e
      → event_lines p (state_at_start p) (take (n + 1) schedule) ≡ event_lines p (state_at_start p) (take n schedule) ++ event_line rank (event_name e)
  lines_next e h =
      ap (event_lines p (state_at_start p)) (take_more schedule n 0 more) ∙ event_lines-push p (state_at_start p) (take n schedule) rank
      ∙ ap (λ name. event_lines p (state_at_start p) (take n schedule) ++ event_line rank name) (name_there p positions state.tables rank rank_known walked.stands e h)

  -- and all lines begin with those up to it
  pub lines_so_far : event_lines p (state_at_start p) schedule
      ≡ event_lines p (state_at_start p) (take (n + 1) schedule) ++ event_lines p (fold (next p) (state_at_start p) (take (n + 1) schedule)) (drop (n + 1) schedule)
  lines_so_far = ap (event_lines p (state_at_start p)) (sym (take-append-drop (n + 1) schedule)) ∙ event_lines-append p (state_at_start p) (take (n + 1) schedule) (drop (n + 1) schedule)

-- ---- the start

-- an instruction's number is small
pub few_instructions : (p : Programs) (r k : ℕ) (i : Instr) → r < length p.ranks → IsInRange p → instr_at p r k ≡ Some i → k < 100000
few_instructions p r k i known ranges e =
    let within : k < length (rank_of p r).instructions = slice_get_within (rank_of p r).instructions k i e in
    let one : length (rank_of p r).instructions ≤ instruction_total p = get_or-le-sum_by (λ (x : RankProgram). length x.instructions) p.ranks r idle_rank known in
    omega (arith, one, ranges.few)
