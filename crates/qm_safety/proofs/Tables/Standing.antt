-- What is so at all times of a run of programs without a fault
use Rattle.std.proofs.Common.{◌≡◌, ℕ, ◌+◌, ◌<◌, ◌≤◌, ◌⊎◌, nat_eq, nat_lt, Bool, true, false, ◌&&◌, ◌||◌, cond, if◌then◌else◌, ◌==◌, List, [], ◌∷◌, length, take, fold, All, Option, Some, None, is_some, slice_get, inl, inr, refl, sym, ap, subst, ◌∙◌, arith, ⊎_elim}
use Rattle.std.proofs.lemmas.Bool.{and_parts, and_right, cases_lt, eqb-true, false_from_ne_true, ltb-true, or_from}
use Rattle.std.proofs.lemmas.List.{get_or_past}
use Rattle.std.proofs.lemmas.List.Elements.{All-nil, All-head, All-tail, All-take}
use Rattle.qm_denot.specs.declared.Wire.{Wire}
use Rattle.qm_denot.specs.Wires.{Wires, no_wires, has, how_many}
use Rattle.qm_denot.proofs.Sets.{has-no_wires, how_many-no_wires, how_many-more}
use Rattle.qm_instr.specs.declared.Gate.{Gate}
use Rattle.qm_instr.specs.declared.Gate.TheVariants as gate
use Rattle.qm_instr.specs.declared.Instr.{Instr}
use Rattle.qm_instr.specs.declared.Instr.TheVariants as instr
use Rattle.qm_instr.specs.declared.Lane.{Lane}
use Rattle.qm_instr.specs.Counts.{events_of}
use Rattle.qm_instr.specs.Operands.{HasOperands}
use Rattle.qm_instr.specs.Programs.{Programs, RankProgram, rank_of, idle_rank, IsInRange}
use Rattle.qm_instr.proofs.Ranges.{rank_of-in_range}
use Rattle.qm_check.specs.Checks.{IsReady}
use Rattle.qm_check.specs.Operands.{uses_of, gate_uses}
use Rattle.qm_check.specs.Slots.{is_full_after, full_after}
use Rattle.qm_check.proofs.Faultless.{IsStep, step_of, own_length, protocol_length}
use Rattle.qm_denot.specs.declared.Parcel.{Parcel}
use Rattle.qm_proto.specs.Model.State.{Tables}
use Rattle.qm_proto.specs.Model.Rows.{instr_at, current}
use Rattle.qm_proto.specs.Model.Runs.{enabled, holds, row_holds, halves, next_tables}
use Rattle.qm_proto.specs.Model.Acts.{list_of}
use Rattle.qm_proto.specs.Model.Schedules.{tables_at_start, replay, IsLegal}
use Rattle.qm_proto.proofs.Positions.{all_other_slots_kept, all_other_near_kept}
use Rattle.qm_proto.proofs.Replays.{over_legal}
use Rattle.qm_proto.proofs.TidyActs.{tidy_at_start}
use Rattle.qm_safety.specs.Tables.Rooms.{IsRoomy}
use Rattle.qm_safety.specs.Tables.Well.{IsWell, IsRankWell, middle_at, has_near, one_if, near_of, is_taking, is_settled}
use Rattle.qm_safety.proofs.Tables.NextEvents.{IsLineNext, line_next, line_is, event_done, part_elsewhere}
use Rattle.qm_safety.proofs.Tables.RankSteps.{rank_same}
use Rattle.qm_safety.proofs.Tables.RankShapes.{rank_event}
use Rattle.qm_safety.proofs.Tables.LaneSteps.{HasWire}
use Rattle.qm_safety.proofs.Tables.LaneShapes.{lanes_event}
use Rattle.qm_safety.proofs.Tables.HandShapes.{IsHeld, held_event}
use Rattle.qm_safety.proofs.Tables.FarSteps.{IsFarAll}
use Rattle.qm_safety.proofs.Tables.FarShapes.{far_event}
use Rattle.qm_safety.proofs.Tables.TidyShapes.{keeps_tidy, tidy_after}
use Rattle.qm_safety.proofs.Tables.HeldCounts.{counts_event}
use Rattle.qm_proto.proofs.Changes.{by_number}

-- ---- before the first event
some_buffer : (p : Programs) (r : ℕ) → IsInRange p → 0 < (rank_of p r).buffer
some_buffer p r ranges =
    ⊎_elim
    (λ (known : r < length p.ranks). let h = (rank_of-in_range p r known ranges).some_buffer in omega arith)
    (λ (past : length p.ranks ≤ r). omega (arith, ap (λ (x : RankProgram). x.buffer) (get_or_past p.ranks r idle_rank past)))
    (cases_lt r (length p.ranks))

pub well_at_start : (p : Programs) → IsReady p → IsInRange p → IsWell p (tables_at_start p)
well_at_start p ready ranges =
    record {
      tidy = tidy_at_start p;
      ranks = λ r. record {
        full = λ q. refl;
        near_so = refl;
        in_hand = λ q m s. cc;
        protocol = omega (arith, protocol_length p r ready);
        own = omega (arith, own_length p r ready);
        bits = refl;
      };
      lanes = λ a. record { few = omega arith; fillable = λ e _. cc; wired = λ _. All-nil HasWire };
      far = λ r. record { few = omega (arith, how_many-no_wires); room = λ _. omega (arith, how_many-no_wires, some_buffer p r ranges) };
      far_known = λ r past. refl;
      counted = λ r. omega (arith, how_many-no_wires);
      held = λ r _ e. cc;
    }

-- ---- after each event
module _ (p : Programs) (t : Tables) (r : ℕ) (ready : IsReady p) (ranges : IsInRange p) (well : IsWell p t) (known : r < length p.ranks) where
  -- the instruction at which the rank stands
  pub step_here : (i : Instr) → instr_at p r (t.parts r).at ≡ Some i → IsStep p r (t.parts r).at i
  step_here i read = step_of p r (t.parts r).at i ready ranges known read

  -- the far halves before its event
  all_far : IsFarAll p t
  all_far = record { well = well.far; known = well.far_known }

  -- all of it after a line of the table
  after_line : IsLineNext p t r → IsWell p (next_tables p t r)
  after_line here =
      let i = here.i in
      let acts = list_of here.w.acts in
      let u = event_done (events_of i) r acts t in
      let held : (k : ℕ) → IsHeld p t k = well.held in
      let free : holds p t here.w.rule ≡ true = subst (λ o. row_holds p t o ≡ true) here.line here.next.holds in
      let far = far_event p t r known all_far i here.s here.w here.next.read here.next.stage here.line free (step_here i here.next.read) well.tidy well.counted well.lanes (held r) in
      let rank = rank_event p t r i here.s here.w here.next here.line (well.ranks r) (step_here i here.next.read) in
      subst (IsWell p) (sym (line_is p t r here))
      (record {
        tidy = tidy_after p t r well.tidy (well.ranks r) well.lanes (held r) step_here i here.s here.w here.next here.line;
        ranks = by_number (IsRankWell p u) r rank (λ k other. rank_same p t u k (well.ranks k)
            (part_elsewhere (events_of i) r k acts t other) (λ q. all_other_slots_kept r k other q acts t) (all_other_near_kept r k other acts t));
        lanes = lanes_event p t r well.lanes step_here i here.s here.w here.next here.line;
        far = far.well;
        far_known = far.known;
        counted = counts_event p t r well.counted i here.s here.w here.next here.line well.tidy (well.ranks r)
            (keeps_tidy p t r well.tidy (well.ranks r) well.lanes (held r) step_here i here.s here.w here.next here.line);
        held = held_event p t r well.tidy well.lanes held i here.s here.w here.next here.line;
      })

  pub well_next : enabled p t r ≡ true → IsWell p (next_tables p t r)
  well_next able = after_line (line_next p t r known able)

pub well : (p : Programs) → IsReady p → IsInRange p → (rs : List ℕ) → IsLegal p rs → IsWell p (replay p rs).tables
well p ready ranges rs legal =
    over_legal p (λ s. IsWell p s.tables) (well_at_start p ready ranges)
    (λ s r h may. well_next p s.tables r ready ranges h may.known may.able) rs legal

-- ---- wires are only where ranks have room for them
-- a slot that an instruction fills is one of the rank's
gate_leaves : (g : Gate) (q : ℕ) (before : Bool) → is_full_after q before (gate_uses g) ≡ true → before ≡ true
gate_leaves (gate.One g s) q before e = e
gate_leaves (gate.Cx c s) q before e = e
gate_leaves (gate.Cz c s) q before e = e

fills_own : (n s q : ℕ) (before : Bool) → All (λ k. k < n) (s ∷ []) → (if s == q then true else before) ≡ true → (before ≡ true) ⊎ (q < n)
fills_own n s q before own e = by_test (s == q) refl e
  where
    by_test : (b : Bool) → (s == q) ≡ b → (if b then true else before) ≡ true → (before ≡ true) ⊎ (q < n)
    by_test true same e = inr (subst (λ k. k < n) (eqb-true s q same) (All-head (λ k. k < n) s [] own))
    by_test false same e = inl e

empties_none : (s q : ℕ) (before : Bool) → (if s == q then false else before) ≡ true → before ≡ true
empties_none s q before e = by_test (s == q) e
  where
    by_test : (b : Bool) → (if b then false else before) ≡ true → before ≡ true
    by_test true e = cc
    by_test false e = e

fills_known : (n q : ℕ) (i : Instr) (before : Bool) → HasOperands n i → is_full_after q before (uses_of i) ≡ true → (before ≡ true) ⊎ (q < n)
fills_known n q (instr.Alloc s) before own e = fills_own n s q before own.slots e
fills_known n q (instr.CopyFrom s from tag) before own e = fills_own n s q before own.slots e
fills_known n q (instr.MoveFrom s from tag) before own e = fills_own n s q before own.slots e
fills_known n q (instr.Free s) before own e = inl (empties_none s q before e)
fills_known n q (instr.UndoTo s to tag) before own e = inl (empties_none s q before e)
fills_known n q (instr.MoveTo s to tag) before own e = inl (empties_none s q before e)
fills_known n q (instr.Do g) before own e = inl (gate_leaves g q before e)
fills_known n q (instr.When b g) before own e = inl (gate_leaves g q before e)
fills_known n q _ before own e = inl e

full_known : (n q : ℕ) (is : List Instr) (before : Bool) → All (HasOperands n) is
    → fold (λ before i. is_full_after q before (uses_of i)) before is ≡ true → (before ≡ true) ⊎ (q < n)
full_known n q [] before own e = inl e
full_known n q (i ∷ is) before own e =
    elim (full_known n q is (is_full_after q before (uses_of i)) (All-tail (HasOperands n) i is own) e) [
      | inl h ↦ fills_known n q i before (All-head (HasOperands n) i is own) h
      | inr h ↦ inr h
    ]

full_slot_known : (n q k : ℕ) (is : List Instr) → All (HasOperands n) is → full_after (take k is) q ≡ true → q < n
full_slot_known n q k is own e =
    elim (full_known n q (take k is) false (All-take (HasOperands n) k is own) e) [ inl h ↦ let z : ⊥ = cc in absurd z | inr h ↦ h ]

-- no number is below 0
never_below : (s : ℕ) → (nat_lt 0 s && nat_lt s 0) ≡ true → ⊥
never_below s e = let low : s < 0 = ltb-true s 0 (and_parts (nat_lt 0 s) (nat_lt s 0) e).1 in omega arith

-- a rank that holds a near half is not taking a far one
not_taking : (s : ℕ) → ((nat_eq s 0 && false) || (nat_lt 0 s && false)) ≡ false
not_taking s = or_from (nat_eq s 0 && false) (nat_lt 0 s && false) (and_right (nat_eq s 0) false refl) (and_right (nat_lt 0 s) false refl)

near_not_taking : (lanes : Lane → List Parcel) (r : ℕ) (o : Option Instr) (s : ℕ) → has_near (middle_at o) s ≡ true → is_taking lanes r o s ≡ false
near_not_taking lanes r (Some (instr.CopyTo q to tag)) s e = not_taking s
near_not_taking lanes r (Some (instr.MoveTo q to tag)) s e = not_taking s
near_not_taking lanes r (Some (instr.ReachTo q to tag)) s e = not_taking s
near_not_taking lanes r _ s e = absurd (never_below s e)

known_where : (p : Programs) (r : ℕ) → (length p.ranks ≤ r → ⊥) → r < length p.ranks
known_where p r not_past = ⊎_elim (λ (known : r < length p.ranks). known) (λ (past : length p.ranks ≤ r). absurd (not_past past)) (cases_lt r (length p.ranks))

none_in : (x : Wires) (w : Wire) → x ≡ no_wires → has x w ≡ true → ⊥
none_in x w empty h = let none : has x w ≡ false = ap (λ y. has y w) empty ∙ has-no_wires w in cc

-- a set of one wire at most
size_of_one : (b : Bool) (w : Wire) → how_many (one_if b w) ≤ 1
size_of_one true w = omega (arith, how_many-more no_wires w (has-no_wires w), how_many-no_wires)
size_of_one false w = omega (arith, how_many-no_wires)

module _ (p : Programs) (t : Tables) (ranges : IsInRange p) (well : IsWell p t) where
  -- a rank that there is not does nothing
  none_past : (r : ℕ) → length p.ranks ≤ r → (rank_of p r).instructions ≡ []
  none_past r past = ap (λ (x : RankProgram). x.instructions) (get_or_past p.ranks r idle_rank past)

  slot_full : (r q : ℕ) (w : Wire) → t.slots r q ≡ Some w
      → full_after (take (cond (is_settled (middle_at (current p t r)) (t.parts r).stage) ((t.parts r).at + 1) (t.parts r).at) (rank_of p r).instructions) q ≡ true
  slot_full r q w e = sym ((well.ranks r).full q) ∙ ap (λ (o : Option Wire). is_some o) e

  slots_known : (r q : ℕ) (w : Wire) → t.slots r q ≡ Some w → (r < length p.ranks) × (q < (rank_of p r).qubits)
  slots_known r q w e =
      let is = (rank_of p r).instructions in
      let full = slot_full r q w e in
      let known = known_where p r (λ past.
      let none : All (HasOperands 0) is = subst (All (HasOperands 0)) (sym (none_past r past)) (All-nil (HasOperands 0)) in
      let low : q < 0 = full_slot_known 0 q _ is none full in omega arith) in
      (known, full_slot_known (rank_of p r).qubits q _ is (rank_of-in_range p r known ranges).operands full)

  near_past : (r : ℕ) → length p.ranks ≤ r → t.near r ≡ no_wires
  near_past r past =
      let v = t.parts r in
      let none : current p t r ≡ None = ap (λ (is : List Instr). slice_get is v.at) (none_past r past) in
      (well.ranks r).near_so
      ∙ ap (λ o. one_if (has_near (middle_at o) v.stage) (near_of r v)) none
      ∙ ap (λ b. one_if b (near_of r v)) (false_from_ne_true (nat_lt 0 v.stage && nat_lt v.stage 0) (never_below v.stage))

  near_known : (r : ℕ) (w : Wire) → has (t.near r) w ≡ true → r < length p.ranks
  near_known r w h = known_where p r (λ past. none_in (t.near r) w (near_past r past) h)

  far_known : (r : ℕ) (w : Wire) → has (t.far r) w ≡ true → r < length p.ranks
  far_known r w h = known_where p r (λ past. none_in (t.far r) w (well.far_known r past) h)

  halves_few : (r : ℕ) → halves t r ≤ (rank_of p r).buffer
  halves_few r = by_near (has_near (middle_at (current p t r)) (t.parts r).stage) refl
    where
      near_size : (b : Bool) → has_near (middle_at (current p t r)) (t.parts r).stage ≡ b → how_many (t.near r) ≡ how_many (one_if b (near_of r (t.parts r)))
      near_size b e = ap how_many ((well.ranks r).near_so ∙ ap (λ c. one_if c (near_of r (t.parts r))) e)

      by_near : (b : Bool) → has_near (middle_at (current p t r)) (t.parts r).stage ≡ b → halves t r ≤ (rank_of p r).buffer
      by_near true e =
          let room : how_many (t.far r) < (rank_of p r).buffer = (well.far r).room (near_not_taking t.lanes r (current p t r) (t.parts r).stage e) in
          omega (arith, near_size true e, size_of_one true (near_of r (t.parts r)), well.counted r)
      by_near false e = omega (arith, near_size false e, how_many-no_wires, (well.far r).few, well.counted r)

  pub well_roomy : IsRoomy p t
  well_roomy = record { slot_known = slots_known; near_known = near_known; far_known = far_known; halves_few = λ r _. halves_few r }
