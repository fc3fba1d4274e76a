-- Whichever rank is enabled, its event may be tried, and there is room for it
use Rattle.std.proofs.Common.{◌≡◌, ℕ, ◌<◌, ◌≤◌, true, List, length, Option, Some, sym, ap, subst, ◌∙◌, arith}
use Rattle.std.proofs.lemmas.Option.{same_Some}
use Rattle.qm_denot.specs.Stores.{MayGrow}
use Rattle.qm_denot.specs.WireLists.{Distinct}
use Rattle.qm_denot.proofs.Unique.{exponent_at_most}
use Rattle.qm_instr.specs.Programs.{Programs, rank_of}
use Rattle.qm_proto.specs.Model.State.{Tables}
use Rattle.qm_proto.specs.Model.Acts.{list_of, after_acts}
use Rattle.qm_proto.specs.Model.Runs.{enabled, has_event, row_next, next_tables, halves}
use Rattle.qm_proto.specs.Model.Schedules.{replay}
use Rattle.qm_machine.specs.declared.Halt.{Halt}
use Rattle.qm_machine.specs.Facts.{Facts, limits_of, room_of, size_at}
use Rattle.qm_machine.specs.Keeps.{IsKept}
use Rattle.qm_proto.specs.declared.Row.{Row}
use Rattle.qm_machine.specs.Tries.{CanTry, IsTriable}
use Rattle.qm_machine.proofs.Counts.{line_counted}
use Rattle.qm_machine.proofs.RowsRead.{triable_next}
use Rattle.qm_machine.proofs.Starts.{kept_size}
use Rattle.qm_safety.proofs.Tables.NextEvents.{row_is, line_is, line_next}
use Rattle.qm_proto.proofs.Counting.{event_where_held, schedule_few, schedule_more, event_total_few, letters_few, halvings_few, made_few}
use Rattle.qm_safety.proofs.Tables.Mays.{HasRoom, asks, may_line}
use Rattle.qm_safety.proofs.Tables.EventRooms.{room_for_line}
use Rattle.qm_safety.proofs.Tables.Standing.{well, well_next, well_roomy}
use Rattle.qm_safety.specs.Tables.Well.{IsWell}

module _ {text : List ℕ} {p : Programs} {rs : List ℕ} {h : Option Halt} {f : Facts} {room_left : ℕ} (kept : IsKept text p rs h f room_left) where
  well_here : IsWell p f.tables
  well_here = subst (IsWell p) (sym kept.tables) (well p kept.ready kept.in_range rs kept.legal)

  few_turns : length rs ≤ 500000
  few_turns = omega (arith, schedule_few p rs kept.legal, event_total_few p kept.in_range)

  has_room : (r : ℕ) → HasRoom p f.tables r (limits_of f)
  has_room r =
      let made : (f.tables.parts r).made ≡ ((replay p rs).tables.parts r).made = ap (λ (t : Tables). (t.parts r).made) kept.tables in
      record {
        ranks = omega (arith, kept.ranks);
        parcels = kept.parcels;
        letters = omega (arith, kept.letters, letters_few p rs kept.legal, few_turns);
        countable = omega (arith, made, made_few p rs r kept.legal, few_turns);
      }

  module _ (distinct : Distinct f.store.live) (r : ℕ) (known : r < length p.ranks) (able : enabled p f.tables r ≡ true) where
    can_try : MayGrow f.store → (row : Row) → row_next p f.tables r ≡ Some row → CanTry f r row
    can_try grow row is =
        let t = f.tables in
        let here = line_next p t r known able in
        let i = here.i in
        let w = here.w in
        let room = room_for_line p t r kept.ready kept.in_range well_here known able f.store.live distinct (λ v c. (kept.sound.live v).0 c) here in
        let wires : asks (list_of w.acts) ≤ room_of f = omega (arith, room, kept.wires) in
        let may = may_line p t r kept.ready kept.in_range well_here known (limits_of f) (has_room r) i here.s w here.next here.line wires in
        let fit : (k : ℕ) → k < length p.ranks → (after_acts r (list_of w.acts) t).held k ≤ size_at f.sizes k = λ k below.
        let after : halves (next_tables p t r) k ≤ (rank_of p k).buffer =
        (well_roomy p (next_tables p t r) kept.in_range (well_next p t r kept.ready kept.in_range well_here known able)).halves_few k below in
        let same = ap (λ (u : Tables). halves u k) (line_is p t r here) in
        omega (arith, after, same, kept_size kept k below) in
        let same : w ≡ row = same_Some w row (sym (row_is p t r i here.s here.next ∙ here.line) ∙ is) in
        let counted = line_counted p t r (length p.ranks) (limits_of f) f.sizes well_here.counted known kept.ranks i here.s w here.line may.0 fit in
        subst (CanTry f r) same
        (record {
          acts = record { known = omega (arith, known, kept.ranks); sound = kept.sound; may = may.0; counted = counted };
          checks = may.1;
          triable = subst IsTriable (sym same) (triable_next p t r row is);
          grow = grow;
        })

  -- the exponent is far from its bound
  kept_grow : MayGrow f.store
  kept_grow =
      omega (arith, exponent_at_most f.store.value f.store.exponent (replay p rs).circuit kept.stands.form, halvings_few p rs kept.legal, few_turns)

  pub kept_can_try : Distinct f.store.live → (r : ℕ) → r < length p.ranks → enabled p f.tables r ≡ true → (row : Row) → row_next p f.tables r ≡ Some row → CanTry f r row
  kept_can_try distinct r known able row is = can_try distinct r known able kept_grow row is

  -- and the schedule from its
  pub kept_room : (r : ℕ) → r < length p.ranks → enabled p f.tables r ≡ true → length rs < room_left
  kept_room r known able =
      let left : has_event p (replay p rs).tables r ≡ true =
      subst (λ t. has_event p t r ≡ true) kept.tables (event_where_held p f.tables (row_next p f.tables r) able) in
      omega (arith, schedule_more p rs r kept.legal known left, kept.turns)
