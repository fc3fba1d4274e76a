-- The schedule that always takes the lowest enabled rank ends, since each entry takes an event
use Rattle.std.proofs.Common.{ℕ, zero, suc, ◌+◌, ◌≤◌, ◌⊎◌, List, [], ◌∷◌, length, inl, inr, arith}
use Rattle.qm_instr.specs.Programs.{Programs}
use Rattle.qm_proto.specs.declared.Cause.{Cause}
use Rattle.qm_proto.specs.Model.Runs.{enabled, has_event, row_next, row_checks, IsRefused, IsAllowed, next}
use Rattle.qm_proto.specs.Model.Schedules.{state_at_start, replay, AllEnded, IsStuck, IsLowestEnabled, IsFirst, IsFirstEnd, IsFirstFrom}
use Rattle.qm_proto.specs.Model.State.{State}
use Rattle.qm_proto.proofs.Firsts.{first_unique, first_legal, first_parts}
use Rattle.qm_confluence.specs.Endings.FirstRuns.{StopsAtRefusal, FirstLaw}
use Rattle.qm_proto.specs.Model.Totals.{event_total}
use Rattle.qm_confluence.proofs.Endings.Lowest.{IsLowest, lowest_or_none}
use Rattle.qm_confluence.proofs.Endings.Tests.{tests_fail_or_not}
use Rattle.qm_proto.proofs.Counting.{AreDone, done_at_start, done_after, done_more, event_where_held}

module _ (p : Programs) where
  lowest_enabled : (s : State) (r : ℕ) → IsLowest (enabled p s.tables) (length p.ranks) r → IsLowestEnabled p s.tables r
  lowest_enabled s r h = record { known = h.known; able = h.holds; below = h.below }

  refused_or_not : (s : State) (r : ℕ) → IsAllowed p s r ⊎ ((c : Cause) × IsRefused p s r c)
  refused_or_not s r = tests_fail_or_not s.circuit (row_checks (row_next p s.tables r))

  runs : (fuel n : ℕ) (s : State) → AreDone p n s.tables → event_total p ≤ n + fuel → (rs : List ℕ) × IsFirstFrom p s rs
  runs zero n s done enough = elim (lowest_or_none (enabled p s.tables) (length p.ranks)) [
    | inl none ↦ ([], inl none)
    | inr (r, low) ↦
        absurd (let more = done_more p n s.tables r done low.known (event_where_held p s.tables (row_next p s.tables r) low.holds) in omega arith)
  ]
  runs (suc fuel) n s done enough = elim (lowest_or_none (enabled p s.tables) (length p.ranks)) [
    | inl none ↦ ([], inl none)
    | inr (r, low) ↦
        let left = event_where_held p s.tables (row_next p s.tables r) low.holds in
        let rest = runs fuel (n + 1) (next p s r) (done_after p n s.tables r done low.known left) (omega arith) in
        elim (refused_or_not s r) [
          | inl allowed ↦ (r ∷ rest.0, (lowest_enabled s r low, allowed, rest.1))
          | inr (c, refused) ↦ ([], inr (r, c, lowest_enabled s r low, refused))
        ]
  ]

  first_run : (rs : List ℕ) × IsFirst p rs
  unfolding IsFirst
  first_run = runs (event_total p) 0 (state_at_start p) (done_at_start p) (omega arith)

  -- how it ends
  ends_how : (rs : List ℕ) → IsFirstEnd p (replay p rs) → AllEnded p (replay p rs).tables ⊎ (StopsAtRefusal p rs ⊎ IsStuck p (replay p rs).tables)
  ends_how rs (inr (r, c, low, refused)) = inr (inl (record { rank = r; lowest = low; cause = c; refused = refused }))
  ends_how rs (inl none) = elim (lowest_or_none (has_event p (replay p rs).tables) (length p.ranks)) [
    | inl ended ↦ inl ended
    | inr (r, left) ↦ inr (inr (record { left = (r, left.known, left.holds); none = none }))
  ]

pub first_law : FirstLaw
first_law p =
    let found = first_run p in
    record {
      schedule = found.0;
      first = found.1;
      only = λ other there. first_unique p other found.0 there found.1;
      legal = first_legal p found.0 found.1;
      ends = ends_how p found.0 (first_parts p found.0 found.1).1;
    }
