-- Which runs take the lowest enabled rank each time, as a test that computes
use Rattle.std.proofs.Common.{◌≡◌, ℕ, zero, suc, ◌<◌, ◌⊎◌, Bool, true, false, not, ◌&&◌, nat_lt, List, [], ◌∷◌, length, inl, inr, arith}
use Rattle.std.proofs.lemmas.Bool.{ltb-true, and_parts}
use Rattle.qm_instr.specs.Programs.{Programs}
use Rattle.qm_proto.specs.Model.State.{Tables, State}
use Rattle.qm_proto.specs.Model.Runs.{enabled, IsAllowed, next_tables, next}
use Rattle.qm_proto.specs.Model.Schedules.{state_at_start, tables_at_start, IsLegal, IsLegalFrom, IsFirst, IsFirstFrom, IsMeetingFrom}
use Rattle.qm_proto.specs.Model.Ideal.{IdealState, ideal_enabled, ideal_next, ideal_at_start, IsOneFrom, IsOneRun}
use Rattle.qm_denot.proofs.NameLists.{is_false}

-- whether f is false below n
abbrev pub none_below : (ℕ → Bool) → ℕ → Bool
none_below f zero = true
none_below f (suc n) = not (f n) && none_below f n

-- whether r is the lowest number below n at which f is true
abbrev is_lowest : (ℕ → Bool) → ℕ → ℕ → Bool
is_lowest f n r = nat_lt r n && (f r && none_below f r)

-- whether the ranks are always the lowest that is enabled, and none is at their end
abbrev pub takes_lowest : {S : Type 0} → (S → ℕ → Bool) → (S → ℕ → S) → ℕ → S → List ℕ → Bool
takes_lowest able next n s [] = none_below (able s) n
takes_lowest able next n s (r ∷ rs) = is_lowest (able s) n r && takes_lowest able next n (next s r) rs

-- the test for a run with letters left aside
abbrev pub is_meeting : Programs → List ℕ → Bool
is_meeting p rs = takes_lowest (enabled p) (next_tables p) (length p.ranks) (tables_at_start p) rs

-- the test for an ideal run
abbrev pub is_one_run : Programs → List ℕ → Bool
is_one_run p rs = takes_lowest (λ s. ideal_enabled p s.tables) (ideal_next p) (length p.ranks) (ideal_at_start p) rs

pub same_or_below : (k n : ℕ) → k < suc n → (k ≡ n) ⊎ (k < n)
same_or_below k n h = grind arith

pub false_below : (f : ℕ → Bool) (n : ℕ) → none_below f n ≡ true → (k : ℕ) → k < n → f k ≡ false
false_below f zero e k h = absurd (omega arith)
false_below f (suc n) e k h =
    let parts = and_parts (not (f n)) (none_below f n) e in
    elim (same_or_below k n h) [
      | inl same ↦ rw same (is_false (f n) parts.0)
      | inr below ↦ false_below f n parts.1 k below
    ]

-- what it says of a number
record IsLowest (f : ℕ → Bool) (n r : ℕ) : Type 0 where
  known : r < n
  able : f r ≡ true
  below : (k : ℕ) → k < r → f k ≡ false

lowest : (f : ℕ → Bool) (n r : ℕ) → is_lowest f n r ≡ true → IsLowest f n r
lowest f n r e =
    let outer = and_parts (nat_lt r n) (f r && none_below f r) e in
    let inner = and_parts (f r) (none_below f r) outer.1 in
    record { known = ltb-true _ _ outer.0; able = inner.0; below = false_below f r inner.1 }

meeting_from : (p : Programs) (t : Tables) (rs : List ℕ) → takes_lowest (enabled p) (next_tables p) (length p.ranks) t rs ≡ true → IsMeetingFrom p t rs
meeting_from p t [] e = false_below (enabled p t) (length p.ranks) e
meeting_from p t (r ∷ rs) e =
    let parts = and_parts (is_lowest (enabled p t) (length p.ranks) r) (takes_lowest (enabled p) (next_tables p) (length p.ranks) (next_tables p t r) rs) e in
    let first = lowest (enabled p t) (length p.ranks) r parts.0 in
    (record { known = first.known; able = first.able; below = first.below }, meeting_from p (next_tables p t r) rs parts.1)

pub meeting : (p : Programs) (rs : List ℕ) → is_meeting p rs ≡ true → IsMeetingFrom p (tables_at_start p) rs
meeting p rs e = meeting_from p (tables_at_start p) rs e

one_from : (p : Programs) (s : IdealState) (rs : List ℕ)
    → takes_lowest (λ (s : IdealState). ideal_enabled p s.tables) (ideal_next p) (length p.ranks) s rs ≡ true → IsOneFrom p s rs
one_from p s [] e = false_below (ideal_enabled p s.tables) (length p.ranks) e
one_from p s (r ∷ rs) e =
    let able : IdealState → ℕ → Bool = λ s. ideal_enabled p s.tables in
    let parts = and_parts (is_lowest (able s) (length p.ranks) r) (takes_lowest able (ideal_next p) (length p.ranks) (ideal_next p s r) rs) e in
    let first = lowest (able s) (length p.ranks) r parts.0 in
    (record { known = first.known; able = first.able; below = first.below }, one_from p (ideal_next p s r) rs parts.1)

pub one_run : (p : Programs) (rs : List ℕ) → is_one_run p rs ≡ true → IsOneRun p rs
unfolding IsOneRun
one_run p rs e = one_from p (ideal_at_start p) rs e

-- no event of the schedule is refused
abbrev pub AllAllowed : Programs → State → List ℕ → Type 0
AllAllowed p s [] = Unit {0}
AllAllowed p s (r ∷ rs) = IsAllowed p s r × AllAllowed p (next p s r) rs

first_from_meeting : (p : Programs) (s : State) (rs : List ℕ) → IsMeetingFrom p s.tables rs → AllAllowed p s rs → IsFirstFrom p s rs
first_from_meeting p s [] m a = inl m
first_from_meeting p s (r ∷ rs) m a = (m.0, a.0, first_from_meeting p (next p s r) rs m.1 a.1)

legal_from_meeting : (p : Programs) (s : State) (rs : List ℕ) → IsMeetingFrom p s.tables rs → AllAllowed p s rs → IsLegalFrom p s rs
legal_from_meeting p s [] m a = tt
legal_from_meeting p s (r ∷ rs) m a =
    (record { known = m.0.known; able = m.0.able; allowed = a.0 }, legal_from_meeting p (next p s r) rs m.1 a.1)

-- a run of which no event is refused steps the lowest enabled rank also where letters and tests count
pub first_where_allowed : (p : Programs) (rs : List ℕ) → IsMeetingFrom p (tables_at_start p) rs → AllAllowed p (state_at_start p) rs → IsFirst p rs
unfolding IsFirst
first_where_allowed p rs m a = first_from_meeting p (state_at_start p) rs m a

pub legal_where_allowed : (p : Programs) (rs : List ℕ) → IsMeetingFrom p (tables_at_start p) rs → AllAllowed p (state_at_start p) rs → IsLegal p rs
unfolding IsLegal
legal_where_allowed p rs m a = legal_from_meeting p (state_at_start p) rs m a

-- whether each of the ranks is enabled when its turn comes
abbrev pub are_enabled : Programs → Tables → List ℕ → Bool
are_enabled p t [] = true
are_enabled p t (r ∷ rs) = nat_lt r (length p.ranks) && (enabled p t r && are_enabled p (next_tables p t r) rs)

legal_from_enabled : (p : Programs) (s : State) (rs : List ℕ) → are_enabled p s.tables rs ≡ true → AllAllowed p s rs → IsLegalFrom p s rs
legal_from_enabled p s [] e a = tt
legal_from_enabled p s (r ∷ rs) e a =
    let known = and_parts (nat_lt r (length p.ranks)) (enabled p s.tables r && are_enabled p (next_tables p s.tables r) rs) e in
    let able = and_parts (enabled p s.tables r) (are_enabled p (next_tables p s.tables r) rs) known.1 in
    (record { known = ltb-true _ _ known.0; able = able.0; allowed = a.0 }, legal_from_enabled p (next p s r) rs able.1 a.1)

pub legal_where_enabled : (p : Programs) (rs : List ℕ) → are_enabled p (tables_at_start p) rs ≡ true → AllAllowed p (state_at_start p) rs → IsLegal p rs
unfolding IsLegal
legal_where_enabled p rs e a = legal_from_enabled p (state_at_start p) rs e a
