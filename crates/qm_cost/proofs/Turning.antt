-- The events of a schedule, and that the direct predecessors of an event have lower numbers
use Rattle.std.proofs.Common.{◌≡◌, ◌≢◌, ℕ, zero, suc, nat_eq, Bool, true, false, cond, List, [], ◌∷◌, length, take, fold, slice_get, Option, Some, None, refl, ap, subst, arith}
use Rattle.std.proofs.lemmas.Option.{same_Some}
use Rattle.qm_instr.specs.declared.Lane.{Lane}
use Rattle.qm_instr.specs.Programs.{Programs}
use Rattle.qm_proto.specs.declared.Row.{Row}
use Rattle.qm_proto.specs.Model.State.{Tables, State}
use Rattle.qm_proto.specs.Model.Runs.{row_holds, row_next, enabled, next}
use Rattle.qm_proto.specs.Model.Schedules.{state_at_start, MayStep, IsLegal, IsLegalFrom}
use Rattle.qm_walk.specs.Notes.{noted, note_next}
use Rattle.qm_cost.specs.Longest.{IsBelow, AreBelow, links_of}
use Rattle.qm_cost.specs.Turns.{Turn, turns_from, turns_of, turn_at, last_of, last_of_some, gives, giver_of, giver_before, lane_taken, partner_of, taken_before}

-- ---- the state before event n, and the event
abbrev pub state_upto : Programs → List ℕ → ℕ → State
state_upto p rs n = fold (next p) (state_at_start p) (take n rs)

abbrev pub turn_from : Programs → State → ℕ → Turn
turn_from p s r = record { rank = r; note = note_next p s.tables r }

there_from : (p : Programs) (s : State) (rs : List ℕ) (n r : ℕ) → slice_get rs n ≡ Some r
    → turn_at (turns_from p s rs) n ≡ turn_from p (fold (next p) s (take n rs)) r
there_from p s [] n r e = absurd (cc)
there_from p s (q ∷ rs) zero r e = ap (turn_from p s) (same_Some q r e)
there_from p s (q ∷ rs) (suc n) r e = there_from p (next p s q) rs n r e

pub turn_there : (p : Programs) (rs : List ℕ) (n r : ℕ) → slice_get rs n ≡ Some r → turn_at (turns_of p rs) n ≡ turn_from p (state_upto p rs n) r
turn_there p rs n r e = there_from p (state_at_start p) rs n r e

more_from : (p : Programs) (s : State) (rs : List ℕ) (n r : ℕ) → slice_get rs n ≡ Some r
    → fold (next p) s (take (suc n) rs) ≡ next p (fold (next p) s (take n rs)) r
more_from p s [] n r e = absurd (cc)
more_from p s (q ∷ rs) zero r e = ap (next p s) (same_Some q r e)
more_from p s (q ∷ rs) (suc n) r e = more_from p (next p s q) rs n r e

pub state_more : (p : Programs) (rs : List ℕ) (n r : ℕ) → slice_get rs n ≡ Some r → state_upto p rs (suc n) ≡ next p (state_upto p rs n) r
state_more p rs n r e = more_from p (state_at_start p) rs n r e

legal_from : (p : Programs) (s : State) (rs : List ℕ) (n r : ℕ) → IsLegalFrom p s rs → slice_get rs n ≡ Some r → MayStep p (fold (next p) s (take n rs)) r
legal_from p s [] n r h e = absurd (cc)
legal_from p s (q ∷ rs) zero r h e = subst (λ k. MayStep p s k) (same_Some q r e) h.0
legal_from p s (q ∷ rs) (suc n) r h e = legal_from p (next p s q) rs n r h.1 e

pub legal_there : (p : Programs) (rs : List ℕ) (n r : ℕ) → IsLegal p rs → slice_get rs n ≡ Some r → MayStep p (state_upto p rs n) r
unfolding IsLegal
legal_there p rs n r h e = legal_from p (state_at_start p) rs n r h e

some_noted : (p : Programs) (t : Tables) (r : ℕ) (w : Option Row) → row_holds p t w ≡ true → noted r w ≢ None
some_noted p t r None h = absurd (cc)
some_noted p t r (Some w) h = λ e. cc

-- an enabled rank has an event
pub enabled_noted : (p : Programs) (t : Tables) (r : ℕ) → enabled p t r ≡ true → note_next p t r ≢ None
enabled_noted p t r h = some_noted p t r (row_next p t r) h

length_from : (p : Programs) (s : State) (rs : List ℕ) → length (turns_from p s rs) ≡ length rs
length_from p s [] = refl
length_from p s (r ∷ rs) = ap suc (length_from p (next p s r) rs)

pub length_turns : (p : Programs) (rs : List ℕ) → length (turns_of p rs) ≡ length rs
length_turns p rs = length_from p (state_at_start p) rs

-- ---- lower numbers
below_suc : (j : ℕ) (o : Option ℕ) → IsBelow j o → IsBelow (suc j) o
below_suc j None h = tt
below_suc j (Some i) h = omega arith

below_if : (b : Bool) (j : ℕ) (o : Option ℕ) → IsBelow j o → IsBelow (suc j) (cond b (Some j) o)
below_if true j o h = omega arith
below_if false j o h = below_suc j o h

module _ (ts : List Turn) where
  last_below : (r j : ℕ) → IsBelow j (last_of ts r j)
  last_below r zero = tt
  last_below r (suc j) = below_if (nat_eq (turn_at ts j).rank r) j (last_of ts r j) (last_below r j)

  last_some_below : (o : Option ℕ) (j : ℕ) → IsBelow j (last_of_some ts o j)
  last_some_below None j = tt
  last_some_below (Some r) j = last_below r j

  giver_below : (a : Lane) (n j : ℕ) → IsBelow j (giver_of ts a n j)
  giver_below a n zero = tt
  giver_below a n (suc j) = below_if (gives ts j a n) j (giver_of ts a n j) (giver_below a n j)

  giver_before_below : (o : Option Lane) (j : ℕ) → IsBelow j (giver_before ts o j)
  giver_before_below None j = tt
  giver_before_below (Some a) j = giver_below a (taken_before ts a j) j

  pub links_below : (j : ℕ) → AreBelow j (links_of ts j)
  links_below j =
      record {
        own = last_below (turn_at ts j).rank j;
        partner = last_some_below (partner_of (turn_at ts j).note) j;
        post = giver_before_below (lane_taken (turn_at ts j).note) j;
      }
