-- What the seats of a desk know: tallies of passes, and stages of turns
use Rattle.std.specs.Prelude.{◌≡◌, ℕ, zero, suc, ◌+◌, ◌==◌, ◌⊎◌, List, [], ◌∷◌, ◌++◌, Option, None, Some}
use Rattle.qm_lock.specs.Lists.{when, StartsWith}
use Rattle.qm_lock.specs.declared.views.TheConstants.{MOST_SEATS}
use Rattle.qm_lock.specs.declared.views.View.{View}
use Rattle.qm_lock.specs.declared.views.Tally.{Tally}
use Rattle.qm_lock.specs.declared.views.Stage.{Stage}
use Rattle.qm_lock.specs.declared.views.Stage.TheVariants.{Idle, Waiting, Served}

-- ---- tallies
abbrev pub tally : ℕ → ℕ → List ℕ → Tally
tally number count seen = record { number = number; count = count; seen = seen }

-- the first tally, which is a pass's own
abbrev pub own : List Tally → Tally
own [] = tally 0 0 []
own (t ∷ ts) = t

abbrev pub only_own : List Tally → List Tally
only_own [] = []
only_own (t ∷ ts) = t ∷ []

abbrev pub but_own : List Tally → List Tally
but_own [] = []
but_own (t ∷ ts) = ts

-- one entry more
abbrev pub more : Tally → Tally
more t = tally t.number (t.count + 1) (t.seen ++ t.number ∷ [])

-- the tallies of n passes that have added and seen nothing, with the numbers from r on
abbrev pub fresh : ℕ → ℕ → List Tally
fresh r zero = []
fresh r (suc n) = tally r 0 [] ∷ fresh (r + 1) n

-- how many of the tallies have the number r, and what they count together
abbrev pub numbered : ℕ → List Tally → ℕ
numbered r [] = 0
numbered r (t ∷ ts) = (when (t.number == r) 1) + numbered r ts

abbrev pub counted : ℕ → List Tally → ℕ
counted r [] = 0
counted r (t ∷ ts) = (when (t.number == r) t.count) + counted r ts

-- the journal begins with what each has seen
abbrev pub AllSeen : List ℕ → List Tally → Type 0
AllSeen journal [] = Unit {0}
AllSeen journal (t ∷ ts) = StartsWith journal t.seen × AllSeen journal ts

-- one of them has seen the whole journal
abbrev pub Sees : List ℕ → List Tally → Type 0
Sees journal [] = ⊥
Sees journal (t ∷ ts) = (t.seen ≡ journal) ⊎ Sees journal ts

-- ---- stages
-- 1 where a seat at this stage has the ticket k, has a ticket, is served; else 0
abbrev pub has_ticket : ℕ → Stage → ℕ
has_ticket k Idle = 0
has_ticket k (Waiting j) = when (k == j) 1
has_ticket k (Served j) = when (k == j) 1

abbrev pub tickets : Stage → ℕ
tickets Idle = 0
tickets (Waiting j) = 1
tickets (Served j) = 1

abbrev pub in_turn : Stage → ℕ
in_turn Idle = 0
in_turn (Waiting j) = 0
in_turn (Served j) = 1

-- the ticket, or 0 where there is none
abbrev pub ticket : Stage → ℕ
ticket Idle = 0
ticket (Waiting j) = j
ticket (Served j) = j

-- ---- views
module _ {V : Type 0} where
  abbrev pub view : Option V → List Tally → Stage → View V
  view start tallies stage = record { start = start; tallies = tallies; stage = stage }

  -- the first seat of a desk that begins with this value
  unfoldable pub first_view : V → View V
  first_view x = view (Some x) (fresh 0 MOST_SEATS) Idle

  -- a view without its first tally, and a new one with that alone
  abbrev pub without_first : View V → View V
  without_first v = view v.start (but_own v.tallies) v.stage

  abbrev pub only_first : View V → View V
  only_first v = view v.start (only_own v.tallies) Idle

  -- a view with the tallies of another behind its own, and what that other is left with
  abbrev pub together : View V → View V → View V
  together v w = view w.start (v.tallies ++ w.tallies) v.stage

  abbrev pub spent : View V
  spent = view None [] Idle
