-- The rule of a desk: what holds between any two steps on its table
use Rattle.std.specs.Prelude.{◌≡◌, ℕ, ◌+◌, ◌%◌, ◌^◌, ◌<◌, ◌≤◌, ◌⊎◌, List, [], ◌∷◌, length, Option, Some}
use mathlib.Core.Option.{some, none}
use lib.ListN.{get_elem?}
use Rattle.atomic_table.specs.Table.{State}
use Rattle.qm_lock.specs.Lists.{times}
use Rattle.qm_lock.specs.Views.{tally, AllSeen, Sees, numbered, counted, has_ticket, tickets, in_turn}
use Rattle.qm_lock.specs.declared.views.TheConstants.{MOST_SEATS}
use Rattle.qm_lock.specs.declared.views.View.{View}
use Rattle.qm_lock.specs.declared.views.Tally.{Tally}
use Rattle.qm_lock.specs.declared.views.Stage.{Stage}
use Rattle.qm_lock.specs.declared.views.Stage.TheVariants.{Idle, Waiting, Served}

-- f of each, added up
abbrev pub total : {A : Type 0} → (A → ℕ) → List A → ℕ
total f [] = 0
total f (x ∷ xs) = f x + total f xs

-- a seat that is served has the ticket `served`, and its pass has seen the whole journal
abbrev pub HasSeenAll : ℕ → List ℕ → Stage → List Tally → Type 0
HasSeenAll served journal Idle tallies = Unit {0}
HasSeenAll served journal (Waiting k) tallies = Unit {0}
HasSeenAll served journal (Served k) tallies = (k ≡ served) × ((r n : ℕ) × (tallies ≡ tally r n journal ∷ []))

module _ {V : Type 0} where
  -- how many seats have the ticket k, have a ticket, are served
  abbrev pub holders : ℕ → List (View V) → ℕ
  holders k views = total (λ v. has_ticket k v.stage) views

  abbrev pub tickets_held : List (View V) → ℕ
  tickets_held views = total (λ v. tickets v.stage) views

  abbrev pub turns_held : List (View V) → ℕ
  turns_held views = total (λ v. in_turn v.stage) views

  -- how many tallies there are, how many of the number r, and what those count
  abbrev pub tallies_held : List (View V) → ℕ
  tallies_held views = total (λ v. length v.tallies) views

  abbrev pub tallies_of : ℕ → List (View V) → ℕ
  tallies_of r views = total (λ v. numbered r v.tallies) views

  abbrev pub entries_of : ℕ → List (View V) → ℕ
  entries_of r views = total (λ v. counted r v.tallies) views

  -- some seat has seen the whole journal
  abbrev pub SomeSees : List ℕ → List (View V) → Type 0
  SomeSees journal views = (i : ℕ) × (v : View V) × (get_elem? views i ≡ some v) × Sees journal v.tallies

  -- the line: each ticket from the one that is served to the last one drawn is one seat's, and no other ticket is anyone's
  pub record IsLine (served drawn : ℕ) (views : List (View V)) : Type 0 where
    pub over : (k : ℕ) → k < served → holders k views ≡ 0
    pub in_line : (k : ℕ) → served ≤ k → k < drawn → holders k views ≡ 1
    pub undrawn : (k : ℕ) → drawn ≤ k → holders k views ≡ 0
    pub count : tickets_held views + served ≡ drawn

  -- the journal: its entries of each number are those that the number's one tally counts, and some seat has seen it whole
  pub record IsJournal (journal : List ℕ) (views : List (View V)) : Type 0 where
    pub seats : tallies_held views ≡ MOST_SEATS
    pub numbers : (r : ℕ) → tallies_of r views ≤ 1
    pub counts : (r : ℕ) → entries_of r views ≡ times r journal
    pub longest : SomeSees journal views

  -- what each seat knows of a desk that began with the value `start`
  pub record Knows (start : V) (served : ℕ) (journal : List ℕ) (v : View V) : Type 0 where
    pub start_is : 0 < length v.tallies → v.start ≡ Some start
    pub all_seen : AllSeen journal v.tallies
    pub one_ticket : tickets v.stage ≤ length v.tallies
    pub seen_all : HasSeenAll served journal v.stage v.tallies

module _ {V O : Type 0} (opening_of : V → O) (turns_of : V → List ℕ) where
  -- the slot: at home it has a value that stands for the opening and the journal; it is out while a seat is served
  abbrev pub IsSlot : V → List ℕ → List (mathlib.Core.Option.Option (Option V)) → ℕ → Type 0
  IsSlot start journal homes out =
      ((out ≡ 0) × ((x : V) × (homes ≡ some (Some x) ∷ []) × (opening_of x ≡ opening_of start) × (turns_of x ≡ journal)))
      ⊎ ((out ≡ 1) × (homes ≡ none ∷ []))

  -- what holds between any two steps. The words count modulo 2 ^ 64; the rule speaks of the true numbers: so many tickets were drawn, so
  -- many turns were ended
  pub record IsDesk (start : V) (s : State (Option V) (View V)) : Type 0 where
    pub drawn : ℕ
    pub served : ℕ
    pub journal : List ℕ
    pub words : s.words ≡ drawn % 2 ^ 64 ∷ served % 2 ^ 64 ∷ length journal % 2 ^ 64 ∷ []
    pub line : IsLine served drawn s.views
    pub entries : IsJournal journal s.views
    pub each : (i : ℕ) (v : View V) → get_elem? s.views i ≡ some v → Knows start served journal v
    pub slot : IsSlot start journal s.homes (turns_held s.views)

  -- the value at the end: its list begins with all that was seen, and has each number as often as its tallies count
  pub record Ended (start : V) (tallies : List Tally) (x : V) : Type 0 where
    pub opening : opening_of x ≡ opening_of start
    pub all_seen : AllSeen (turns_of x) tallies
    pub counts : (r : ℕ) → times r (turns_of x) ≡ counted r tallies
