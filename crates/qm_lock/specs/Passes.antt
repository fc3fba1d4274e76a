-- What contracts see of a desk and its passes
use Rattle.std.specs.Prelude.{◌≡◌, ℕ, ◌+◌, ◌-◌, ◌%◌, ◌^◌, Bool, if◌then◌else◌, List, [], ◌∷◌, ◌++◌, Option, None, Some, slice_get}
use Rattle.atomic_table.specs.Seated.{TableId}
use Rattle.atomic_table.specs.declared.badge.Badge.{Badge}
use Rattle.qm_lock.specs.Views.{view, own, tally, fresh}
use Rattle.qm_lock.specs.declared.views.TheConstants.{MOST_SEATS}
use Rattle.qm_lock.specs.declared.views.View.{View}
use Rattle.qm_lock.specs.declared.views.Tally.{Tally}
use Rattle.qm_lock.specs.declared.views.Stage.TheVariants.{Idle, Served}
use Rattle.qm_lock.specs.declared.desk.Pass.{Pass}
use Rattle.qm_lock.specs.declared.desk.Held.{Held}
use Rattle.qm_lock.specs.declared.desk.Desk.{Desk}

module _ {V : Type 0} where
  -- ---- what a pass knows: its number, how many entries it has added, and the list that it has seen
  abbrev pub pass_tally : Pass V → Tally
  pass_tally p = own p.seat.me.0.tallies

  abbrev pub pass_number : Pass V → ℕ
  pass_number p = (pass_tally p).number

  abbrev pub pass_count : Pass V → ℕ
  pass_count p = (pass_tally p).count

  abbrev pub pass_seen : Pass V → List ℕ
  pass_seen p = (pass_tally p).seen

  -- and the value that its desk began with
  abbrev pub pass_start : Pass V → Option V
  pass_start p = p.seat.me.0.start

  -- its count and its list after a turn, in which it added an entry or not
  abbrev pub count_after : Pass V → Bool → ℕ
  count_after p added = if added then pass_count p + 1 else pass_count p

  abbrev pub seen_after : Pass V → Bool → List ℕ
  seen_after p added = if added then pass_seen p ++ pass_number p ∷ [] else pass_seen p

  -- it has seen and added nothing
  abbrev pub IsNew : Pass V → Type 0
  IsNew p = (pass_count p ≡ 0) × (pass_seen p ≡ [])

  -- it holds no turn: its seat has no ticket and no slot
  abbrev pub IsFree : Pass V → Type 0
  IsFree p = p.seat.me ≡ (view (pass_start p) (pass_tally p ∷ []) Idle, [])

  -- it holds the turn that its last `take` gave: its seat is served, and has the empty slot
  abbrev pub HasTurn : Pass V → Held → Type 0
  HasTurn p held = (k : ℕ) × (held.ticket ≡ k % 2 ^ 64) × (p.seat.me ≡ (view (pass_start p) (pass_tally p ∷ []) (Served k), (0, None) ∷ []))

  -- ---- the table's first seat, from which n passes were made
  abbrev pub IsFirst : TableId → ℕ → Badge (View V) → Type 0
  IsFirst id n b = (b.table_id ≡ id) × ((start : Option V) × (b.views ≡ view start (fresh n (MOST_SEATS - n)) Idle ∷ []))

  abbrev pub KeepsFirst : TableId → ℕ → Option (Badge (View V)) → Type 0
  KeepsFirst id n (Some b) = IsFirst id n b
  KeepsFirst id n None = ⊥

  -- ---- a desk: the value that it began with, that value's opening, and how many passes it has
  abbrev pub desk_start : Desk V → V
  desk_start d = d.table.shared.key.value

  abbrev pub desk_opening : {O : Type 0} → (V → O) → Desk V → O
  desk_opening opening_of d = opening_of (desk_start d)

  abbrev pub desk_seats : Desk V → ℕ
  desk_seats d = d.seats

  -- ---- the passes of a desk, of which the last keeps the first seat
  pub record IsPassOf (d : Desk V) (p : Pass V) : Type 0 where
    pub table : p.seat.table_id ≡ d.table.shared.table_id
    pub start : pass_start p ≡ Some (desk_start d)
    pub first : pass_number p + 1 ≡ desk_seats d → KeepsFirst d.table.shared.table_id (desk_seats d) p.first

  -- the one with the number k, which holds no turn
  pub record IsReady (d : Desk V) (k : ℕ) (p : Pass V) : Type 0 where
    pub pass : IsPassOf d p
    pub free : IsFree p
    pub number : pass_number p ≡ k

  -- the one with the number k of a table, just made
  pub record IsMade (id : TableId) (start : V) (k : ℕ) (p : Pass V) : Type 0 where
    pub table : p.seat.table_id ≡ id
    pub start_is : pass_start p ≡ Some start
    pub free : IsFree p
    pub new : pass_tally p ≡ tally k 0 []

  -- so it is for each of these passes, with its place in the list
  abbrev pub EachPass : (ℕ → Pass V → Type 0) → List (Pass V) → Type 0
  EachPass P passes = (k : ℕ) (p : Pass V) → slice_get passes k ≡ Some p → P k p
