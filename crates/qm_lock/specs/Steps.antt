-- What the steps of `take` and `give` tell the seat that steps. Each changes one word, as `steps.rt` and the calls say, and the seat's own
-- view at most; what the others know stays as it was
use Rattle.std.specs.Prelude.{◌≡◌, ◌≢◌, ℕ, ◌%◌, ◌^◌, ◌⊎◌, List, [], ◌∷◌, Option, Some}
use Rattle.atomic_table.specs.Table.{Me, Step, rest}
use Rattle.qm_lock.specs.Lists.{times, StartsWith}
use Rattle.qm_lock.specs.Views.{tally, own, more, ticket, view}
use Rattle.qm_lock.specs.declared.views.View.{View}
use Rattle.qm_lock.specs.declared.views.Tally.{Tally}
use Rattle.qm_lock.specs.declared.views.Stage.TheVariants.{Idle, Waiting, Served}

module _ {V : Type 0} where
  -- step 1: the seat has the ticket that the word counted
  abbrev pub draws_ticket : Step (Option V) → Me (Option V) (View V) → ℕ → Me (Option V) (View V) → Type 0
  draws_ticket step before word after =
      (k : ℕ) × (word ≡ k % 2 ^ 64) × (after ≡ (view before.0.start before.0.tallies (Waiting k), before.1))

  -- step 4: the pass has one entry more, and has seen it
  abbrev pub counts_entry : Step (Option V) → Me (Option V) (View V) → ℕ → Me (Option V) (View V) → Type 0
  counts_entry step before word after = after ≡ (view before.0.start (more (own before.0.tallies) ∷ []) before.0.stage, before.1)

  -- step 6: the seat has no ticket and no slot
  abbrev pub serves_next : Step (Option V) → Me (Option V) (View V) → ℕ → Me (Option V) (View V) → Type 0
  serves_next step before word after = after ≡ (view before.0.start before.0.tallies Idle, rest before.1)

module _ {V O : Type 0} (opening_of : V → O) (turns_of : V → List ℕ) where
  -- step 3: the seat has the slot, with a value that stands for the opening and a journal; the journal begins with what the pass had seen,
  -- is now seen, and has the pass's number as often as the pass counts
  abbrev pub TakesSlot : ℕ → Option V → Tally → Me (Option V) (View V) → Type 0
  TakesSlot k begin t after =
      (x : V) × (journal : List ℕ) × (after ≡ (view begin (tally t.number t.count journal ∷ []) (Served k), (0, Some x) ∷ []))
      × ((start : V) → begin ≡ Some start → opening_of x ≡ opening_of start) × (turns_of x ≡ journal)
      × StartsWith journal t.seen × (times t.number journal ≡ t.count)

  -- steps 2 and 3: the slot is taken where the number served is the ticket, and else nothing happens
  abbrev pub looks_for_turn : Step (Option V) → Me (Option V) (View V) → ℕ → Me (Option V) (View V) → Type 0
  looks_for_turn step before word after =
      ((word ≡ ticket before.0.stage % 2 ^ 64) × TakesSlot (ticket before.0.stage) before.0.start (own before.0.tallies) after)
      ⊎ ((word ≢ ticket before.0.stage % 2 ^ 64) × (after ≡ before))
