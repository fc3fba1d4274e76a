use Rattle.std.proofs.Common.{◌≡◌, ℕ, ◌∙◌, ap, refl, [], ◌∷◌, arith, rules}
use Rattle.std.specs.Prelude.{Option}
use Rattle.atomic_table.specs.Table.{Me}
use Rattle.qm_lock.specs.declared.views.View.{View}
use Rattle.qm_lock.specs.declared.views.Tally.{Tally}
use Rattle.qm_lock.specs.Views.{view}
use Rattle.qm_lock.specs.declared.views.Stage.TheVariants.{Idle, Waiting}
use Rattle.qm_lock.proofs.Turns.{draw_at, look_at, slot_here}
use Rattle.qm_lock.proofs.desk.Desk.take.Goals as goal

pub fetch_add-ticket-requires : goal.fetch_add-ticket-requires
fetch_add-ticket-requires g c =
    (c.requires.pass.table, (let h = c.args.self.now.words in omega arith), draw_at g.V.Turned.opening g.V.Turned.turns _ _ _ _ _ _ _ c.requires.free)

pub loop-init : goal.loop-init
loop-init g c = (refl, refl, refl)

abbrev Known : Type 0 → Type 0
Known V = Me (Option V) (View V)

-- the seat after the ticket was drawn, and in the loop
waiting : {V : Type 0} (m d l : Known V) (k : ℕ) (o : Option V) (t : Tally) → m ≡ (view o (t ∷ []) Idle, [])
    → d ≡ (view m.0.start m.0.tallies (Waiting k), m.1) → l ≡ d → l ≡ (view o (t ∷ []) (Waiting k), [])
waiting m d l k o t e q i = i ∙ (q ∙ ap (λ (z : Known _). (view z.0.start z.0.tallies (Waiting k), z.1)) e)

pub load-requires : goal.load-requires
load-requires g c = let d = c.fetch_add-ticket.ensures in (
  c.loop.invariant.0 ∙ (d.0 ∙ c.requires.pass.table),
  (let h = c.args.self.now.words in omega arith),
  look_at g.V.Turned.opening g.V.Turned.turns _ _ _ _ _ _ d.2.0 (waiting _ _ _ _ _ _ c.requires.free d.2.2 c.loop.invariant.1),
)

pub exchange-requires : goal.exchange-requires
exchange-requires g c = let d = c.fetch_add-ticket.ensures in (
  search rules,
  slot_here g.V.Turned.opening g.V.Turned.turns d.2.0 _ _ _ _ _ (waiting _ _ _ _ _ _ c.requires.free d.2.2 c.loop.invariant.1) c.load.ensures.2 (c.if-load-ticket.true ∙ d.2.1),
)
