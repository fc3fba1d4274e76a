use Rattle.std.proofs.Common.{◌≡◌, ℕ, ◌∙◌, ap, [], ◌∷◌, arith, rules}
use Rattle.std.specs.Prelude.{Option, Some, None}
use Rattle.atomic_table.specs.Table.{Me, rest}
use Rattle.qm_lock.specs.declared.views.View.{View}
use Rattle.qm_lock.specs.declared.views.Tally.{Tally}
use Rattle.qm_lock.specs.declared.views.Stage.TheVariants.{Served}
use Rattle.qm_lock.specs.declared.desk.Pass.{Pass}
use Rattle.qm_lock.specs.Views.{view, own, more}
use Rattle.qm_lock.proofs.Turns.{mark_at, serve_at}
use Rattle.qm_lock.proofs.desk.Desk.give.Goals.{then-added, else-added}
use Rattle.qm_lock.proofs.desk.Desk.give.Goals as goal

pub fetch_add-requires : goal.fetch_add-requires
fetch_add-requires g c = (
  search rules,
  (let h = c.args.self.now.words in omega arith),
  mark_at g.V.Turned.opening g.V.Turned.turns _ _ _ _ _ _ c.requires.turn.0 _ c.requires.turn.2,
)

abbrev Known : Type 0 → Type 0
Known V = Me (Option V) (View V)

-- the seat after the value was put back
back : {V : Type 0} (d w : Known V) (k : ℕ) (o : Option V) (t : Tally) (x : V) → d ≡ (view o (t ∷ []) (Served k), (0, None) ∷ [])
    → w ≡ (d.0, (0, Some x) ∷ rest d.1) → w ≡ (view o (t ∷ []) (Served k), (0, Some x) ∷ [])
back d w k o t x e q = q ∙ ap (λ (z : Known _). (z.0, (0, Some x) ∷ rest z.1)) e

-- and after its entry was counted
marked : {V : Type 0} (m d : Known V) (k : ℕ) (o : Option V) (t : Tally) → m ≡ (view o (t ∷ []) (Served k), (0, None) ∷ [])
    → d ≡ (view m.0.start (more (own m.0.tallies) ∷ []) m.0.stage, m.1) → d ≡ (view o (more t ∷ []) (Served k), (0, None) ∷ [])
marked m d k o t e q = q ∙ ap (λ (z : Known _). (view z.0.start (more (own z.0.tallies) ∷ []) z.0.stage, z.1)) e

pub fetch_add-requires-2 : goal.fetch_add-requires-2
fetch_add-requires-2 g c = (
  search rules,
  (let h = c.args.self.now.words in omega arith),
  elim c.if-added.branch [
    | then-added w ↦
        serve_at g.V.Turned.opening g.V.Turned.turns _ _ _ _ _ (more (own c.args.pass.now.seat.me.0.tallies)) c.requires.turn.0 c.args.value
        (back _ _ _ _ _ _ (ap (λ (p : Pass _). p.seat.me) w.pass-is ∙ marked _ _ _ _ _ c.requires.turn.2 w.fetch_add.ensures.2) c.exchange-empty.ensures.3)
        c.requires.opening (rw w.if-added.true at c.requires.turns)
    | else-added w ↦
        serve_at g.V.Turned.opening g.V.Turned.turns _ _ _ _ _ (own c.args.pass.now.seat.me.0.tallies) c.requires.turn.0 c.args.value
        (back _ _ _ _ _ _ (ap (λ (p : Pass _). p.seat.me) w.pass-is ∙ c.requires.turn.2) c.exchange-empty.ensures.3)
        c.requires.opening (rw w.if-added.false at c.requires.turns)
  ],
)

pub returns-clause-count : goal.returns-clause-count
returns-clause-count g c = search rules
