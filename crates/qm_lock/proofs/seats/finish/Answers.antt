use Rattle.std.proofs.Common.{◌≡◌, ◌∙◌, sym, subst, rules}
use Rattle.std.specs.Prelude.{Some}
use Rattle.qm_lock.specs.Rule.{Ended}
use Rattle.qm_lock.proofs.Making.{ends_at}
use Rattle.qm_lock.proofs.seats.finish.Goals as goal

pub unreachable-requires : goal.unreachable-requires
unreachable-requires g c =
    let h = ends_at g.V.Turned.opening g.V.Turned.turns _ _ _ _ _ _ _ _ c.requires.seat c.requires.all c.close_with-closed.ensures.values.2 c.take-slot.ensures.value in
    let e : c.take-slot.result ≡ Some h.0 = h.1 in search (rules, e)

pub returns : goal.returns
returns g c =
    let h = ends_at g.V.Turned.opening g.V.Turned.turns _ _ _ _ _ _ _ _ c.requires.seat c.requires.all c.close_with-closed.ensures.values.2 c.take-slot.ensures.value in
    let e : Some h.0 ≡ Some c.in-Some.value = sym h.1 ∙ c.in-Some.is in
    let v : h.0 ≡ c.in-Some.value = cc in
    subst (Ended g.V.Turned.opening g.V.Turned.turns c.args.table.shared.key.value c.args.seat.me.0.tallies) v h.2
