use Rattle.std.proofs.Common.{◌≡◌, List, [], ◌∷◌, ◌++◌, map, length, ◌∙◌, sym, ap, append_assoc}
use Rattle.std.specs.Prelude.{Some, slice_get}
use mathlib.Core.List.{map-append}
use Rattle.qm_lock.specs.Views.{view}
use Rattle.qm_lock.specs.declared.views.Stage.TheVariants.{Idle}
use Rattle.qm_lock.specs.Passes.{pass_tally}
use Rattle.qm_lock.specs.declared.desk.Pass.{Pass}
use Rattle.qm_lock.specs.declared.views.Tally.{Tally}
use Rattle.qm_lock.proofs.Places.{seam}
use Rattle.qm_lock.proofs.Making.{join_at, join_step}
use Rattle.qm_lock.proofs.seats.join_all.Goals as goal

here : {V : Type 0} (all ys rest : List (Pass V)) (p : Pass V) (zs : List (Pass V)) → all ≡ ys ++ rest → rest ≡ p ∷ zs → slice_get all (length ys) ≡ Some p
here all ys rest p zs e f = ap (λ (l : List (Pass _)). slice_get l (length ys)) (e ∙ ap (λ l. ys ++ l) f) ∙ seam ys p zs

left : {V : Type 0} (all ys rest : List (Pass V)) (p : Pass V) (zs : List (Pass V)) → all ≡ ys ++ rest → rest ≡ p ∷ zs → all ≡ (ys ++ p ∷ []) ++ zs
left all ys rest p zs e f = e ∙ (ap (λ l. ys ++ l) f ∙ sym (append_assoc ys (p ∷ []) zs))

tallies : {V : Type 0} (ts : List Tally) (ys : List (Pass V)) (p : Pass V) → (ts ++ map pass_tally ys) ++ pass_tally p ∷ [] ≡ ts ++ map pass_tally (ys ++ p ∷ [])
tallies ts ys p = append_assoc ts (map pass_tally ys) (pass_tally p ∷ []) ∙ ap (λ l. ts ++ l) (sym (map-append pass_tally ys (p ∷ [])))

pub join_seat-requires : goal.join_seat-requires
join_seat-requires g c =
    let i = c.loop-pass.invariant in
    let at = here _ _ _ _ _ i.left c.in-Some.ensures.steps.0 in
    let p = c.requires.passes (length c.loop-pass.yielded) c.in-Some.pass at in (
      i.table_is,
      c.requires.pass_tables (length c.loop-pass.yielded) c.in-Some.pass at,
      ap (λ m. m.1) p,
      c.requires.words,
      join_at g.V.Turned.opening g.V.Turned.turns _ _ _ _ _ _ _ _ _ (ap (λ m. m.0) i.seat_is) (ap (λ m. m.0) p),
    )

pub loop-pass-preserved : goal.loop-pass-preserved
loop-pass-preserved g c =
    let i = c.loop-pass.invariant in
    let p = c.requires.passes (length c.loop-pass.yielded) c.in-Some.pass (here _ _ _ _ _ i.left c.in-Some.ensures.steps.0) in record {
      table_is = c.join_seat.ensures.0 ∙ i.table_is;
      seat_is = join_step _ _ _ _ _ _ i.seat_is (ap (λ m. m.0) p) c.join_seat.ensures.2 ∙ ap (λ ts. (view c.join_seat.new.seat.me.0.start ts Idle, [])) (tallies _ _ _);
      left = left _ _ _ _ _ i.left c.in-Some.ensures.steps.0;
    }

pub loop-pass-preserved-in-Some : goal.loop-pass-preserved-in-Some
loop-pass-preserved-in-Some g c =
    let i = c.loop-pass.invariant in
    let p = c.requires.passes (length c.loop-pass.yielded) c.in-Some.pass (here _ _ _ _ _ i.left c.in-Some.ensures.steps.0) in record {
      table_is = c.join_seat.ensures.0 ∙ i.table_is;
      seat_is = join_step _ _ _ _ _ _ i.seat_is (ap (λ m. m.0) p) c.join_seat.ensures.2 ∙ ap (λ ts. (view c.join_seat.new.seat.me.0.start ts Idle, [])) (tallies _ _ _);
      left = left _ _ _ _ _ i.left c.in-Some.ensures.steps.0;
    }

pub join_seat-requires-2 : goal.join_seat-requires-2
join_seat-requires-2 g c =
    let i = c.loop-pass.invariant in (
      i.table_is,
      c.requires.last_table,
      ap (λ m. m.1) c.requires.last,
      c.requires.words,
      join_at g.V.Turned.opening g.V.Turned.turns _ _ _ _ _ _ _ _ _ (ap (λ m. m.0) i.seat_is) (ap (λ m. m.0) c.requires.last),
    )
