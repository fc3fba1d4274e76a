use Rattle.std.proofs.Common.{◌≡◌, ℕ, ◌+◌, ◌-◌, ◌≤◌, List, [], ◌∷◌, ◌++◌, map, length, ◌∙◌, sym, ap, refl, subst, rules, arith, length-append, append_assoc}
use Rattle.atomic_table.specs.Table.{Me}
use Rattle.std.specs.Prelude.{Option, Some, None, IsSome, slice_get}
use mathlib.Core.List.{map-append}
use Rattle.atomic_table.specs.Seated.{TableId}
use Rattle.atomic_table.specs.declared.badge.Badge.{Badge}
use Rattle.atomic_table.specs.declared.shared.Seat.{Seat}
use Rattle.qm_lock.specs.Passes.{pass_tally, KeepsFirst, IsFirst}
use Rattle.qm_lock.specs.Views.{own, view, fresh}
use Rattle.qm_lock.specs.declared.views.View.{View}
use Rattle.qm_lock.specs.declared.views.Tally.{Tally}
use Rattle.qm_lock.specs.declared.views.Stage.TheVariants.{Idle}
use Rattle.qm_lock.specs.declared.desk.Pass.{Pass}
use Rattle.qm_lock.proofs.Places.{last_at, before}
use Rattle.qm_lock.proofs.Closing.{end_seen, end_count, end_others, all_parts, left_tallies, in_order}
use Rattle.qm_lock.proofs.desk.Desk.close.Goals as goal

kept : {V : Type 0} (id : TableId) (n : ℕ) (f : Option (Badge (View V))) → KeepsFirst id n f → IsSome f
kept id n (Some b) h = refl
kept id n None h = absurd h

first_is : {V : Type 0} (id : TableId) (n : ℕ) (f : Option (Badge (View V))) (b : Badge (View V)) → KeepsFirst id n f → f ≡ Some b → IsFirst id n b
first_is id n f b h e = subst (KeepsFirst id n) e h

count_last : {V : Type 0} (all rest : List (Pass V)) (p : Pass V) (n number : ℕ) → all ≡ rest ++ p ∷ [] → length all ≡ n → number ≡ length rest → number + 1 ≡ n
count_last all rest p n number e l k = let a = ap length e in let b = length-append rest (p ∷ []) in omega arith

pub into_parts-seat-requires : goal.into_parts-seat-requires
into_parts-seat-requires g c =
    let q = c.in-Some.ensures.items in
    let p = c.requires.passes (length c.pop.new.self.items) c.in-Some.last (last_at _ _ _ q) in
    kept _ _ _ (p.pass.first (count_last _ _ _ _ _ q c.requires.count p.number))

pub into_seat-requires : goal.into_seat-requires
into_seat-requires g c =
    let q = c.in-Some.ensures.items in
    let p = c.requires.passes (length c.pop.new.self.items) c.in-Some.last (last_at _ _ _ q) in
    let f = first_is _ _ _ _ (p.pass.first (count_last _ _ _ _ _ q c.requires.count p.number)) c.into_parts-seat.ensures.first in (_, f.1.1)

pub join_all-seat-requires-clause-table : goal.join_all-seat-requires-clause-table
join_all-seat-requires-clause-table g c =
    let q = c.in-Some.ensures.items in
    let p = c.requires.passes (length c.pop.new.self.items) c.in-Some.last (last_at _ _ _ q) in
    let f = first_is _ _ _ _ (p.pass.first (count_last _ _ _ _ _ q c.requires.count p.number)) c.into_parts-seat.ensures.first in
    c.into_seat.ensures.0 ∙ f.0

-- the first seat's view
first_view_is : {V : Type 0} (b : Badge (View V)) (m : Me (Option V) (View V)) (o : Option V) (n : ℕ) → b.views ≡ m.0 ∷ [] → m.1 ≡ [] → b.views ≡ view o (fresh n (16 - n)) Idle ∷ [] → m ≡ (view m.0.start m.0.tallies Idle, [])
first_view_is b m o n e r f =
    let a : m.0 ≡ view o (fresh n (16 - n)) Idle = ap (λ vs. head vs m.0) (sym e ∙ f) in
    let whole : m ≡ (m.0, m.1) = refl in
    whole ∙ (λ i. (own_form m.0 _ _ a i, r i))
  where
    head : {V : Type 0} → List (View V) → View V → View V
    head [] d = d
    head (v ∷ vs) d = v

    own_form : {V : Type 0} (v : View V) (o : Option V) (ts : List Tally) → v ≡ view o ts Idle → v ≡ view v.start v.tallies Idle
    own_form v o ts e = e ∙ ap (λ (z : View _). view z.start z.tallies Idle) (sym e)

pub join_all-seat-requires-clause-seat : goal.join_all-seat-requires-clause-seat
join_all-seat-requires-clause-seat g c =
    let q = c.in-Some.ensures.items in
    let p = c.requires.passes (length c.pop.new.self.items) c.in-Some.last (last_at _ _ _ q) in
    let f = first_is _ _ _ _ (p.pass.first (count_last _ _ _ _ _ q c.requires.count p.number)) c.into_parts-seat.ensures.first in
    first_view_is c.into_parts-seat.result.1 _ f.1.0 _ c.into_seat.ensures.2 c.into_seat.ensures.3 f.1.1

pub join_all-seat-requires-clause-passes : goal.join_all-seat-requires-clause-passes
join_all-seat-requires-clause-passes g c = λ k p e. (c.requires.passes k p (before _ _ _ c.in-Some.ensures.items k p e)).free

pub join_all-seat-requires-clause-pass_tables : goal.join_all-seat-requires-clause-pass_tables
join_all-seat-requires-clause-pass_tables g c = λ k p e. (c.requires.passes k p (before _ _ _ c.in-Some.ensures.items k p e)).pass.table

pub join_all-seat-requires-clause-last_table : goal.join_all-seat-requires-clause-last_table
join_all-seat-requires-clause-last_table g c =
    let q = c.in-Some.ensures.items in
    let p = c.requires.passes (length c.pop.new.self.items) c.in-Some.last (last_at _ _ _ q) in
    ap (λ (s : Seat _ (View _)). s.table_id) c.into_parts-seat.ensures.seat ∙ p.pass.table

pub join_all-seat-requires-clause-last : goal.join_all-seat-requires-clause-last
join_all-seat-requires-clause-last g c =
    let q = c.in-Some.ensures.items in
    let p = c.requires.passes (length c.pop.new.self.items) c.in-Some.last (last_at _ _ _ q) in
    subst (λ (s : Seat _ (View _)). s.me ≡ (view s.me.0.start (own s.me.0.tallies ∷ []) Idle, [])) (sym c.into_parts-seat.ensures.seat) p.free

-- all tallies, once the passes were taken in
tallies : {V : Type 0} (b : Badge (View V)) (o : Option V) (n : ℕ) (m w : Me (Option V) (View V)) (all rest : List (Pass V)) (p : Pass V) (s : Seat (Option V) (View V)) → b.views ≡ w.0 ∷ [] → b.views ≡ view o (fresh n (16 - n)) Idle ∷ [] → all ≡ rest ++ p ∷ [] → s ≡ p.seat
    → m ≡ (view m.0.start ((w.0.tallies ++ map pass_tally rest) ++ own s.me.0.tallies ∷ []) Idle, []) → m.0.tallies ≡ fresh n (16 - n) ++ map pass_tally all
tallies b o n m w all rest p s e f q i h =
    ap (λ (z : Me (Option _) (View _)). z.0.tallies) h
    ∙ (append_assoc w.0.tallies (map pass_tally rest) (own s.me.0.tallies ∷ [])
    ∙ (ap (λ (z : Seat (Option _) (View _)). w.0.tallies ++ (map pass_tally rest ++ own z.me.0.tallies ∷ [])) i
    ∙ (ap (λ l. w.0.tallies ++ l) (sym (map-append pass_tally rest (p ∷ [])) ∙ ap (map pass_tally) (sym q))
    ∙ ap (λ ts. ts ++ map pass_tally all) (left_tallies b.views w.0 o n e f))))

at_rest : {V : Type 0} (m : Me (Option V) (View V)) (ts : List Tally) → m ≡ (view m.0.start ts Idle, []) → m.0 ≡ view m.0.start m.0.tallies Idle
at_rest m ts q = ap (λ (z : Me (Option _) (View _)). z.0) q ∙ ap (λ (us : List Tally). view m.0.start us Idle) (sym (ap (λ (z : Me (Option _) (View _)). z.0.tallies) q))

pub finish-requires-clause-seat : goal.finish-requires-clause-seat
finish-requires-clause-seat g c = at_rest _ _ c.join_all-seat.ensures.seat

pub finish-requires-clause-all : goal.finish-requires-clause-all
finish-requires-clause-all g c =
    let q = c.in-Some.ensures.items in
    let p = c.requires.passes (length c.pop.new.self.items) c.in-Some.last (last_at _ _ _ q) in
    let f = first_is _ _ _ _ (p.pass.first (count_last _ _ _ _ _ q c.requires.count p.number)) c.into_parts-seat.ensures.first in
    ap length (tallies c.into_parts-seat.result.1 f.1.0 _ _ c.into_seat.result.me _ _ _ _ c.into_seat.ensures.2 f.1.1 q c.into_parts-seat.ensures.seat c.join_all-seat.ensures.seat)
    ∙ all_parts _ _ c.args.self.few c.requires.count

pub returns-clause-seen : goal.returns-clause-seen
returns-clause-seen g c =
    let q = c.in-Some.ensures.items in
    let p = c.requires.passes (length c.pop.new.self.items) c.in-Some.last (last_at _ _ _ q) in
    let f = first_is _ _ _ _ (p.pass.first (count_last _ _ _ _ _ q c.requires.count p.number)) c.into_parts-seat.ensures.first in
    λ k r e. end_seen g.V.Turned.opening g.V.Turned.turns _ _ _ _ _ (tallies c.into_parts-seat.result.1 f.1.0 _ _ c.into_seat.result.me _ _ _ _ c.into_seat.ensures.2 f.1.1 q c.into_parts-seat.ensures.seat c.join_all-seat.ensures.seat) c.finish.ensures k r e

pub returns-clause-counts : goal.returns-clause-counts
returns-clause-counts g c =
    let q = c.in-Some.ensures.items in
    let p = c.requires.passes (length c.pop.new.self.items) c.in-Some.last (last_at _ _ _ q) in
    let f = first_is _ _ _ _ (p.pass.first (count_last _ _ _ _ _ q c.requires.count p.number)) c.into_parts-seat.ensures.first in
    λ k r e. end_count g.V.Turned.opening g.V.Turned.turns _ _ _ _ _ (tallies c.into_parts-seat.result.1 f.1.0 _ _ c.into_seat.result.me _ _ _ _ c.into_seat.ensures.2 f.1.1 q c.into_parts-seat.ensures.seat c.join_all-seat.ensures.seat) c.finish.ensures
    (in_order _ (λ j u w. (c.requires.passes j u w).number)) k r e

pub returns-clause-others : goal.returns-clause-others
returns-clause-others g c =
    let q = c.in-Some.ensures.items in
    let p = c.requires.passes (length c.pop.new.self.items) c.in-Some.last (last_at _ _ _ q) in
    let f = first_is _ _ _ _ (p.pass.first (count_last _ _ _ _ _ q c.requires.count p.number)) c.into_parts-seat.ensures.first in
    λ k l. end_others g.V.Turned.opening g.V.Turned.turns _ _ _ _ _ (tallies c.into_parts-seat.result.1 f.1.0 _ _ c.into_seat.result.me _ _ _ _ c.into_seat.ensures.2 f.1.1 q c.into_parts-seat.ensures.seat c.join_all-seat.ensures.seat) c.finish.ensures
    (in_order _ (λ j u w. (c.requires.passes j u w).number)) k (subst (λ n. n ≤ k) (sym c.requires.count) l)
