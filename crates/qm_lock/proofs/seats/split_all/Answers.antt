use Rattle.std.proofs.Common.{◌≡◌, ℕ, ◌+◌, ◌-◌, ◌<◌, ◌≤◌, List, [], ◌∷◌, length, ◌∙◌, sym, ap, subst, arith, length-append}
use Rattle.std.specs.Prelude.{Option, Some, None, slice_get}
use Rattle.std.proofs.lemmas.Option.{slice_get_within}
use Rattle.atomic_table.specs.Table.{Me}
use Rattle.atomic_table.specs.Seated.{TableId}
use Rattle.atomic_table.specs.declared.shared.Seat.{Seat}
use Rattle.atomic_table.specs.declared.badge.Badge.{Badge}
use Rattle.qm_lock.specs.declared.desk.Pass.{Pass}
use Rattle.qm_lock.specs.declared.views.View.{View}
use Rattle.qm_lock.specs.declared.views.Tally.{Tally}
use Rattle.qm_lock.specs.declared.views.Stage.TheVariants.{Idle}
use Rattle.qm_lock.specs.Views.{own, tally, view, fresh}
use Rattle.qm_lock.specs.Passes.{IsMade, KeepsFirst}
use Rattle.qm_lock.proofs.Places.{each_push}
use Rattle.qm_lock.proofs.Making.{first_seat, split_at, split_left, split_right, fresh_more}
use Rattle.qm_lock.proofs.seats.split_all.Goals as goal

below : (n seats : ℕ) → n < seats → seats ≤ 16 → n < 16
below n seats a b = omega arith

next : {V : Type 0} (m : Me (Option V) (View V)) (o : Option V) (n : ℕ) → n < 16 → m ≡ (view o (fresh n (16 - n)) Idle, []) → m ≡ (view o (tally n 0 [] ∷ fresh (n + 1) (16 - (n + 1))) Idle, [])
next m o n h e = e ∙ ap (λ ts. (view o ts Idle, [])) (fresh_more n h)

as_free : {V : Type 0} (m : Me (Option V) (View V)) (o : Option V) (t : Tally) → m ≡ (view o (t ∷ []) Idle, []) → m ≡ (view m.0.start (own m.0.tallies ∷ []) Idle, [])
as_free m o t e = e ∙ ap (λ (z : Me (Option _) (View _)). (view z.0.start (own z.0.tallies ∷ []) Idle, [])) (sym e)

none : {V : Type 0} (k : ℕ) (p : Pass V) → slice_get [] k ≡ Some p → {X : Type 0} → X
none k p e = absurd (cc)

made : {V : Type 0} (id : TableId) (x : V) (n k : ℕ) (s : Seat (Option V) (View V)) (f : Option (Badge (View V))) → n ≡ k → s.table_id ≡ id
    → s.me ≡ (view (Some x) (tally k 0 [] ∷ []) Idle, []) → IsMade id x n (record { seat = s; first = f })
made id x n k s f e t right = record {
  table = t;
  free = as_free _ _ _ right;
  start_is = ap (λ m. m.0.start) right;
  new = ap (λ m. own m.0.tallies) right ∙ ap (λ j. tally j 0 []) (sym e);
}

pub loop-number-init : goal.loop-number-init
loop-number-init g c = record {
  table_is = c.requires.table;
  seat_is = first_seat _ _ c.requires.seat;
  count = ap length c.requires.none;
  room = c.requires.room;
  each = λ k p e. none k p (ap (λ l. slice_get l k) (sym c.requires.none) ∙ e);
}

-- before the last pass, and at it
before_last : (n seats : ℕ) → n < seats - 1 → seats ≤ 16 → n < 16
before_last n seats a b = omega arith

at_last : (n seats : ℕ) → seats - 1 ≤ n → n ≤ seats - 1 → 0 < seats → seats ≤ 16 → n < 16
at_last n seats a b c d = omega arith

pub split_seat-other-requires : goal.split_seat-other-requires
split_seat-other-requires g c = let i = c.loop-number.invariant in (
  i.table_is,
  c.requires.words,
  split_at g.V.Turned.opening g.V.Turned.turns _ _ _ _ _ _ (ap (λ m. m.0) (next _ _ _ (before_last _ _ c.loop-number-test.true c.requires.few) i.seat_is)),
)

pub loop-number-preserved : goal.loop-number-preserved
loop-number-preserved g c =
    let i = c.loop-number.invariant in
    let cut = c.split_seat-other.ensures in
    let here = next _ _ _ (before_last _ _ c.loop-number-test.true c.requires.few) i.seat_is in
    let right = split_right _ _ _ _ _ here cut.4 in record {
      table_is = cut.0 ∙ i.table_is;
      seat_is = split_left _ _ _ _ _ here cut.2;
      count = ap length c.push_reserved.ensures.items ∙ (length-append c.loop-number.passes.items (_ ∷ []) ∙ ap (λ n. n + 1) i.count);
      room = subst (λ n. c.args.seats ≤ n) (sym c.push_reserved.ensures.capacity) i.room;
      each = λ k p e. each_push (λ j q. IsMade c.args.table.now.shared.table_id c.args.table.now.shared.key.value j q)
          c.loop-number.passes.items (record { seat = c.split_seat-other.result; first = None }) i.each
          (made _ _ _ _ c.split_seat-other.result None i.count (cut.3 ∙ i.table_is) right)
          k p (ap (λ l. slice_get l k) (sym c.push_reserved.ensures.items) ∙ e);
    }

pub split_seat-last-requires : goal.split_seat-last-requires
split_seat-last-requires g c = let i = c.loop-number.invariant in (
  i.table_is,
  c.requires.words,
  split_at g.V.Turned.opening g.V.Turned.turns _ _ _ _ _ _ (ap (λ m. m.0) (next _ _ _ (at_last _ _ c.loop-number-test.false c.loop-number.auto.number-end c.requires.some c.requires.few) i.seat_is)),
)

only_last : {V : Type 0} (id : TableId) (seats n : ℕ) (xs : List (Pass V)) → length xs ≡ n → n ≤ seats - 1 → (k : ℕ) (q : Pass V) → slice_get xs k ≡ Some q → k + 1 ≡ seats → KeepsFirst id seats q.first
only_last id seats n xs len few k q e last = let a = slice_get_within xs k q e in absurd (omega arith)

whole : (n seats : ℕ) → seats - 1 ≤ n → n ≤ seats - 1 → 0 < seats → n + 1 ≡ seats
whole n seats a b c = omega arith

first_left : {V : Type 0} (o : Option V) (n seats : ℕ) (id : TableId) (b : Badge (View V)) (s : Seat (Option V) (View V)) → s.me ≡ (view o (fresh (n + 1) (16 - (n + 1))) Idle, []) → n + 1 ≡ seats → s.table_id ≡ id
    → (b.table_id ≡ s.table_id) × (b.id ≡ s.id) × (b.views ≡ s.me.0 ∷ []) → KeepsFirst id seats (Some b)
first_left o n seats id b s e w t made =
    (made.0 ∙ t, (o, made.2 ∙ (ap (λ (z : Me (Option _) (View _)). z.0 ∷ []) e ∙ ap (λ j. view o (fresh j (16 - j)) Idle ∷ []) w)))

pub returns-clause-passes : goal.returns-clause-passes
returns-clause-passes g c =
    let i = c.loop-number.invariant in
    let cut = c.split_seat-last.ensures in
    let here = next _ _ _ (at_last _ _ c.loop-number-test.false c.loop-number.auto.number-end c.requires.some c.requires.few) i.seat_is in
    let id = c.args.table.now.shared.table_id in
    λ k p e. each_push (λ j q. IsMade id c.args.table.now.shared.key.value j q) c.loop-number.passes.items (record { seat = c.split_seat-last.result; first = Some c.into_badge-first.result }) i.each
    (made _ _ _ _ c.split_seat-last.result (Some c.into_badge-first.result) i.count (cut.3 ∙ i.table_is) (split_right _ _ _ _ _ here cut.4))
    k p (ap (λ l. slice_get l k) (sym c.push_reserved-2.ensures.items) ∙ e)

pub returns-clause-last : goal.returns-clause-last
returns-clause-last g c =
    let i = c.loop-number.invariant in
    let cut = c.split_seat-last.ensures in
    let here = next _ _ _ (at_last _ _ c.loop-number-test.false c.loop-number.auto.number-end c.requires.some c.requires.few) i.seat_is in
    let w = whole _ _ c.loop-number-test.false c.loop-number.auto.number-end c.requires.some in
    let id = c.args.table.now.shared.table_id in
    λ k p e. each_push (λ j q. j + 1 ≡ c.args.seats → KeepsFirst id c.args.seats q.first) c.loop-number.passes.items (record { seat = c.split_seat-last.result; first = Some c.into_badge-first.result })
    (only_last id c.args.seats _ c.loop-number.passes.items i.count c.loop-number.auto.number-end)
    (λ last. first_left _ _ _ id c.into_badge-first.result c.split_seat-last.new.seat (split_left _ _ _ _ _ here cut.2) w (cut.0 ∙ i.table_is) c.into_badge-first.ensures)
    k p (ap (λ l. slice_get l k) (sym c.push_reserved-2.ensures.items) ∙ e)
