-- The order of the code is that of the fields, and a total one
use Rattle.std.proofs.Common.{true, ◌≡◌, ◌∙◌, ℕ, nat_eq, ◌<◌, ◌&&◌, [], ◌∷◌, get_or, ap, refl, sym, arith}
use Rattle.std.specs.declared.cmp.Ordering.{Ordering}
use Rattle.std.specs.declared.cmp.Ordering.TheVariants.{Less, Equal, Greater}
use Rattle.std.specs.Ordering.{nat_cmp, ordering_then, ordering_reverse, is_eq, MatchOrdering}
use Rattle.std.specs.Cmp.{IsTotalOrder, nat_cmp_total}
use Rattle.std.proofs.lemmas.Cmp.{ranked, then_total, on_total}
use Rattle.std.proofs.lemmas.Cmp.{tied_itself}
use Rattle.std.proofs.lemmas.Bool.Decides.{nat_tests}
use Rattle.qm_instr.specs.declared.Lane.{Lane}
use Rattle.qm_instr.specs.declared.Kind.{Kind}
use Rattle.qm_instr.specs.declared.Kind.TheVariants as kind
use Rattle.qm_instr.specs.contracts.KindOrd.TheImpl as kind_ord
use Rattle.qm_instr.specs.contracts.LaneOrd.TheImpl as lane_ord
use Rattle.qm_instr.specs.Lanes.{kind_place, is_lane, lane_order}

-- what holds of each kind
by_kind : (P : Kind → Type 0) → P kind.Bit → P kind.Copy → P kind.Move → P kind.Undo
    → P kind.Reach → P kind.Back → (k : Kind) → P k
by_kind P bit copy move undo reach back kind.Bit = bit
by_kind P bit copy move undo reach back kind.Copy = copy
by_kind P bit copy move undo reach back kind.Move = move
by_kind P bit copy move undo reach back kind.Undo = undo
by_kind P bit copy move undo reach back kind.Reach = reach
by_kind P bit copy move undo reach back kind.Back = back

-- the code's order of two kinds is that of their places
abbrev IsByPlace : Kind → Kind → Type 0
IsByPlace a b = (kind_ord.ghosts).cmp a b ≡ nat_cmp (kind_place a) (kind_place b)

kind_order-derived : (a b : Kind) → IsByPlace a b
kind_order-derived a b =
    by_kind (λ k. IsByPlace k b)
    (by_kind (IsByPlace kind.Bit) refl refl refl refl refl refl b)
    (by_kind (IsByPlace kind.Copy) refl refl refl refl refl refl b)
    (by_kind (IsByPlace kind.Move) refl refl refl refl refl refl b)
    (by_kind (IsByPlace kind.Undo) refl refl refl refl refl refl b)
    (by_kind (IsByPlace kind.Reach) refl refl refl refl refl refl b)
    (by_kind (IsByPlace kind.Back) refl refl refl refl refl refl b)
    a

-- the code's order of two lanes is that of their fields
pub lane_order-derived : (a b : Lane) → (lane_ord.ghosts).cmp a b ≡ lane_order a b
lane_order-derived a b =
    ap (λ o. ordering_then (nat_cmp a.from b.from) (ordering_then (nat_cmp a.to b.to) (ordering_then o (nat_cmp a.tag b.tag)))) (kind_order-derived a.kind b.kind)

-- the order of lanes is total
pub lane_order-total : IsTotalOrder lane_order
lane_order-total =
    then_total (on_total (λ (a : Lane). a.from) nat_cmp_total) (then_total (on_total (λ (a : Lane). a.to) nat_cmp_total) (then_total (on_total (λ (a : Lane). kind_place a.kind) nat_cmp_total) (on_total (λ (a : Lane). a.tag) nat_cmp_total)))

-- numbers in an order that is equal, and what comes after them
equal_parts : (x y : ℕ) (c o : Ordering) → MatchOrdering c (x < y) (x ≡ y) (y < x)
    → ordering_then c o ≡ Equal → (x ≡ y) × (o ≡ Equal)
equal_parts x y Less o h e = cc
equal_parts x y Equal o h e = (h, e)
equal_parts x y Greater o h e = cc

equal_numbers : (x y : ℕ) (o : Ordering) → ordering_then (nat_cmp x y) o ≡ Equal
    → (x ≡ y) × (o ≡ Equal)
equal_numbers x y o e = equal_parts x y (nat_cmp x y) o (ranked x y (nat_cmp x y) refl) e

equal_last : (x y : ℕ) (c : Ordering) → MatchOrdering c (x < y) (x ≡ y) (y < x) → c ≡ Equal → x ≡ y
equal_last x y Less h e = cc
equal_last x y Equal h e = h
equal_last x y Greater h e = cc

-- the kind at a place
kind_at : ℕ → Kind
kind_at n = get_or (kind.Bit ∷ kind.Copy ∷ kind.Move ∷ kind.Undo ∷ kind.Reach ∷ []) n kind.Back

kind_at-kind_place : (k : Kind) → kind_at (kind_place k) ≡ k
unfolding kind_at
kind_at-kind_place k = by_kind (λ k. kind_at (kind_place k) ≡ k) refl refl refl refl refl refl k

-- lanes that are equal in their order are one lane
pub lane_order-equal : (a b : Lane) → lane_order a b ≡ Equal → a ≡ b
lane_order-equal a b e =
    let first = equal_numbers a.from b.from _ e in
    let second = equal_numbers a.to b.to _ first.1 in
    let third = equal_numbers (kind_place a.kind) (kind_place b.kind) _ second.1 in
    let last = equal_last a.tag b.tag (nat_cmp a.tag b.tag) (ranked a.tag b.tag (nat_cmp a.tag b.tag) refl) third.1 in
    let kinds : a.kind ≡ b.kind = sym (kind_at-kind_place a.kind) ∙ ap kind_at third.0 ∙ kind_at-kind_place b.kind in
    let build : ℕ → ℕ → Kind → ℕ → Lane = λ f t k g. record { from = f; to = t; kind = k; tag = g } in
    ap (λ f. build f a.to a.kind a.tag) first.0
    ∙ ap (λ t. build b.from t a.kind a.tag) second.0
    ∙ ap (λ k. build b.from b.to k a.tag) kinds
    ∙ ap (build b.from b.to b.kind) last

-- two lanes are the same where they are equal in their order
equal_then : (c o : Ordering) → is_eq (ordering_then c o) ≡ is_eq c && is_eq o
equal_then Less o = refl
equal_then Equal o = refl
equal_then Greater o = refl

equal_numbers_test : (x y : ℕ) → is_eq (nat_cmp x y) ≡ nat_eq x y
equal_numbers_test x y = by_order (nat_cmp x y) (ranked x y (nat_cmp x y) refl)
  where
    by_order : (c : Ordering) → MatchOrdering c (x < y) (x ≡ y) (y < x) → is_eq c ≡ nat_eq x y
    by_order Less h = grind (arith, nat_tests)
    by_order Equal h = grind (arith, nat_tests)
    by_order Greater h = grind (arith, nat_tests)

pub is_lane-order : (a b : Lane) → is_lane a b ≡ is_eq (lane_order a b)
unfolding is_lane
is_lane-order a b =
    let first = equal_then (nat_cmp a.from b.from) (ordering_then (nat_cmp a.to b.to) (ordering_then (nat_cmp (kind_place a.kind) (kind_place b.kind)) (nat_cmp a.tag b.tag))) in
    let second = equal_then (nat_cmp a.to b.to) (ordering_then (nat_cmp (kind_place a.kind) (kind_place b.kind)) (nat_cmp a.tag b.tag)) in
    let third = equal_then (nat_cmp (kind_place a.kind) (kind_place b.kind)) (nat_cmp a.tag b.tag) in
    sym (first ∙ ap (λ o. is_eq (nat_cmp a.from b.from) && o) (second ∙ ap (λ o. is_eq (nat_cmp a.to b.to) && o) third)
    ∙ ap (λ o. o && (is_eq (nat_cmp a.to b.to) && (is_eq (nat_cmp (kind_place a.kind) (kind_place b.kind)) && is_eq (nat_cmp a.tag b.tag)))) (equal_numbers_test a.from b.from)
    ∙ ap (λ o. nat_eq a.from b.from && (o && (is_eq (nat_cmp (kind_place a.kind) (kind_place b.kind)) && is_eq (nat_cmp a.tag b.tag)))) (equal_numbers_test a.to b.to)
    ∙ ap (λ o. nat_eq a.from b.from && (nat_eq a.to b.to && (o && is_eq (nat_cmp a.tag b.tag)))) (equal_numbers_test (kind_place a.kind) (kind_place b.kind))
    ∙ ap (λ o. nat_eq a.from b.from && (nat_eq a.to b.to && (nat_eq (kind_place a.kind) (kind_place b.kind) && o))) (equal_numbers_test a.tag b.tag))

-- an order that is equal
pub equal_from_test : (o : Ordering) → is_eq o ≡ true → o ≡ Equal
equal_from_test Less e = cc
equal_from_test Equal e = refl
equal_from_test Greater e = cc

pub same_lane : (a b : Lane) → is_lane a b ≡ true → a ≡ b
same_lane a b e = lane_order-equal a b (equal_from_test (lane_order a b) (sym (is_lane-order a b) ∙ e))

pub lane_itself : (a : Lane) → is_lane a a ≡ true
lane_itself a = is_lane-order a a ∙ ap is_eq (tied_itself lane_order-total a)

-- it doesn't matter which of two lanes is named first
pub lane_turned : (a b : Lane) → is_lane a b ≡ is_lane b a
lane_turned a b =
    is_lane-order a b
    ∙ ap is_eq (lane_order-total.antisymm a b)
    ∙ reversed (lane_order b a)
    ∙ sym (is_lane-order b a)
  where
    reversed : (o : Ordering) → is_eq (ordering_reverse o) ≡ is_eq o
    reversed Less = refl
    reversed Equal = refl
    reversed Greater = refl
