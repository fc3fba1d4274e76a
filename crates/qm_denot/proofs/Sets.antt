-- The laws of finite sets of wires. Nothing above this file opens `has`, `put`, `how_many` or `is_empty`
use Rattle.std.proofs.Common.{◌≡◌, ◌≢◌, ℕ, ◌+◌, ◌≤◌, Bool, true, false, not, ◌&&◌, ◌||◌, cond, refl, sym, ap, ◌∙◌, subst, arith}
use Rattle.std.specs.Ordering.{nat_cmp, bool_cmp, eq_by_cmp, is_eq}
use Rattle.std.specs.Cmp.{IsTotalOrder, nat_cmp_total, bool_cmp_total, tied_itself}
use Rattle.std.proofs.lemmas.Cmp.{on_total, then_total}
use Rattle.std.proofs.lemmas.Map.Lookups.{CmpEqualImpliesEq, exact_pairs, exact_unsigned}
use Rattle.std.proofs.lemmas.Map.Views.{tells_apart}
use Rattle.std.proofs.lemmas.Bool.Decides.{nat_tests}
use Rattle.std.specs.FinSet as set
use Rattle.qm_denot.specs.declared.Wire.{Wire}
use Rattle.qm_denot.specs.Wires.{wire_cmp, is_wire, Wires, no_wires, has, put, how_many, is_empty}

total : IsTotalOrder wire_cmp
total = then_total (on_total (λ w. w.rank) nat_cmp_total) (then_total (on_total (λ w. w.made) nat_cmp_total) (on_total (λ w. w.near) bool_cmp_total))

exact_bits : CmpEqualImpliesEq bool_cmp
exact_bits true true e = refl
exact_bits false false e = refl
exact_bits true false e = cc
exact_bits false true e = cc

exact : CmpEqualImpliesEq wire_cmp
exact v w e =
    ap (λ (p : ℕ × (ℕ × Bool)). record { rank = p.0; made = p.1.0; near = p.1.1 })
    (exact_pairs nat_cmp _ exact_unsigned (exact_pairs nat_cmp bool_cmp exact_unsigned exact_bits) (v.rank, (v.made, v.near)) (w.rank, (w.made, w.near)) e)

or_cond : (a b : Bool) → (a || b) ≡ cond a true b
or_cond true b = refl
or_cond false b = refl

and_cond : (a b : Bool) → (not a && b) ≡ cond a false b
and_cond true b = refl
and_cond false b = refl

-- ---- whether two wires are one
-- the test tells equal wires
pub same_from_is : (v w : Wire) → is_wire v w ≡ true → v ≡ w
unfolding is_wire
same_from_is v w e = tells_apart exact v w e

-- the test holds of a wire and itself
pub is_wire_itself : (w : Wire) → is_wire w w ≡ true
unfolding is_wire
is_wire_itself w = ap is_eq (tied_itself total w)

-- and of no two different wires
pub is_wire_other : (v w : Wire) → v ≢ w → is_wire v w ≡ false
is_wire_other v w ne = elim (is_wire v w) as (λ b. is_wire v w ≡ b → b ≡ false) [ true ↦ λ e. absurd (ne (same_from_is v w e)) | false ↦ λ e. refl ] refl

-- ---- membership
-- what a set has after a `put`
pub has-put : (x : Wires) (w : Wire) (b : Bool) (v : Wire) → has (put x w b) v ≡ cond (is_wire v w) b (has x v)
unfolding has put is_wire
has-put x w true v = set.contains-insert total x w v ∙ or_cond (eq_by_cmp wire_cmp v w) (set.contains x v)
has-put x w false v = set.contains-remove total x w v ∙ and_cond (eq_by_cmp wire_cmp v w) (set.contains x v)

-- sets that have the same wires are equal
pub same_wires : (x y : Wires) → ((v : Wire) → has x v ≡ has y v) → x ≡ y
unfolding has
same_wires x y each = set.same_set total exact x y each

-- the wire that was put has its bit
pub has-put_same : (x : Wires) (w : Wire) (b : Bool) → has (put x w b) w ≡ b
has-put_same x w b = has-put x w b w ∙ ap (λ t. cond t b (has x w)) (is_wire_itself w)

-- every other wire keeps its own
pub has-put_other : (x : Wires) (w : Wire) (b : Bool) (v : Wire) → v ≢ w → has (put x w b) v ≡ has x v
has-put_other x w b v ne = has-put x w b v ∙ ap (λ t. cond t b (has x v)) (is_wire_other v w ne)

-- ---- `put` again
nested : (t b c h : Bool) → cond t c (cond t b h) ≡ cond t c h
nested true b c h = refl
nested false b c h = refl

-- the later `put` of a wire counts
pub put_twice : (x : Wires) (w : Wire) (b c : Bool) → put (put x w b) w c ≡ put x w c
put_twice x w b c = same_wires _ _ (λ v.
    has-put (put x w b) w c v ∙ ap (cond (is_wire v w) c) (has-put x w b v) ∙ nested (is_wire v w) b c (has x v) ∙ sym (has-put x w c v))

crossed : (t s b c h : Bool) → (t ≡ true → s ≡ true → ⊥) → cond t c (cond s b h) ≡ cond s b (cond t c h)
crossed true true b c h ne = absurd (ne refl refl)
crossed true false b c h ne = refl
crossed false true b c h ne = refl
crossed false false b c h ne = refl

-- two wires may be put in either order
pub put_swap : (x : Wires) (v w : Wire) (b c : Bool) → v ≢ w → put (put x v b) w c ≡ put (put x w c) v b
put_swap x v w b c ne = same_wires _ _ (λ u.
    has-put (put x v b) w c u ∙ ap (cond (is_wire u w) c) (has-put x v b u)
    ∙ crossed (is_wire u w) (is_wire u v) b c (has x u) (λ p q. ne (sym (same_from_is u v q) ∙ same_from_is u w p))
    ∙ sym (has-put (put x w c) v b u ∙ ap (cond (is_wire u v) b) (has-put x w c u)))

-- a wire put as it is changes nothing
pub put_has : (x : Wires) (w : Wire) (b : Bool) → has x w ≡ b → put x w b ≡ x
put_has x w b e = same_wires _ _ (λ v. has-put x w b v ∙ kept v (is_wire v w) refl)
  where
    kept : (v : Wire) (t : Bool) → is_wire v w ≡ t → cond t b (has x v) ≡ has x v
    kept v true p = sym e ∙ ap (has x) (sym (same_from_is v w p))
    kept v false p = refl

-- ---- the empty set
-- the empty set is empty
pub is_empty-no_wires : is_empty no_wires ≡ true
unfolding is_empty
is_empty-no_wires = rw (set.len-empty wire_cmp) refl

-- the empty set has no wire
pub has-no_wires : (w : Wire) → has no_wires w ≡ false
unfolding has
has-no_wires w = set.contains-empty wire_cmp w

-- the test finds the empty set alone
pub empty_from_is : (x : Wires) → is_empty x ≡ true → x ≡ no_wires
unfolding is_empty
empty_from_is x e = set.empty_of_len x (grind (arith, nat_tests))

-- a set that has a wire is not empty
pub not_empty : (x : Wires) (w : Wire) → has x w ≡ true → is_empty x ≡ false
not_empty x w h = elim (is_empty x) as (λ b. is_empty x ≡ b → b ≡ false) [
  | true ↦ λ e. let p : has no_wires w ≡ true = subst (λ y. has y w ≡ true) (empty_from_is x e) h in let q = has-no_wires w in cc
  | false ↦ λ e. refl
] refl

-- ---- how many wires a set has
pub how_many-no_wires : how_many no_wires ≡ 0
unfolding how_many
how_many-no_wires = set.len-empty wire_cmp

-- one more where a wire comes
pub how_many-more : (x : Wires) (w : Wire) → has x w ≡ false → how_many (put x w true) ≡ how_many x + 1
unfolding how_many put has
how_many-more x w e = set.len-insert total x w ∙ ap (λ b. cond b (set.len x) (set.len x + 1)) e

-- one less where one goes
pub how_many-less : (x : Wires) (w : Wire) → has x w ≡ true → how_many x ≡ how_many (put x w false) + 1
how_many-less x w e = ap how_many (sym (put_twice x w false true ∙ put_has x w true e)) ∙ how_many-more (put x w false) w (has-put_same x w false)

-- no more, whether the wire was there or not
pub how_many-fewer : (x : Wires) (w : Wire) → how_many (put x w false) ≤ how_many x
how_many-fewer x w = by_there (has x w) refl
  where
    by_there : (b : Bool) → has x w ≡ b → how_many (put x w false) ≤ how_many x
    by_there true e = let less = how_many-less x w e in omega arith
    by_there false e = let same = ap how_many (put_has x w false e) in omega arith
