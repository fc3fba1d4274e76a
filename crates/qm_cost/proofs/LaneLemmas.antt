-- The lanes as a function, where one queue changes
use Rattle.std.proofs.Common.{◌≡◌, ◌≢◌, ◌∙◌, ℕ, true, false, List, [], ◌∷◌, ◌++◌, IsSome, Option, Some, None, refl, sym, ap, subst, drop, length, slice_set, ◌-◌, ◌<◌, arith}
use Rattle.std.proofs.Math.Path.{fun_ext}
use Rattle.std.specs.BTreeMap.{BTreeMap, get, is_at, Updates, WritesThrough}
use Rattle.std.specs.declared.alloc.Global.{Global}
use Rattle.std.specs.declared.collections.VecDeque.{VecDeque}
use Rattle.qm_instr.specs.declared.Lane.{Lane}
use Rattle.qm_instr.proofs.LaneOrder.{lane_order-derived, lane_order-equal, equal_from_test}
use Rattle.qm_instr.specs.Lanes.{code_order}
use Rattle.qm_proto.specs.Model.State.{with_lane}
use Rattle.qm_proto.proofs.Changes.{by_lane}
use Rattle.qm_cost.specs.declared.lanes.Lanes.{Lanes}
use Rattle.qm_cost.specs.Books.{items_in, lanes_of, last_set}

-- a lane that the map finds is the one that it looks for
same_by_code : (a b : Lane) → is_at (code_order a) b ≡ true → a ≡ b
same_by_code a b e = lane_order-equal a b (sym (lane_order-derived a b) ∙ equal_from_test (code_order a b) e)

-- and it finds no other
other_by_code : (a b : Lane) → b ≢ a → is_at (code_order a) b ≡ false
other_by_code a b apart = elim (is_at (code_order a) b) as (λ t. is_at (code_order a) b ≡ t → t ≡ false) [
  | true ↦ λ e. absurd (apart (sym (same_by_code a b e)))
  | false ↦ λ e. refl
] refl

-- n is m but for lane a, which has these elements
module _ (m n : Lanes) (a : Lane) (xs : List (Option ℕ)) where
  changed : items_in (get code_order n.queues a) ≡ xs
      → ((b : Lane) → b ≢ a → get code_order n.queues b ≡ get code_order m.queues b)
      → lanes_of n ≡ with_lane (lanes_of m) a xs
  changed here elsewhere =
      fun_ext (λ b. by_lane (λ ys. lanes_of n b ≡ ys) (lanes_of m) a xs b
      (λ e. ap (λ l. lanes_of n l) e ∙ here) (λ apart. ap items_in (elsewhere b apart)))

-- n is m after queue w is written to lane a, which had queue q
pub written : (m n : Lanes) (a : Lane) (q w : VecDeque (Option ℕ) Global) (change : List (Option ℕ) → List (Option ℕ))
    → get code_order m.queues a ≡ Some q → w.items ≡ change q.items → WritesThrough code_order (code_order a) m.queues w n.queues
    → lanes_of n ≡ with_lane (lanes_of m) a (change (lanes_of m a))
written m n a q w change had items put =
    let updates = put.3 (subst IsSome (sym had) refl) in
    changed m n a (change (lanes_of m a))
    (ap items_in updates.1 ∙ items ∙ ap (λ o. change (items_in o)) (sym had))
    (λ b apart. updates.2 b (other_by_code a b apart))

-- n is m after queue w is put to lane a, which had none
pub inserted : (m n : Lanes) (q : BTreeMap Lane (VecDeque (Option ℕ) Global)) (a : Lane) (w : VecDeque (Option ℕ) Global) (x : Option ℕ)
    → q ≡ m.queues → get code_order m.queues a ≡ None → w.items ≡ x ∷ [] → Updates code_order q n.queues a (Some w)
    → lanes_of n ≡ with_lane (lanes_of m) a (lanes_of m a ++ x ∷ [])
inserted m n q a w x same none items put =
    changed m n a (lanes_of m a ++ x ∷ [])
    (ap items_in put.1 ∙ items ∙ sym (ap (λ o. items_in o ++ x ∷ []) none))
    (λ b apart. put.2 b (other_by_code a b apart) ∙ ap (λ k. get code_order k b) same)

-- nothing is taken from a lane that has no queue
pub none_taken : (m n : Lanes) (a : Lane) → n.queues ≡ m.queues → get code_order m.queues a ≡ None
    → lanes_of n ≡ with_lane (lanes_of m) a (drop 1 (lanes_of m a))
none_taken m n a same none =
    changed m n a (drop 1 (lanes_of m a))
    (ap (λ q. items_in (get code_order q a)) same ∙ ap items_in none ∙ sym (ap (λ o. drop 1 (items_in o)) none))
    (λ b apart. ap (λ q. get code_order q b) same)

-- the last element is written where it stands
pub last_put : (xs : List (Option ℕ)) (n : ℕ) (v : Option ℕ) → n ≡ length xs → slice_set xs (n - 1) v ≡ last_set xs v
last_put [] n v long = refl
last_put (x ∷ xs) n v long =
    let k : n - 1 ≡ length xs = omega (arith, long) in ap (λ j. slice_set (x ∷ xs) j v) k ∙ at_last x xs v
  where
    at_last : (x : Option ℕ) (xs : List (Option ℕ)) (v : Option ℕ) → slice_set (x ∷ xs) (length xs) v ≡ last_set (x ∷ xs) v
    at_last x [] v = refl
    at_last x (y ∷ xs) v = ap (λ ys. x ∷ ys) (at_last y xs v)

-- nothing is written to a lane that has no queue
pub none_set : (m n : Lanes) (a : Lane) (v : Option ℕ) → n.queues ≡ m.queues → get code_order m.queues a ≡ None
    → lanes_of n ≡ with_lane (lanes_of m) a (last_set (lanes_of m a) v)
none_set m n a v same none =
    changed m n a (last_set (lanes_of m a) v)
    (ap (λ q. items_in (get code_order q a)) same ∙ ap items_in none ∙ sym (ap (λ o. last_set (items_in o) v) none))
    (λ b apart. ap (λ q. get code_order q b) same)

-- nothing is written to an empty list
pub last_none : (xs : List (Option ℕ)) (n : ℕ) (v : Option ℕ) → n ≡ length xs → ¬ (0 < n) → xs ≡ last_set xs v
last_none [] n v long empty = refl
last_none (x ∷ xs) n v long empty = absurd (empty (omega (arith, long)))
