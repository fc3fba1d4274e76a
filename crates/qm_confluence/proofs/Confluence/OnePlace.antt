-- Each wire of the ideal tables has one place, a slot or a lane: what each act keeps
use Rattle.std.proofs.Common.{◌≡◌, ℕ, ◌+◌, ◌<◌, ◌≤◌, nat_lt, Bool, true, false, ◌⊎◌, inl, inr, List, [], ◌∷◌, ◌++◌, length, drop, Option, Some, None, slice_index_or, Contains, refl, sym, ap, ap₂, subst, ◌∙◌, arith, ⊎_elim}
use Rattle.std.proofs.lemmas.List.Elements.{Contains-push_cases, Contains-append_right}
use Rattle.qm_denot.specs.declared.Wire.{Wire}
use Rattle.qm_instr.specs.declared.Kind.{Kind}
use Rattle.qm_instr.specs.declared.Kind.TheVariants as kind
use Rattle.qm_instr.specs.declared.Lane.{Lane}
use Rattle.qm_proto.specs.Model.Ideal.{IdealPart, IdealTables, Load, Carried, Token, Counts, SlotSet, Puts, Takes, ideal_after_act, with_ideal_part, ideal_wire_made, wire_carried, load_at}
use Rattle.qm_proto.proofs.Changes.{by_rank, by_slot, by_lane, with_at-here, with_lane-here}
use Rattle.qm_confluence.proofs.Confluence.IdealWires.{counted_on, contains_drop, CountsGrow}
use Rattle.qm_confluence.specs.Counted.{IsCounted}

-- a place of a wire
pub data Spot : Type 0 where
  InSlot : (r q : ℕ) → Spot
  OnLane : (a : Lane) → Spot

abbrev pub Stands : IdealTables → Wire → Spot → Type 0
Stands t w (InSlot r q) = t.slots r q ≡ Some w
Stands t w (OnLane a) = Contains (t.lanes a) (Carried w)

-- no wire twice among the loads
abbrev pub OnceEach : List Load → Type 0
OnceEach [] = Unit {0}
OnceEach (x ∷ xs) = ((w : Wire) → x ≡ Carried w → ¬ Contains xs (Carried w)) × OnceEach xs

-- lanes of these kinds carry wires alone
abbrev pub carries : Kind → Bool
carries kind.Copy = true
carries kind.Move = true
carries _ = false

abbrev pub AllCarried : List Load → Type 0
AllCarried [] = Unit {0}
AllCarried (x ∷ xs) = (x ≡ Carried (wire_carried x)) × AllCarried xs

pub record ArePlaced (t : IdealTables) : Type 0 where
  pub one : (w : Wire) (s z : Spot) → Stands t w s → Stands t w z → s ≡ z
  pub counted : (w : Wire) (s : Spot) → Stands t w s → IsCounted t w
  pub once : (a : Lane) → OnceEach (t.lanes a)
  pub wired : (a : Lane) → carries a.kind ≡ true → AllCarried (t.lanes a)

-- the wire is counted and has no place
pub record IsFree (t : IdealTables) (w : Wire) : Type 0 where
  pub counted : IsCounted t w
  pub nowhere : (s : Spot) → ¬ Stands t w s

-- ---- no place more
module _ (t u : IdealTables) (grow : CountsGrow t u) (old : (w : Wire) (s : Spot) → Stands u w s → Stands t w s) where
  no_more : ArePlaced t → ((a : Lane) → OnceEach (u.lanes a)) → ((a : Lane) → carries a.kind ≡ true → AllCarried (u.lanes a)) → ArePlaced u
  no_more h once wired = record {
    one = λ w s z a b. h.one w s z (old w s a) (old w z b);
    counted = λ w s a. counted_on t u w grow (h.counted w s (old w s a));
    once = once;
    wired = wired;
  }

  free_on : (w : Wire) → IsFree t w → IsFree u w
  free_on w f = record { counted = counted_on t u w grow f.counted; nowhere = λ s a. f.nowhere s (old w s a) }

-- ---- one place more, for a wire that had none
module _ (t u : IdealTables) (here : Spot) (New : Wire → Type 0) (free : (w : Wire) → New w → IsFree t w)
    (cases : (w : Wire) (s : Spot) → Stands u w s → Stands t w s ⊎ ((s ≡ here) × New w)) (same : (r : ℕ) → (u.parts r).made ≡ (t.parts r).made) where
  grow_same : CountsGrow t u
  grow_same r = let e = same r in omega (arith, e)

  one_more : ArePlaced t → ((a : Lane) → OnceEach (u.lanes a)) → ((a : Lane) → carries a.kind ≡ true → AllCarried (u.lanes a)) → ArePlaced u
  one_more h once wired = record { one = one_so; counted = counted_so; once = once; wired = wired }
    where
      one_so : (w : Wire) (s z : Spot) → Stands u w s → Stands u w z → s ≡ z
      one_so w s z a b = elim (cases w s a) [
        | inl x ↦ elim (cases w z b) [
          | inl y ↦ h.one w s z x y
          | inr n ↦ absurd ((free w n.1).nowhere s x)
        ]
        | inr m ↦ elim (cases w z b) [
          | inl y ↦ absurd ((free w m.1).nowhere z y)
          | inr n ↦ m.0 ∙ sym n.0
        ]
      ]

      counted_so : (w : Wire) (s : Spot) → Stands u w s → IsCounted u w
      counted_so w s a = elim (cases w s a) [
        | inl x ↦ counted_on t u w grow_same (h.counted w s x)
        | inr n ↦ counted_on t u w grow_same (free w n.1).counted
      ]

-- ---- a rank's part
module _ (t : IdealTables) (r : ℕ) (x : IdealPart) (more : (t.parts r).made ≤ x.made) where
  part_grows : CountsGrow t (with_ideal_part t r x)
  part_grows k =
      by_rank (λ (y : IdealPart). (t.parts k).made ≤ y.made) t.parts r x k
      (λ e. subst (λ j. (t.parts j).made ≤ x.made) (sym e) more) (λ _. omega arith)

  part_old : (w : Wire) (s : Spot) → Stands (with_ideal_part t r x) w s → Stands t w s
  part_old w (InSlot k q) h = h
  part_old w (OnLane a) h = h

  pub placed_part : ArePlaced t → ArePlaced (with_ideal_part t r x)
  placed_part h = no_more t (with_ideal_part t r x) part_grows part_old h h.once h.wired

-- the wire that a rank counts next is free once it is counted
pub made_free : (t : IdealTables) (r : ℕ) → ArePlaced t → IsFree (ideal_after_act r t Counts) (ideal_wire_made t r)
made_free t r h =
    let x : IdealPart = record (t.parts r) { made = (t.parts r).made + 1 } in
    let e : ((ideal_after_act r t Counts).parts r).made ≡ (t.parts r).made + 1 = ap (λ (y : IdealPart). y.made) (with_at-here t.parts r x) in
    record {
      counted = record { far = refl; below = omega (arith, e) };
      nowhere = λ s a. let c : (t.parts r).made < (t.parts r).made = (h.counted (ideal_wire_made t r) s (part_old t r x (omega arith) (ideal_wire_made t r) s a)).below in omega (arith, c);
    }

-- ---- a slot
module _ (t : IdealTables) (r q : ℕ) (o : Option Wire) where
  pub slot_cases : (w : Wire) (s : Spot) → Stands (ideal_after_act r t (SlotSet q o)) w s → Stands t w s ⊎ ((s ≡ InSlot r q) × (o ≡ Some w))
  slot_cases w (InSlot k p) h =
      by_slot (λ v. v ≡ Some w → (t.slots k p ≡ Some w) ⊎ ((InSlot k p ≡ InSlot r q) × (o ≡ Some w))) t.slots r q o k p
      (λ e a. inr (ap₂ (λ i j. InSlot i j) e.rank e.slot, a)) (λ _ a. inl a) h
  slot_cases w (OnLane a) h = inl h

  pub placed_slot : ((w : Wire) → o ≡ Some w → IsFree t w) → ArePlaced t → ArePlaced (ideal_after_act r t (SlotSet q o))
  placed_slot free h = one_more t (ideal_after_act r t (SlotSet q o)) (InSlot r q) (λ w. o ≡ Some w) free slot_cases (λ k. refl) h h.once h.wired

-- an emptied slot
pub placed_out : (t : IdealTables) (r q : ℕ) → ArePlaced t → ArePlaced (ideal_after_act r t (SlotSet q None))
placed_out t r q h = placed_slot t r q None (λ w e. absurd (let n : ⊥ = cc in n)) h

pub free_out : (t : IdealTables) (r q : ℕ) (w : Wire) → IsFree t w → IsFree (ideal_after_act r t (SlotSet q None)) w
free_out t r q w f =
    free_on t (ideal_after_act r t (SlotSet q None)) (λ k. omega arith)
    (λ v s a. elim (slot_cases t r q None v s a) [ inl x ↦ x | inr n ↦ absurd (let e = n.1 in let z : ⊥ = cc in z) ]) w f

-- ---- a load more on a lane
once_push : (xs : List Load) (x : Load) → OnceEach xs → ((w : Wire) → x ≡ Carried w → ¬ Contains xs (Carried w)) → OnceEach (xs ++ x ∷ [])
once_push [] x once new = ((λ w e c. none w c), tt)
  where
    none : (w : Wire) → ¬ Contains [] (Carried w)
    none w c = let below : c.0 < 0 = c.1 in omega (arith, below)
once_push (y ∷ xs) x once new = (
  (λ w e c. ⊎_elim (λ (old : Contains xs (Carried w)). once.0 w e old) (λ (same : x ≡ Carried w). new w same (head w e)) (Contains-push_cases xs x (Carried w) c)),
  once_push xs x once.1 (λ w e c. new w e (Contains-append_right (y ∷ []) xs (Carried w) c)),
)
  where
    head : (w : Wire) → y ≡ Carried w → Contains (y ∷ xs) (Carried w)
    head w e = (0, omega arith, e)

carried_push : (xs : List Load) (x : Load) → AllCarried xs → x ≡ Carried (wire_carried x) → AllCarried (xs ++ x ∷ [])
carried_push [] x h e = (e, tt)
carried_push (y ∷ xs) x h e = (h.0, carried_push xs x h.1 e)

module _ (t : IdealTables) (r : ℕ) (a : Lane) (x : Load) where
  pub put_cases : (w : Wire) (s : Spot) → Stands (ideal_after_act r t (Puts a x)) w s → Stands t w s ⊎ ((s ≡ OnLane a) × (x ≡ Carried w))
  put_cases w (InSlot k p) h = inl h
  put_cases w (OnLane b) h =
      by_lane (λ xs. Contains xs (Carried w) → Contains (t.lanes b) (Carried w) ⊎ ((OnLane b ≡ OnLane a) × (x ≡ Carried w))) t.lanes a (t.lanes a ++ x ∷ []) b
      (λ e c. ⊎_elim (λ (old : Contains (t.lanes a) (Carried w)). inl (subst (λ d. Contains (t.lanes d) (Carried w)) (sym e) old))
      (λ (new : x ≡ Carried w). inr (ap (λ d. OnLane d) e, new)) (Contains-push_cases (t.lanes a) x (Carried w) c))
      (λ _ c. inl c) h

  pub placed_put : ((w : Wire) → x ≡ Carried w → IsFree t w) → (carries a.kind ≡ true → x ≡ Carried (wire_carried x)) → ArePlaced t → ArePlaced (ideal_after_act r t (Puts a x))
  placed_put free wire h =
      one_more t (ideal_after_act r t (Puts a x)) (OnLane a) (λ w. x ≡ Carried w) free put_cases (λ k. refl) h
      (λ b. by_lane OnceEach t.lanes a (t.lanes a ++ x ∷ []) b (λ _. once_push (t.lanes a) x (h.once a) (λ w e c. (free w e).nowhere (OnLane a) c)) (λ _. h.once b))
      (λ b. by_lane (λ xs. carries b.kind ≡ true → AllCarried xs) t.lanes a (t.lanes a ++ x ∷ []) b
      (λ e k. let same : carries a.kind ≡ true = subst (λ (d : Lane). carries d.kind ≡ true) e k in carried_push (t.lanes a) x (h.wired a same) (wire same)) (λ _. h.wired b))

-- ---- a load taken from a lane
once_drop : (xs : List Load) → OnceEach xs → OnceEach (drop 1 xs)
once_drop [] h = h
once_drop (x ∷ xs) h = h.1

carried_drop : (xs : List Load) → AllCarried xs → AllCarried (drop 1 xs)
carried_drop [] h = h
carried_drop (x ∷ xs) h = h.1

-- the load at the front is a wire, on a lane that carries wires
pub front_wire : (xs : List Load) → nat_lt 0 (length xs) ≡ true → AllCarried xs → slice_index_or xs 0 Token ≡ Carried (wire_carried (slice_index_or xs 0 Token))
front_wire [] some h = absurd (let n : ⊥ = cc in n)
front_wire (x ∷ xs) some h = h.0

pub front_there : (xs : List Load) → nat_lt 0 (length xs) ≡ true → Contains xs (slice_index_or xs 0 Token)
front_there [] some = absurd (let n : ⊥ = cc in n)
front_there (x ∷ xs) some = (0, omega arith, refl)

front_once : (xs : List Load) (w : Wire) → slice_index_or xs 0 Token ≡ Carried w → OnceEach xs → ¬ Contains (drop 1 xs) (Carried w)
front_once [] w e h = absurd (let n : ⊥ = cc in n)
front_once (x ∷ xs) w e h = h.0 w e

module _ (t : IdealTables) (r : ℕ) (a : Lane) (h : ArePlaced t) where
  take_old : (w : Wire) (s : Spot) → Stands (ideal_after_act r t (Takes a)) w s → Stands t w s
  take_old w (InSlot k p) c = c
  take_old w (OnLane b) c =
      by_lane (λ xs. Contains xs (Carried w) → Contains (t.lanes b) (Carried w)) t.lanes a (drop 1 (t.lanes a)) b
      (λ e c. subst (λ d. Contains (t.lanes d) (Carried w)) (sym e) (contains_drop (t.lanes a) (Carried w) c)) (λ _ c. c) c

  pub placed_take : ArePlaced (ideal_after_act r t (Takes a))
  placed_take =
      no_more t (ideal_after_act r t (Takes a)) (λ k. omega arith) take_old h
      (λ b. by_lane OnceEach t.lanes a (drop 1 (t.lanes a)) b (λ _. once_drop (t.lanes a) (h.once a)) (λ _. h.once b))
      (λ b. by_lane (λ xs. carries b.kind ≡ true → AllCarried xs) t.lanes a (drop 1 (t.lanes a)) b
      (λ e k. carried_drop (t.lanes a) (h.wired a (subst (λ (d : Lane). carries d.kind ≡ true) e k))) (λ _. h.wired b))

  -- the wire that was taken is free
  pub taken_free : carries a.kind ≡ true → nat_lt 0 (length (t.lanes a)) ≡ true → IsFree (ideal_after_act r t (Takes a)) (wire_carried (load_at t a))
  taken_free wires some =
      let w = wire_carried (load_at t a) in
      let u = ideal_after_act r t (Takes a) in
      let is : load_at t a ≡ Carried w = front_wire (t.lanes a) some (h.wired a wires) in
      let there : Stands t w (OnLane a) = subst (λ x. Contains (t.lanes a) x) is (front_there (t.lanes a) some) in
      record {
        counted = counted_on t u w (λ k. omega arith) (h.counted w (OnLane a) there);
        nowhere = λ s c.
            let same : s ≡ OnLane a = h.one w s (OnLane a) (take_old w s c) there in
            let still : Stands u w (OnLane a) = subst (Stands u w) same c in
            front_once (t.lanes a) w is (h.once a) (subst (λ xs. Contains xs (Carried w)) (with_lane-here t.lanes a (drop 1 (t.lanes a))) still);
      }
