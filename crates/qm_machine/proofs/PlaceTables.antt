-- The slots, the halves and the counts that places and buffers mean, where a wire comes to a place, leaves it, or moves
use Rattle.std.proofs.Common.{◌≡◌, ℕ, nat_eq, Bool, true, false, ◌&&◌, cond, List, [], ◌∷◌, ◌++◌, Contains, Some, None, refl, sym, ap, ap₂, ◌∙◌}
use Rattle.std.proofs.lemmas.Bool.{eqb-true, eq-eqb}
use mathlib.Core.Path.{fun_ext}
use Rattle.qm_denot.specs.declared.Wire.{Wire}
use Rattle.qm_denot.specs.Wires.{Wires, has, put}
use Rattle.qm_denot.specs.WireLists.{wires_of}
use Rattle.qm_owner.specs.declared.Place.TheVariants.{Slot, Near, Far}
use Rattle.qm_owner.specs.declared.Place.{Place}
use Rattle.qm_owner.specs.Places.{is_place, place_of, wires_at, wires_in, without, IsPlacing}
use Rattle.qm_owner.proofs.Placing.{slot_with}
use Rattle.qm_owner.proofs.Standing.{at_with, at_without, there, back, slot_there, slot_back, has_place}
use Rattle.qm_proto.specs.Model.State.{Tables, with_at, with_slot}
use Rattle.qm_proto.specs.Model.Places as model
use Rattle.qm_proto.specs.Model.Places.{InSlot, NearOf, FarOf, IsAt, IsPlaced}
use Rattle.qm_proto.proofs.Changes.{by_rank}
use Rattle.qm_machine.specs.Views.{slots_in, near_in, far_in}
use Rattle.qm_machine.proofs.HalfSets.{false_unless, wires_of-push, wires_of-without, contained, has_where_contained}

-- the wires at a place as a set
abbrev pub set_at : List (Wire × Place) → Place → Wires
set_at es p = wires_of (wires_at es p)

-- ---- a wire that comes
set_with : (es : List (Wire × Place)) (w : Wire) (p k : Place) → set_at (es ++ (w, p) ∷ []) k ≡ cond (is_place p k) (put (set_at es k) w true) (set_at es k)
set_with es w p k = ap wires_of (at_with es w p k) ∙ by_case (is_place p k)
  where
    by_case : (b : Bool) → wires_of (cond b (wires_at es k ++ w ∷ []) (wires_at es k)) ≡ cond b (put (set_at es k) w true) (set_at es k)
    by_case true = wires_of-push (wires_at es k) w
    by_case false = refl

-- numbers may be compared either way
pub nat_eq-swap : (m n : ℕ) → nat_eq m n ≡ nat_eq n m
nat_eq-swap m n = elim (nat_eq m n) as (λ b. nat_eq m n ≡ b → b ≡ nat_eq n m) [
  | true ↦ λ e. sym (eq-eqb n m (sym (eqb-true m n e)))
  | false ↦ λ e. sym (false_unless (nat_eq n m) (λ h. let f : nat_eq m n ≡ true = eq-eqb m n (sym (eqb-true n m h)) in let g : ⊥ = cc in g))
] refl

-- one set among those of all ranks
one_set : (xs : ℕ → Wires) (r k : ℕ) (w : Wire) (b : Bool) → cond (nat_eq r k) (put (xs k) w b) (xs k) ≡ with_at xs r (put (xs r) w b) k
one_set xs r k w b =
    ap (λ c. cond c (put (xs k) w b) (xs k)) (nat_eq-swap r k)
    ∙ by_rank (λ v. cond (nat_eq k r) (put (xs k) w b) (xs k) ≡ v) xs r (put (xs r) w b) k
    (λ e. ap (λ j. cond (nat_eq j r) (put (xs j) w b) (xs j)) e ∙ ap (λ c. cond c (put (xs r) w b) (xs r)) (eq-eqb r r refl))
    (λ ne. ap (λ c. cond c (put (xs k) w b) (xs k)) (false_unless (nat_eq k r) (λ h. ne (eqb-true k r h))))

module _ (es : List (Wire × Place)) (w : Wire) (r : ℕ) where
  -- into an empty slot
  pub slots_filled : (q : ℕ) → slots_in es r q ≡ None → slots_in (es ++ (w, Slot r q) ∷ []) ≡ with_slot (slots_in es) r q (Some w)
  slots_filled q empty =
      fun_ext (λ k. fun_ext (λ j.
      slot_with es w (Slot r q) k j empty
      ∙ ap₂ (λ a b. cond (a && b) (Some w) (slots_in es k j)) (nat_eq-swap r k) (nat_eq-swap q j)))

  pub near_by_slot : (q : ℕ) → near_in (es ++ (w, Slot r q) ∷ []) ≡ near_in es
  near_by_slot q = fun_ext (λ k. set_with es w (Slot r q) (Near k))

  pub far_by_slot : (q : ℕ) → far_in (es ++ (w, Slot r q) ∷ []) ≡ far_in es
  far_by_slot q = fun_ext (λ k. set_with es w (Slot r q) (Far k))

  -- among the near halves
  pub slots_by_near : slots_in (es ++ (w, Near r) ∷ []) ≡ slots_in es
  slots_by_near = fun_ext (λ k. fun_ext (λ j. slot_with es w (Near r) k j tt))

  pub near_come : near_in (es ++ (w, Near r) ∷ []) ≡ with_at (near_in es) r (put (near_in es r) w true)
  near_come = fun_ext (λ k. set_with es w (Near r) (Near k) ∙ one_set (near_in es) r k w true)

  pub far_by_near : far_in (es ++ (w, Near r) ∷ []) ≡ far_in es
  far_by_near = fun_ext (λ k. set_with es w (Near r) (Far k))

  -- among the far halves
  pub slots_by_far : slots_in (es ++ (w, Far r) ∷ []) ≡ slots_in es
  slots_by_far = fun_ext (λ k. fun_ext (λ j. slot_with es w (Far r) k j tt))

  pub near_by_far : near_in (es ++ (w, Far r) ∷ []) ≡ near_in es
  near_by_far = fun_ext (λ k. set_with es w (Far r) (Near k))

  pub far_come : far_in (es ++ (w, Far r) ∷ []) ≡ with_at (far_in es) r (put (far_in es r) w true)
  far_come = fun_ext (λ k. set_with es w (Far r) (Far k) ∙ one_set (far_in es) r k w true)

-- ---- a wire that goes
pub set_without : (es : List (Wire × Place)) (w : Wire) (k : Place) → set_at (without es w) k ≡ put (set_at es k) w false
set_without es w k = ap wires_of (at_without es w k) ∙ wires_of-without (wires_at es k) w

-- ---- where wires are, by the tables and by the places
-- the place by its name in the model
abbrev pub named : Place → model.Place
named (Slot r q) = InSlot r q
named (Near r) = NearOf r
named (Far r) = FarOf r

module _ (t : Tables) (es : List (Wire × Place)) (slots : t.slots ≡ slots_in es) (near : t.near ≡ near_in es) (far : t.far ≡ far_in es) where
  -- a wire's place is where the tables have it
  pub is_at : IsPlacing es → (w : Wire) (p : Place) → place_of es w ≡ Some p → IsAt t w (named p)
  is_at placing w (Slot r q) at = ap (λ f. f r q) slots ∙ slot_there es w r q placing at
  is_at placing w (Near r) at = ap (λ f. has (f r) w) near ∙ has_where_contained (wires_at es (Near r)) w (there es w (Near r) at)
  is_at placing w (Far r) at = ap (λ f. has (f r) w) far ∙ has_where_contained (wires_at es (Far r)) w (there es w (Far r) at)

  pub place_at : IsPlacing es → (w : Wire) (p : Place) → IsAt t w (named p) → place_of es w ≡ Some p
  place_at placing w (Slot r q) at = slot_back es w (Slot r q) placing.wires (ap (λ f. f r q) (sym slots) ∙ at)
  place_at placing w (Near r) at =
      back es w (Near r) placing.wires (contained (wires_at es (Near r)) w (ap (λ f. has (f r) w) (sym near) ∙ at))
  place_at placing w (Far r) at =
      back es w (Far r) placing.wires (contained (wires_at es (Far r)) w (ap (λ f. has (f r) w) (sym far) ∙ at))

  -- a wire that has no place
  pub no_place : IsPlacing es → (w : Wire) → ¬ (IsPlaced t w) → place_of es w ≡ None
  no_place placing w absent =
      elim (place_of es w) as (λ o. place_of es w ≡ o → o ≡ None) [
        | None ↦ λ _. refl
        | Some p ↦ λ at. absurd (absent (named p, is_at placing w p at))
      ] refl

  pub all_placed : IsPlacing es → (w : Wire) → Contains (wires_in es) w → IsPlaced t w
  all_placed placing w h = let at = has_place es w h in (named at.0, is_at placing w at.0 at.1)
