-- The slots and the halves that places mean, where a wire leaves its place or moves to a slot, and counts of halves that change
use Rattle.std.proofs.Common.{◌≡◌, ◌≢◌, ℕ, zero, suc, ◌+◌, ◌-◌, ◌<◌, ◌≤◌, false, ◌&&◌, cond, List, [], ◌∷◌, ◌++◌, Contains, Some, None, length, refl, sym, ap, ap₂, subst, ◌∙◌, arith}
use Rattle.std.proofs.lemmas.List.{length-map}
use mathlib.Core.Path.{fun_ext}
use Rattle.std.proofs.Math.ListN.{get_or-map}
use Rattle.std.proofs.lemmas.Option.{same_Some}
use Rattle.qm_denot.specs.declared.Wire.{Wire}
use Rattle.qm_denot.specs.Wires.{has, put}
use Rattle.qm_denot.specs.WireLists.{Distinct, without_wire}
use Rattle.qm_denot.proofs.LiveWires.{absent_where_lacked}
use Rattle.qm_denot.proofs.NameLists.{Distinct-without_wire}
use Rattle.qm_denot.proofs.Sets.{put_has}
use Rattle.qm_buffers.specs.declared.Buffer.{Buffer}
use Rattle.qm_buffers.specs.Halves.{empty_buffer, buffer_at, with_held}
use Rattle.qm_buffers.proofs.Changes.{in_list, held_with, sizes_with}
use Rattle.qm_owner.specs.declared.Place.{Place}
use Rattle.qm_owner.specs.declared.Place.TheVariants.{Slot, Near, Far}
use Rattle.qm_owner.specs.Places.{place_of, wires_at, wires_in, without, IsPlacing}
use Rattle.qm_owner.proofs.Placing.{slot_without}
use Rattle.qm_owner.proofs.Standing.{back}
use Rattle.qm_proto.specs.Model.State.{with_at, with_slot}
use Rattle.qm_proto.specs.Model.Acts.{more_at, less_at}
use Rattle.qm_proto.proofs.Changes.{by_rank}
use Rattle.qm_proto.proofs.TidyPlaces.{Contains-without_wire}
use Rattle.qm_machine.specs.Views.{slots_in, near_in, far_in, held_in, sizes_in}
use Rattle.qm_machine.specs.Facts.{size_at}
use Rattle.qm_machine.proofs.HalfSets.{false_unless, contained}
use Rattle.qm_machine.proofs.LivePlaces.{length-without_wire}
use Rattle.qm_machine.proofs.PlaceTables.{set_at, set_without, nat_eq-swap, slots_filled, near_by_slot, far_by_slot}

-- ---- a wire that goes
module _ (es : List (Wire × Place)) (w : Wire) (placing : IsPlacing es) (p : Place) (at : place_of es w ≡ Some p) where
  -- it isn't elsewhere
  unmoved : (k : Place) → p ≢ k → set_at (without es w) k ≡ set_at es k
  unmoved k ne =
      let absent : has (set_at es k) w ≡ false = false_unless (has (set_at es k) w) (λ h.
      ne (same_Some p k (sym at ∙ back es w k placing.wires (contained (wires_at es k) w h)))) in
      set_without es w k ∙ put_has (set_at es k) w false absent

module _ (es : List (Wire × Place)) (w : Wire) (r : ℕ) (placing : IsPlacing es) where
  -- from a slot
  module _ (q : ℕ) (at : place_of es w ≡ Some (Slot r q)) where
    pub slots_emptied : slots_in (without es w) ≡ with_slot (slots_in es) r q None
    slots_emptied =
        fun_ext (λ k. fun_ext (λ j.
        slot_without es w (Slot r q) k j placing at
        ∙ ap₂ (λ a b. cond (a && b) None (slots_in es k j)) (nat_eq-swap r k) (nat_eq-swap q j)))

    pub near_after_slot : near_in (without es w) ≡ near_in es
    near_after_slot = fun_ext (λ k. unmoved es w placing (Slot r q) at (Near k) (λ e. let f : ⊥ = cc in f))

    pub far_after_slot : far_in (without es w) ≡ far_in es
    far_after_slot = fun_ext (λ k. unmoved es w placing (Slot r q) at (Far k) (λ e. let f : ⊥ = cc in f))

  -- from the near halves
  module _ (at : place_of es w ≡ Some (Near r)) where
    pub slots_after_near : slots_in (without es w) ≡ slots_in es
    slots_after_near = fun_ext (λ k. fun_ext (λ j. slot_without es w (Near r) k j placing at))

    pub near_left : near_in (without es w) ≡ with_at (near_in es) r (put (near_in es r) w false)
    near_left =
        fun_ext (λ k. by_rank (λ v. near_in (without es w) k ≡ v) (near_in es) r (put (near_in es r) w false) k
        (λ e. ap (near_in (without es w)) e ∙ set_without es w (Near r))
        (λ ne. unmoved es w placing (Near r) at (Near k) (λ e. ne (let f : k ≡ r = cc in f))))

    pub far_after_near : far_in (without es w) ≡ far_in es
    far_after_near = fun_ext (λ k. unmoved es w placing (Near r) at (Far k) (λ e. let f : ⊥ = cc in f))

  -- from the far halves
  module _ (at : place_of es w ≡ Some (Far r)) where
    pub slots_after_far : slots_in (without es w) ≡ slots_in es
    slots_after_far = fun_ext (λ k. fun_ext (λ j. slot_without es w (Far r) k j placing at))

    pub near_after_far : near_in (without es w) ≡ near_in es
    near_after_far = fun_ext (λ k. unmoved es w placing (Far r) at (Near k) (λ e. let f : ⊥ = cc in f))

    pub far_left : far_in (without es w) ≡ with_at (far_in es) r (put (far_in es r) w false)
    far_left =
        fun_ext (λ k. by_rank (λ v. far_in (without es w) k ≡ v) (far_in es) r (put (far_in es r) w false) k
        (λ e. ap (far_in (without es w)) e ∙ set_without es w (Far r))
        (λ ne. unmoved es w placing (Far r) at (Far k) (λ e. ne (let f : k ≡ r = cc in f))))

    -- and into an empty slot
    module _ (q : ℕ) (empty : slots_in es r q ≡ None) where
      abbrev settled : List (Wire × Place)
      settled = without es w ++ (w, Slot r q) ∷ []

      pub slots_settled : slots_in settled ≡ with_slot (slots_in es) r q (Some w)
      slots_settled =
          slots_filled (without es w) w r q (ap (λ f. f r q) slots_after_far ∙ empty)
          ∙ ap (λ f. with_slot f r q (Some w)) slots_after_far

      pub near_settled : near_in settled ≡ near_in es
      near_settled = near_by_slot (without es w) w r q ∙ near_after_far

      pub far_settled : far_in settled ≡ with_at (far_in es) r (put (far_in es r) w false)
      far_settled = far_by_slot (without es w) w r q ∙ far_left

-- ---- counts
counts_changed : (bs : List Buffer) (r n : ℕ) → r < length bs → held_in (with_held bs r n) ≡ with_at (held_in bs) r n
counts_changed bs r n below = fun_ext (λ k. held_with bs r n k below)

-- the size of a buffer
pub size_read : (bs : List Buffer) (r : ℕ) → size_at (sizes_in bs) r ≡ (buffer_at bs r).size
size_read bs r = get_or-map (λ (b : Buffer). b.size) bs r (empty_buffer 0)

module _ (bs new : List Buffer) (r : ℕ) where
  -- one half more, and one less
  pub grown_at : new ≡ with_held bs r (held_in bs r + 1) → (buffer_at bs r).held < (buffer_at bs r).size
      → (held_in new ≡ more_at (held_in bs) r) × (sizes_in new ≡ sizes_in bs)
  grown_at is room =
      let below = in_list (λ (b : Buffer). b.size) refl bs r (omega (arith, room)) in
      (ap held_in is ∙ counts_changed bs r (held_in bs r + 1) below, ap sizes_in is ∙ sizes_with bs r (held_in bs r + 1))

  pub shrunk_at : new ≡ with_held bs r (held_in bs r - 1) → (buffer_at bs r).held ≢ 0
      → (held_in new ≡ less_at (held_in bs) r) × (sizes_in new ≡ sizes_in bs)
  shrunk_at is some =
      let below = in_list (λ (b : Buffer). b.held) refl bs r (omega (arith, some)) in
      (ap held_in is ∙ counts_changed bs r (held_in bs r - 1) below, ap sizes_in is ∙ sizes_with bs r (held_in bs r - 1))

-- ---- how many wires have places
listed_few : (us ws : List Wire) → Distinct us → Distinct ws → ((w : Wire) → Contains us w → Contains ws w) → length us ≤ length ws
listed_few [] ws once unique within = omega arith
listed_few (u ∷ us) ws once unique within =
    let rest : (v : Wire) → Contains us v → Contains (without_wire ws u) v = λ v (k, below, is).
    Contains-without_wire ws u v (λ e. absent_where_lacked us u once.0 (subst (Contains us) e (k, below, is))) (within v (suc k, omega arith, is)) in
    let less : length (without_wire ws u) + 1 ≡ length ws = length-without_wire ws u unique (within u (zero, omega arith, refl)) in
    let fewer : length us ≤ length (without_wire ws u) = listed_few us (without_wire ws u) once.1 (Distinct-without_wire ws u unique) rest in
    omega arith

pub few_placed : (es : List (Wire × Place)) (ws : List Wire) → IsPlacing es → Distinct ws → ((w : Wire) → Contains (wires_in es) w → Contains ws w) → length es ≤ length ws
few_placed es ws placing unique within =
    omega (arith, listed_few (wires_in es) ws placing.wires unique within, length-map es (λ (e : Wire × Place). e.0))
