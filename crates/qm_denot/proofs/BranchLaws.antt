-- A branch of a list of numerators is a set of wires, and the other way round
use Rattle.std.proofs.Common.{◌≡◌, ◌≢◌, ℕ, ◌<◌, ◌^◌, Bool, true, false, cond, List, length, refl, sym, ap, ◌∙◌}
use Rattle.qm_zomega.specs.declared.Zw.{Zw}
use Rattle.qm_zomega.specs.Numbers.{zero_number}
use Rattle.qm_denot.specs.declared.Wire.{Wire}
use Rattle.qm_denot.specs.Wires.{Wires, has}
use Rattle.qm_denot.specs.WireLists.{Distinct}
use Rattle.qm_denot.specs.Places.{has_place, index_of, is_within, IsFirstAt, set_at}
use Rattle.qm_denot.specs.ListStores.{listed_value}
use Rattle.qm_zomega.specs.NumberLists.{number_at}
use Rattle.qm_denot.proofs.PlaceLaws.{has-index, index_below, index-set_at, within-set_at}

-- the value of a set is zero if the number at its index is
zero_value : (live : List Wire) (zs : List Zw) (x : Wires) → number_at zs (index_of live x) ≡ zero_number → listed_value live zs x ≡ zero_number
zero_value live zs x e = rw e (elim (is_within x live) as (λ b. cond b zero_number zero_number ≡ zero_number) [ true ↦ refl | false ↦ refl ])

-- the set with an index has the number there
pub listed_value-set_at : (live : List Wire) (zs : List Zw) (k : ℕ) → Distinct live → k < 2 ^ length live → listed_value live zs (set_at live k) ≡ number_at zs k
listed_value-set_at live zs k d h = let within = within-set_at live k d in let index = index-set_at live k d h in rw (within, index) refl

-- and its wires are the bits of the index
pub has-set_at : (live : List Wire) (p : ℕ) (w : Wire) (k : ℕ) → Distinct live → IsFirstAt live p w → k < 2 ^ length live → has (set_at live k) w ≡ has_place p k
has-set_at live p w k d at h = sym (has-index live p w (set_at live k) at) ∙ ap (has_place p) (index-set_at live k d h)

module _ (live : List Wire) (zs : List Zw) (distinct : Distinct live) where
  nonzero : (k : ℕ) → k < 2 ^ length live → number_at zs k ≢ zero_number → listed_value live zs (set_at live k) ≢ zero_number
  nonzero k h some e = some (sym (listed_value-set_at live zs k distinct h) ∙ e)

  module _ (p : ℕ) (w : Wire) (at : IsFirstAt live p w) where
    pub branch_from_index : (m : Bool) → (k : ℕ) × (k < 2 ^ length live) × (has_place p k ≡ m) × (number_at zs k ≢ zero_number)
        → (x : Wires) × (has x w ≡ m) × (listed_value live zs x ≢ zero_number)
    branch_from_index m (k, below, bit, some) = (set_at live k, has-set_at live p w k distinct at below ∙ bit, nonzero k below some)

    pub zero_from_indexes : (m : Bool) → ((k : ℕ) → k < 2 ^ length live → has_place p k ≡ m → number_at zs k ≡ zero_number) → (x : Wires) → has x w ≡ m → listed_value live zs x ≡ zero_number
    zero_from_indexes m none x bit = zero_value live zs x (none (index_of live x) (index_below live x) (has-index live p w x at ∙ bit))

    module _ (q : ℕ) (v : Wire) (to : IsFirstAt live q v) where
      pub difference_from_index : (k : ℕ) × (k < 2 ^ length live) × (has_place p k ≢ has_place q k) × (number_at zs k ≢ zero_number)
          → (x : Wires) × (has x w ≢ has x v) × (listed_value live zs x ≢ zero_number)
      difference_from_index (k, below, differ, some) = (
        set_at live k,
        λ e. differ (sym (has-set_at live p w k distinct at below) ∙ e ∙ has-set_at live q v k distinct to below),
        nonzero k below some,
      )

      pub equal_from_indexes : ((k : ℕ) → k < 2 ^ length live → has_place p k ≢ has_place q k → number_at zs k ≡ zero_number) → (x : Wires) → has x w ≢ has x v → listed_value live zs x ≡ zero_number
      equal_from_indexes none x differ =
          zero_value live zs x (none (index_of live x) (index_below live x) (λ e. differ (sym (has-index live p w x at) ∙ e ∙ has-index live q v x to)))
