-- When `Had` overflows: exactly where what it makes of some number of the list leaves the range
use Rattle.std.proofs.Common.{◌≡◌, ℕ, ◌<◌, ◌^◌, Bool, true, false, cond, List, length, refl, sym, ap, subst, ◌∙◌}
use Rattle.qm_zomega.specs.declared.Zw.{Zw}
use Rattle.qm_zomega.specs.Numbers.{zero_number, ◌⊕◌, ◌⊖◌}
use Rattle.qm_zomega.specs.Range.{FitsZw}
use Rattle.qm_zomega.proofs.Laws.Ranges.{FitsZw-zero}
use Rattle.qm_denot.specs.declared.Wire.{Wire}
use Rattle.qm_denot.specs.declared.Letter.TheVariants.{Had}
use Rattle.qm_denot.specs.Wires.{Wires, has, put}
use Rattle.qm_denot.specs.WireLists.{Distinct}
use Rattle.qm_denot.specs.Circuits.{Amplitudes, with_letter}
use Rattle.qm_denot.specs.Stores.{Overflows}
use Rattle.qm_denot.specs.Places.{index_of, is_within, IsFirstAt, set_at}
use Rattle.qm_denot.specs.LettersByPlace.{had_at}
use Rattle.qm_denot.specs.ListStores.{listed_value, listed_store}
use Rattle.qm_zomega.specs.NumberLists.{number_at}
use Rattle.qm_denot.proofs.Sets.{has-put_same, put_twice, put_has}
use Rattle.qm_denot.proofs.PlaceLaws.{index_below, index-set_at, within-set_at}
use Rattle.qm_denot.proofs.KeepingLaws.{had_value}

-- ---- the row of `Had`, at a set without the wire and at the same set with it
had_without : (w : Wire) (f : Amplitudes) (x : Wires) → has x w ≡ false → with_letter (Had w) f x ≡ f x ⊕ f (put x w true)
had_without w f x none = ap (λ b. cond b (f (put x w false) ⊖ f x) (f x ⊕ f (put x w true))) none

had_with : (w : Wire) (f : Amplitudes) (x : Wires) → has x w ≡ false → with_letter (Had w) f (put x w true) ≡ f x ⊖ f (put x w true)
had_with w f x none =
    ap (λ b. cond b (f (put (put x w true) w false) ⊖ f (put x w true)) (f (put x w true) ⊕ f (put (put x w true) w true))) (has-put_same x w true)
    ∙ ap (λ y. f y ⊖ f (put x w true)) (put_twice x w true false ∙ put_has x w false none)

module _ (live : List Wire) (zs : List Zw) (distinct : Distinct live) (size : length zs ≡ 2 ^ length live) (p : ℕ) (w : Wire) (at : IsFirstAt live p w) (n k : ℕ) where
  -- what `Had` makes of the value of the set with an index
  made_at : (i : ℕ) → i < length zs → with_letter (Had w) (listed_value live zs) (set_at live i) ≡ had_at p (number_at zs) i
  made_at i h =
      let x = set_at live i in
      sym (had_value live zs zs distinct size p w at x)
      ∙ ap (λ b. cond b (had_at p (number_at zs) (index_of live x)) zero_number) (within-set_at live i distinct)
      ∙ ap (had_at p (number_at zs)) (index-set_at live i distinct (subst (λ n. i < n) size h))

  bad_set : (x : Wires) (b : Bool) → has x w ≡ b → ¬ (FitsZw (with_letter (Had w) (listed_value live zs) x)) → Overflows (Had w) (listed_store n live k zs)
  bad_set x false none bad = (x, none, λ fits. bad (subst FitsZw (sym (had_without w (listed_value live zs) x none)) fits.0))
  bad_set x true one bad =
      let y = put x w false in
      let none : has y w ≡ false = has-put_same x w false in
      let back : put y w true ≡ x = put_twice x w false true ∙ put_has x w true one in
      (y, none, λ fits. bad (subst (λ t. FitsZw (with_letter (Had w) (listed_value live zs) t)) back (subst FitsZw (sym (had_with w (listed_value live zs) y none)) fits.1)))

  pub overflows_where_unfit : (i : ℕ) × (i < length zs) × ¬ (FitsZw (had_at p (number_at zs) i)) → Overflows (Had w) (listed_store n live k zs)
  overflows_where_unfit (i, h, unfit) = bad_set (set_at live i) (has (set_at live i) w) refl (λ fits. unfit (subst FitsZw (made_at i h) fits))

  module _ (fit : (i : ℕ) → i < length zs → FitsZw (had_at p (number_at zs) i)) where
    each_fits : (x : Wires) → FitsZw (with_letter (Had w) (listed_value live zs) x)
    each_fits x =
        subst FitsZw (had_value live zs zs distinct size p w at x)
        (elim (is_within x live) as (λ b. FitsZw (cond b (had_at p (number_at zs) (index_of live x)) zero_number)) [
          | true ↦ fit (index_of live x) (subst (λ n. index_of live x < n) (sym size) (index_below live x))
          | false ↦ FitsZw-zero
        ])

    pub never_overflows : ¬ (Overflows (Had w) (listed_store n live k zs))
    never_overflows (x, none, unfit) = unfit (
      subst FitsZw (had_without w (listed_value live zs) x none) (each_fits x),
      subst FitsZw (had_with w (listed_value live zs) x none) (each_fits (put x w true)),
    )
