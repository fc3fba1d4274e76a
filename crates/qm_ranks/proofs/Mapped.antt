-- Elements of a list that is a map of another
use Rattle.std.proofs.Common.{◌≡◌, ◌∙◌, ℕ, List, map, sym, ap, refl}
use Rattle.std.specs.Prelude.{Option, Some, None, slice_get}
use Rattle.std.proofs.lemmas.Option.{slice_get-map}
use Rattle.std.specs.Option.{option_map}

module _ {A B : Type 0} (f : A → B) where
  from_option : (o : Option A) (y : B) → option_map f o ≡ Some y → (x : A) × (o ≡ Some x) × (f x ≡ y)
  from_option None y e = absurd (cc)
  from_option (Some x) y e = (x, refl, let h : f x ≡ y = cc in h)

  pub from_map : (xs : List A) (k : ℕ) (y : B) → slice_get (map f xs) k ≡ Some y → (x : A) × (slice_get xs k ≡ Some x) × (f x ≡ y)
  from_map xs k y e = from_option (slice_get xs k) y (sym (slice_get-map f xs k) ∙ e)

  pub to_map : (xs : List A) (k : ℕ) (x : A) → slice_get xs k ≡ Some x → slice_get (map f xs) k ≡ Some (f x)
  to_map xs k x e = slice_get-map f xs k ∙ ap (option_map f) e
