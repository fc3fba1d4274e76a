-- The front parcel
use Rattle.std.proofs.Common.{◌≡◌, ◌<◌, ◌↔◌, ℕ, List, [], ◌∷◌, length, Option, Some, None, IsSome, Bor, refl, ap, slice_get, slice_index_or, arith}
use Rattle.std.specs.Option.{option_copied, IfSome}
use Rattle.qm_denot.specs.declared.Parcel.{Parcel}
use Rattle.qm_mail.specs.Mails.{HasBits}

-- what a look at the front finds, where there is a parcel
pub front_read : (xs : List Parcel) (n : ℕ) (o : Option (Bor Parcel)) → n ≡ length xs
    → (IsSome o ↔ (0 < n)) → IfSome o (λ x. x.now ≡ slice_index_or xs 0 x.now)
    → option_copied o ≡ slice_get xs 0
front_read [] n None long some read = refl
front_read [] n (Some x) long some read = let more : 0 < n = some.0 refl in absurd (omega arith)
front_read (y ∷ ys) n None long some read = let h = some.1 (omega arith) in cc
front_read (y ∷ ys) n (Some x) long some read = ap (λ (z : Parcel). Some z) read

-- a front parcel with bits is there
pub some_with_bits : (xs : List Parcel) → HasBits (slice_get xs 0) → 0 < length xs
some_with_bits [] bits = absurd bits
some_with_bits (x ∷ xs) bits = omega arith
