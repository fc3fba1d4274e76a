-- The last parcel gets its bits where it stands
use Rattle.std.proofs.Common.{◌≡◌, ℕ, ◌-◌, ◌<◌, Bool, List, [], ◌∷◌, length, Some, zero, suc, refl, sym, ap, subst, slice_set, slice_index_or, arith}
use Rattle.qm_denot.specs.declared.Parcel.{Parcel}
use Rattle.qm_denot.specs.Parcels.{filled, IsFillable}

filled_at : (xs : List Parcel) (k : ℕ) (x : Parcel) (b : Bool × Bool)
    → suc k ≡ length xs → x ≡ slice_index_or xs k x → slice_set xs k (record x { bits = Some b }) ≡ filled xs b
filled_at [] k x b long read = refl
filled_at (y ∷ []) zero x b long read = ap (λ (z : Parcel). record z { bits = Some b } ∷ []) read
filled_at (y ∷ []) (suc k) x b long read = absurd (omega arith)
filled_at (y ∷ z ∷ zs) zero x b long read = absurd (omega arith)
filled_at (y ∷ z ∷ zs) (suc k) x b long read = ap (λ ys. y ∷ ys) (filled_at (z ∷ zs) k x b (omega arith) read)

pub filled_last : (xs : List Parcel) (n : ℕ) (x : Parcel) (b : Bool × Bool)
    → n ≡ length xs → x ≡ slice_index_or xs (n - 1) x → slice_set xs (n - 1) (record x { bits = Some b }) ≡ filled xs b
filled_last [] n x b long read = refl
filled_last (y ∷ ys) n x b long read =
    let last : n - 1 ≡ length ys = omega arith in
    subst (λ k. x ≡ slice_index_or (y ∷ ys) k x → slice_set (y ∷ ys) k (record x { bits = Some b }) ≡ filled (y ∷ ys) b) (sym last) (filled_at (y ∷ ys) (length ys) x b refl) read

-- where a parcel may be filled there is one
pub some_fillable : (xs : List Parcel) → IsFillable xs → 0 < length xs
some_fillable [] last = absurd last
some_fillable (x ∷ xs) last = omega arith
