-- `Had` whose results root2 divides, with the quotients in their place
use Rattle.std.proofs.Common.{◌≡◌, ℕ, suc, ◌*◌, ◌<◌, ◌^◌, inl, inr, List, ◌++◌, length, sym, ap, ◌∙◌, arith}
use Rattle.qm_zomega.specs.Numbers.{Number, zero_number, root2_of, IsDivisible}
use Rattle.qm_zomega.proofs.Laws.Divisible.{divisible_or_not}
use Rattle.qm_zomega.proofs.Laws.Powers.{root2-injective}
use Rattle.qm_denot.specs.LettersByPlace.{had_at}
use Rattle.qm_kernels.specs.Done.{IsComputed}
use Rattle.qm_kernels.specs.DoneLaws.{IsLocal}
use Rattle.qm_kernels.specs.LocalLaws.{had_local}
use Rattle.qm_kernels.specs.JoinLaws.{blocks_joined}

-- the quotient by root2, and zero where it does not divide
pub half_of : Number → Number
half_of z = elim (divisible_or_not z) [ inl d ↦ d.0 | inr odd ↦ zero_number ]

pub half_root : (z : Number) → IsDivisible z → root2_of (half_of z) ≡ z
unfolding half_of
half_root z d = elim (divisible_or_not z) as (λ o. root2_of (elim o [ inl e ↦ e.0 | inr odd ↦ zero_number ]) ≡ z) [ inl e ↦ e.1 | inr odd ↦ absurd (odd d) ]

pub half_is : (z w : Number) → root2_of w ≡ z → w ≡ half_of z
half_is z w e = root2-injective w (half_of z) (e ∙ sym (half_root z (w, e)))

-- the quotients of what `Had` makes
abbrev pub halved_had : ℕ → (ℕ → Number) → ℕ → Number
halved_had p f i = half_of (had_at p f i)

pub halved_local : (e p : ℕ) → p < e → IsLocal (2 ^ e) (halved_had p)
halved_local e p h = record {
  shifted = λ f m r. ap half_of ((had_local e p h).shifted f m r);
  near = λ f g m r l agree. ap half_of ((had_local e p h).near f g m r l agree);
}

pub halved_joined : {A : Type 0} (p : ℕ) (meaning : A → Number) (m : ℕ) (xs ys us vs : List A) → length xs ≡ m * (2 * 2 ^ p) → length us ≡ length xs
    → IsComputed meaning (halved_had p) xs us → IsComputed meaning (halved_had p) ys vs
    → IsComputed meaning (halved_had p) (xs ++ ys) (us ++ vs)
halved_joined p meaning m xs ys us vs size same =
    blocks_joined meaning zero_number p (halved_had p) (halved_local (suc p) p (omega arith)) m xs ys us vs size
