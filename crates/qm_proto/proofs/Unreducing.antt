-- The order of controlled-nots on one target doesn't matter
use Rattle.std.proofs.Common.{◌≡◌, ℕ, ◌+◌, ◌%◌, nat_eq, Bool, true, false, List, [], ◌∷◌, ◌++◌, refl, sym, ap, ◌∙◌, arith}
use Rattle.std.proofs.lemmas.Bool.Decides.{nat_tests}
use Rattle.std.proofs.lemmas.List.Sorted.{sum_by-IsPermutation}
use Rattle.std.proofs.lemmas.List.Sums.{sum_by-cons}
use Rattle.std.specs.List.Sorted.{IsPermutation}
use Rattle.std.specs.Prelude.{sum_by}
use Rattle.qm_denot.specs.declared.Wire.{Wire}
use Rattle.qm_denot.specs.declared.Letter.TheVariants.{Take}
use Rattle.qm_denot.specs.Wires.{Wires, has}
use Rattle.qm_denot.specs.WireLists.{Lacks}
use Rattle.qm_denot.specs.Places.{bit_of}
use Rattle.qm_denot.specs.Circuits.{Circuit, IsBlank, IsEqualUpTo}
use Rattle.qm_denot.specs.Protocols.{differing, is_odd, crossings}
use Rattle.qm_denot.proofs.CollectiveLaws.{equal_unreducing, equal_unreducing_blank}

-- one bit more
odd_more : (b : Bool) (n : ℕ) → nat_eq ((bit_of b + n) % 2) 1 ≡ differing b (nat_eq (n % 2) 1)
odd_more true n = grind (arith, nat_tests)
odd_more false n = grind (arith, nat_tests)

-- how many of the wires are in x, counted
is_odd-count : (ws : List Wire) (x : Wires) → is_odd ws x ≡ nat_eq (sum_by (λ w. bit_of (has x w)) ws % 2) 1
is_odd-count [] x = refl
is_odd-count (w ∷ ws) x = ap (differing (has x w)) (is_odd-count ws x) ∙ sym (odd_more (has x w) (sum_by (λ v. bit_of (has x v)) ws)) ∙ ap (λ n. nat_eq (n % 2) 1) (sym (sum_by-cons (λ v. bit_of (has x v)) w ws))

-- a list in another order has the same parity
pub is_odd-IsPermutation : (ws us : List Wire) → IsPermutation ws us → (x : Wires) → is_odd us x ≡ is_odd ws x
is_odd-IsPermutation ws us p x =
    is_odd-count us x ∙ ap (λ n. nat_eq (n % 2) 1) (sum_by-IsPermutation (λ w. bit_of (has x w)) ws us p) ∙ sym (is_odd-count ws x)

module _ (c : Circuit) (ws us : List Wire) (v : Wire) (l : Lacks ws v) (k : Lacks us v) (order : IsPermutation ws us) where
  -- controlled-nots on v undo themselves in any order
  pub equal_unreducing_in_any_order : IsEqualUpTo 0 (c ++ (crossings ws v ++ crossings us v)) c
  equal_unreducing_in_any_order = equal_unreducing c ws us v l k (is_odd-IsPermutation ws us order)

  -- and where v is blank in C it may be given up as zero after them
  pub equal_unreducing_blank_in_any_order : IsBlank c v → IsEqualUpTo 0 (c ++ ((crossings ws v ++ crossings us v) ++ Take v false ∷ [])) c
  equal_unreducing_blank_in_any_order = equal_unreducing_blank c ws us v l k (is_odd-IsPermutation ws us order)
