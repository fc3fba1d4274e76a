use Rattle.std.proofs.Common.{◌≢◌, ℕ, [], ◌∷◌, refl, arith}
use Rattle.std.proofs.lemmas.List.Elements.{All-nil, All-cons, All-contains}
use Rattle.std.proofs.lemmas.List.Sorted.{IsPermutation-reverse, IsPermutation-to_front, IsPermutation-trans}
use Rattle.qm_tree.proofs.worked.worked_orders.Goals as goal

abbrev Other : ℕ → Type 0
Other x = x ≢ 4

pub returns : goal.returns
returns c = record {
  down = record {
    each = IsPermutation-to_front (0 ∷ 1 ∷ 2 ∷ []) 4;
    behind = ((0, omega arith, refl), ((1, omega arith, refl), ((1, omega arith, refl), ((2, omega arith, refl), tt))));
  };
  before_its_parent = λ h.
      All-contains Other (0 ∷ 3 ∷ []) 4
      (All-cons Other 0 (3 ∷ []) (λ e. omega (arith, e)) (All-cons Other 3 [] (λ e. omega (arith, e)) (All-nil Other))) h.behind.1.0 refl;
  up = record {
    each = IsPermutation-trans (0 ∷ 1 ∷ 2 ∷ 4 ∷ []) (4 ∷ 0 ∷ 1 ∷ 2 ∷ []) (2 ∷ 1 ∷ 0 ∷ 4 ∷ [])
        (IsPermutation-to_front (0 ∷ 1 ∷ 2 ∷ []) 4) (IsPermutation-reverse (4 ∷ 0 ∷ 1 ∷ 2 ∷ []));
    before = ((3, omega arith, refl), ((2, omega arith, refl), ((0, omega arith, refl), ((0, omega arith, refl), tt))));
  };
  behind_its_parent = λ h.
      All-contains Other (3 ∷ 1 ∷ 0 ∷ []) 4
      (All-cons Other 3 (1 ∷ 0 ∷ []) (λ e. omega (arith, e))
      (All-cons Other 1 (0 ∷ []) (λ e. omega (arith, e)) (All-cons Other 0 [] (λ e. omega (arith, e)) (All-nil Other)))) h.before.1.0 refl;
}
