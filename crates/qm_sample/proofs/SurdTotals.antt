-- A sum of numbers A + B root2 goes by four sums of natural numbers: how far A and B are above 0, and how far below
use Rattle.std.proofs.Common.{◌≡◌, ℕ, zero, suc, ◌+◌, ◌^◌, ℤ, pos, negsuc, ◌-ℤ◌, true, false, List, [], ◌∷◌, length, refl, sym, ap, ◌∙◌, arith}
use Rattle.std.proofs.lemmas.Int.{ints}
use Rattle.qm_sizes.specs.Surds.{Surd, surd, nought, plus}
use Rattle.qm_sizes.proofs.Orders.{same}
use Rattle.qm_denot.specs.declared.Wire.{Wire}
use Rattle.qm_denot.specs.Wires.{Wires, has, put, no_wires}
use Rattle.qm_denot.specs.WireLists.{Lacks, Distinct}
use Rattle.qm_denot.specs.Places.{set_at}
use Rattle.qm_denot.specs.Weights.{total, also}
use Rattle.qm_denot.proofs.Sets.{has-no_wires}
use Rattle.qm_denot.proofs.NameLists.{Lacks-where_also, Distinct-also}
use Rattle.qm_denot.proofs.Totals.{total-any}
use Rattle.qm_proto.specs.Model.Totals.{sum_below}
use Rattle.qm_sample.specs.Shares.{surd_total}
use Rattle.qm_sample.proofs.IndexSums.{sum_below-set_at}

-- f 0 + f 1 + .. , n of them
abbrev pub surds_below : (ℕ → Surd) → ℕ → Surd
surds_below f zero = nought
surds_below f (suc n) = plus (surds_below f n) (f n)

-- ---- the four parts of a number
abbrev over : ℤ → ℕ
over (pos n) = n
over (negsuc n) = 0

abbrev under : ℤ → ℕ
under (pos n) = 0
under (negsuc n) = suc n

parted : (z : ℤ) → z ≡ pos (over z) -ℤ pos (under z)
parted (pos n) = omega (arith, ints)
parted (negsuc n) = omega (arith, ints)

-- the number with these parts
abbrev by_parts : ((Surd → ℕ) → ℕ) → Surd
by_parts g =
    surd
    (pos (g (λ x. over x.whole)) -ℤ pos (g (λ x. under x.whole)))
    (pos (g (λ x. over x.root)) -ℤ pos (g (λ x. under x.root)))

by_parts-own : (x : Surd) → x ≡ by_parts (λ p. p x)
by_parts-own x = same (parted x.whole) (parted x.root)

by_parts-plus : (g h : (Surd → ℕ) → ℕ) → plus (by_parts g) (by_parts h) ≡ by_parts (λ p. g p + h p)
by_parts-plus g h = same (omega (arith, ints)) (omega (arith, ints))

-- each part of 0 is 0
by_parts-same : (g h : (Surd → ℕ) → ℕ) → ((p : Surd → ℕ) → p nought ≡ 0 → g p ≡ h p) → by_parts g ≡ by_parts h
by_parts-same g h each =
    same
    (let a = each (λ x. over x.whole) refl in let b = each (λ x. under x.whole) refl in rw (a, b) refl)
    (let a = each (λ x. over x.root) refl in let b = each (λ x. under x.root) refl in rw (a, b) refl)

surd_total-parts : (ws : List Wire) (f : Wires → Surd) (x : Wires) → surd_total ws f x ≡ by_parts (λ p. total ws (λ y. p (f y)) x)
surd_total-parts [] f x = by_parts-own (f x)
surd_total-parts (w ∷ ws) f x =
    let a = surd_total-parts ws f (put x w false) in
    let b = surd_total-parts ws f (put x w true) in
    rw (a, b) (by_parts-plus (λ p. total ws (λ y. p (f y)) (put x w false)) (λ p. total ws (λ y. p (f y)) (put x w true)))

surds_below-parts : (f : ℕ → Surd) (n : ℕ) → surds_below f n ≡ by_parts (λ p. sum_below (λ k. p (f k)) n)
surds_below-parts f zero = refl
surds_below-parts f (suc n) =
    let a = surds_below-parts f n in
    ap (λ s. plus s (f n)) a ∙ ap (plus (by_parts (λ p. sum_below (λ k. p (f k)) n))) (by_parts-own (f n))
    ∙ by_parts-plus (λ p. sum_below (λ k. p (f k)) n) (λ p. p (f n))

-- ---- so what is known of sums of natural numbers is so of these
pub surds_below-set_at : (ws : List Wire) (f : Wires → Surd) → Distinct ws
    → surds_below (λ k. f (set_at ws k)) (2 ^ length ws) ≡ surd_total ws f no_wires
surds_below-set_at ws f d =
    surds_below-parts (λ k. f (set_at ws k)) (2 ^ length ws)
    ∙ by_parts-same _ _ (λ p none. sum_below-set_at ws (λ x. p (f x)) d)
    ∙ sym (surd_total-parts ws f no_wires)

-- f is this at each set with a wire that the list lacks
abbrev pub IsOff : {A : Type 0} → List Wire → (Wires → A) → A → Type 0
IsOff ws f nothing = (x : Wires) (w : Wire) → Lacks ws w → has x w ≡ true → f x ≡ nothing

-- a sum is the same over two lists where f is zero off each of them
pub total-either : (vs ws : List Wire) (f : Wires → ℕ) → Distinct vs → Distinct ws → IsOff vs f 0 → IsOff ws f 0
    → total vs f no_wires ≡ total ws f no_wires
total-either vs ws f dv dw off_vs off_ws =
    sym (widened vs dv off_vs (λ w l. (Lacks-where_also vs ws w l).0))
    ∙ widened ws dw off_ws (λ w l. (Lacks-where_also vs ws w l).1)
  where
    widened : (us : List Wire) → Distinct us → IsOff us f 0 → ((w : Wire) → Lacks (also vs ws) w → Lacks us w)
        → total (also vs ws) f no_wires ≡ total us f no_wires
    widened us d off all =
        total-any us (also vs ws) f no_wires d (Distinct-also vs ws dv) all (λ x w h e l. off x w l h) (λ w e. has-no_wires w)

pub surd_total-either : (vs ws : List Wire) (f : Wires → Surd) → Distinct vs → Distinct ws → IsOff vs f nought → IsOff ws f nought
    → surd_total vs f no_wires ≡ surd_total ws f no_wires
surd_total-either vs ws f dv dw off_vs off_ws =
    surd_total-parts vs f no_wires
    ∙ by_parts-same _ _ (λ p none.
    total-either vs ws (λ x. p (f x)) dv dw (λ x w l h. ap p (off_vs x w l h) ∙ none) (λ x w l h. ap p (off_ws x w l h) ∙ none))
    ∙ sym (surd_total-parts ws f no_wires)
