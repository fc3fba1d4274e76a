-- Both ways of `Had` leave the reduced form
use Rattle.std.proofs.Common.{◌≡◌, ℕ, suc, ◌+◌, ◌-◌, ◌<◌, List, length, sym, ap, subst, ◌∙◌, arith}
use Rattle.qm_zomega.specs.Numbers.{Number, root2_of, IsDivisible}
use Rattle.qm_zomega.specs.NumberLists.{meant_at, ReducesBy}
use Rattle.qm_zomega.specs.Range.{IsBelow}
use Rattle.qm_denot.specs.LettersByPlace.{had_at}
use Rattle.qm_kernels.specs.Done.{IsComputed, AllHeld}
use Rattle.qm_kernels.specs.Halved.{half_of, half_root, halved_had}
use Rattle.qm_kernels.specs.Below.{AllBelow}
use Rattle.qm_kernels.specs.HadReduced.{HadReduces}
use Rattle.qm_kernels.proofs.BelowLaws.{below-had, below-root2_times, everywhere_below}

module _ {A : Type 0} (meaning : A → Number) (p : ℕ) (old : List A) (k : ℕ) where
  pub halved_reduces : (mid new : List A) (m : ℕ) → AllHeld meaning IsDivisible (had_at p) old → IsComputed meaning (halved_had p) old mid
      → ReducesBy meaning mid k new m → HadReduces meaning p old k new m
  halved_reduces mid new m divides done r = record {
    size = r.size ∙ done.size;
    lower = let l = r.lower in omega (arith, l);
    same = λ i h.
        let l = r.lower in
        let n : k + 1 - m ≡ suc (k - m) = omega (arith, l) in
        rw n (ap root2_of (r.same i ∙ done.numbers i h) ∙ half_root _ (divides i h));
    reduced = r.reduced;
  }

  pub plain_reduces : (new : List A) → (AllHeld meaning IsDivisible (had_at p) old → ⊥) → IsComputed meaning (had_at p) old new
      → HadReduces meaning p old k new (k + 1)
  plain_reduces new never done = record {
    size = done.size;
    lower = omega arith;
    same = λ i h. let n : k + 1 - (k + 1) ≡ 0 = omega arith in rw n (done.numbers i h);
    reduced = λ some all. never (λ i h. subst IsDivisible (done.numbers i h) (all i));
  }

  pub halved_below : (n : ℕ) (mid : List A) → AllHeld meaning IsDivisible (had_at p) old → IsComputed meaning (halved_had p) old mid
      → AllBelow meaning n old → AllBelow meaning (n + 1) mid
  halved_below n mid divides done all = everywhere_below meaning (n + 1) mid (λ i h.
      let l : i < length old = let s = done.size in omega (arith, h, s) in
      let z = had_at p (meant_at meaning old) i in
      let b : IsBelow (n + 1) (root2_of (half_of z)) = subst (IsBelow (n + 1)) (sym (half_root z (divides i l))) (below-had n (meant_at meaning old) all p i) in
      subst (IsBelow (n + 1)) (sym (done.numbers i l)) (below-root2_times (n + 1) 1 (half_of z) b))
