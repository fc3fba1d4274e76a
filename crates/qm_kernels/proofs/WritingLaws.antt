-- Loops that write a list entry by entry
use Rattle.std.proofs.Common.{◌≡◌, ℕ, ◌+◌, ◌<◌, ◌≤◌, List, length, get_or, set, length-set, below_more, refl, sym, ap₂, subst, ◌∙◌, arith}
use Rattle.qm_zomega.specs.Numbers.{Number, ◌⊕◌, ◌⊖◌}
use Rattle.qm_zomega.specs.NumberLists.{seen_at, IsListBy}
use Rattle.qm_zomega.proofs.SeenLaws.{seen-here, seen-set_same, seen-set_other}
use Rattle.qm_kernels.specs.Done.{WrittenTo}

module _ {A B : Type 0} (see : A → B) (past : B) where
  module _ (g : ℕ → B) where
    pub written_none : (old : List A) → WrittenTo see past g old old 0
    written_none old = record { size = refl; before = λ j h. absurd (omega arith); after = λ j h. refl }

    module _ (old now : List A) (i : ℕ) (written : WrittenTo see past g old now i) where
      -- the entry to be written next is as it was
      pub unwritten : (z : A) → i < length old → z ≡ get_or now i z → see z ≡ seen_at see past old i
      unwritten z h e = sym (seen-here see past now i z (let s = written.size in omega arith) e) ∙ written.after i (omega arith)

      pub written_more : (z : A) → i < length old → see z ≡ g i → WrittenTo see past g old (set now i z) (i + 1)
      written_more z h e = record {
        size = length-set now i z ∙ written.size;
        before = below_more _ _
            (λ j l. seen-set_other see past now i j z (λ (s : j ≡ i). let k : ⊥ = omega arith in k) ∙ written.before j l)
            (seen-set_same see past now i z (let s = written.size in omega arith) ∙ e);
        after = λ j l. seen-set_other see past now i j z (λ (s : j ≡ i). let k : ⊥ = omega arith in k) ∙ written.after j (omega arith);
      }

      pub all_written : length old ≤ i → IsListBy see past now (length old) g
      all_written end = record { size = written.size; numbers = λ k h. written.before k (omega arith) }

-- sums and differences of equal numbers
pub held_same : (holds : Number → Type 0) (p q r s : Number) → p ≡ r → q ≡ s → holds (r ⊕ s) × holds (r ⊖ s) → holds (p ⊕ q) × holds (p ⊖ q)
held_same holds p q r s e f (h, k) = (subst holds (ap₂ (λ y z. y ⊕ z) (sym e) (sym f)) h, subst holds (ap₂ (λ y z. y ⊖ z) (sym e) (sym f)) k)
