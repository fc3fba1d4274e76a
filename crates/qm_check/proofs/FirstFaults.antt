-- The first fault of programs is one fault
use Rattle.std.proofs.Common.{◌≡◌, ℕ, ◌<◌, Bool, true, false, refl, sym, ap, ◌∙◌, inl, inr, arith}
use Rattle.std.specs.declared.cmp.Ordering.{Ordering}
use Rattle.std.specs.declared.cmp.Ordering.TheVariants.{Less, Equal, Greater}
use Rattle.std.specs.Ordering.{nat_cmp, ordering_reverse, MatchOrdering}
use Rattle.std.proofs.lemmas.Cmp.{ranked}
use Rattle.std.proofs.lemmas.Option.{same_Some, none-some}
use Rattle.qm_instr.specs.declared.Lane.{Lane}
use Rattle.qm_instr.specs.Lanes.{lane_order}
use Rattle.qm_instr.specs.Programs.{Programs}
use Rattle.qm_instr.proofs.LaneOrder.{lane_order-total, lane_order-equal}
use Rattle.qm_check.specs.declared.Fault.{Fault}
use Rattle.qm_check.specs.Checks.{Site, AllRanks, AtInstr, OnLane, OnTape, fault_at, IsBefore, IsReady, IsFirstFault}

-- how two sites stand to each other
data Compared (a b : Site) : Type 0 where
  Before : IsBefore a b → Compared a b
  Same : a ≡ b → Compared a b
  After : IsBefore b a → Compared a b

steps : (r k s j : ℕ) → Compared (AtInstr r k) (AtInstr s j)
steps r k s j = by_order (nat_cmp r s) (nat_cmp k j) (ranked r s (nat_cmp r s) refl) (ranked k j (nat_cmp k j) refl)
  where
    by_order : (c d : Ordering) → MatchOrdering c (r < s) (r ≡ s) (s < r) → MatchOrdering d (k < j) (k ≡ j) (j < k)
        → Compared (AtInstr r k) (AtInstr s j)
    by_order Less d h g = Before (inr (inl h))
    by_order Greater d h g = After (inr (inl h))
    by_order Equal Less h g = Before (inr (inr (h, g)))
    by_order Equal Greater h g = After (inr (inr (sym h, g)))
    by_order Equal Equal h g = Same (ap (λ x. AtInstr x k) h ∙ ap (AtInstr s) g)

lanes : (a b : Lane) → Compared (OnLane a) (OnLane b)
lanes a b = by_order (lane_order a b) refl
  where
    by_order : (o : Ordering) → lane_order a b ≡ o → Compared (OnLane a) (OnLane b)
    by_order Less e = Before (inr e)
    by_order Equal e = Same (ap OnLane (lane_order-equal a b e))
    by_order Greater e = After (inr (lane_order-total.antisymm b a ∙ ap ordering_reverse e))

tapes : (r s : ℕ) (own other : Bool) → Compared (OnTape r own) (OnTape s other)
tapes r s own other = by_order (nat_cmp r s) (ranked r s (nat_cmp r s) refl) own other
  where
    by_order : (c : Ordering) → MatchOrdering c (r < s) (r ≡ s) (s < r) → (x y : Bool) → Compared (OnTape r x) (OnTape s y)
    by_order Less h x y = Before (inr (inl h))
    by_order Greater h x y = After (inr (inl h))
    by_order Equal h true true = Same (ap (λ n. OnTape n true) h)
    by_order Equal h false false = Same (ap (λ n. OnTape n false) h)
    by_order Equal h true false = Before (inr (inr (h, refl, refl)))
    by_order Equal h false true = After (inr (inr (sym h, refl, refl)))

compared : (a b : Site) → Compared a b
compared AllRanks AllRanks = Same refl
compared (AtInstr r k) (AtInstr s j) = steps r k s j
compared (OnLane a) (OnLane b) = lanes a b
compared (OnTape r own) (OnTape s other) = tapes r s own other
compared AllRanks b = Before (inl (omega arith))
compared a AllRanks = After (inl (omega arith))
compared (AtInstr r k) b = Before (inl (omega arith))
compared a (AtInstr s j) = After (inl (omega arith))
compared (OnLane a) (OnTape s other) = Before (inl (omega arith))
compared (OnTape r own) (OnLane b) = After (inl (omega arith))

pub first_fault-one : (p : Programs) (f g : Fault) → IsFirstFault p f → IsFirstFault p g → f ≡ g
first_fault-one p f g h k = by_sites (compared h.0 k.0)
  where
    by_sites : Compared h.0 k.0 → f ≡ g
    by_sites (Before b) = absurd (none-some f (sym (k.2 h.0 b) ∙ h.1))
    by_sites (After b) = absurd (none-some g (sym (h.2 k.0 b) ∙ k.1))
    by_sites (Same e) = same_Some f g (sym h.1 ∙ ap (fault_at p) e ∙ k.1)

pub ready-no_fault : (p : Programs) (f : Fault) → IsReady p → IsFirstFault p f → ⊥
ready-no_fault p f r h = none-some f (sym (r h.0) ∙ h.1)
