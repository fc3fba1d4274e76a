-- A trial of the tests of a measurement and of giving a qubit up: the ideal circuit passes them too, and is not zero afterwards
use Rattle.std.proofs.Common.{◌≡◌, ◌≢◌, ℕ, Bool, true, false, cond, [], ◌∷◌, ◌++◌, refl, sym, ap, ◌∙◌, ⊎_elim}
use Rattle.std.proofs.lemmas.Bool.{cases_eq}
use Rattle.qm_zomega.specs.Numbers.{zero_number}
use Rattle.qm_zomega.proofs.Laws.Norms.{zero_or_not}
use Rattle.qm_denot.specs.declared.Wire.{Wire}
use Rattle.qm_denot.specs.declared.Letter.TheVariants.{Keep, Take}
use Rattle.qm_denot.specs.Wires.{Wires, has}
use Rattle.qm_denot.specs.Circuits.{Amplitudes, Circuit, amp, same_bit, IsBlank}
use Rattle.qm_denot.specs.CircuitFacts.{IsNonzero}
use Rattle.qm_denot.specs.Weights.{weight}
use Rattle.qm_denot.specs.Tags.{Tagged}
use Rattle.qm_denot.proofs.Amplitudes.{amp-append}
use Rattle.qm_denot.proofs.Inverses.{AllUnitary}
use Rattle.qm_denot.proofs.Support.{Sector, LooksAt}
use Rattle.qm_denot.proofs.Transfers.{IsSomeOn}
use Rattle.qm_denot.proofs.Weights.{weight_where_nonzero, nonzero_where_weight, IsNonzero-push_take_blank, IsNonzero-push_keep}
use Rattle.qm_denot.proofs.Partings.{IsAmong, IsNamedBy}
use Rattle.qm_instr.specs.Programs.{Programs}
use Rattle.qm_proto.specs.Model.State.{Tables}
use Rattle.qm_proto.specs.declared.Check.TheVariants.{Possible, Zero}
use Rattle.qm_proto.specs.Model.Runs.{Fails}
use Rattle.qm_simulation.specs.Following.Debts.{Message, Debt, Holder, Owes}
use Rattle.qm_simulation.specs.Following.Follows.{Follows}
use Rattle.qm_simulation.proofs.Following.TestsTransfer.{zero_on_both, some_on_both}

same_true : (a m : Bool) → same_bit a m ≡ true → a ≡ m
same_true true m e = sym e
same_true false true e = let n : ⊥ = cc in absurd n
same_true false false e = refl

same_itself : (a m : Bool) → a ≡ m → same_bit a m ≡ true
same_itself true m e = sym e
same_itself false true e = let n : ⊥ = cc in absurd n
same_itself false false e = refl

-- the number at x after a projection, where x passes it
kept_at : (g : Circuit) (w : Wire) (m : Bool) (x : Wires) → same_bit (has x w) m ≡ true → amp (g ++ Keep w m ∷ []) x ≡ amp g x
kept_at g w m x e = ap (λ (f : Amplitudes). f x) (amp-append g (Keep w m ∷ [])) ∙ ap (λ b. cond b (amp g x) zero_number) e

-- where a measurement is not impossible, there is a branch for its outcome: the weight of the projected circuit isn't 0
pub possible_branch : (g : Circuit) (w : Wire) (m : Bool) → ¬ Fails g (Possible w m) → IsSomeOn (λ x. same_bit (has x w) m) (amp g)
possible_branch g w m possible = ⊎_elim (λ (e : weight (g ++ Keep w m ∷ []) ≡ 0). absurd (possible (none e))) (λ (ne : weight (g ++ Keep w m ∷ []) ≢ 0). some (nonzero_where_weight (g ++ Keep w m ∷ []) ne))
    (cases_eq (weight (g ++ Keep w m ∷ [])) 0)
  where
    none : weight (g ++ Keep w m ∷ []) ≡ 0 → Fails g (Possible w m)
    none e x is =
        ⊎_elim (λ (z : amp g x ≡ zero_number). z)
        (λ (some : amp g x ≢ zero_number).
        absurd (weight_where_nonzero (g ++ Keep w m ∷ []) (x, λ z. some (sym (kept_at g w m x (same_itself (has x w) m is)) ∙ z)) e))
        (zero_or_not (amp g x))

    some : IsNonzero (g ++ Keep w m ∷ []) → IsSomeOn (λ x. same_bit (has x w) m) (amp g)
    some (x, nonzero) = by_bit (same_bit (has x w) m) refl
      where
        at_x : (b : Bool) → same_bit (has x w) m ≡ b → amp (g ++ Keep w m ∷ []) x ≡ cond b (amp g x) zero_number
        at_x b e = ap (λ (f : Amplitudes). f x) (amp-append g (Keep w m ∷ [])) ∙ ap (λ b. cond b (amp g x) zero_number) e

        by_bit : (b : Bool) → same_bit (has x w) m ≡ b → IsSomeOn (λ x. same_bit (has x w) m) (amp g)
        by_bit true e = (x, e, λ z. nonzero (at_x true e ∙ z))
        by_bit false e = absurd (nonzero (at_x false e))

looks_at_bit : (w : Wire) (m : Bool) → LooksAt (λ x. same_bit (has x w) m) (w ∷ [])
looks_at_bit w m x y agree = ap (λ b. same_bit b m) agree.0

module _ (p : Programs) (t : Tables) (n : ℕ) (g i : Circuit) (ds : Tagged Message) (before : Follows p t n g i ds)
    (unitary : (h : Holder) (d : Debt) → Owes p t h d → AllUnitary d.letters)
    (w : Wire) (off : (u : Wire) → IsAmong (w ∷ []) u → (k : Message) → IsNamedBy ds u k → ⊥) where
  -- a measurement of a wire that no debt names leaves the ideal circuit an amplitude
  pub measured_nonzero : (m : Bool) → ¬ Fails g (Possible w m) → IsNonzero (i ++ Keep w m ∷ [])
  measured_nonzero m possible =
      let s : Sector = λ x. same_bit (has x w) m in
      let there = (some_on_both p t n g i ds before unitary s (w ∷ []) (looks_at_bit w m) off).0 (possible_branch g w m possible) in
      IsNonzero-push_keep i w m there.0 (same_true (has there.0 w) m there.1) there.2

  -- a wire that is given up is blank in the ideal circuit as well
  pub freed_blank : ¬ Fails g (Zero w) → IsBlank i w
  freed_blank passes =
      (zero_on_both p t n g i ds before unitary (λ x. has x w) (w ∷ []) (λ x y agree. agree.0) off).0
      (λ x one. ⊎_elim (λ (z : amp g x ≡ zero_number). z) (λ (some : amp g x ≢ zero_number). absurd (passes (x, one, some))) (zero_or_not (amp g x)))

  pub freed_nonzero : ¬ Fails g (Zero w) → IsNonzero (i ++ Take w false ∷ [])
  freed_nonzero passes = IsNonzero-push_take_blank i w (freed_blank passes) before.nonzero
