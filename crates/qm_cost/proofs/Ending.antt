-- Where a report's chain is empty, and where it is the first event alone
use Rattle.std.proofs.Common.{◌≡◌, ◌≢◌, ◌↔◌, ℕ, zero, suc, ◌<◌, ◌≤◌, List, [], ◌∷◌, ◌++◌, length, reverse, refl, sym, ap, ◌∙◌, arith}
use Rattle.std.proofs.lemmas.List.{reverse-append}
use Rattle.qm_instr.specs.Programs.{Programs}
use Rattle.qm_cost.specs.declared.Delays.{Delays}
use Rattle.qm_cost.specs.declared.Link.{Link}
use Rattle.qm_cost.specs.Chains.{Work, IsChain, length_of, IsReported}
use Rattle.qm_cost.specs.Turns.{Turn, turn_at, event_of, turns_of, work_of}
use Rattle.qm_cost.specs.Reports.{ReportView, links_back, IsCost, first_link}
use Rattle.qm_cost.proofs.Passing.{work_below}
use Rattle.qm_cost.proofs.Turning.{length_turns}

pushed : (xs : List Link) (x : Link) → xs ++ x ∷ [] ≢ []
pushed [] x e = cc
pushed (y ∷ xs) x e = cc

reversed : (x : Link) (xs : List Link) → reverse (x ∷ xs) ≢ []
reversed x xs e = pushed (reverse xs) x (sym (reverse-append (x ∷ []) xs) ∙ e)

none_long : (rs : List ℕ) → length rs ≡ 0 → rs ≡ []
none_long [] e = refl
none_long (r ∷ rs) e = absurd (omega arith)

module _ (ts : List Turn) (d : Delays) (r : ReportView) where
  empty_by : (c : List ℕ) → IsReported (work_of ts d) c → r.chain ≡ reverse (links_back (work_of ts d) ts c) → r.chain ≡ [] → length ts ≡ 0
  empty_by [] h e s = h.last
  empty_by (j ∷ is) h e s = absurd (reversed (record { at = j; rank = (turn_at ts j).rank; event = event_of (turn_at ts j).note; finish = length_of (work_of ts d) (j ∷ is) })
      (links_back (work_of ts d) ts is) (sym e ∙ s))

  filled_by : (c : List ℕ) → IsReported (work_of ts d) c → r.chain ≡ reverse (links_back (work_of ts d) ts c) → length ts ≡ 0 → r.chain ≡ []
  filled_by [] h e s = e
  filled_by (j ∷ is) h e s = let lt : j < length ts = h.chain.0 in absurd (omega arith)

  idle_by : (c : List ℕ) → IsReported (work_of ts d) c → r.chain ≡ reverse (links_back (work_of ts d) ts c) → length_of (work_of ts d) c ≡ 0
      → 0 < length ts → r.chain ≡ first_link ts ∷ []
  idle_by [] h e z some = let n : length ts ≡ 0 = h.last in absurd (omega arith)
  idle_by (j ∷ is) h e z some =
      let w : Work = work_of ts d in
      let first : IsChain w (0 ∷ []) = (some, tt, tt) in
      let most : length_of w (0 ∷ []) ≤ length_of w (j ∷ is) = h.longest (0 ∷ []) first in
      let none : length_of w (0 ∷ []) ≡ 0 = omega arith in
      let least : j ≤ 0 = h.last 0 [] first (none ∙ sym z) in
      let here : j ≡ 0 = omega arith in
      by j is here h e none
    where
      by : (j : ℕ) (is : List ℕ) → j ≡ 0 → IsReported (work_of ts d) (j ∷ is) → r.chain ≡ reverse (links_back (work_of ts d) ts (j ∷ is))
          → length_of (work_of ts d) (0 ∷ []) ≡ 0 → r.chain ≡ first_link ts ∷ []
      by zero [] s h e none =
          e ∙ ap (λ (f : ℕ). record { at = 0; rank = (turn_at ts 0).rank; event = event_of (turn_at ts 0).note; finish = f } ∷ []) none
      by zero (i ∷ is) s h e none = let b : i < 0 = work_below ts d i 0 h.chain.1.0 h.chain.1.1 in absurd (omega arith)
      by (suc j) is s h e none = absurd (omega arith)

module _ (p : Programs) (rs : List ℕ) (d : Delays) (r : ReportView) (so : IsCost p rs d r) where
  pub empty_exactly : (r.chain ≡ []) ↔ (rs ≡ [])
  empty_exactly =
      let long : length (turns_of p rs) ≡ length rs = length_turns p rs in (
        (λ e. none_long rs (let n : length (turns_of p rs) ≡ 0 = empty_by (turns_of p rs) d r so.events so.reported so.chain e in omega arith)),
        (λ e. let n : length rs ≡ 0 = ap length e in filled_by (turns_of p rs) d r so.events so.reported so.chain (omega arith)),
      )

  some_long : (qs : List ℕ) → qs ≢ [] → 0 < length qs
  some_long [] ne = absurd (ne refl)
  some_long (q ∷ qs) ne = omega arith

  pub idle_alone : r.time ≡ 0 → rs ≢ [] → r.chain ≡ first_link (turns_of p rs) ∷ []
  idle_alone e ne =
      let long : length (turns_of p rs) ≡ length rs = length_turns p rs in
      let some : 0 < length rs = some_long rs ne in
      idle_by (turns_of p rs) d r so.events so.reported so.chain (sym so.time ∙ e) (omega arith)
