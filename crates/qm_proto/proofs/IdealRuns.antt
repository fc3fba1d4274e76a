-- Ideal tables with equal parts are equal, and ideal runs may stand one after the other
use mathlib.Core.Path.{fun_ext}
use Rattle.std.proofs.Common.{◌≡◌, ℕ, false, List, [], ◌∷◌, ◌++◌, fold, Option, Some, None, is_some, refl, ap, ◌∙◌}
use Rattle.qm_instr.specs.declared.Instr.{Instr}
use Rattle.qm_instr.specs.declared.Lane.{Lane}
use Rattle.qm_instr.specs.Programs.{Programs}
use Rattle.qm_proto.specs.Model.Ideal.{IdealTables, IdealState, instr_enabled, ideal_current, ideal_enabled, ideal_next, IsIdealFrom, has_instr}

pub tables_same : (t u : IdealTables) → ((r : ℕ) → t.parts r ≡ u.parts r) → ((r q : ℕ) → t.slots r q ≡ u.slots r q)
    → ((a : Lane) → t.lanes a ≡ u.lanes a) → t ≡ u
tables_same t u parts slots lanes =
    let a : t.parts ≡ u.parts = fun_ext parts in
    let b : t.slots ≡ u.slots = fun_ext (λ r. fun_ext (slots r)) in
    let c : t.lanes ≡ u.lanes = fun_ext lanes in
    ap (λ f. let x : IdealTables = record { parts = f; slots = t.slots; lanes = t.lanes } in x) a
    ∙ ap (λ f. let x : IdealTables = record { parts = u.parts; slots = f; lanes = t.lanes } in x) b
    ∙ ap (λ f. let x : IdealTables = record { parts = u.parts; slots = u.slots; lanes = f } in x) c

module _ (p : Programs) where
  -- the state after one run and then another
  pub ideal_after_both : (rs qs : List ℕ) (s : IdealState) → fold (ideal_next p) s (rs ++ qs) ≡ fold (ideal_next p) (fold (ideal_next p) s rs) qs
  ideal_after_both [] qs s = refl
  ideal_after_both (r ∷ rs) qs s = ideal_after_both rs qs (ideal_next p s r)

  pub ideal_run_append : (rs qs : List ℕ) (s : IdealState) → IsIdealFrom p s rs → IsIdealFrom p (fold (ideal_next p) s rs) qs → IsIdealFrom p s (rs ++ qs)
  ideal_run_append [] qs s run more = more
  ideal_run_append (r ∷ rs) qs s run more = (run.0, run.1, ideal_run_append rs qs (ideal_next p s r) run.2 more)

  -- a rank with no instruction left is not enabled
  pub done_not_enabled : (t : IdealTables) (r : ℕ) → has_instr p t r ≡ false → ideal_enabled p t r ≡ false
  done_not_enabled t r none = by_current (ideal_current p t r) none
    where
      by_current : (o : Option Instr) → is_some o ≡ false → instr_enabled p t r o ≡ false
      by_current None e = refl
      by_current (Some i) e = cc
