-- The line, as seats change
use Rattle.std.proofs.Common.{◌≡◌, ℕ, ◌+◌, ◌<◌, ◌≤◌, List, [], ◌∷◌, ◌++◌, set, ◌∙◌, arith}
use Rattle.std.specs.Prelude.{Option}
use mathlib.Core.Logic.{dite}
use mathlib.Core.Option.{some}
use native.Mathlib.Decide.{ℕ_discrete, dec_le}
use lib.ListN.{get_elem?}
use Rattle.qm_lock.specs.declared.views.View.{View}
use Rattle.qm_lock.specs.declared.views.Tally.{Tally}
use Rattle.qm_lock.specs.declared.views.Stage.TheVariants.{Idle, Waiting, Served}
use Rattle.qm_lock.specs.Views.{view, has_ticket, tickets}
use Rattle.qm_lock.specs.Rule.{IsLine}
use Rattle.qm_lock.proofs.Totals.{others, total_at, total_snoc, moved, kept, one_if, none_if}

module _ {V : Type 0} where
  abbrev pub holds : ℕ → View V → ℕ
  holds k v = has_ticket k v.stage

  abbrev pub waits : View V → ℕ
  waits v = tickets v.stage

  -- a seat that keeps its ticket
  pub line_kept : (served drawn : ℕ) (vs : List (View V)) (i : ℕ) (v w : View V) → get_elem? vs i ≡ some v
      → ((k : ℕ) → holds k w ≡ holds k v) → waits w ≡ waits v → IsLine served drawn vs → IsLine served drawn (set vs i w)
  line_kept served drawn vs i v w at same_ticket same_count line = record {
    over = λ k below. kept (holds k) vs i v w at (same_ticket k) ∙ line.over k below;
    in_line = λ k from below. kept (holds k) vs i v w at (same_ticket k) ∙ line.in_line k from below;
    undrawn = λ k above. kept (holds k) vs i v w at (same_ticket k) ∙ line.undrawn k above;
    count = let m = kept waits vs i v w at same_count in let z = line.count in omega arith;
  }

  -- a seat more, without a ticket
  pub line_longer : (served drawn : ℕ) (vs : List (View V)) (o : Option V) (ts : List Tally) → IsLine served drawn vs → IsLine served drawn (vs ++ view o ts Idle ∷ [])
  line_longer served drawn vs o ts line = let w : View V = view o ts Idle in record {
    over = λ k below. let a = total_snoc (holds k) vs w in let z = line.over k below in omega arith;
    in_line = λ k from below. let a = total_snoc (holds k) vs w in let z = line.in_line k from below in omega arith;
    undrawn = λ k above. let a = total_snoc (holds k) vs w in let z = line.undrawn k above in omega arith;
    count = let a = total_snoc waits vs w in let z = line.count in omega arith;
  }

  module _ (served drawn : ℕ) (vs : List (View V)) (i : ℕ) (o o' : Option V) (ts ts' : List Tally) where
    -- a seat that draws a ticket
    pub line_drawn : get_elem? vs i ≡ some (view o ts Idle) → IsLine served drawn vs → IsLine served (drawn + 1) (set vs i (view o' ts' (Waiting drawn)))
    line_drawn at line =
        let v : View V = view o ts Idle in
        let w : View V = view o' ts' (Waiting drawn) in
        let all = line.count in record {
          over = λ k below. let m = moved (holds k) vs i v w at in let z = line.over k below in let y : holds k w ≡ 0 = none_if k drawn 1 (λ e. omega arith) in omega arith;
          in_line = λ k from below. let m = moved (holds k) vs i v w at in dite (ℕ_discrete k drawn)
              (λ e. let y : holds k w ≡ 1 = one_if k drawn e in let z = line.undrawn k (omega arith) in omega arith)
              (λ ne. let y : holds k w ≡ 0 = none_if k drawn 1 ne in let z = line.in_line k from (omega arith) in omega arith);
          undrawn = λ k above. let m = moved (holds k) vs i v w at in let z = line.undrawn k (omega arith) in let y : holds k w ≡ 0 = none_if k drawn 1 (λ e. omega arith) in omega arith;
          count = let m = moved waits vs i v w at in omega arith;
        }

    -- the seat that is served ends its turn
    pub line_served : (k : ℕ) → k ≡ served → k < drawn → get_elem? vs i ≡ some (view o ts (Served k)) → IsLine served drawn vs → IsLine (served + 1) drawn (set vs i (view o' ts' Idle))
    line_served k now below_drawn at line =
        let v : View V = view o ts (Served k) in
        let w : View V = view o' ts' Idle in record {
          over = λ j below. let m = moved (holds j) vs i v w at in dite (ℕ_discrete j k)
              (λ e. let a : holds j v ≡ 1 = one_if j k e in let z = line.in_line j (omega arith) (omega arith) in omega arith)
              (λ ne. let z = line.over j (omega arith) in omega arith);
          in_line = λ j from below. let m = moved (holds j) vs i v w at in let a : holds j v ≡ 0 = none_if j k 1 (λ e. omega arith) in let z = line.in_line j (omega arith) below in omega arith;
          undrawn = λ j above. let m = moved (holds j) vs i v w at in let z = line.undrawn j above in omega arith;
          count = let m = moved waits vs i v w at in let z = line.count in omega arith;
        }

  -- a ticket that a seat has is in the line, and no other seat has it
  pub only_holder : (served drawn : ℕ) (vs : List (View V)) (i : ℕ) (v : View V) (k : ℕ) → get_elem? vs i ≡ some v → holds k v ≡ 1 → IsLine served drawn vs
      → (served ≤ k) × (k < drawn) × (others (holds k) vs i ≡ 0)
  only_holder served drawn vs i v k at mine line =
      let a = total_at (holds k) vs i v at in
      let from : served ≤ k = dite (dec_le served k) (λ d. d) (λ no. let z = line.over k (omega arith) in absurd (omega arith)) in
      let below : k < drawn = dite (dec_le drawn k) (λ d. let z = line.undrawn k d in absurd (omega arith)) (λ no. omega arith) in
      let z = line.in_line k from below in (from, below, omega arith)
