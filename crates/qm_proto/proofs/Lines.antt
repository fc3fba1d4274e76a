-- What is so of each line of an instruction is so of the one at which a rank stands
use Rattle.std.proofs.Common.{◌≡◌, ℕ, zero, suc, ◌+◌, ◌<◌, true, false, List, [], ◌∷◌, length, Some, slice_get, refl, subst, arith}
use Rattle.qm_instr.specs.declared.Instr.{Instr}
use Rattle.qm_instr.specs.declared.Instr.TheVariants as instr
use Rattle.qm_instr.specs.Counts.{events_of}
use Rattle.qm_instr.specs.Programs.{Programs}
use Rattle.qm_proto.specs.Model.Rows.{rows}
use Rattle.qm_proto.specs.Model.State.{Tables}
use Rattle.qm_proto.specs.declared.Row.{Row}

module _ (P : ℕ → Row → Type 0) where
  -- P of each line and its stage, the first of which is s
  abbrev pub EachFrom : ℕ → List Row → Type 0
  EachFrom s [] = Unit {0}
  EachFrom s (w ∷ ws) = P s w × EachFrom (s + 1) ws

  from : (ws : List Row) (s k : ℕ) (w : Row) → EachFrom s ws → slice_get ws k ≡ Some w → P (k + s) w
  from [] s k w all is = cc
  from (x ∷ ws) s zero w all is =
      let e : x ≡ w = cc in
      let n : s ≡ 0 + s = omega arith in
      subst (λ j. P j w) n (subst (P s) e all.0)
  from (x ∷ ws) s (suc k) w all is =
      let n : k + (s + 1) ≡ suc k + s = omega arith in
      subst (λ j. P j w) n (from ws (s + 1) k w all.1 is)

  pub at_stage : (ws : List Row) (k : ℕ) (w : Row) → EachFrom 0 ws → slice_get ws k ≡ Some w → P k w
  at_stage ws k w all is =
      let n : k + 0 ≡ k = omega arith in
      subst (λ j. P j w) n (from ws 0 k w all is)

-- an instruction has as many lines as events
pub rows_count : (p : Programs) (t : Tables) (r : ℕ) (i : Instr) → length (rows p t r i) ≡ events_of i
rows_count p t r (instr.Alloc q) = refl
rows_count p t r _ = refl

-- and some
pub some_events : (i : Instr) → 0 < events_of i
some_events (instr.Alloc q) = omega arith
some_events _ = omega arith

-- a case that there isn't
pub never : {A : Type 0} → false ≡ true → A
never e = cc
