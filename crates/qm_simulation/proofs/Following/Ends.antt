-- A rank never stands past the events of its instruction, so where all ranks have ended, no rank is in the middle of one
use Rattle.std.proofs.Common.{◌≡◌, ℕ, zero, suc, ◌+◌, ◌<◌, ◌≤◌, nat_lt, Bool, true, false, List, [], ◌∷◌, length, Option, Some, None, is_some, slice_get, refl, sym, ap, subst, ◌∙◌, arith, ⊎_elim, ltb-true}
use Rattle.std.proofs.lemmas.Bool.{cases_lt}
use Rattle.std.proofs.lemmas.List.{get_or_past}
use Rattle.qm_instr.specs.declared.Instr.{Instr}
use Rattle.qm_instr.specs.declared.Instr.TheVariants as instr
use Rattle.qm_instr.specs.Counts.{events_of}
use Rattle.qm_instr.specs.Programs.{Programs, RankProgram, rank_of, idle_rank}
use Rattle.qm_proto.specs.Model.State.{Part, Tables}
use Rattle.qm_proto.specs.Model.Rows.{current, instr_at, rows}
use Rattle.qm_proto.specs.Model.Runs.{row_in}
use Rattle.qm_proto.specs.Model.Schedules.{AllEnded}
use Rattle.qm_safety.specs.Tables.Lines.{row_at, acts_of}
use Rattle.qm_proto.proofs.Lines.{rows_count}
use Rattle.qm_safety.proofs.Tables.NextEvents.{IsNext, part_elsewhere}
use Rattle.qm_simulation.proofs.Following.Places.{after, goes_on, fresh_stage}
use Rattle.qm_proto.proofs.Changes.{by_number}

-- so many events are fewer than the instruction has, or there is no instruction and none is done
abbrev WithinBy : Option Instr → ℕ → Type 0
WithinBy None s = s ≡ 0
WithinBy (Some i) s = s < events_of i

abbrev pub IsWithin : Programs → Tables → ℕ → Type 0
IsWithin p t r = WithinBy (current p t r) (t.parts r).stage

some_events : (i : Instr) → 0 < events_of i
some_events (instr.CopyTo q to tag) = omega arith
some_events (instr.CopyFrom q from tag) = omega arith
some_events (instr.MoveTo q to tag) = omega arith
some_events (instr.MoveFrom q from tag) = omega arith
some_events (instr.UndoTo q to tag) = omega arith
some_events (instr.UndoFrom q from tag) = omega arith
some_events (instr.ReachTo q to tag) = omega arith
some_events (instr.ReachFrom q from tag) = omega arith
some_events (instr.Measure q b) = omega arith
some_events _ = omega arith

pub within_fresh : (o : Option Instr) (s : ℕ) → s ≡ 0 → WithinBy o s
within_fresh None s e = e
within_fresh (Some i) s e = let h = some_events i in omega arith

module _ (p : Programs) (t : Tables) (r : ℕ) (i : Instr) (s : ℕ) (next : IsNext p t r i s) (all : (k : ℕ) → IsWithin p t k) where
  own_within : (b : Bool) → nat_lt (s + 1) (events_of i) ≡ b → IsWithin p (after p t r i s) r
  own_within true more =
      let here = goes_on p t r (events_of i) (acts_of (row_at p t r i s)) i s next more in
      let low : s + 1 < events_of i = ltb-true (s + 1) (events_of i) more in
      subst (λ o. WithinBy o ((after p t r i s).parts r).stage) (sym here.read) (subst (λ k. k < events_of i) (sym here.stage) low)
  own_within false last =
      let u = after p t r i s in
      within_fresh (current p u r) (u.parts r).stage (fresh_stage p t r (events_of i) (acts_of (row_at p t r i s)) i s next last)

  pub within_next : (k : ℕ) → IsWithin p (after p t r i s) k
  within_next =
      by_number (IsWithin p (after p t r i s)) r (own_within (nat_lt (s + 1) (events_of i)) refl)
      (λ k other. subst (λ (v : Part). WithinBy (instr_at p k v.at) v.stage) (sym (part_elsewhere (events_of i) r k (acts_of (row_at p t r i s)) t other)) (all k))

some_within : {A : Type 0} (xs : List A) (k : ℕ) → k < length xs → is_some (slice_get xs k) ≡ true
some_within [] k below = absurd (omega arith)
some_within (x ∷ xs) zero below = refl
some_within (x ∷ xs) (suc k) below = some_within xs k (omega arith)

module _ (p : Programs) (t : Tables) (within : (k : ℕ) → IsWithin p t k) (ended : AllEnded p t) where
  pub no_instruction : (r : ℕ) → current p t r ≡ None
  no_instruction r =
      ⊎_elim (λ (known : r < length p.ranks). by_read (current p t r) refl (within r) (ended r known))
      (λ (past : length p.ranks ≤ r). ap (λ (x : RankProgram). slice_get x.instructions (t.parts r).at) (get_or_past p.ranks r idle_rank past))
      (cases_lt r (length p.ranks))
    where
      by_read : (o : Option Instr) → current p t r ≡ o → WithinBy o (t.parts r).stage → is_some (row_in p t r (current p t r)) ≡ false → current p t r ≡ None
      by_read None e within none = e
      by_read (Some i) e within none =
          let there : is_some (slice_get (rows p t r i) (t.parts r).stage) ≡ true = some_within (rows p t r i) (t.parts r).stage (omega (arith, rows_count p t r i)) in
          let gone : is_some (slice_get (rows p t r i) (t.parts r).stage) ≡ false = sym (ap (λ o. is_some (row_in p t r o)) e) ∙ none in
          absurd (let n : ⊥ = cc in n)

  pub at_zero : (r : ℕ) → (t.parts r).stage ≡ 0
  at_zero r = subst (λ o. WithinBy o (t.parts r).stage) (no_instruction r) (within r)

  pub at_end : (r : ℕ) → length (rank_of p r).instructions ≤ (t.parts r).at
  at_end r =
      ⊎_elim (λ (below : (t.parts r).at < length (rank_of p r).instructions).
      let there = some_within (rank_of p r).instructions (t.parts r).at below in
      let gone = ap (λ (o : Option Instr). is_some o) (no_instruction r) in
      absurd (let n : ⊥ = cc in n))
      (λ (past : length (rank_of p r).instructions ≤ (t.parts r).at). past)
      (cases_lt (t.parts r).at (length (rank_of p r).instructions))
