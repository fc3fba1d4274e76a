-- Each step of the run with buffers of one leaves less work, and the run is one at most
use Rattle.std.proofs.Common.{◌≡◌, ◌≢◌, ◌∙◌, ℕ, ◌+◌, ◌-◌, ◌*◌, ◌<◌, ◌≤◌, nat_lt, true, false, List, [], ◌∷◌, length, Option, Some, None, slice_get, refl, sym, ap, subst, arith}
use Rattle.std.proofs.lemmas.Option.{slice_get_within}
use Rattle.qm_instr.specs.declared.Instr.{Instr}
use Rattle.qm_instr.specs.declared.Instr.TheVariants as instr
use Rattle.qm_instr.specs.Counts.{events_of}
use Rattle.qm_instr.specs.Programs.{Programs, rank_of}
use Rattle.qm_proto.specs.declared.Row.{Row}
use Rattle.qm_proto.specs.Model.State.{Part, Tables}
use Rattle.qm_proto.specs.Model.Acts.{after_acts, list_of}
use Rattle.qm_proto.specs.Model.Rows.{current, rows}
use Rattle.qm_proto.specs.Model.Runs.{row_in, row_holds, part_after_event, events_at, row_tables, next_tables}
use Rattle.qm_proto.specs.Model.Schedules.{IsMeetingFrom}
use Rattle.qm_proto.proofs.Changes.{by_test, by_number, with_at-here, with_at-elsewhere}
use Rattle.qm_proto.proofs.Firsts.{lowest_enabled_unique}
use Rattle.qm_proto.proofs.Positions.{all_at_kept, all_stage_kept}
use Rattle.qm_proto.proofs.Lines.{rows_count}
use Rattle.qm_proto.proofs.Sums.{sum_below-lt}
use Rattle.qm_proto.specs.Model.Totals.{sum_below}

-- ---- the machine with letters left aside
pub events_few : (i : Instr) → events_of i ≤ 5
events_few (instr.Alloc q) = omega arith
events_few _ = omega arith

-- rank r stands at this instruction and this row of it
pub record IsNextRow (p : Programs) (t : Tables) (r : ℕ) : Type 0 where
  pub instruction : Instr
  pub row : Row
  pub here : current p t r ≡ Some instruction
  pub there : slice_get (rows p t r instruction) (t.parts r).stage ≡ Some row

pub next_row : (p : Programs) (t : Tables) (r : ℕ) (o : Option Instr) → current p t r ≡ o
    → (w : Option Row) → row_in p t r o ≡ w → row_holds p t w ≡ true → IsNextRow p t r
next_row p t r None here w there e = absurd (let f : row_holds p t w ≡ false = ap (row_holds p t) (sym there) in let z : ⊥ = cc in z)
next_row p t r (Some i) here None there e = cc
next_row p t r (Some i) here (Some w) there e = record { instruction = i; row = w; here = here; there = there }

-- five for each instruction left, less the events that were done of the one at which a part stands
abbrev pub work : ℕ → Part → ℕ
work long x = 5 * (long - x.at) - x.stage

work_falls : (long n : ℕ) (x y : Part) → y.at ≡ x.at → y.stage ≡ x.stage → x.at < long → x.stage < 5 → work long (part_after_event n y) < work long x
work_falls long n x y at stage within early =
    by_test (λ z. work long z < work long x) (nat_lt (y.stage + 1) n) (record y { stage = y.stage + 1 }) (record y { at = y.at + 1; stage = 0 })
    (λ _. omega (arith, at, stage, within, early)) (λ _. omega (arith, at, stage, within, early))

module _ (p : Programs) where
  abbrev pub work_left : Tables → ℕ
  work_left t = sum_below (λ r. work (length (rank_of p r).instructions) (t.parts r)) (length p.ranks)

  module _ (t : Tables) (r : ℕ) (n : IsNextRow p t r) where
    after_is : next_tables p t r ≡ row_tables (events_of n.instruction) r (Some n.row) t
    after_is =
        ap (λ o. row_tables (events_at o) r (row_in p t r o) t) n.here ∙ ap (λ w. row_tables (events_of n.instruction) r w t) n.there

    abbrev acted : Tables
    acted = after_acts r (list_of n.row.acts) t

    here_falls : work (length (rank_of p r).instructions) ((next_tables p t r).parts r) < work (length (rank_of p r).instructions) (t.parts r)
    here_falls =
        let long = length (rank_of p r).instructions in
        let moved : (next_tables p t r).parts r ≡ part_after_event (events_of n.instruction) (acted.parts r) =
        ap (λ (u : Tables). u.parts r) after_is ∙ with_at-here acted.parts r _ in
        let count = rows_count p t r n.instruction in
        let stage = slice_get_within (rows p t r n.instruction) (t.parts r).stage n.row n.there in
        subst (λ x. work long x < work long (t.parts r)) (sym moved)
        (work_falls long (events_of n.instruction) (t.parts r) (acted.parts r)
        (all_at_kept r r (list_of n.row.acts) t) (all_stage_kept r r (list_of n.row.acts) t)
        (slice_get_within (rank_of p r).instructions (t.parts r).at n.instruction n.here)
        (omega (arith, count, stage, events_few n.instruction)))

    work_elsewhere : (k : ℕ) → k ≢ r → work (length (rank_of p k).instructions) ((next_tables p t r).parts k) ≡ work (length (rank_of p k).instructions) (t.parts k)
    work_elsewhere k other =
        let long = length (rank_of p k).instructions in
        let part = ap (λ (u : Tables). u.parts k) after_is ∙ with_at-elsewhere acted.parts r _ k other in
        ap (work long) part
        ∙ ap (λ i. 5 * (long - i) - (acted.parts k).stage) (all_at_kept r k (list_of n.row.acts) t)
        ∙ ap (λ i. 5 * (long - (t.parts k).at) - i) (all_stage_kept r k (list_of n.row.acts) t)

    pub work_left_falls : r < length p.ranks → work_left (next_tables p t r) < work_left t
    work_left_falls known =
        let w = λ (u : Tables) (k : ℕ). work (length (rank_of p k).instructions) (u.parts k) in
        let u = next_tables p t r in
        sum_below-lt (w u) (w t) (length p.ranks) r
        (λ k below. by_number (λ k. w u k ≤ w t k) r (let less = here_falls in omega (arith, less)) (λ k other. let e = work_elsewhere k other in omega (arith, e)) k)
        known here_falls

  pub one_meeting : (xs ys : List ℕ) (t : Tables) → IsMeetingFrom p t xs → IsMeetingFrom p t ys → xs ≡ ys
  one_meeting [] [] t a b = refl
  one_meeting [] (y ∷ ys) t a b = let e = a y b.0.known in let d = b.0.able in cc
  one_meeting (x ∷ xs) [] t a b = let e = b x a.0.known in let d = a.0.able in cc
  one_meeting (x ∷ xs) (y ∷ ys) t a b =
      let same = lowest_enabled_unique p t x y a.0 b.0 in
      ap (λ r. r ∷ xs) same ∙ ap (λ rs. y ∷ rs) (one_meeting xs ys (next_tables p t y) (subst (λ r. IsMeetingFrom p (next_tables p t r) xs) same a.1) b.1)
