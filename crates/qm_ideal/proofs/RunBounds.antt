-- A run has few steps, and its circuit few letters
use Rattle.std.proofs.Common.{◌≡◌, ℕ, zero, suc, ◌+◌, ◌-◌, ◌*◌, ◌<◌, ◌≤◌, suc-mul, Bool, true, false, List, [], ◌∷◌, ◌++◌, length, fold, ap, arith}
use Rattle.std.proofs.lemmas.List.{length-append}
use Rattle.std.proofs.lemmas.List.Sums.{get_or-le-sum_by}
use Rattle.qm_denot.specs.declared.Letter.{Letter}
use Rattle.qm_denot.specs.Protocols.{letter_if}
use Rattle.qm_instr.specs.declared.Instr.{Instr}
use Rattle.qm_instr.specs.declared.Instr.TheVariants as instr
use Rattle.qm_instr.specs.Programs.{Programs, IsInRange, rank_of, idle_rank, instruction_total}
use Rattle.qm_proto.specs.Model.Ideal.{IdealState, ideal_next, ideal_at_start, ideal_replay, IsOneFrom, IsOneRun}
use Rattle.qm_confluence.proofs.Confluence.ByView.{View, letters_by, view, bit_in}
use Rattle.qm_confluence.proofs.Confluence.Helpers.{next_where_able}
use Rattle.qm_confluence.proofs.Confluence.Diamond.{next_is}
use Rattle.qm_confluence.specs.Drawn.{IsLowestFrom}
use Rattle.qm_ideal.specs.OneRuns.{IsOnTheWay, IsItsEnd, instructions_left}
use Rattle.qm_ideal.proofs.OneRunLemmas.{left_falls}
use Rattle.qm_ideal.specs.OneCircuits.{most_letters}
use Rattle.qm_proto.specs.Model.Totals.{sum_below}

if_few : (b : Bool) (l : Letter) → length (letter_if b l) ≤ 2
if_few true l = omega arith
if_few false l = omega arith

letters_few : (r : ℕ) (i : Instr) (v : View) → length (letters_by r i v) ≤ 2
letters_few r (instr.Do g) v = omega arith
letters_few r (instr.Free q) v = omega arith
letters_few r (instr.Measure q b) v = omega arith
letters_few r (instr.When b g) v = if_few (bit_in v b) _
letters_few r (instr.CopyTo q to tag) v = omega arith
letters_few r (instr.UndoTo q to tag) v = omega arith
letters_few r (instr.MoveTo q to tag) v = omega arith
letters_few r (instr.ReachFrom q from tag) v = omega arith
letters_few r _ v = omega arith

sum_few : (f : ℕ → ℕ) (n m : ℕ) → ((k : ℕ) → k < n → f k ≤ m) → sum_below f n ≤ n * m
sum_few f zero m each = omega arith
sum_few f (suc n) m each =
    let rest = sum_few f n m (λ k h. each k (omega (arith, h))) in
    let last = each n (omega arith) in
    let e : suc n * m ≡ n * m + m = suc-mul n m in
    omega (arith, rest, last, e)

module _ (p : Programs) where
  -- each step does an instruction, and at most two letters
  run_few : (rs : List ℕ) (s : IdealState) → IsLowestFrom p s rs
      → length (fold (ideal_next p) s rs).circuit ≤ length s.circuit + 2 * instructions_left p s.tables
  run_few [] s one = omega arith
  run_few (r ∷ rs) s one =
      let n = next_where_able p s.tables r one.0.able in
      let u = ideal_next p s r in
      let ls = letters_by r n.0 (view p s.tables r n.0) in
      let here : length u.circuit ≡ length (s.circuit ++ ls) = ap (λ (z : IdealState). length z.circuit) (next_is p s r n.0 n.1.read) in
      let e = length-append s.circuit ls in
      let few = letters_few r n.0 (view p s.tables r n.0) in
      let less = left_falls p s r one.0 in
      let rest = run_few rs u one.1 in
      omega (arith, here, e, few, less, rest)

  left_few : IsInRange p → instructions_left p (ideal_at_start p).tables ≤ 1600000
  left_few ranges =
      let each : (k : ℕ) → k < length p.ranks → length (rank_of p k).instructions - 0 ≤ 100000 =
      λ k known. let one : length (rank_of p k).instructions ≤ instruction_total p = get_or-le-sum_by (λ x. length x.instructions) p.ranks k idle_rank known in omega (arith, one, ranges.few) in
      let all = sum_few (λ r. length (rank_of p r).instructions - 0) (length p.ranks) 100000 each in
      omega (arith, all, ranges.most_ranks)

  pub way_bound : IsInRange p → (s : IdealState) → IsOnTheWay p s → length s.circuit ≤ most_letters
  way_bound ranges s way =
      let few = run_few way.ranks (ideal_at_start p) way.lowest in
      let left = left_few ranges in
      let same : length (fold (ideal_next p) (ideal_at_start p) way.ranks).circuit ≡ length s.circuit = ap (λ (u : IdealState). length u.circuit) way.state in
      omega (arith, few, left, same)

  lowest_from : (rs : List ℕ) (s : IdealState) → IsOneFrom p s rs → IsLowestFrom p s rs
  lowest_from [] s one = tt
  lowest_from (r ∷ rs) s one = (one.0, lowest_from rs (ideal_next p s r) one.1)

  pub letters_bound : IsInRange p → (s : IdealState) → IsItsEnd p s → length s.circuit ≤ most_letters
  unfolding ideal_replay IsOneRun
  letters_bound ranges s end =
      way_bound ranges s (record { ranks = end.ranks; lowest = lowest_from end.ranks (ideal_at_start p) end.run; state = end.state })
