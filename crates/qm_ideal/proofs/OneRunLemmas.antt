-- The run of the lowest enabled ranks: how it goes on, where it ends, and that it does
use Rattle.std.proofs.Common.{◌≡◌, ◌≢◌, ℕ, ◌+◌, ◌-◌, ◌<◌, ◌≤◌, false, List, [], ◌∷◌, length, fold, sym, ap, subst, ◌∙◌, arith}
use Rattle.std.proofs.lemmas.Option.{slice_get_within}
use Rattle.qm_instr.specs.declared.Instr.{Instr}
use Rattle.qm_instr.specs.declared.Instr.TheVariants as instr
use Rattle.qm_instr.specs.Programs.{Programs, rank_of}
use Rattle.qm_proto.specs.Model.Ideal.{IdealPart, IdealTables, IdealState, IdealAct, ideal_enabled, ideal_next, ideal_at_start, ideal_replay, IsLowestIdeal, IsIdealFrom, IsOneFrom, IsOneRun}
use Rattle.qm_proto.proofs.Changes.{by_number}
use Rattle.qm_confluence.proofs.Confluence.Effects.{part_act, part_stepped, part_elsewhere}
use Rattle.qm_confluence.proofs.Confluence.ByView.{View, acts_by, view}
use Rattle.qm_confluence.proofs.Confluence.Helpers.{IsNextInstr, next_where_able}
use Rattle.qm_confluence.proofs.Confluence.WellIdeal.{at_same}
use Rattle.qm_confluence.proofs.Confluence.Diamond.{next_is}
use Rattle.qm_confluence.specs.Drawn.{IsLowestFrom}
use Rattle.qm_ideal.specs.OneRuns.{IsOnTheWay, IsItsEnd, instructions_left}
use Rattle.qm_proto.proofs.Sums.{sum_below-lt}

module _ (p : Programs) where
  -- ---- the end
  one_from_lowest : (rs : List ℕ) (s : IdealState) → IsLowestFrom p s rs
      → ((r : ℕ) → r < length p.ranks → ideal_enabled p (fold (ideal_next p) s rs).tables r ≡ false) → IsOneFrom p s rs
  one_from_lowest [] s run none = none
  one_from_lowest (r ∷ rs) s run none = (run.0, one_from_lowest rs (ideal_next p s r) run.1 none)

  pub way_end : (s : IdealState) → IsOnTheWay p s → ((r : ℕ) → r < length p.ranks → ideal_enabled p s.tables r ≡ false) → IsItsEnd p s
  unfolding ideal_replay IsOneRun
  way_end s way none =
      record {
        ranks = way.ranks;
        run = one_from_lowest way.ranks (ideal_at_start p) way.lowest
            (subst (λ (z : IdealState). (r : ℕ) → r < length p.ranks → ideal_enabled p z.tables r ≡ false) (sym way.state) none);
        state = way.state;
      }

  ideal_from_lowest : (rs : List ℕ) (s : IdealState) → IsLowestFrom p s rs → IsIdealFrom p s rs
  ideal_from_lowest [] s run = tt
  ideal_from_lowest (r ∷ rs) s run = (run.0.known, run.0.able, ideal_from_lowest rs (ideal_next p s r) run.1)

  -- ---- a step of a rank that is enabled
  module _ (s : IdealState) (r : ℕ) (i : Instr) (next : IsNextInstr p s.tables r i) where
    acts : List IdealAct
    acts = acts_by r i (view p s.tables r i)

    at_more : ((ideal_next p s r).tables.parts r).at ≡ (s.tables.parts r).at + 1
    unfolding acts
    at_more =
        ap (λ (u : IdealState). (u.tables.parts r).at) (next_is p s r i next.read)
        ∙ ap (λ (x : IdealPart). x.at) (part_stepped r acts s.tables)
        ∙ ap (λ k. k + 1) (at_same (s.tables.parts r) acts)

    part_else : (k : ℕ) → k ≢ r → (ideal_next p s r).tables.parts k ≡ s.tables.parts k
    unfolding acts
    part_else k other =
        ap (λ (u : IdealState). u.tables.parts k) (next_is p s r i next.read) ∙ part_elsewhere r acts s.tables k other

    made_more : ((ideal_next p s r).tables.parts r).made ≡ (fold part_act (s.tables.parts r) acts).made
    unfolding acts
    made_more =
        ap (λ (u : IdealState). (u.tables.parts r).made) (next_is p s r i next.read)
        ∙ ap (λ (x : IdealPart). x.made) (part_stepped r acts s.tables)

  -- a step counts at most one wire
  one_counted : (r : ℕ) (i : Instr) (v : View) (x : IdealPart) → (fold part_act x (acts_by r i v)).made ≤ x.made + 1
  one_counted r (instr.Alloc q) v x = omega arith
  one_counted r (instr.Measure q b) v x = omega arith
  one_counted r (instr.RecvBit b from tag) v x = omega arith
  one_counted r (instr.CopyTo q to tag) v x = omega arith
  one_counted r (instr.CopyFrom q from tag) v x = omega arith
  one_counted r (instr.UndoTo q to tag) v x = omega arith
  one_counted r (instr.MoveTo q to tag) v x = omega arith
  one_counted r (instr.MoveFrom q from tag) v x = omega arith
  one_counted r (instr.ReachTo q to tag) v x = omega arith
  one_counted r _ v x = omega arith

  -- so a rank has counted no more wires than it has done instructions
  abbrev pub CountsFew : IdealTables → Type 0
  CountsFew t = (r : ℕ) → (t.parts r).made ≤ (t.parts r).at

  few_next : (s : IdealState) (r : ℕ) (i : Instr) → IsNextInstr p s.tables r i → CountsFew s.tables → CountsFew (ideal_next p s r).tables
  unfolding acts
  few_next s r i next few =
      by_number (λ k. ((ideal_next p s r).tables.parts k).made ≤ ((ideal_next p s r).tables.parts k).at) r
      (let a = at_more s r i next in let m = made_more s r i next in let c = one_counted r i (view p s.tables r i) (s.tables.parts r) in omega (arith, a, m, c, few r))
      (λ k other. subst (λ (x : IdealPart). x.made ≤ x.at) (sym (part_else s r i next k other)) (few k))

  few_after : (rs : List ℕ) (s : IdealState) → IsIdealFrom p s rs → CountsFew s.tables → CountsFew (fold (ideal_next p) s rs).tables
  few_after [] s run few = few
  few_after (r ∷ rs) s run few =
      let n = next_where_able p s.tables r run.1 in
      few_after rs (ideal_next p s r) run.2 (few_next s r n.0 n.1 few)

  pub few_on_the_way : (s : IdealState) → IsOnTheWay p s → CountsFew s.tables
  few_on_the_way s way =
      subst (λ (u : IdealState). CountsFew u.tables) way.state
      (few_after way.ranks (ideal_at_start p) (ideal_from_lowest way.ranks (ideal_at_start p) way.lowest) (λ r. omega arith))

  -- ---- the number of instructions left falls, where rank r is one instruction further and no other rank is elsewhere
  pub one_less : (t u : IdealTables) (r : ℕ) → r < length p.ranks → (t.parts r).at < length (rank_of p r).instructions
      → (u.parts r).at ≡ (t.parts r).at + 1 → ((k : ℕ) → k ≢ r → (u.parts k).at ≡ (t.parts k).at) → instructions_left p u < instructions_left p t
  one_less t u r known within more same =
      let left = λ (t : IdealTables) (k : ℕ). length (rank_of p k).instructions - (t.parts k).at in
      let here : left u r < left t r = omega (arith, within, more) in
      sum_below-lt (left u) (left t) (length p.ranks) r
      (λ k below. by_number (λ k. left u k ≤ left t k) r (omega (arith, here)) (λ k other. let e = same k other in omega (arith, e)) k)
      known here

  pub left_falls : (s : IdealState) (r : ℕ) → IsLowestIdeal p s.tables r → instructions_left p (ideal_next p s r).tables < instructions_left p s.tables
  left_falls s r low =
      let n = next_where_able p s.tables r low.able in
      let within : (s.tables.parts r).at < length (rank_of p r).instructions = slice_get_within (rank_of p r).instructions (s.tables.parts r).at n.0 n.1.read in
      one_less s.tables (ideal_next p s r).tables r low.known within (at_more s r n.0 n.1)
      (λ k other. ap (λ (x : IdealPart). x.at) (part_else s r n.0 n.1 k other))
