-- The ideal run that always steps the lowest enabled rank ends, since each step takes an instruction
use Rattle.std.proofs.Common.{◌≡◌, ◌≢◌, ℕ, zero, suc, ◌+◌, ◌<◌, ◌≤◌, true, List, [], ◌∷◌, length, fold, Option, Some, None, inl, inr, refl, sym, ap, subst, ◌∙◌, arith}
use Rattle.std.proofs.lemmas.Bool.Decides.{eqb_tells}
use Rattle.std.proofs.lemmas.Option.{slice_get_within}
use Rattle.qm_instr.specs.declared.Instr.{Instr}
use Rattle.qm_instr.specs.Programs.{Programs, rank_of}
use Rattle.qm_proto.specs.Model.Ideal.{IdealPart, IdealTables, IdealState, IdealAct, Counts, SlotSet, Puts, Takes, OwnUsed, BitSet, ideal_after_act, ideal_past_instr, ideal_current, ideal_row_of, instr_enabled, ideal_enabled, after_instr, ideal_next, ideal_at_start, ideal_replay, IsOneFrom, IsOneRun, has_instr}
use Rattle.qm_proto.proofs.Changes.{with_at-here, with_at-elsewhere, with_at-keeps}
use Rattle.qm_proto.proofs.Firsts.{one_run_unique}
use Rattle.qm_confluence.specs.Endings.IdealRuns.{OneRunLaw}
use Rattle.qm_confluence.proofs.Endings.Lowest.{lowest_or_none}
use Rattle.qm_proto.proofs.Sums.{sum_below-none, sum_below-lt, sum_below-one_more}
use Rattle.qm_proto.specs.Model.Totals.{sum_below}

-- ---- acts move no rank
at_kept : (r k : ℕ) (t : IdealTables) (a : IdealAct) → ((ideal_after_act r t a).parts k).at ≡ (t.parts k).at
at_kept r k t Counts = with_at-keeps (λ (x : IdealPart). x.at) t.parts r _ refl k
at_kept r k t (SlotSet q w) = refl
at_kept r k t (Puts a x) = refl
at_kept r k t (Takes a) = refl
at_kept r k t OwnUsed = with_at-keeps (λ (x : IdealPart). x.at) t.parts r _ refl k
at_kept r k t (BitSet b v) = with_at-keeps (λ (x : IdealPart). x.at) t.parts r _ refl k

all_at_kept : (r k : ℕ) (acts : List IdealAct) (t : IdealTables) → ((fold (ideal_after_act r) t acts).parts k).at ≡ (t.parts k).at
all_at_kept r k [] t = refl
all_at_kept r k (a ∷ acts) t = all_at_kept r k acts (ideal_after_act r t a) ∙ at_kept r k t a

-- ---- instructions done
abbrev at_of : IdealTables → ℕ → ℕ
at_of t k = (t.parts k).at

abbrev count_of : Programs → ℕ → ℕ
count_of p k = length (rank_of p k).instructions

abbrev instr_total : Programs → ℕ
instr_total p = sum_below (count_of p) (length p.ranks)

record AreDone (p : Programs) (n : ℕ) (t : IdealTables) : Type 0 where
  each : (k : ℕ) → at_of t k ≤ count_of p k
  total : sum_below (at_of t) (length p.ranks) ≡ n

module _ (p : Programs) (s : IdealState) (r : ℕ) where
  -- the instruction of an enabled rank
  instr_here : (o : Option Instr) → ideal_current p s.tables r ≡ o → instr_enabled p s.tables r o ≡ true → (i : Instr) × (ideal_current p s.tables r ≡ Some i)
  instr_here None read able = cc
  instr_here (Some i) read able = (i, read)

  module _ (i : Instr) (read : ideal_current p s.tables r ≡ Some i) where
    abbrev acted : IdealTables
    acted = fold (ideal_after_act r) s.tables (ideal_row_of p s.tables r i).acts

    next_is : (ideal_next p s r).tables ≡ ideal_past_instr acted r
    next_is = ap (λ o. (after_instr p s r o).tables) read

    moved : at_of (ideal_next p s r).tables r ≡ at_of s.tables r + 1
    moved =
        ap (λ (t : IdealTables). at_of t r) next_is
        ∙ ap (λ (x : IdealPart). x.at) (with_at-here acted.parts r (record (acted.parts r) { at = (acted.parts r).at + 1 }))
        ∙ ap (λ k. k + 1) (all_at_kept r r (ideal_row_of p s.tables r i).acts s.tables)

    others : (k : ℕ) → k ≢ r → at_of (ideal_next p s r).tables k ≡ at_of s.tables k
    others k other =
        ap (λ (t : IdealTables). at_of t k) next_is
        ∙ ap (λ (x : IdealPart). x.at) (with_at-elsewhere acted.parts r (record (acted.parts r) { at = (acted.parts r).at + 1 }) k other)
        ∙ all_at_kept r k (ideal_row_of p s.tables r i).acts s.tables

    within : at_of s.tables r < count_of p r
    within = slice_get_within (rank_of p r).instructions (at_of s.tables r) i read

    done_after : (n : ℕ) → AreDone p n s.tables → r < length p.ranks → AreDone p (n + 1) (ideal_next p s r).tables
    done_after n was known = record {
      each = λ k. elim (eqb_tells k r) [
        | inl same ↦
            let here : at_of (ideal_next p s r).tables r ≤ count_of p r = omega (arith, moved, within) in
            subst (λ j. at_of (ideal_next p s r).tables j ≤ count_of p j) (sym same.1) here
        | inr other ↦ omega (arith, others k other.1, was.each k)
      ];
      total = omega (arith, was.total, sum_below-one_more (at_of s.tables) (at_of (ideal_next p s r).tables) (length p.ranks) r known moved others);
    }

    done_more : (n : ℕ) → AreDone p n s.tables → r < length p.ranks → n < instr_total p
    done_more n was known =
        omega (arith, was.total, sum_below-lt (at_of s.tables) (count_of p) (length p.ranks) r (λ k _. was.each k) known within)

-- ---- the run
module _ (p : Programs) where
  runs : (fuel n : ℕ) (s : IdealState) → AreDone p n s.tables → instr_total p ≤ n + fuel → (rs : List ℕ) × IsOneFrom p s rs
  runs zero n s done enough = elim (lowest_or_none (ideal_enabled p s.tables) (length p.ranks)) [
    | inl none ↦ ([], none)
    | inr (r, low) ↦
        let here = instr_here p s r (ideal_current p s.tables r) refl low.holds in
        absurd (let more = done_more p s r here.0 here.1 n done low.known in omega arith)
  ]
  runs (suc fuel) n s done enough = elim (lowest_or_none (ideal_enabled p s.tables) (length p.ranks)) [
    | inl none ↦ ([], none)
    | inr (r, low) ↦
        let here = instr_here p s r (ideal_current p s.tables r) refl low.holds in
        let rest = runs fuel (n + 1) (ideal_next p s r) (done_after p s r here.0 here.1 n done low.known) (omega arith) in
        (r ∷ rest.0, (record { known = low.known; able = low.holds; below = low.below }, rest.1))
  ]

  one_run : (rs : List ℕ) × IsOneRun p rs
  unfolding IsOneRun
  one_run =
      runs (instr_total p) 0 (ideal_at_start p)
      (record { each = λ k. omega arith; total = sum_below-none (at_of (ideal_at_start p).tables) (length p.ranks) (λ k. refl) }) (omega arith)

pub one_run_law : OneRunLaw
one_run_law p =
    let found = one_run p in
    let end = (ideal_replay p found.0).tables in
    record {
      ranks = found.0;
      run = found.1;
      only = λ other there. one_run_unique p other found.0 there found.1;
      ends = elim (lowest_or_none (has_instr p end) (length p.ranks)) [ inl done ↦ inl done | inr (r, left) ↦ inr (r, left.known, left.holds) ];
    }
