-- What lies ahead of a run whose outcomes are drawn: the one run of programs whose tapes begin with them goes on from it, by good letters
use Rattle.std.proofs.Common.{◌≡◌, ◌∙◌, ◌⊎◌, inl, inr, ℕ, zero, suc, ◌+◌, ◌<◌, ◌≤◌, nat_eq, Bool, true, false, if◌then◌else◌, List, [], ◌∷◌, ◌++◌, length, map, take, fold, sum_by, Option, Some, None, slice_index_or, refl, sym, ap, subst, append_assoc, append-nil, arith}
use Rattle.std.proofs.lemmas.Bool.{eqb-true}
use Rattle.std.proofs.lemmas.List.{length-append, length-map}
use Rattle.std.proofs.lemmas.List.Sums.{sum_by-take-le}
use Rattle.qm_denot.specs.declared.Letter.{Letter}
use Rattle.qm_instr.specs.declared.Instr.{Instr}
use Rattle.qm_instr.specs.Counts.{own_of}
use Rattle.qm_instr.specs.Programs.{Programs, RankProgram, rank_of, idle_rank, IsInRange}
use Rattle.qm_check.specs.Checks.{IsReady}
use Rattle.qm_check.proofs.Faultless as faultless
use Rattle.qm_proto.specs.Model.Ideal.{IdealState, IdealTables, ideal_current, after_instr, ideal_row_of, ideal_next, ideal_at_start, ideal_replay, IsLowestIdeal, IsIdealFrom, IsIdealRun, IsOneFrom, IsOneRun}
use Rattle.qm_proto.proofs.IdealRuns.{ideal_after_both}
use Rattle.qm_confluence.specs.Drawn.{Outcome, outcomes_for, measures, measuring_from, measuring, IsLowestFrom, AreTaped, Follows, AreFollowed}
use Rattle.qm_confluence.specs.Letters.{AreGoodAfter}
use Rattle.qm_confluence.specs.Tapes.{with_tapes_from, with_tapes, AreLong}
use Rattle.qm_confluence.proofs.Tapes.{ready_still, in_range_still}
use Rattle.qm_confluence.proofs.Confluence.Drawn.{IsDrawn, IsDrawnWay, left_of, in_front, at_end, front_of_rest, outcomes_append}
use Rattle.qm_confluence.proofs.Confluence.GoodLetters.{good_letters}
use Rattle.qm_confluence.proofs.Confluence.SameSteps.{same_instructions, same_count}
use Rattle.qm_confluence.proofs.Confluence.Told.{filled_state}

-- ideal steps leave letters at the end of a circuit
pub more_letters : (p : Programs) (rs : List ℕ) (s : IdealState) → (ls : List Letter) × ((fold (ideal_next p) s rs).circuit ≡ s.circuit ++ ls)
more_letters p [] s = ([], sym (append-nil s.circuit))
more_letters p (r ∷ rs) s =
    let later = more_letters p rs (ideal_next p s r) in
    let here = by_step (ideal_current p s.tables r) in
    (here.0 ++ later.0, later.1 ∙ ap (λ c. c ++ later.0) here.1 ∙ append_assoc s.circuit here.0 later.0)
  where
    by_step : (o : Option Instr) → (ls : List Letter) × ((after_instr p s r o).circuit ≡ s.circuit ++ ls)
    by_step None = ([], sym (append-nil s.circuit))
    by_step (Some i) = ((ideal_row_of p s.tables r i).letters, refl)

-- ---- the one run begins with every run of lowest ranks
order : (j k : ℕ) → (j ≡ k) ⊎ ((j < k) ⊎ (k < j))
order j k = grind arith

lowest_one : (p : Programs) (t : IdealTables) (j k : ℕ) → IsLowestIdeal p t j → IsLowestIdeal p t k → j ≡ k
lowest_one p t j k a b = elim (order j k) [
  | inl same ↦ same
  | inr (inl less) ↦ (let e = b.below j less in let f = a.able in cc)
  | inr (inr more) ↦ (let e = a.below k more in let f = b.able in cc)
]

goes_on : (p : Programs) (rs ranks : List ℕ) (s : IdealState) → IsLowestFrom p s rs → IsOneFrom p s ranks → (rest : List ℕ) × (ranks ≡ rs ++ rest)
goes_on p [] ranks s low one = (ranks, refl)
goes_on p (r ∷ rs) [] s low one = absurd (let e = one r low.0.known in let f = low.0.able in cc)
goes_on p (r ∷ rs) (k ∷ ranks) s low one =
    let same : r ≡ k = lowest_one p s.tables r k low.0 one.0 in
    let later = goes_on p rs ranks (ideal_next p s r) low.1 (subst (λ j. IsOneFrom p (ideal_next p s j) ranks) (sym same) one.1) in
    (later.0, ap (λ xs. k ∷ xs) later.1 ∙ ap (λ j. j ∷ (rs ++ later.0)) (sym same))

ideal_from : (p : Programs) (rs : List ℕ) (s : IdealState) → IsLowestFrom p s rs → IsIdealFrom p s rs
ideal_from p [] s low = tt
ideal_from p (r ∷ rs) s low = (low.0.known, low.0.able, ideal_from p rs (ideal_next p s r) low.1)

measuring_both : (p : Programs) (rs ks : List ℕ) (s : IdealState) → measuring_from p s (rs ++ ks) ≡ measuring_from p s rs ++ measuring_from p (fold (ideal_next p) s rs) ks
measuring_both p [] ks s = refl
measuring_both p (r ∷ rs) ks s = by_bool (measures (ideal_current p s.tables r)) _ _ _ (measuring_both p rs ks (ideal_next p s r))
  where
    by_bool : (b : Bool) (xs ys zs : List ℕ) → xs ≡ ys ++ zs → (if b then r ∷ xs else xs) ≡ (if b then r ∷ ys else ys) ++ zs
    by_bool true xs ys zs e = ap (λ xs. r ∷ xs) e
    by_bool false xs ys zs e = e

pub take_front : {A : Type 0} (xs ys : List A) → take (length xs) (xs ++ ys) ≡ xs
take_front [] ys = refl
take_front (x ∷ xs) ys = ap (λ zs. x ∷ zs) (take_front xs ys)

-- the one run of programs whose tapes begin with the outcomes has the letters so far, and the ranks that measured so far
pub record IsAhead (q : Programs) (ranks : List ℕ) (s : IdealState) (outs : List Outcome) : Type 0 where
  pub later : List Letter
  pub letters : (ideal_replay q ranks).circuit ≡ s.circuit ++ later
  pub measured : map (λ (x : Outcome). x.rank) outs ≡ take (length outs) (measuring q ranks)

pub ahead : (q : Programs) (ranks : List ℕ) (s : IdealState) (outs : List Outcome) (left : ℕ → List Bool) → IsDrawnWay q (filled_state left s) outs → IsOneRun q ranks
    → IsAhead q ranks s outs
unfolding ideal_replay IsOneRun
ahead q ranks s outs left way one =
    let start = ideal_at_start q in
    let on = goes_on q way.ranks ranks start way.lowest one in
    let more = more_letters q on.0 (fold (ideal_next q) start way.ranks) in
    let ms = measuring q way.ranks in
    let all : measuring q ranks ≡ ms ++ measuring_from q (fold (ideal_next q) start way.ranks) on.0 =
    ap (measuring q) on.1 ∙ measuring_both q way.ranks on.0 start in
    let long : length ms ≡ length outs = sym (ap length way.measured) ∙ length-map outs (λ (x : Outcome). x.rank) in
    record {
      later = more.0;
      letters = ap (λ rs. (fold (ideal_next q) start rs).circuit) on.1 ∙ ap (λ (z : IdealState). z.circuit) (ideal_after_both q way.ranks on.0 start) ∙ more.1
          ∙ ap (λ (z : IdealState). z.circuit ++ more.0) way.state;
      measured = way.measured ∙ sym (take_front ms (measuring_from q (fold (ideal_next q) start way.ranks) on.0)) ∙ ap (λ n. take n (ms ++ measuring_from q (fold (ideal_next q) start way.ranks) on.0)) long
          ∙ ap (take (length outs)) (sym all);
    }

-- ---- there are such tapes, as long as the programs need
abbrev fit : ℕ → List Bool → List Bool
fit zero xs = []
fit (suc n) [] = false ∷ fit n []
fit (suc n) (x ∷ xs) = x ∷ fit n xs

fit_long : (n : ℕ) (xs : List Bool) → length (fit n xs) ≡ n
fit_long zero xs = refl
fit_long (suc n) [] = ap suc (fit_long n [])
fit_long (suc n) (x ∷ xs) = ap suc (fit_long n xs)

fit_follows : (n : ℕ) (xs : List Bool) → length xs ≤ n → Follows xs (fit n xs)
fit_follows zero [] few k below = absurd (omega arith)
fit_follows zero (x ∷ xs) few k below = absurd (omega (arith, few))
fit_follows (suc n) [] few k below = absurd (omega arith)
fit_follows (suc n) (x ∷ xs) few zero below = refl
fit_follows (suc n) (x ∷ xs) few (suc k) below = fit_follows n xs (omega (arith, few)) k (omega (arith, below))

tape_from : (own : ℕ → List Bool) (n : ℕ) (xs : List RankProgram) (k : ℕ) → k < length xs → (slice_index_or (with_tapes_from n own xs) k idle_rank).own ≡ own (n + k)
tape_from own n [] k below = absurd (omega arith)
tape_from own n (x ∷ xs) zero below = let e : n ≡ n + 0 = omega arith in ap own e
tape_from own n (x ∷ xs) (suc k) below = tape_from own (n + 1) xs k (omega (arith, below)) ∙ (let e : n + 1 + k ≡ n + suc k = omega arith in ap own e)

pub tape_is : (p : Programs) (own : ℕ → List Bool) (r : ℕ) → r < length p.ranks → (rank_of (with_tapes p own) r).own ≡ own r
tape_is p own r known = tape_from own 0 p.ranks r known ∙ (let e : 0 + r ≡ r = omega arith in ap own e)

past_end : (xs : List RankProgram) (k : ℕ) → length xs ≤ k → slice_index_or xs k idle_rank ≡ idle_rank
past_end [] k h = refl
past_end (x ∷ xs) zero h = absurd (omega (arith, h))
past_end (x ∷ xs) (suc k) h = past_end xs k (omega (arith, h))

within_or_past : (n r : ℕ) → (r < n) ⊎ (n ≤ r)
within_or_past n r = grind arith

pub taped : (p : Programs) (own : ℕ → List Bool) → AreTaped p (with_tapes p own)
taped p own = record { count = same_count p own; same = same_instructions p own }

module _ (p : Programs) (s : IdealState) (outs : List Outcome) (h : IsDrawn p s outs) where
  -- a rank that there isn't was given no outcome
  none_given : (r : ℕ) → length p.ranks ≤ r → length (outcomes_for r outs) ≡ 0
  none_given r past = h.counts r ∙ ap (λ (x : RankProgram). sum_by own_of (take (s.tables.parts r).at x.instructions)) (past_end p.ranks r past) ∙ nothing (s.tables.parts r).at
    where
      nothing : (n : ℕ) → sum_by own_of (take n []) ≡ 0
      nothing zero = refl
      nothing (suc n) = refl

  -- programs are followed where their tapes follow those of the ranks that there are
  pub followed : (own : ℕ → List Bool) → ((r : ℕ) → r < length p.ranks → Follows (outcomes_for r outs) (own r)) → AreFollowed outs (with_tapes p own)
  followed own each r = elim (within_or_past (length p.ranks) r) [
    | inl known ↦ subst (λ xs. Follows (outcomes_for r outs) xs) (sym (tape_is p own r known)) (each r known)
    | inr past ↦ (λ k below. absurd (let e = none_given r past in omega (arith, e, below)))
  ]

  -- with the outcomes alone as tapes
  pub followed_itself : AreFollowed outs (with_tapes p (λ r. outcomes_for r outs))
  followed_itself = followed (λ r. outcomes_for r outs) (λ r known k below. refl)

  pub few_given : IsReady p → (r : ℕ) → length (outcomes_for r outs) ≤ length (rank_of p r).own
  few_given ready r =
      let all = faultless.own_length p r ready in
      let part = sum_by-take-le own_of (rank_of p r).instructions (s.tables.parts r).at in
      let given = h.counts r in
      omega (arith, all, part, given)

  abbrev fitting : ℕ → List Bool
  fitting r = fit (length (rank_of p r).own) (outcomes_for r outs)

  fitting_long : AreLong p fitting
  fitting_long r = fit_long (length (rank_of p r).own) (outcomes_for r outs)

  -- so the letters so far are good
  pub good_so_far : IsReady p → IsInRange p → AreGoodAfter [] s.circuit
  unfolding ideal_replay IsIdealRun
  good_so_far ready ranges =
      let q = with_tapes p fitting in
      let way = h.way q (taped p fitting) (followed fitting (λ r known. fit_follows (length (rank_of p r).own) (outcomes_for r outs) (few_given ready r))) in
      subst (λ (z : IdealState). AreGoodAfter [] z.circuit) way.state
      (good_letters q (ready_still fitting p fitting_long ready) (in_range_still fitting p fitting_long ranges) way.ranks (ideal_from q way.ranks (ideal_at_start q) way.lowest))

  -- programs that are ready whose tapes begin so
  pub ready_ahead : IsReady p → IsInRange p → (q : Programs) × AreTaped p q × AreFollowed outs q × IsReady q × IsInRange q
  ready_ahead ready ranges = (
    with_tapes p fitting,
    taped p fitting,
    followed fitting (λ r known. fit_follows (length (rank_of p r).own) (outcomes_for r outs) (few_given ready r)),
    ready_still fitting p fitting_long ready,
    in_range_still fitting p fitting_long ranges,
  )

-- ---- tapes with one outcome more
follows_push : (ys xs : List Bool) (m : Bool) → Follows ys xs → slice_index_or xs (length ys) false ≡ m → Follows (ys ++ m ∷ []) xs
follows_push ys xs m h e k below = elim (last_or_before (length ys) k (let l = length-append ys (m ∷ []) in omega (arith, below, l))) [
  | inl old ↦ in_front ys (m ∷ []) k old ∙ h k old
  | inr new ↦ subst (λ j. slice_index_or (ys ++ m ∷ []) j false ≡ slice_index_or xs j false) (sym new) (at_end ys m ∙ sym e)
]
  where
    last_or_before : (n k : ℕ) → k < n + 1 → (k < n) ⊎ (k ≡ n)
    last_or_before n k h = grind (arith, h)

by_rank_for : (r : ℕ) (x : Outcome) → (outcomes_for r (x ∷ []) ≡ []) ⊎ ((r ≡ x.rank) × (outcomes_for r (x ∷ []) ≡ x.value ∷ []))
by_rank_for r x = by_bool (nat_eq x.rank r) refl
  where
    by_bool : (b : Bool) → nat_eq x.rank r ≡ b → ((if b then x.value ∷ [] else []) ≡ []) ⊎ ((r ≡ x.rank) × ((if b then x.value ∷ [] else []) ≡ x.value ∷ []))
    by_bool true e = inr (sym (eqb-true x.rank r e), refl)
    by_bool false e = inl refl

pub followed_push : (outs : List Outcome) (x : Outcome) (q : Programs) → AreFollowed outs q → slice_index_or (left_of outs q x.rank) 0 false ≡ x.value → AreFollowed (outs ++ x ∷ []) q
followed_push outs x q h e r = elim (by_rank_for r x) [
  | inl none ↦ subst (λ ys. Follows ys (rank_of q r).own) (sym (outcomes_append r outs (x ∷ []) ∙ ap (λ zs. outcomes_for r outs ++ zs) none ∙ append-nil (outcomes_for r outs))) (h r)
  | inr one ↦ subst (λ ys. Follows ys (rank_of q r).own) (sym (outcomes_append r outs (x ∷ []) ∙ ap (λ zs. outcomes_for r outs ++ zs) one.1))
      (follows_push (outcomes_for r outs) (rank_of q r).own x.value (h r)
      (sym (front_of_rest (length (outcomes_for r outs)) (rank_of q r).own) ∙ ap (λ k. slice_index_or (left_of outs q k) 0 false) one.0 ∙ e))
]
