-- Ideal runs of programs with the same instructions: which ranks step, and how far they come
use Rattle.std.proofs.Common.{◌≡◌, ◌∙◌, ℕ, zero, suc, ◌+◌, ◌-◌, ◌<◌, nat_eq, nat_lt, Bool, true, false, cond, ◌&&◌, List, [], ◌∷◌, ◌++◌, length, drop, fold, Option, Some, None, slice_index_or, slice_get, refl, sym, ap, ap₂, subst, arith}
use Rattle.std.proofs.lemmas.List.{length-drop, length-append}
use Rattle.qm_instr.specs.declared.Instr.{Instr}
use Rattle.qm_instr.specs.declared.Instr.TheVariants as instr
use Rattle.qm_instr.specs.declared.Lane.{Lane}
use Rattle.qm_instr.specs.Lanes.{is_lane}
use Rattle.qm_instr.specs.Programs.{Programs, RankProgram, rank_of, idle_rank}
use Rattle.qm_proto.specs.Model.Runs.{receives_on}
use Rattle.qm_proto.specs.Model.Ideal.{IdealPart, IdealTables, IdealState, IdealRule, Always, Filled, Engaged, Lent, IdealAct, Counts, SlotSet, Puts, Takes, OwnUsed, BitSet, Load, ideal_current, ideal_enabled, instr_enabled, ideal_holds, sends_on, ideal_next, ideal_at_start, ideal_replay, IsLowestIdeal, IsOneFrom, IsOneRun}
use Rattle.qm_proto.proofs.Changes.{by_number}
use Rattle.qm_confluence.specs.Outcomes.{ComesAsFar, OutcomesLaw}
use Rattle.qm_confluence.specs.Tapes.{with_tapes_from, with_tapes}
use Rattle.qm_confluence.proofs.Confluence.ByView.{View, rule_of, acts_by, view, step_is}
use Rattle.qm_confluence.proofs.Confluence.Diamond.{next_is}
use Rattle.qm_confluence.proofs.Confluence.Effects.{stepped, lane_act, part_stepped, part_elsewhere, lane_stepped}
use Rattle.qm_confluence.proofs.Confluence.Helpers.{next_where_able}
use Rattle.qm_confluence.proofs.Confluence.WellIdeal.{at_same}

-- ---- how many loads acts leave on lane c
abbrev count_act : Lane → ℕ → IdealAct → ℕ
count_act c n (Puts a x) = cond (is_lane c a) (n + 1) n
count_act c n (Takes a) = cond (is_lane c a) (n - 1) n
count_act c n _ = n

counted : (c : Lane) (acts : List IdealAct) (xs : List Load) → length (fold (lane_act c) xs acts) ≡ fold (count_act c) (length xs) acts
counted c [] xs = refl
counted c (a ∷ acts) xs = counted c acts (lane_act c xs a) ∙ ap (λ n. fold (count_act c) n acts) (one a)
  where
    put : (x : Load) (b : Bool) → length (cond b (xs ++ x ∷ []) xs) ≡ cond b (length xs + 1) (length xs)
    put x true = length-append xs (x ∷ [])
    put x false = refl

    taken : (b : Bool) → length (cond b (drop 1 xs) xs) ≡ cond b (length xs - 1) (length xs)
    taken true = length-drop 1 xs
    taken false = refl

    one : (a : IdealAct) → length (lane_act c xs a) ≡ count_act c (length xs) a
    one (Puts a x) = put x (is_lane c a)
    one (Takes a) = taken (is_lane c a)
    one Counts = refl
    one (SlotSet q w) = refl
    one OwnUsed = refl
    one (BitSet b v) = refl

same_counts : (c : Lane) (n r : ℕ) (i : Instr) (v w : View) → fold (count_act c) n (acts_by r i v) ≡ fold (count_act c) n (acts_by r i w)
same_counts c n r (instr.Alloc q) v w = refl
same_counts c n r (instr.Free q) v w = refl
same_counts c n r (instr.Do g) v w = refl
same_counts c n r (instr.Measure q b) v w = refl
same_counts c n r (instr.Set b x) v w = refl
same_counts c n r (instr.Xor b d) v w = refl
same_counts c n r (instr.When b g) v w = refl
same_counts c n r (instr.SendBit b to tag) v w = refl
same_counts c n r (instr.RecvBit b from tag) v w = refl
same_counts c n r (instr.CopyTo q to tag) v w = refl
same_counts c n r (instr.CopyFrom q from tag) v w = refl
same_counts c n r (instr.UndoTo q to tag) v w = refl
same_counts c n r (instr.UndoFrom q from tag) v w = refl
same_counts c n r (instr.MoveTo q to tag) v w = refl
same_counts c n r (instr.MoveFrom q from tag) v w = refl
same_counts c n r (instr.ReachTo q to tag) v w = refl
same_counts c n r (instr.ReachFrom q from tag) v w = refl

-- ---- programs with the same instructions
module _ (p q : Programs) (count : length q.ranks ≡ length p.ranks) (same : (r : ℕ) → (rank_of q r).instructions ≡ (rank_of p r).instructions) where
  pub current_same : (t u : IdealTables) (r : ℕ) → (t.parts r).at ≡ (u.parts r).at → ideal_current q u r ≡ ideal_current p t r
  current_same t u r e = ap (λ is. slice_get is (u.parts r).at) (same r) ∙ ap (slice_get (rank_of p r).instructions) (sym e)

  module _ (t u : IdealTables) (far : ComesAsFar t u) where
    holds_same : (rule : IdealRule) → ideal_holds q u rule ≡ ideal_holds p t rule
    holds_same Always = refl
    holds_same (Filled a) = ap (λ n. nat_lt 0 n) (sym (far.lanes a))
    holds_same (Engaged a) =
        ap₂ (λ o n. receives_on a.to o a && nat_eq n 0) (current_same t u a.to (far.at a.to)) (sym (far.lanes a))
    holds_same (Lent a back) =
        ap₂ (λ o n. sends_on a.from o a && nat_eq n 0) (current_same t u a.from (far.at a.from)) (sym (far.lanes back))

    instr_same : (r : ℕ) (o : Option Instr) → instr_enabled q u r o ≡ instr_enabled p t r o
    instr_same r None = refl
    instr_same r (Some i) =
        ap (λ s. ideal_holds q u s.rule) (step_is q u r i) ∙ holds_same (rule_of r i) ∙ sym (ap (λ s. ideal_holds p t s.rule) (step_is p t r i))

    pub enabled_same : (r : ℕ) → ideal_enabled q u r ≡ ideal_enabled p t r
    enabled_same r = ap (instr_enabled q u r) (current_same t u r (far.at r)) ∙ instr_same r (ideal_current p t r)

    pub lowest_same : (r : ℕ) → IsLowestIdeal p t r → IsLowestIdeal q u r
    lowest_same r low =
        record {
          known = subst (λ n. r < n) (sym count) low.known;
          able = enabled_same r ∙ low.able;
          below = λ k h. enabled_same k ∙ low.below k h;
        }

  -- a step of a rank that is enabled
  module _ (s z : IdealState) (far : ComesAsFar s.tables z.tables) (r : ℕ) (i : Instr) (read : ideal_current p s.tables r ≡ Some i) where
    after : ComesAsFar (stepped r (acts_by r i (view p s.tables r i)) s.tables) (stepped r (acts_by r i (view q z.tables r i)) z.tables)
    after =
        let t = s.tables in
        let u = z.tables in
        let xs = acts_by r i (view p t r i) in
        let ys = acts_by r i (view q u r i) in
        record {
          at = λ k. by_number (λ k. ((stepped r xs t).parts k).at ≡ ((stepped r ys u).parts k).at) r
              (let e = ap (λ (x : IdealPart). x.at) (part_stepped r xs t) in
              let f = ap (λ (x : IdealPart). x.at) (part_stepped r ys u) in
              let g = at_same (t.parts r) xs in
              let h = at_same (u.parts r) ys in
              omega (arith, e, f, g, h, far.at r))
              (λ k other. ap (λ (x : IdealPart). x.at) (part_elsewhere r xs t k other) ∙ far.at k ∙ sym (ap (λ (x : IdealPart). x.at) (part_elsewhere r ys u k other))) k;
          lanes = λ c.
              ap length (lane_stepped r xs t c) ∙ counted c xs (t.lanes c) ∙ ap (λ n. fold (count_act c) n xs) (far.lanes c)
              ∙ same_counts c (length (u.lanes c)) r i (view p t r i) (view q u r i) ∙ sym (counted c ys (u.lanes c)) ∙ sym (ap length (lane_stepped r ys u c));
        }

    pub next_far : ComesAsFar (ideal_next p s r).tables (ideal_next q z r).tables
    next_far =
        let e = next_is p s r i read in
        let f = next_is q z r i (current_same s.tables z.tables r (far.at r) ∙ read) in
        subst (λ (x : IdealState). ComesAsFar (ideal_next p s r).tables x.tables) (sym f) (subst (λ (x : IdealState). ComesAsFar x.tables (stepped r (acts_by r i (view q z.tables r i)) z.tables)) (sym e) after)

  -- a run
  run_same : (rs : List ℕ) (s z : IdealState) → ComesAsFar s.tables z.tables → IsOneFrom p s rs
      → IsOneFrom q z rs × ComesAsFar (fold (ideal_next p) s rs).tables (fold (ideal_next q) z rs).tables
  run_same [] s z far one = ((λ r known. enabled_same s.tables z.tables far r ∙ one r (subst (λ n. r < n) count known)), far)
  run_same (r ∷ rs) s z far one =
      let n = next_where_able p s.tables r one.0.able in
      let later = run_same rs (ideal_next p s r) (ideal_next q z r) (next_far s z far r n.0 n.1.read) one.1 in
      ((lowest_same s.tables z.tables far r one.0, later.0), later.1)

  pub one_run_same : (ranks : List ℕ) → IsOneRun p ranks → IsOneRun q ranks × ComesAsFar (ideal_replay p ranks).tables (ideal_replay q ranks).tables
  unfolding ideal_replay IsOneRun
  one_run_same ranks run = run_same ranks (ideal_at_start p) (ideal_at_start q) (record { at = λ r. refl; lanes = λ a. refl }) run

-- ---- programs with other tapes
instructions_from : (own : ℕ → List Bool) (n : ℕ) (xs : List RankProgram) (k : ℕ)
    → (slice_index_or (with_tapes_from n own xs) k idle_rank).instructions ≡ (slice_index_or xs k idle_rank).instructions
instructions_from own n [] k = refl
instructions_from own n (x ∷ xs) zero = refl
instructions_from own n (x ∷ xs) (suc k) = instructions_from own (n + 1) xs k

pub same_instructions : (p : Programs) (own : ℕ → List Bool) (r : ℕ) → (rank_of (with_tapes p own) r).instructions ≡ (rank_of p r).instructions
same_instructions p own r = instructions_from own 0 p.ranks r

count_from : (own : ℕ → List Bool) (n : ℕ) (xs : List RankProgram) → length (with_tapes_from n own xs) ≡ length xs
count_from own n [] = refl
count_from own n (x ∷ xs) = ap suc (count_from own (n + 1) xs)

pub same_count : (p : Programs) (own : ℕ → List Bool) → length (with_tapes p own).ranks ≡ length p.ranks
same_count p own = count_from own 0 p.ranks

-- the own tapes themselves
themselves_from : (own : ℕ → List Bool) (n : ℕ) (xs : List RankProgram) → ((j : ℕ) → j < length xs → own (n + j) ≡ (slice_index_or xs j idle_rank).own)
    → with_tapes_from n own xs ≡ xs
themselves_from own n [] e = refl
themselves_from own n (x ∷ xs) e =
    let here : own n ≡ x.own = (let z : n ≡ n + 0 = omega arith in ap own z ∙ e 0 (omega arith)) in
    let later = themselves_from own (n + 1) xs (λ j low. let z : n + 1 + j ≡ n + suc j = omega arith in ap own z ∙ e (suc j) (omega (arith, low))) in
    ap (λ m. let y : RankProgram = record x { own = m } in y ∷ with_tapes_from (n + 1) own xs) here ∙ ap (λ ys. x ∷ ys) later

themselves : (p : Programs) → with_tapes p (λ r. (rank_of p r).own) ≡ p
themselves p =
    ap (λ xs. let q : Programs = record p { ranks = xs } in q)
    (themselves_from (λ r. (rank_of p r).own) 0 p.ranks (λ j low. let z : 0 + j ≡ j = omega arith in ap (λ k. (rank_of p k).own) z))

pub outcomes_law : OutcomesLaw
outcomes_law p =
    record {
      own = themselves p;
      alike = λ own other ranks run.
          let x = one_run_same (with_tapes p own) (with_tapes p other) (same_count p other ∙ sym (same_count p own))
          (λ r. same_instructions p other r ∙ sym (same_instructions p own r)) ranks run in
          record { run = x.0; far = x.1 };
    }
