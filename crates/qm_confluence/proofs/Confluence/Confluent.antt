-- Complete ideal runs end alike
use mathlib.Core.Path.{fun_ext}
use Rattle.std.proofs.Common.{◌≡◌, ◌≢◌, ℕ, zero, suc, ◌+◌, ◌<◌, ◌⊎◌, inl, inr, Bool, true, false, List, [], ◌∷◌, ◌++◌, length, fold, Option, Some, None, refl, sym, ap, subst, ◌∙◌, arith, length-append}
use Rattle.std.proofs.lemmas.Bool.Decides.{eqb_tells}
use Rattle.qm_denot.specs.Wires.{Wires}
use Rattle.qm_denot.specs.Circuits.{Amplitudes, Circuit, with_letters, amp, halvings, IsEqualUpTo}
use Rattle.qm_denot.proofs.Amplitudes.{amp-append, halvings-append}
use Rattle.qm_denot.proofs.EqualUpTo.{equal_from_same}
use Rattle.qm_instr.specs.declared.Instr.{Instr}
use Rattle.qm_instr.specs.Programs.{Programs, IsInRange}
use Rattle.qm_check.specs.Checks.{IsReady}
use Rattle.qm_proto.specs.Model.Ideal.{IdealTables, IdealState, ideal_row_of, ideal_current, ideal_enabled, after_instr, ideal_next, ideal_at_start, ideal_replay, IsIdealFrom, IsIdealRun, IsOneFrom, IsOneRun, AllDone}
use Rattle.qm_proto.proofs.Firsts.{one_run_unique}
use Rattle.qm_confluence.specs.Confluence.{Alike, StepsCommute, EndsAlike, OneRunEndsAlike, EachRunCompletes, ConfluenceLaw}
use Rattle.qm_confluence.proofs.Confluence.Helpers.{next_where_able, able_where_next}
use Rattle.qm_confluence.proofs.Confluence.WellIdeal.{IsWellIdeal, well_step, well_start}
use Rattle.qm_confluence.proofs.Confluence.Diamond.{next_is, next_after, steps_alike}
use Rattle.qm_proto.proofs.IdealRuns.{ideal_after_both, ideal_run_append, done_not_enabled}

-- ---- states that are alike
pub alike_refl : (s : IdealState) → Alike s s
alike_refl s = record { tables = refl; amplitudes = λ x. refl; halves = refl }

pub alike_trans : (s t u : IdealState) → Alike s t → Alike t u → Alike s u
alike_trans s t u a b = record { tables = a.tables ∙ b.tables; amplitudes = λ x. a.amplitudes x ∙ b.amplitudes x; halves = a.halves ∙ b.halves }

module _ (p : Programs) (r : ℕ) where
  -- the same step from the same tables, after circuits that are alike
  same_step : (t : IdealTables) (c d : Circuit) → ((x : Wires) → amp c x ≡ amp d x) → halvings c ≡ halvings d
      → (o : Option Instr) → (let s : IdealState = record { tables = t; circuit = c } in let u : IdealState = record { tables = t; circuit = d } in Alike (after_instr p s r o) (after_instr p u r o))
  same_step t c d amps halves None = record { tables = refl; amplitudes = amps; halves = halves }
  same_step t c d amps halves (Some i) =
      let ls = (ideal_row_of p t r i).letters in
      let both : amp (c ++ ls) ≡ amp (d ++ ls) = amp-append c ls ∙ ap (with_letters ls) (fun_ext amps) ∙ sym (amp-append d ls) in
      record { tables = refl; amplitudes = λ x. ap (λ (f : Amplitudes). f x) both; halves = omega (arith, halvings-append c ls, halvings-append d ls, halves) }

  pub alike_next : (s u : IdealState) → Alike s u → Alike (ideal_next p s r) (ideal_next p u r)
  alike_next s u a =
      subst (λ t. let z : IdealState = record { tables = t; circuit = u.circuit } in Alike (ideal_next p s r) (ideal_next p z r)) a.tables
      (same_step s.tables s.circuit u.circuit a.amplitudes a.halves (ideal_current p s.tables r))

pub alike_after : (p : Programs) (rs : List ℕ) (s u : IdealState) → Alike s u → Alike (fold (ideal_next p) s rs) (fold (ideal_next p) u rs)
alike_after p [] s u a = a
alike_after p (r ∷ rs) s u a = alike_after p rs (ideal_next p s r) (ideal_next p u r) (alike_next p r s u a)

pub run_alike : (p : Programs) (rs : List ℕ) (s u : IdealState) → Alike s u → IsIdealFrom p s rs → IsIdealFrom p u rs
run_alike p [] s u a run = tt
run_alike p (r ∷ rs) s u a run =
    (run.0, subst (λ t. ideal_enabled p t r ≡ true) a.tables run.1, run_alike p rs (ideal_next p s r) (ideal_next p u r) (alike_next p r s u a) run.2)

-- the least number at which f is true
module _ (f : ℕ → Bool) where
  pub record IsLeast (n k : ℕ) : Type 0 where
    pub below : k < n
    pub here : f k ≡ true
    pub less : (j : ℕ) → j < k → f j ≡ false

  pub least : (n : ℕ) → ((k : ℕ) → k < n → f k ≡ false) ⊎ ((k : ℕ) × IsLeast n k)
  least zero = inl (λ k below. absurd (omega (arith, below)))
  least (suc n) = elim (least n) [
    | inl none ↦ by_bool (f n) refl none
    | inr (k, l) ↦ inr (k, record { below = (let b : k < n = l.below in omega (arith, b)); here = l.here; less = l.less })
  ]
    where
      by_bool : (b : Bool) → f n ≡ b → ((k : ℕ) → k < n → f k ≡ false) → ((k : ℕ) → k < suc n → f k ≡ false) ⊎ ((k : ℕ) × IsLeast (suc n) k)
      by_bool true e none = inr (n, record { below = omega arith; here = e; less = none })
      by_bool false e none = inl (λ k below. elim (eqb_tells k n) [ inl h ↦ ap f h.1 ∙ e | inr h ↦ none k (let other : k ≢ n = h.1 in omega (arith, below, other)) ])

module _ (p : Programs) (ready : IsReady p) (ranges : IsInRange p) where
  abbrev after : IdealState → List ℕ → IdealState
  after s rs = fold (ideal_next p) s rs

  well_next : (s : IdealState) (r : ℕ) → IsWellIdeal p s.tables → r < length p.ranks → ideal_enabled p s.tables r ≡ true → IsWellIdeal p (ideal_next p s r).tables
  well_next s r well known able =
      let n = next_where_able p s.tables r able in
      subst (λ (u : IdealState). IsWellIdeal p u.tables) (sym (next_is p s r n.0 n.1.read)) (well_step p ready ranges s.tables well r known n.0 n.1)

  pub well_after : (rs : List ℕ) (s : IdealState) → IsWellIdeal p s.tables → IsIdealFrom p s rs → IsWellIdeal p (after s rs).tables
  well_after [] s well run = well
  well_after (r ∷ rs) s well run = well_after rs (ideal_next p s r) (well_next s r well run.0 run.1) run.2

  -- ---- two ranks that are both enabled
  record BothWays (s : IdealState) (a b : ℕ) : Type 0 where
    b_able : ideal_enabled p (ideal_next p s a).tables b ≡ true
    a_able : ideal_enabled p (ideal_next p s b).tables a ≡ true
    alike : Alike (ideal_next p (ideal_next p s a) b) (ideal_next p (ideal_next p s b) a)

  both_ways : (s : IdealState) (a b : ℕ) → a ≢ b → a < length p.ranks → b < length p.ranks → IsWellIdeal p s.tables
      → ideal_enabled p s.tables a ≡ true → ideal_enabled p s.tables b ≡ true → BothWays s a b
  both_ways s a b other a_known b_known well a_able b_able =
      let i = next_where_able p s.tables a a_able in
      let j = next_where_able p s.tables b b_able in
      record {
        b_able = able_where_next p (ideal_next p s a).tables b j.0 (next_after p s a b other i.0 j.0 i.1 j.1);
        a_able = able_where_next p (ideal_next p s b).tables a i.0 (next_after p s b a (λ e. other (sym e)) j.0 i.0 j.1 i.1);
        alike = steps_alike p ready ranges s a b other a_known b_known well i.0 j.0 i.1 j.1;
      }

  -- ---- an enabled rank may be moved to the front of a complete run
  record Headed (s : IdealState) (rs : List ℕ) (r : ℕ) : Type 0 where
    rest : List ℕ
    run : IsIdealFrom p (ideal_next p s r) rest
    alike : Alike (after s rs) (after (ideal_next p s r) rest)
    long : length rs ≡ length rest + 1

  past_head : (s : IdealState) (a : ℕ) (rs : List ℕ) (r : ℕ) → IsWellIdeal p s.tables → a < length p.ranks → r < length p.ranks
      → ideal_enabled p s.tables a ≡ true → ideal_enabled p s.tables r ≡ true → IsIdealFrom p (ideal_next p s a) rs
      → (ideal_enabled p (ideal_next p s a).tables r ≡ true → Headed (ideal_next p s a) rs r) → Headed s (a ∷ rs) r
  past_head s a rs r well a_known known a_able able run later = elim (eqb_tells a r) [
    | inl h ↦ record {
      rest = rs;
      run = subst (λ k. IsIdealFrom p (ideal_next p s k) rs) h.1 run;
      alike = subst (λ k. Alike (after (ideal_next p s a) rs) (after (ideal_next p s k) rs)) h.1 (alike_refl (after (ideal_next p s a) rs));
      long = omega arith;
    }
    | inr h ↦
        let both = both_ways s a r h.1 a_known known well a_able able in
        let x = later both.b_able in
        record {
          rest = a ∷ x.rest;
          run = (a_known, both.a_able, run_alike p x.rest _ _ both.alike x.run);
          alike = alike_trans _ _ _ x.alike (alike_after p x.rest _ _ both.alike);
          long = (let e : length rs ≡ length x.rest + 1 = x.long in omega (arith, e));
        }
  ]

  headed : (rs : List ℕ) (s : IdealState) → IsWellIdeal p s.tables → IsIdealFrom p s rs → AllDone p (after s rs).tables
      → (r : ℕ) → r < length p.ranks → ideal_enabled p s.tables r ≡ true → Headed s rs r
  headed [] s well run done r known able = absurd (let none = done_not_enabled p s.tables r (done r known) in let n : ⊥ = cc in n)
  headed (a ∷ rs) s well run done r known able =
      past_head s a rs r well run.0 known run.1 able run.2 (λ able'. headed rs (ideal_next p s a) (well_next s a well run.0 run.1) run.2 done r known able')

  -- so each run from its start can be completed, to an end that is alike
  pub record Completed (s : IdealState) (rs qs : List ℕ) : Type 0 where
    pub rest : List ℕ
    pub run : IsIdealFrom p (after s qs) rest
    pub alike : Alike (after s rs) (after (after s qs) rest)
    pub long : length rs ≡ length qs + length rest

  pub completed : (qs rs : List ℕ) (s : IdealState) → IsWellIdeal p s.tables → IsIdealFrom p s rs → AllDone p (after s rs).tables → IsIdealFrom p s qs → Completed s rs qs
  completed [] rs s well run done more = record { rest = rs; run = run; alike = alike_refl (after s rs); long = omega arith }
  completed (q ∷ qs) rs s well run done more =
      let h = headed rs s well run done q more.0 more.1 in
      let x = completed qs h.rest (ideal_next p s q) (well_next s q well more.0 more.1) h.run (subst (AllDone p) h.alike.tables done) more.2 in
      record {
        rest = x.rest;
        run = x.run;
        alike = alike_trans _ _ _ h.alike x.alike;
        long = let a : length rs ≡ length h.rest + 1 = h.long in let b : length h.rest ≡ length qs + length x.rest = x.long in omega (arith, a, b);
      }

  -- ---- the one run
  record Ends (s : IdealState) (rs : List ℕ) : Type 0 where
    ranks : List ℕ
    one : IsOneFrom p s ranks
    alike : Alike (after s rs) (after s ranks)
    long : length rs ≡ length ranks

  ends : (n : ℕ) (rs : List ℕ) (s : IdealState) → length rs ≡ n → IsWellIdeal p s.tables → IsIdealFrom p s rs → AllDone p (after s rs).tables → Ends s rs
  ends n [] s e well run done = record { ranks = []; one = λ r known. done_not_enabled p s.tables r (done r known); alike = alike_refl s; long = refl }
  ends zero (a ∷ rs) s e well run done = absurd (omega (arith, e))
  ends (suc n) (a ∷ rs) s e well run done = elim (least (ideal_enabled p s.tables) (length p.ranks)) [
    | inl none ↦ absurd (let off = none a run.0 in let on = run.1 in let z : ⊥ = cc in z)
    | inr (r, l) ↦
        let h = headed (a ∷ rs) s well run done r l.below l.here in
        let same : (after s (a ∷ rs)).tables ≡ (after (ideal_next p s r) h.rest).tables = h.alike.tables in
        let x = ends n h.rest (ideal_next p s r) (let long : length (a ∷ rs) ≡ length h.rest + 1 = h.long in omega (arith, e, long)) (well_next s r well l.below l.here) h.run
        (subst (AllDone p) same done) in
        record {
          ranks = r ∷ x.ranks;
          one = (record { known = l.below; able = l.here; below = l.less }, x.one);
          alike = alike_trans _ _ _ h.alike x.alike;
          long = (let long : length (a ∷ rs) ≡ length h.rest + 1 = h.long in let more : length h.rest ≡ length x.ranks = x.long in omega (arith, long, more));
        }
  ]

  -- ---- the theorem
  pub steps_commute : StepsCommute p
  unfolding ideal_replay IsIdealRun
  steps_commute rs a b run a_known b_known other a_able b_able =
      let s = ideal_at_start p in
      let t = after s rs in
      let both = both_ways t a b other a_known b_known (well_after rs s (well_start p) run) a_able b_able in
      record {
        a_first = ideal_run_append p rs (a ∷ b ∷ []) s run (a_known, a_able, (b_known, both.b_able, tt));
        b_first = ideal_run_append p rs (b ∷ a ∷ []) s run (b_known, b_able, (a_known, both.a_able, tt));
        alike = subst (λ x. Alike x (after s (rs ++ b ∷ a ∷ []))) (sym (ideal_after_both p rs (a ∷ b ∷ []) s))
            (subst (λ x. Alike (ideal_next p (ideal_next p t a) b) x) (sym (ideal_after_both p rs (b ∷ a ∷ []) s)) both.alike);
      }

  the_end : (rs : List ℕ) → IsIdealRun p rs → AllDone p (ideal_replay p rs).tables → (ranks : List ℕ) × IsOneRun p ranks × EndsAlike p rs ranks
  unfolding ideal_replay IsIdealRun IsOneRun
  the_end rs run done =
      let s = ideal_at_start p in
      let x = ends (length rs) rs s refl (well_start p) run done in
      let same : (after s rs).tables ≡ (after s x.ranks).tables = x.alike.tables in
      (x.ranks, x.one, record { done = subst (AllDone p) same done; alike = x.alike; long = x.long })

  pub one_run_ends_alike : OneRunEndsAlike p
  one_run_ends_alike = record {
    some = λ rs run done. let e = the_end rs run done in (e.0, e.1);
    each = λ rs ranks run done one. let e = the_end rs run done in subst (EndsAlike p rs) (one_run_unique p e.0 ranks e.1 one) e.2;
  }

  pub each_run_completes : EachRunCompletes p
  unfolding ideal_replay IsIdealRun
  each_run_completes rs qs run done more =
      let s = ideal_at_start p in
      let x = completed qs rs s (well_start p) run done more in (
        x.rest,
        record {
          run = ideal_run_append p qs x.rest s more x.run;
          alike = subst (Alike (after s rs)) (sym (ideal_after_both p qs x.rest s)) x.alike;
          long = (let e : length rs ≡ length qs + length x.rest = x.long in omega (arith, e, length-append qs x.rest));
        },
      )

pub confluence : ConfluenceLaw
confluence p ready ranges = record {
  commute = steps_commute p ready ranges;
  one_run = one_run_ends_alike p ready ranges;
  completes = each_run_completes p ready ranges;
}

-- circuits of states that are alike are equal up to 0
pub alike_equal : (s u : IdealState) → Alike s u → IsEqualUpTo 0 s.circuit u.circuit
alike_equal s u a = let e = a.halves in equal_from_same s.circuit u.circuit 0 (omega (arith, e)) a.amplitudes
