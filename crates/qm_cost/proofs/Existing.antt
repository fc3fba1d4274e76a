-- Of each schedule there is one report, and one alone
use Rattle.std.proofs.Common.{◌≡◌, ℕ, zero, suc, ◌+◌, ◌<◌, ◌≤◌, nat_lt, cond, List, [], ◌∷◌, ◌++◌, length, map, reverse, Option, Some, None, inl, inr, refl, sym, ap, subst, ◌∙◌, arith}
use Rattle.std.proofs.lemmas.Bool.Decides.{leb_tells}
use Rattle.qm_instr.specs.Programs.{Programs}
use Rattle.qm_cost.specs.declared.Delays.{Delays}
use Rattle.qm_cost.specs.declared.Link.{Link}
use Rattle.qm_cost.specs.declared.Mark.{Mark}
use Rattle.qm_cost.specs.Chains.{Work, length_of}
use Rattle.qm_cost.specs.Turns.{Turn, turn_at, turns_of, work_of}
use Rattle.qm_cost.specs.Longest.{Leads, finish_in, before_in, IsBelow, AreMarked, links_of, link_at, time_at}
use Rattle.qm_cost.specs.Reports.{ReportView, links_back, AreFew, IsReport, IsCost, OneReport, SomeReport}
use Rattle.qm_cost.specs.Ways.{marked}
use Rattle.qm_cost.proofs.Passing.{none_marked, pass_step}
use Rattle.qm_cost.proofs.Reported.{one_reported}
use Rattle.qm_cost.proofs.Reporting.{report_so, marks_below}

-- ---- one alone
same_view : (a b : ReportView) → a.time ≡ b.time → a.chain ≡ b.chain → a ≡ b
same_view a b e f =
    ap (λ (t : ℕ). record { time = t; chain = a.chain }) e ∙ ap (λ (c : List Link). record { time = b.time; chain = c }) f

one_of : (w : Work) (ts : List Turn) (a b : ReportView) → IsReport w ts a → IsReport w ts b → a ≡ b
one_of w ts a b h g =
    let e : h.events ≡ g.events = one_reported w h.events g.events h.reported g.reported in
    same_view a b (h.time ∙ ap (length_of w) e ∙ sym g.time) (h.chain ∙ ap (λ l. reverse (links_back w ts l)) e ∙ sym g.chain)

pub one_report : OneReport
one_report p schedule d a b h g = one_of (work_of (turns_of p schedule) d) (turns_of p schedule) a b h g

-- ---- the marks
abbrev marked_next : List Turn → Delays → ℕ → List Mark → List Mark
marked_next ts d n ms = ms ++ marked (finish_in ms) d (links_of ts n) (turn_at ts n).rank ∷ []

abbrev marks_upto : List Turn → Delays → ℕ → List Mark
marks_upto ts d zero = []
marks_upto ts d (suc n) = marked_next ts d n (marks_upto ts d n)

are_marked : (ts : List Turn) (d : Delays) → AreFew d → (n : ℕ) → AreMarked ts d (marks_upto ts d n) n
are_marked ts d few zero = none_marked ts d
are_marked ts d few (suc n) =
    let ms : List Mark = marks_upto ts d n in
    let e : n + 1 ≡ suc n = omega arith in
    subst (λ k. AreMarked ts d (marks_upto ts d (suc n)) k) e
    (pass_step ts d ms n (marked (finish_in ms) d (links_of ts n) (turn_at ts n).rank) (marks_upto ts d (suc n)) few (are_marked ts d few n) refl refl)

-- ---- the first of the largest of n numbers
abbrev larger_of : (ℕ → ℕ) → ℕ → Option ℕ → Option ℕ
larger_of f n None = Some n
larger_of f n (Some e) = cond (nat_lt (f e) (f n)) (Some n) (Some e)

abbrev end_of : (ℕ → ℕ) → ℕ → Option ℕ
end_of f zero = None
end_of f (suc n) = larger_of f n (end_of f n)

record IsEnd (f : ℕ → ℕ) (n e : ℕ) : Type 0 where
  within : e < n
  most : (k : ℕ) → k < n → f k ≤ f e
  least : (k : ℕ) → k < e → f k < f e

abbrev IsEndOf : (ℕ → ℕ) → ℕ → Option ℕ → Type 0
IsEndOf f n None = n ≡ 0
IsEndOf f n (Some e) = IsEnd f n e

module _ (f : ℕ → ℕ) (n : ℕ) where
  here_or_before : (m k : ℕ) → k < suc n → f n ≤ m → ((j : ℕ) → j < n → f j ≤ m) → f k ≤ m
  here_or_before m k lt here all = elim (leb_tells n k) [
    | inl g ↦ let s : k ≡ n = let a : n ≤ k = g.1 in omega arith in subst (λ j. f j ≤ m) (sym s) here
    | inr g ↦ all k g.1
  ]

  new_end : (e : ℕ) → IsEnd f n e → f e < f n → IsEnd f (suc n) n
  new_end e h less =
      record {
        within = omega arith;
        most = λ k lt. here_or_before (f n) k lt (omega arith) (λ j j_less. let m : f j ≤ f e = h.most j j_less in omega arith);
        least = λ k lt. let m : f k ≤ f e = h.most k lt in omega arith;
      }

  old_end : (e : ℕ) → IsEnd f n e → f n < suc (f e) → IsEnd f (suc n) e
  old_end e h le =
      record {
        within = let w : e < n = h.within in omega arith;
        most = λ k lt. here_or_before (f e) k lt (omega arith) h.most;
        least = h.least;
      }

  end_more : (o : Option ℕ) → IsEndOf f n o → IsEndOf f (suc n) (larger_of f n o)
  end_more None h =
      record {
        within = omega arith;
        most = λ k lt. here_or_before (f n) k lt (omega arith) (λ j less. absurd (omega (arith, h)));
        least = λ k lt. absurd (omega (arith, h));
      }
  end_more (Some e) h = elim (leb_tells (suc (f e)) (f n)) [
    | inl g ↦ subst (λ b. IsEndOf f (suc n) (cond b (Some n) (Some e))) (sym g.0) (new_end e h g.1)
    | inr g ↦ subst (λ b. IsEndOf f (suc n) (cond b (Some n) (Some e))) (sym g.0) (old_end e h g.1)
  ]

some_end : (f : ℕ → ℕ) (n : ℕ) → IsEndOf f n (end_of f n)
some_end f zero = refl
some_end f (suc n) = end_more f n (end_of f n) (some_end f n)

-- ---- the way back
abbrev back_of : (ℕ → Option ℕ) → ℕ → Option ℕ → List ℕ
back_of from zero o = []
back_of from (suc fuel) None = []
back_of from (suc fuel) (Some j) = j ∷ back_of from fuel (from j)

raised : (j m : ℕ) (o : Option ℕ) → IsBelow j o → j ≤ m → IsBelow m o
raised j m None h le = tt
raised j m (Some i) h le = omega arith

leads_back : (from : ℕ → Option ℕ) (n : ℕ) → ((j : ℕ) → j < n → IsBelow j (from j)) → (fuel : ℕ) (o : Option ℕ) → IsBelow n o → IsBelow fuel o
    → Leads from o (back_of from fuel o) None
leads_back from n below zero None h g = refl
leads_back from n below zero (Some j) h g = absurd (omega arith)
leads_back from n below (suc fuel) None h g = refl
leads_back from n below (suc fuel) (Some j) h g =
    let there : IsBelow j (from j) = below j h in
    (refl, leads_back from n below fuel (from j) (raised j n (from j) there (omega arith)) (raised j fuel (from j) there (omega arith)))

-- ---- and the report
abbrev told_by : List Mark → Option ℕ → ReportView
told_by ms e = record { time = time_at ms e; chain = map (link_at ms) (reverse (back_of (before_in ms) (length ms) e)) }

abbrev told_of : List Mark → ReportView
told_of ms = told_by ms (end_of (finish_in ms) (length ms))

abbrev pub report_of : Programs → List ℕ → Delays → ReportView
report_of p schedule d = let ts = turns_of p schedule in told_of (marks_upto ts d (length ts))

told_so : (ts : List Turn) (d : Delays) (ms : List Mark) → AreMarked ts d ms (length ts) → (o : Option ℕ) → IsEndOf (finish_in ms) (length ms) o
    → IsReport (work_of ts d) ts (told_by ms o)
told_so ts d ms so None h =
    report_so ts d ms so None (back_of (before_in ms) (length ms) None) (λ _. h) tt tt tt
    (leads_back (before_in ms) (length ms) (marks_below ts d ms (length ts) so) (length ms) None tt tt)
told_so ts d ms so (Some e) h =
    report_so ts d ms so (Some e) (back_of (before_in ms) (length ms) (Some e)) (λ s. absurd (cc)) h.within h.most h.least
    (leads_back (before_in ms) (length ms) (marks_below ts d ms (length ts) so) (length ms) (Some e) h.within h.within)

pub report_is : (p : Programs) (schedule : List ℕ) (d : Delays) → AreFew d → IsCost p schedule d (report_of p schedule d)
report_is p schedule d few =
    let ts : List Turn = turns_of p schedule in
    let ms : List Mark = marks_upto ts d (length ts) in
    told_so ts d ms (are_marked ts d few (length ts)) (end_of (finish_in ms) (length ms)) (some_end (finish_in ms) (length ms))

pub some_report : SomeReport
some_report p schedule d few = (report_of p schedule d, report_is p schedule d few)
