-- The report that the code makes is the one
use Rattle.std.proofs.Common.{◌≡◌, ℕ, ◌<◌, ◌≤◌, List, [], ◌∷◌, ◌++◌, length, map, reverse, Option, Some, None, IfSome, refl, sym, ap, subst, ◌∙◌, arith}
use Rattle.std.proofs.lemmas.List.{map-append, reverse-append}
use Rattle.qm_proto.specs.declared.Event.{Event}
use Rattle.qm_cost.specs.declared.Delays.{Delays}
use Rattle.qm_cost.specs.declared.Link.{Link}
use Rattle.qm_cost.specs.declared.Mark.{Mark}
use Rattle.qm_cost.specs.Chains.{length_of}
use Rattle.qm_cost.specs.Turns.{Turn, turn_at, event_of, work_of}
use Rattle.qm_cost.specs.Longest.{IsPassed, IsBest, Leads, mark_at, finish_in, before_in, IsBelow, AreMarked, link_at, time_at}
use Rattle.qm_cost.specs.Reports.{ReportView, links_back, IsReport}
use Rattle.qm_cost.specs.Tellings.{IsTold}
use Rattle.qm_cost.proofs.Reported.{traced_length, traced_reported, none_reported}
use Rattle.qm_cost.proofs.Passing.{work_below}

map-reverse : {A B : Type 0} (f : A → B) (xs : List A) → map f (reverse xs) ≡ reverse (map f xs)
map-reverse f [] = refl
map-reverse f (x ∷ xs) =
    ap (map f) (reverse-append (x ∷ []) xs) ∙ map-append f (reverse xs) (x ∷ []) ∙ ap (λ l. l ++ f x ∷ []) (map-reverse f xs)
    ∙ sym (reverse-append (f x ∷ []) (map f xs))

module _ (ts : List Turn) (d : Delays) (ms : List Mark) (so : AreMarked ts d ms (length ts)) where
  link_by : ℕ → ℕ → Link
  link_by j f = record { at = j; rank = (turn_at ts j).rank; event = event_of (turn_at ts j).note; finish = f }

  mark_link : (j : ℕ) → j < length ts → link_at ms j ≡ link_by j (finish_in ms j)
  unfolding link_by
  mark_link j h =
      ap (λ (r : ℕ). record { at = j; rank = r; event = (mark_at ms j).event; finish = finish_in ms j }) (so.ranks j h)
      ∙ ap (λ (e : Event). record { at = j; rank = (turn_at ts j).rank; event = e; finish = finish_in ms j }) (so.events j h)

  back_links : (j : ℕ) (is : List ℕ) → j < length ts → Leads (before_in ms) (before_in ms j) is None
      → map (link_at ms) (j ∷ is) ≡ links_back (work_of ts d) ts (j ∷ is)
  unfolding link_by
  back_links j [] h t =
      let r = traced_length (work_of ts d) (finish_in ms) (before_in ms) so.each (λ i k l h. work_below ts d i k l) j [] h t in
      ap (λ l. l ∷ []) (mark_link j h ∙ ap (link_by j) (sym r.1))
  back_links j (i ∷ is) h t =
      let r = traced_length (work_of ts d) (finish_in ms) (before_in ms) so.each (λ i k l h. work_below ts d i k l) j (i ∷ is) h t in
      let b : IsBest (work_of ts d) (finish_in ms) j i = subst (λ o. IsPassed (work_of ts d) (finish_in ms) j o) t.0 (so.each j h) in
      let less : i < j = work_below ts d i j b.lag b.linked in
      let rest : map (link_at ms) (i ∷ is) ≡ links_back (work_of ts d) ts (i ∷ is) = back_links i is (omega arith) t.1 in
      ap (λ l. l ∷ map (link_at ms) (i ∷ is)) (mark_link j h ∙ ap (link_by j) (sym r.1))
      ∙ ap (λ l. link_by j (length_of (work_of ts d) (j ∷ i ∷ is)) ∷ l) rest

  none_report : length ts ≡ 0 → IsReport (work_of ts d) ts (record { time = 0; chain = [] })
  none_report e = record { events = []; reported = none_reported (work_of ts d) e; time = refl; chain = refl }

  some_report : (j : ℕ) (is : List ℕ) → j < length ts → Leads (before_in ms) (before_in ms j) is None
      → ((k : ℕ) → k < length ts → finish_in ms k ≤ finish_in ms j) → ((k : ℕ) → k < j → finish_in ms k < finish_in ms j)
      → IsReport (work_of ts d) ts (record { time = finish_in ms j; chain = map (link_at ms) (reverse (j ∷ is)) })
  some_report j is h t most first =
      let r = traced_length (work_of ts d) (finish_in ms) (before_in ms) so.each (λ i k l h. work_below ts d i k l) j is h t in
      record {
        events = j ∷ is;
        reported = traced_reported (work_of ts d) (finish_in ms) (before_in ms) so.each (λ i k l h. work_below ts d i k l) j is h t most first;
        time = sym r.1;
        chain = map-reverse (link_at ms) (j ∷ is) ∙ ap reverse (back_links j is h t);
      }

  pub report_so : (end : Option ℕ) (back : List ℕ) → (end ≡ None → length ms ≡ 0) → IsBelow (length ms) end
      → IfSome end (λ e. (k : ℕ) → k < length ms → finish_in ms k ≤ finish_in ms e)
      → IfSome end (λ e. (k : ℕ) → k < e → finish_in ms k < finish_in ms e)
      → Leads (before_in ms) end back None
      → IsReport (work_of ts d) ts (record { time = time_at ms end; chain = map (link_at ms) (reverse back) })
  report_so None [] none known most first t = none_report (let h : length ms ≡ 0 = none refl in let c : length ms ≡ length ts = so.count in omega arith)
  report_so None (j ∷ is) none known most first t = absurd (let e : None ≡ Some j = t.0 in cc)
  report_so (Some e) [] none known most first t = absurd (let f : Some e ≡ None = t in cc)
  report_so (Some e) (j ∷ is) none known most first t =
      let c : length ms ≡ length ts = so.count in
      let f : Some e ≡ Some j = t.0 in
      let same : e ≡ j = cc in
      let P : ℕ → Type 0 = λ n. n < length ts → ((k : ℕ) → k < length ts → finish_in ms k ≤ finish_in ms n) → ((k : ℕ) → k < n → finish_in ms k < finish_in ms n)
      → IsReport (work_of ts d) ts (record { time = finish_in ms n; chain = map (link_at ms) (reverse (j ∷ is)) }) in
      subst P (sym same) (λ h m g. some_report j is h t.1 m g) (omega arith) (λ k lt. most k (omega arith)) first

-- the report that marks give is the one
pub report_step : (ts : List Turn) (d : Delays) (ms : List Mark) (r : ReportView) → AreMarked ts d ms (length ts) → IsTold ms r → IsReport (work_of ts d) ts r
report_step ts d ms r so h =
    let back = report_so ts d ms so h.end h.back h.none h.known h.most h.least h.leads in
    subst (λ t. IsReport (work_of ts d) ts (record { time = t; chain = r.chain })) (sym h.time)
    (subst (λ c. IsReport (work_of ts d) ts (record { time = time_at ms h.end; chain = c })) (sym h.chain) back)

-- the events before an event that is marked
pub marks_below : (ts : List Turn) (d : Delays) (ms : List Mark) (n : ℕ) → AreMarked ts d ms n → (j : ℕ) → j < length ms → IsBelow j (before_in ms j)
marks_below ts d ms n so j h =
    let c : length ms ≡ n = so.count in
    let lt : j < n = omega arith in
    by (before_in ms j) (so.each j lt)
  where
    by : (o : Option ℕ) → IsPassed (work_of ts d) (finish_in ms) j o → IsBelow j o
    by None p = tt
    by (Some i) p = work_below ts d i j p.lag p.linked
