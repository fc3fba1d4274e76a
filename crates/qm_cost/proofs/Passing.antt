-- One event more in the pass, and the way back
use Rattle.std.proofs.Common.{◌≡◌, ℕ, zero, suc, ◌+◌, ◌*◌, ◌<◌, ◌≤◌, List, [], ◌∷◌, ◌++◌, length, Option, Some, None, inl, inr, slice_index_or, refl, sym, ap, subst, ◌∙◌, arith, length-append}
use Rattle.std.proofs.lemmas.Bool.Decides.{leb_tells}
use Rattle.qm_proto.specs.declared.Event.{Event}
use Rattle.qm_proto.specs.declared.Event.TheVariants as event
use Rattle.qm_cost.specs.declared.Delays.{Delays}
use Rattle.qm_cost.specs.declared.Links.{Links}
use Rattle.qm_cost.specs.declared.Mark.{Mark}
use Rattle.qm_cost.specs.declared.Way.{Way}
use Rattle.qm_cost.specs.Chains.{Work}
use Rattle.qm_cost.specs.Turns.{Turn, turn_at, event_of, takes_in, work_of}
use Rattle.qm_cost.specs.Longest.{IsBest, IsAlone, IsPassed, Leads, no_mark, mark_at, finish_in, before_in, IsBelow, AreBelow, links_of, lag_in, AreMarked}
use Rattle.qm_cost.specs.Reports.{AreFew}
use Rattle.qm_cost.specs.Ways.{best_way, mark_of, marked}
use Rattle.qm_cost.proofs.Choosing.{lag_either, below_links, IsTop, top_way, no_way}
use Rattle.qm_cost.proofs.Turning.{links_below}

pub some_below : (j i : ℕ) (o : Option ℕ) → IsBelow j o → o ≡ Some i → i < j
some_below j i o h e = subst (λ v. IsBelow j v) e h

-- a direct predecessor has a lower number
pub lag_below : (bits : ℕ) (l : Links) (j i m : ℕ) → AreBelow j l → lag_in bits l i ≡ Some m → i < j
lag_below bits l j i m h e =
    below_links bits l i m (λ k. k < j) (λ k s. some_below j k l.post h.post s) (λ k s. some_below j k l.own h.own s)
    (λ k s. some_below j k l.partner h.partner s) e

pub work_below : (ts : List Turn) (d : Delays) → (i j m : ℕ) → (work_of ts d).lag i j ≡ Some m → i < j
work_below ts d i j m e = lag_below d.bits (links_of ts j) j i m (links_below ts j) e

-- what is known of an event stays so where the numbers up to it stay the same
module _ (w : Work) (f g : ℕ → ℕ) (j : ℕ) (below : (i m : ℕ) → w.lag i j ≡ Some m → i < j) (same : (k : ℕ) → k ≤ j → g k ≡ f k) where
  best_along : (i : ℕ) → IsBest w f j i → IsBest w g j i
  best_along i b =
      let i_less : i < j = below i b.lag b.linked in
      let at_i : g i ≡ f i = same i (omega arith) in
      let at_j : g j ≡ f j = same j (omega arith) in
      let value : f j ≡ w.takes j + (b.lag + f i) = b.value in
      record {
        lag = b.lag;
        linked = b.linked;
        value = omega arith;
        most = λ k m e.
            let k_less : k < j = below k m e in
            let at_k : g k ≡ f k = same k (omega arith) in
            let h : m + f k ≤ b.lag + f i = b.most k m e in
            omega arith;
        least = λ k m e s.
            let k_less : k < j = below k m e in
            let at_k : g k ≡ f k = same k (omega arith) in
            let t : m + f k ≡ b.lag + f i = omega arith in
            b.least k m e t;
      }

  alone_along : IsAlone w f j → IsAlone w g j
  alone_along a = record { value = same j (omega arith) ∙ a.value; none = a.none }

  pub passed_along : (o : Option ℕ) → IsPassed w f j o → IsPassed w g j o
  passed_along None h = alone_along h
  passed_along (Some i) h = best_along i h

-- ---- lists
nth_before : {A : Type 0} (d : A) (xs : List A) (x : A) (k : ℕ) → k < length xs → slice_index_or (xs ++ x ∷ []) k d ≡ slice_index_or xs k d
nth_before d [] x k h = absurd (omega arith)
nth_before d (y ∷ xs) x zero h = refl
nth_before d (y ∷ xs) x (suc k) h = nth_before d xs x k (omega arith)

nth_there : {A : Type 0} (d : A) (xs : List A) (x : A) → slice_index_or (xs ++ x ∷ []) (length xs) d ≡ x
nth_there d [] x = refl
nth_there d (y ∷ xs) x = nth_there d xs x

zero_more : (n : ℕ) → 0 + n ≡ n
zero_more n = omega arith

takes_few : (d : Delays) → AreFew d → (e : Event) → takes_in d e ≤ 1000000
takes_few d few event.Pair = few.pair
takes_few d few _ = few.local

-- the mark of the next event
module _ (ts : List Turn) (d : Delays) (ms : List Mark) (few : AreFew d) (so : AreMarked ts d ms (length ms)) where
  abbrev mark_next : Option Way → Mark
  mark_next o = mark_of o (takes_in d (links_of ts (length ms)).event) (links_of ts (length ms)).event (turn_at ts (length ms)).rank

  abbrev after : Option Way → List Mark
  after o = ms ++ mark_next o ∷ []

  before_same : (o : Option Way) (k : ℕ) → k < length ms → finish_in (after o) k ≡ finish_in ms k
  before_same o k h = ap (λ (m : Mark). m.finish) (nth_before no_mark ms (mark_next o) k h)

  finish_new : (o : Option Way) → finish_in (after o) (length ms) ≡ (mark_next o).finish
  finish_new o = ap (λ (m : Mark). m.finish) (nth_there no_mark ms (mark_next o))

  before_new : (o : Option Way) → before_in (after o) (length ms) ≡ (mark_next o).before
  before_new o = ap (λ (m : Mark). m.before) (nth_there no_mark ms (mark_next o))

  here_below : (i m : ℕ) → (work_of ts d).lag i (length ms) ≡ Some m → i < length ms
  here_below i m e = work_below ts d i (length ms) m e

  top_best : (t : Way) → IsTop (finish_in ms) d.bits (links_of ts (length ms)) t → IsBest (work_of ts d) (finish_in (after (Some t))) (length ms) t.at
  top_best t h =
      let at_less : t.at < length ms = here_below t.at h.lag h.linked in
      let at_same : finish_in (after (Some t)) t.at ≡ finish_in ms t.at = before_same (Some t) t.at at_less in
      let new : finish_in (after (Some t)) (length ms) ≡ t.length + takes_in d (links_of ts (length ms)).event = finish_new (Some t) in
      let value : t.length ≡ h.lag + finish_in ms t.at = h.value in
      record {
        lag = h.lag;
        linked = h.linked;
        value = omega arith;
        most = λ k m e.
            let k_less : k < length ms = here_below k m e in
            let k_same : finish_in (after (Some t)) k ≡ finish_in ms k = before_same (Some t) k k_less in
            let g : m + finish_in ms k ≤ t.length = h.most k m e in
            omega arith;
        least = λ k m e s.
            let k_less : k < length ms = here_below k m e in
            let k_same : finish_in (after (Some t)) k ≡ finish_in ms k = before_same (Some t) k k_less in
            let g : m + finish_in ms k ≡ t.length = omega arith in
            h.least k m e g;
      }

  passed_new : (o : Option Way) → best_way (finish_in ms) d.bits (links_of ts (length ms)) ≡ o
      → IsPassed (work_of ts d) (finish_in (after o)) (length ms) (mark_next o).before
  passed_new None e = record { value = finish_new None ∙ zero_more (takes_in d (links_of ts (length ms)).event); none = no_way (finish_in ms) d.bits (links_of ts (length ms)) e }
  passed_new (Some t) e = top_best t (top_way (finish_in ms) d.bits (links_of ts (length ms)) t e)

  passed_old : (o : Option Way) (j : ℕ) → j < length ms → IsPassed (work_of ts d) (finish_in (after o)) j (before_in (after o) j)
  passed_old o j h =
      let old : IsPassed (work_of ts d) (finish_in ms) j (before_in ms j) = so.each j h in
      let kept : IsPassed (work_of ts d) (finish_in (after o)) j (before_in ms j) =
      passed_along (work_of ts d) (finish_in ms) (finish_in (after o)) j (λ i m e. work_below ts d i j m e)
      (λ k le. before_same o k (omega arith)) (before_in ms j) old in
      subst (λ b. IsPassed (work_of ts d) (finish_in (after o)) j b) (sym (ap (λ (m : Mark). m.before) (nth_before no_mark ms (mark_next o) j h))) kept

  passed_all : (o : Option Way) → best_way (finish_in ms) d.bits (links_of ts (length ms)) ≡ o
      → (j : ℕ) → j < length ms + 1 → IsPassed (work_of ts d) (finish_in (after o)) j (before_in (after o) j)
  passed_all o e j h =
      elim (leb_tells (length ms) j) [
        | inl g ↦
            let s : length ms ≡ j = omega arith in
            let new : IsPassed (work_of ts d) (finish_in (after o)) (length ms) (before_in (after o) (length ms)) =
            subst (λ b. IsPassed (work_of ts d) (finish_in (after o)) (length ms) b) (sym (before_new o)) (passed_new o e) in
            subst (λ k. IsPassed (work_of ts d) (finish_in (after o)) k (before_in (after o) k)) s new
        | inr g ↦ passed_old o j g.1
      ]

  lag_few : (i m : ℕ) → lag_in d.bits (links_of ts (length ms)) i ≡ Some m → m ≤ 1000000
  lag_few i m e =
      let b : d.bits ≤ 1000000 = few.bits in
      elim (lag_either d.bits (links_of ts (length ms)) i m e) [ inl h ↦ omega (arith, h) | inr h ↦ omega (arith, h) ]

  top_few : (t : Way) → best_way (finish_in ms) d.bits (links_of ts (length ms)) ≡ Some t → t.length ≤ 2000000 * length ms + 1000000
  top_few t e =
      let h = top_way (finish_in ms) d.bits (links_of ts (length ms)) t e in
      let at_less : t.at < length ms = here_below t.at h.lag h.linked in
      let most : finish_in ms t.at ≤ 2000000 * (t.at + 1) = so.most t.at at_less in
      let value : t.length ≡ h.lag + finish_in ms t.at = h.value in
      let lag : h.lag ≤ 1000000 = lag_few t.at h.lag h.linked in
      omega arith

  most_new : (o : Option Way) → best_way (finish_in ms) d.bits (links_of ts (length ms)) ≡ o → (mark_next o).finish ≤ 2000000 * (length ms + 1)
  most_new None e = let t = takes_few d few (links_of ts (length ms)).event in omega arith
  most_new (Some w) e =
      let t = takes_few d few (links_of ts (length ms)).event in
      let h : w.length ≤ 2000000 * length ms + 1000000 = top_few w e in
      omega arith

  most_all : (o : Option Way) → best_way (finish_in ms) d.bits (links_of ts (length ms)) ≡ o
      → (j : ℕ) → j < length ms + 1 → finish_in (after o) j ≤ 2000000 * (j + 1)
  most_all o e j h =
      elim (leb_tells (length ms) j) [
        | inl g ↦
            let s : length ms ≡ j = omega arith in
            let new : finish_in (after o) (length ms) ≤ 2000000 * (length ms + 1) = subst (λ n. n ≤ 2000000 * (length ms + 1)) (sym (finish_new o)) (most_new o e) in
            subst (λ k. finish_in (after o) k ≤ 2000000 * (k + 1)) s new
        | inr g ↦
            let old : finish_in ms j ≤ 2000000 * (j + 1) = so.most j g.1 in
            let e2 : finish_in (after o) j ≡ finish_in ms j = before_same o j g.1 in
            omega arith
      ]

  ranks_all : (o : Option Way) (j : ℕ) → j < length ms + 1 → (mark_at (after o) j).rank ≡ (turn_at ts j).rank
  ranks_all o j h =
      elim (leb_tells (length ms) j) [
        | inl g ↦
            let s : length ms ≡ j = omega arith in
            subst (λ k. (mark_at (after o) k).rank ≡ (turn_at ts k).rank) s (ap (λ (m : Mark). m.rank) (nth_there no_mark ms (mark_next o)))
        | inr g ↦ ap (λ (m : Mark). m.rank) (nth_before no_mark ms (mark_next o) j g.1) ∙ so.ranks j g.1
      ]

  events_all : (o : Option Way) (j : ℕ) → j < length ms + 1 → (mark_at (after o) j).event ≡ event_of (turn_at ts j).note
  events_all o j h =
      elim (leb_tells (length ms) j) [
        | inl g ↦
            let s : length ms ≡ j = omega arith in
            subst (λ k. (mark_at (after o) k).event ≡ event_of (turn_at ts k).note) s (ap (λ (m : Mark). m.event) (nth_there no_mark ms (mark_next o)))
        | inr g ↦ ap (λ (m : Mark). m.event) (nth_before no_mark ms (mark_next o) j g.1) ∙ so.events j g.1
      ]

  pub marked_more : (o : Option Way) → best_way (finish_in ms) d.bits (links_of ts (length ms)) ≡ o → AreMarked ts d (after o) (length ms + 1)
  marked_more o e = record { count = simp length-append refl; each = passed_all o e; most = most_all o e; ranks = ranks_all o; events = events_all o }

-- ---- the way back
pub leads-push : (from : ℕ → Option ℕ) (here : Option ℕ) (is : List ℕ) (j : ℕ) → Leads from here is (Some j) → Leads from here (is ++ j ∷ []) (from j)
leads-push from here [] j h = (h, refl)
leads-push from here (i ∷ is) j h = (h.0, leads-push from (from i) is j h.1)

-- an event, where there is one, and the number behind it
abbrev pub number_behind : Option ℕ → ℕ
number_behind None = 0
number_behind (Some j) = j + 1

pub none_marked : (ts : List Turn) (d : Delays) → AreMarked ts d [] 0
none_marked ts d =
    record {
      count = refl;
      each = λ j h. absurd (omega arith);
      most = λ j h. absurd (omega arith);
      ranks = λ j h. absurd (omega arith);
      events = λ j h. absurd (omega arith);
    }

-- ---- the steps of the code
pub pass_step : (ts : List Turn) (d : Delays) (ms : List Mark) (n : ℕ) (m : Mark) (new : List Mark) → AreFew d → AreMarked ts d ms n
    → m ≡ marked (finish_in ms) d (links_of ts n) (turn_at ts n).rank → new ≡ ms ++ m ∷ [] → AreMarked ts d new (n + 1)
pass_step ts d ms n m new few so e g =
    let P : ℕ → Type 0 = λ k. AreMarked ts d ms k → m ≡ marked (finish_in ms) d (links_of ts k) (turn_at ts k).rank → AreMarked ts d new (k + 1) in
    subst P so.count (λ so2 f.
    subst (λ x. AreMarked ts d x (length ms + 1)) (sym (g ∙ ap (λ x. ms ++ x ∷ []) f))
    (marked_more ts d ms few so2 (best_way (finish_in ms) d.bits (links_of ts (length ms))) refl)) so e

-- no finish is large
pub finishes_few : (ts : List Turn) (d : Delays) (ms : List Mark) (n : ℕ) → n ≤ 500000 → AreMarked ts d ms n
    → (j : ℕ) → j < length ms → finish_in ms j ≤ 1000000000000
finishes_few ts d ms n few so j h =
    let c : length ms ≡ n = so.count in
    let most : finish_in ms j ≤ 2000000 * (j + 1) = so.most j (omega arith) in
    omega arith

pub back_step : (from : ℕ → Option ℕ) (here : Option ℕ) (is new : List ℕ) (next : Option ℕ) (j : ℕ)
    → next ≡ Some j → new ≡ is ++ j ∷ [] → Leads from here is next → Leads from here new (from j)
back_step from here is new next j e f h =
    subst (λ x. Leads from here x (from j)) (sym f) (leads-push from here is j (subst (λ o. Leads from here is o) e h))

pub below_on : (j n : ℕ) (o : Option ℕ) → j < n → IsBelow j o → IsBelow n o
below_on j n None lt h = tt
below_on j n (Some i) lt h = omega arith
