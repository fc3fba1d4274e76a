-- The journal, as seats change
use Rattle.std.proofs.Common.{◌≡◌, ◌≢◌, ℕ, ◌+◌, ◌==◌, List, [], ◌∷◌, ◌++◌, length, set, refl, ap, ◌∙◌, ⊎_elim, inl, inr, arith, length-append, append_assoc}
use Rattle.std.specs.Prelude.{Option}
use mathlib.Core.Logic.{dite}
use mathlib.Core.Option.{some}
use native.Mathlib.Decide.{ℕ_discrete}
use lib.ListN.{get_elem?}
use Rattle.qm_lock.specs.declared.views.View.{View}
use Rattle.qm_lock.specs.declared.views.Tally.{Tally}
use Rattle.qm_lock.specs.declared.views.Stage.{Stage}
use Rattle.qm_lock.specs.declared.views.Stage.TheVariants.{Idle}
use Rattle.qm_lock.specs.Lists.{when, times}
use Rattle.qm_lock.specs.Views.{view, more, spent, numbered, counted, AllSeen, Sees}
use Rattle.qm_lock.specs.Rule.{IsJournal}
use Rattle.qm_lock.proofs.Totals.{others, total_at, total_snoc, others_zero, moved, kept, one_if, none_if, all_if}
use Rattle.qm_lock.proofs.Times.{times-snoc}
use Rattle.qm_lock.proofs.Longest.{now_sees, still_sees, cut_sees, joined_sees, sees_left, sees_right}

pub numbered-append : (r : ℕ) (ts us : List Tally) → numbered r (ts ++ us) ≡ numbered r ts + numbered r us
numbered-append r [] us = omega arith
numbered-append r (t ∷ ts) us = let h = numbered-append r ts us in omega arith

pub counted-append : (r : ℕ) (ts us : List Tally) → counted r (ts ++ us) ≡ counted r ts + counted r us
counted-append r [] us = omega arith
counted-append r (t ∷ ts) us = let h = counted-append r ts us in omega arith

pub all_seen-append : (journal : List ℕ) (ts us : List Tally) → AllSeen journal ts → AllSeen journal us → AllSeen journal (ts ++ us)
all_seen-append journal [] us a b = b
all_seen-append journal (t ∷ ts) us a b = (a.0, all_seen-append journal ts us a.1 b)

pub all_seen_longer : (journal : List ℕ) (x : ℕ) (ts : List Tally) → AllSeen journal ts → AllSeen (journal ++ x ∷ []) ts
all_seen_longer journal x [] h = tt
all_seen_longer journal x (u ∷ us) ((after, is), h) = ((after ++ x ∷ [], ap (λ l. l ++ x ∷ []) is ∙ append_assoc u.seen after (x ∷ [])), all_seen_longer journal x us h)

none_counted : (r : ℕ) (ts : List Tally) → numbered r ts ≡ 0 → counted r ts ≡ 0
none_counted r [] z = refl
none_counted r (u ∷ us) z = dite (ℕ_discrete u.number r)
    (λ e. let y : when (u.number == r) 1 ≡ 1 = one_if u.number r e in absurd (omega arith))
    (λ ne. let y : when (u.number == r) u.count ≡ 0 = none_if u.number r u.count ne in let w = none_counted r us (omega arith) in omega arith)

module _ {V : Type 0} where
  abbrev pub parts : View V → ℕ
  parts v = length v.tallies

  abbrev pub has : ℕ → View V → ℕ
  has r v = numbered r v.tallies

  abbrev pub made : ℕ → View V → ℕ
  made r v = counted r v.tallies

  -- a seat that keeps the numbers and the counts of its tallies, and has seen the journal if it had
  pub journal_kept : (journal : List ℕ) (vs : List (View V)) (i : ℕ) (v w : View V) → get_elem? vs i ≡ some v
      → parts w ≡ parts v → ((r : ℕ) → has r w ≡ has r v) → ((r : ℕ) → made r w ≡ made r v) → (Sees journal v.tallies → Sees journal w.tallies)
      → IsJournal journal vs → IsJournal journal (set vs i w)
  journal_kept journal vs i v w at same_parts same_numbers same_counts sees entries = record {
    seats = kept parts vs i v w at same_parts ∙ entries.seats;
    numbers = λ r. let m = kept (has r) vs i v w at (same_numbers r) in let z = entries.numbers r in omega arith;
    counts = λ r. kept (made r) vs i v w at (same_counts r) ∙ entries.counts r;
    longest = still_sees journal vs i v w at sees entries.longest;
  }

  -- a seat that has seen the whole journal adds an entry
  pub journal_longer : (journal : List ℕ) (vs : List (View V)) (i : ℕ) (o : Option V) (t : Tally) (st : Stage) → get_elem? vs i ≡ some (view o (t ∷ []) st) → t.seen ≡ journal
      → IsJournal journal vs → IsJournal (journal ++ t.number ∷ []) (set vs i (view o (more t ∷ []) st))
  journal_longer journal vs i o t st at seen entries =
      let v : View V = view o (t ∷ []) st in
      let w : View V = view o (more t ∷ []) st in record {
        seats = kept parts vs i v w at refl ∙ entries.seats;
        numbers = λ r. let m = kept (has r) vs i v w at refl in let z = entries.numbers r in omega arith;
        counts = λ r. let m = moved (made r) vs i v w at in let z = entries.counts r in let y = times-snoc r journal t.number in dite (ℕ_discrete t.number r)
            (λ e. let a : when (t.number == r) 1 ≡ 1 = one_if t.number r e in let b : when (t.number == r) t.count ≡ t.count = all_if t.number r t.count e in
            let d : when (t.number == r) (t.count + 1) ≡ t.count + 1 = all_if t.number r (t.count + 1) e in omega arith)
            (λ ne. let a : when (t.number == r) 1 ≡ 0 = none_if t.number r 1 ne in let b : when (t.number == r) t.count ≡ 0 = none_if t.number r t.count ne in
            let d : when (t.number == r) (t.count + 1) ≡ 0 = none_if t.number r (t.count + 1) ne in omega arith);
        longest = now_sees (journal ++ t.number ∷ []) vs i v w at (inl (ap (λ l. l ++ t.number ∷ []) seen));
      }

  -- a seat gives its first tally to a new one
  pub journal_cut : (journal : List ℕ) (vs : List (View V)) (i : ℕ) (o : Option V) (t : Tally) (ts : List Tally) → get_elem? vs i ≡ some (view o (t ∷ ts) Idle)
      → IsJournal journal vs → IsJournal journal (set vs i (view o ts Idle) ++ view o (t ∷ []) Idle ∷ [])
  journal_cut journal vs i o t ts at entries =
      let v : View V = view o (t ∷ ts) Idle in
      let left : View V = view o ts Idle in
      let right : View V = view o (t ∷ []) Idle in
      let here = λ (f : View V → ℕ). moved f vs i v left at in
      let last = λ (f : View V → ℕ). total_snoc f (set vs i left) right in record {
        seats = let a = here parts in let b = last parts in let z = entries.seats in omega arith;
        numbers = λ r. let a = here (has r) in let b = last (has r) in let z = entries.numbers r in omega arith;
        counts = λ r. let a = here (made r) in let b = last (made r) in let z = entries.counts r in omega arith;
        longest = cut_sees journal vs i v left right at (λ (h : Sees journal (t ∷ ts)). ⊎_elim (λ e. inr (inl e)) (λ l. inl l) h) entries.longest;
      }

  -- a seat takes in the tally of another, which is spent
  pub journal_joined : (journal : List ℕ) (vs : List (View V)) (i : ℕ) (o1 : Option V) (ts : List Tally) (j : ℕ) (o2 : Option V) (t : Tally) → get_elem? vs i ≡ some (view o1 ts Idle) → j ≢ i
      → get_elem? vs j ≡ some (view o2 (t ∷ []) Idle) → get_elem? (set vs i (view o2 (ts ++ t ∷ []) Idle)) j ≡ some (view o2 (t ∷ []) Idle)
      → IsJournal journal vs → IsJournal journal (set (set vs i (view o2 (ts ++ t ∷ []) Idle)) j spent)
  journal_joined journal vs i o1 ts j o2 t at apart at_j at_j' entries =
      let v : View V = view o1 ts Idle in
      let w : View V = view o2 (t ∷ []) Idle in
      let both : View V = view o2 (ts ++ t ∷ []) Idle in
      let here = λ (f : View V → ℕ). moved f vs i v both at in
      let there = λ (f : View V → ℕ). moved f (set vs i both) j w spent at_j' in record {
        seats = let a = here parts in let b = there parts in let z = entries.seats in let l = length-append ts (t ∷ []) in omega arith;
        numbers = λ r. let a = here (has r) in let b = there (has r) in let z = entries.numbers r in let l = numbered-append r ts (t ∷ []) in omega arith;
        counts = λ r. let a = here (made r) in let b = there (made r) in let z = entries.counts r in let l = counted-append r ts (t ∷ []) in omega arith;
        longest = joined_sees journal vs i v both j w spent at apart at_j (λ h. sees_left journal ts (t ∷ []) h) (λ h. sees_right journal ts (t ∷ []) h) entries.longest;
      }

  -- the journal has a pass's number as often as the pass counts
  pub counts_own : (journal : List ℕ) (vs : List (View V)) (i : ℕ) (o : Option V) (t : Tally) (st : Stage) → get_elem? vs i ≡ some (view o (t ∷ []) st) → IsJournal journal vs
      → times t.number journal ≡ t.count
  counts_own journal vs i o t st at entries =
      let v : View V = view o (t ∷ []) st in
      let a = total_at (has t.number) vs i v at in
      let b = total_at (made t.number) vs i v at in
      let one : when (t.number == t.number) 1 ≡ 1 = one_if t.number t.number refl in
      let all : when (t.number == t.number) t.count ≡ t.count = all_if t.number t.number t.count refl in
      let few = entries.numbers t.number in
      let rest : others (made t.number) vs i ≡ 0 = others_zero (has t.number) (made t.number) vs i (λ j u q z. none_counted t.number u.tallies z) (omega arith) in
      let z = entries.counts t.number in omega arith
