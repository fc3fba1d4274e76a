-- Opening a desk, making passes and taking them in keep the rule, and what the rule says at the end
use Rattle.std.proofs.Common.{◌≡◌, ℕ, zero, suc, ◌+◌, ◌-◌, ◌<◌, ◌≤◌, ◌==◌, List, [], ◌∷◌, ◌++◌, length, set, sym, refl, ap, ◌∙◌, subst, ⊎_elim, inl, arith}
use Rattle.std.specs.Prelude.{Option, Some, slice_get}
use mathlib.Core.Logic.{dite}
use mathlib.Core.Option.{some, none, some-injective, some-ne-none}
use native.Mathlib.Decide.{ℕ_discrete}
use lib.ListN.{get_elem?}
use Rattle.atomic_table.specs.Table.{State, Me, Splits, Joins, opening, Final, Seen}
use Rattle.atomic_table.proofs.Lists.{at_set}
use Rattle.qm_lock.specs.declared.views.View.{View}
use Rattle.qm_lock.specs.declared.views.Tally.{Tally}
use Rattle.qm_lock.specs.declared.views.Stage.{Stage}
use Rattle.qm_lock.specs.declared.views.Stage.TheVariants.{Idle, Waiting, Served}
use Rattle.qm_lock.specs.Lists.{times, when}
use Rattle.qm_lock.specs.Views.{tally, view, fresh, first_view, spent, without_first, only_first, together, tickets, in_turn, numbered, counted, AllSeen}
use Rattle.qm_lock.specs.Rule.{total, Knows, IsSlot, IsDesk, Ended}
use Rattle.qm_lock.proofs.Totals.{others, total_at, total_snoc, others_zero, moved, each_set, each_snoc, one_if, none_if, all_if}
use Rattle.qm_lock.proofs.Line.{line_kept, line_longer}
use Rattle.qm_lock.proofs.Journal.{parts, made, journal_cut, journal_joined, all_seen-append}

-- ---- fresh tallies
few_numbers : (r n m : ℕ) → (r < n → numbered r (fresh n m) ≡ 0) × (numbered r (fresh n m) ≤ 1)
few_numbers r n zero = ((λ _. refl), omega arith)
few_numbers r n (suc m) = let h = few_numbers r (n + 1) m in dite (ℕ_discrete n r)
    (λ e. let a : when (n == r) 1 ≡ 1 = one_if n r e in let b : numbered r (fresh (n + 1) m) ≡ 0 = h.0 (omega arith) in ((λ l. absurd (omega arith)), omega arith))
    (λ ne. let a : when (n == r) 1 ≡ 0 = none_if n r 1 ne in let c = h.1 in ((λ l. let b : numbered r (fresh (n + 1) m) ≡ 0 = h.0 (omega arith) in omega arith), omega arith))

pub none_fresh : (r n m : ℕ) → counted r (fresh n m) ≡ 0
none_fresh r n zero = refl
none_fresh r n (suc m) = let h = none_fresh r (n + 1) m in let a : when (n == r) 0 ≡ 0 = dite (ℕ_discrete n r) (λ e. all_if n r 0 e) (λ ne. none_if n r 0 ne) in omega arith

none_seen : (n m : ℕ) → AllSeen [] (fresh n m)
none_seen n zero = tt
none_seen n (suc m) = (([], refl), none_seen (n + 1) m)

pub fresh_more : (n : ℕ) → n < 16 → fresh n (16 - n) ≡ tally n 0 [] ∷ fresh (n + 1) (16 - (n + 1))
fresh_more n h = let e : 16 - n ≡ suc (16 - (n + 1)) = omega arith in ap (λ k. fresh n k) e

pub fresh_length : (n m : ℕ) → length (fresh n m) ≡ m
fresh_length n zero = refl
fresh_length n (suc m) = ap suc (fresh_length (n + 1) m)

module _ {V O : Type 0} (op : V → O) (tn : V → List ℕ) (o : V) where
  abbrev Rule : State (Option V) (View V) → Type 0
  Rule = IsDesk op tn o

  abbrev served_now : View V → ℕ
  served_now v = in_turn v.stage

  opens : (xs : List (Option V)) → xs ≡ Some o ∷ [] → tn o ≡ [] → Rule (opening (0 ∷ 0 ∷ 0 ∷ []) xs (first_view o))
  unfolding first_view
  opens xs e none_yet = let P : List (Option V) → Type 0 = λ z. Rule (opening (0 ∷ 0 ∷ 0 ∷ []) z (first_view o)) in subst P (sym e) record {
    drawn = 0;
    served = 0;
    journal = [];
    words = refl;
    line = record {
      over = λ k below. refl;
      in_line = λ k from below. absurd (omega arith);
      undrawn = λ k above. refl;
      count = refl;
    };
    entries = record {
      seats = refl;
      numbers = λ r. let h = (few_numbers r 0 16).1 in omega arith;
      counts = λ r. let h = none_fresh r 0 16 in omega arith;
      longest = (0, first_view o, refl, inl refl);
    };
    each = λ i v at. only i v at;
    slot = inl (refl, (o, refl, refl, none_yet));
  }
    where
      only : (i : ℕ) (v : View V) → get_elem? (first_view o ∷ []) i ≡ some v → Knows o 0 [] v
      only zero v at = subst (Knows o 0 []) (some-injective (first_view o) v at) record { start_is = λ _. refl; all_seen = none_seen 0 16; one_ticket = omega arith; seen_all = tt }
      only (suc i) v at = absurd (some-ne-none v (sym at))

  -- step 7
  module _ (id : ℕ) (o' : Option V) (t : Tally) (ts : List Tally) where
    splitting : Splits Rule id (view o' (t ∷ ts) Idle) (view o' ts Idle) (view o' (t ∷ []) Idle)
    splitting s r at =
        let v : View V = view o' (t ∷ ts) Idle in
        let left : View V = view o' ts Idle in
        let right : View V = view o' (t ∷ []) Idle in
        let vs : List (View V) = set s.views id left in
        let fits = r.each id v at in
        record {
          drawn = r.drawn;
          served = r.served;
          journal = r.journal;
          words = r.words;
          line = line_longer r.served r.drawn vs o' (t ∷ []) (line_kept r.served r.drawn s.views id v left at (λ _. refl) refl r.line);
          entries = journal_cut r.journal s.views id o' t ts at r.entries;
          each = each_snoc (Knows o r.served r.journal) vs right
              (each_set (Knows o r.served r.journal) (Knows o r.served r.journal) s.views id left r.each (λ _ _ _ _ h. h)
              record { start_is = λ _. fits.start_is (omega arith); all_seen = fits.all_seen.1; one_ticket = omega arith; seen_all = tt })
              record { start_is = λ _. fits.start_is (omega arith); all_seen = (fits.all_seen.0, tt); one_ticket = omega arith; seen_all = tt };
          slot = let a = moved served_now s.views id v left at in let b = total_snoc served_now vs right in
              let e : total served_now s.views ≡ total served_now (vs ++ right ∷ []) = omega arith in subst (IsSlot op tn o r.journal s.homes) e r.slot;
        }

  -- step 8
  module _ (id : ℕ) (o1 : Option V) (ts : List Tally) (other : ℕ) (o2 : Option V) (t : Tally) where
    joining : Joins Rule id (view o1 ts Idle) other (view o2 (t ∷ []) Idle) (view o2 (ts ++ t ∷ []) Idle) spent
    joining s r at apart at' =
        let v : View V = view o1 ts Idle in
        let w : View V = view o2 (t ∷ []) Idle in
        let both : View V = view o2 (ts ++ t ∷ []) Idle in
        let vs : List (View V) = set s.views id both in
        let was : get_elem? s.views other ≡ some w = ⊎_elim (λ x. absurd (apart x.0)) (λ x. x.1) (at_set s.views id other both w at') in
        let mine = r.each id v at in
        let theirs = r.each other w was in
        record {
          drawn = r.drawn;
          served = r.served;
          journal = r.journal;
          words = r.words;
          line = line_kept r.served r.drawn vs other w spent at' (λ _. refl) refl (line_kept r.served r.drawn s.views id v both at (λ _. refl) refl r.line);
          entries = journal_joined r.journal s.views id o1 ts other o2 t at apart was at' r.entries;
          each = each_set (Knows o r.served r.journal) (Knows o r.served r.journal) vs other spent
              (each_set (Knows o r.served r.journal) (Knows o r.served r.journal) s.views id both r.each (λ _ _ _ _ h. h)
              record { start_is = λ _. theirs.start_is (omega arith); all_seen = all_seen-append r.journal ts (t ∷ []) mine.all_seen theirs.all_seen; one_ticket = omega arith; seen_all = tt })
              (λ _ _ _ _ h. h)
              record { start_is = λ h. absurd (omega arith); all_seen = tt; one_ticket = omega arith; seen_all = tt };
          slot = let a = moved served_now s.views id v both at in let b = moved served_now vs other w spent at' in
              let e : total served_now s.views ≡ total served_now (set vs other spent) = omega arith in subst (IsSlot op tn o r.journal s.homes) e r.slot;
        }

  -- at the end: one seat has all tallies
  ends : (id : ℕ) (o' : Option V) (ts : List Tally) (ws : List ℕ) (xs : List (Option V)) (found : Option V) → length ts ≡ 16 → Final (Seen Rule id (view o' ts Idle)) ws xs → get_elem? xs 0 ≡ some found
      → (x : V) × (found ≡ Some x) × Ended op tn o ts x
  ends id o' ts ws xs found all (s, seen, _, _, homes) here =
      let r : Rule s = seen.0 in
      let v : View V = view o' ts Idle in
      let at : get_elem? s.views id ≡ some v = seen.1 in
      let mine = total_at parts s.views id v at in
      let all_parts = r.entries.seats in
      let none_left : others parts s.views id ≡ 0 = omega arith in
      let quiet : others served_now s.views id ≡ 0 =
      others_zero parts served_now s.views id (λ j u q z. no_turn u.stage (let h = (r.each j u q).one_ticket in omega arith)) none_left in
      let busy = total_at served_now s.views id v at in
      let uncounted : (k : ℕ) → others (made k) s.views id ≡ 0 = λ k. others_zero parts (made k) s.views id (λ j u q z. no_tally k u.tallies z) none_left in
      ⊎_elim
      (λ home. let h = home.1 in let e : some (Some h.0) ≡ some found = sym (homes 0 (Some h.0) (ap (λ (hs : List (mathlib.Core.Option.Option (Option V))). get_elem? hs 0) h.1)) ∙ here in (
        h.0,
        sym (some-injective (Some h.0) found e),
        record {
          opening = h.2;
          all_seen = subst (λ (j : List ℕ). AllSeen j ts) (sym h.3) (r.each id v at).all_seen;
          counts = λ k. ap (times k) h.3 ∙ (let a = r.entries.counts k in let b = total_at (made k) s.views id v at in let z = uncounted k in omega arith);
        },
      ))
      (λ out. let q = out.0 in absurd (omega arith)) r.slot
    where
      no_turn : (st : Stage) → tickets st ≤ 0 → in_turn st ≡ 0
      no_turn Idle h = refl
      no_turn (Waiting j) h = refl
      no_turn (Served j) h = absurd (omega arith)

      no_tally : (k : ℕ) (us : List Tally) → length us ≡ 0 → counted k us ≡ 0
      no_tally k [] z = refl
      no_tally k (u ∷ us) z = absurd (omega arith)

  -- the same at seats which are known to be so
  pub join_at : (id : ℕ) (v : View V) (other : ℕ) (w : View V) (o1 : Option V) (ts : List Tally) (o2 : Option V) (t : Tally) → v ≡ view o1 ts Idle → w ≡ view o2 (t ∷ []) Idle → Joins Rule id v other w (together v w) spent
  join_at id v other w o1 ts o2 t e f = subst (λ (z : View V). Joins Rule id z other w (together z w) spent) (sym e)
      (subst (λ (z : View V). Joins Rule id (view o1 ts Idle) other z (together (view o1 ts Idle) z) spent) (sym f) (joining id o1 ts other o2 t))

  pub split_at : (id : ℕ) (v : View V) (o1 : Option V) (t : Tally) (ts : List Tally) → v ≡ view o1 (t ∷ ts) Idle → Splits Rule id v (without_first v) (only_first v)
  split_at id v o1 t ts e = subst (λ (z : View V). Splits Rule id z (without_first z) (only_first z)) (sym e) (splitting id o1 t ts)

  pub ends_at : (id : ℕ) (v : View V) (o' : Option V) (ts : List Tally) (ws : List ℕ) (xs : List (Option V)) (found : Option V) → v ≡ view o' ts Idle → length ts ≡ 16 → Final (Seen Rule id v) ws xs → get_elem? xs 0 ≡ some found
      → (x : V) × (found ≡ Some x) × Ended op tn o ts x
  ends_at id v o' ts ws xs found e all final here = ends id o' ts ws xs found all (subst (λ (z : View V). Final (Seen Rule id z) ws xs) e final) here

-- a desk opens with its value, which the key shows
pub opens_at : {V O : Type 0} (op : V → O) (tn : V → List ℕ) (x k : V) → k ≡ x → (xs : List (Option V)) → xs ≡ Some x ∷ [] → tn x ≡ []
    → IsDesk op tn k (opening (0 ∷ 0 ∷ 0 ∷ []) xs (first_view k))
opens_at op tn x k is xs e none_yet = opens op tn k xs (e ∙ ap (λ z. Some z ∷ []) (sym is)) (ap tn is ∙ none_yet)

module _ {V : Type 0} where
  pub first_seat : (m : Me (Option V) (View V)) (o : V) → m ≡ (first_view o, []) → m ≡ (view (Some o) (fresh 0 16) Idle, [])
  unfolding first_view
  first_seat m o e = e

  pub join_step : (m n : Me (Option V) (View V)) (w : View V) (ts : List Tally) (o2 : Option V) (t : Tally) → m ≡ (view m.0.start ts Idle, []) → w ≡ view o2 (t ∷ []) Idle → n ≡ (together m.0 w, m.1)
      → n ≡ (view n.0.start (ts ++ t ∷ []) Idle, [])
  join_step m n w ts o2 t e f q =
      let a : n ≡ (view o2 (ts ++ t ∷ []) Idle, []) = q ∙ (ap (λ (z : Me (Option V) (View V)). (together z.0 w, z.1)) e ∙ ap (λ (z : View V). (together (view m.0.start ts Idle) z, [])) f) in
      a ∙ ap (λ (z : Me (Option V) (View V)). (view z.0.start (ts ++ t ∷ []) Idle, [])) (sym a)

  pub split_left : (m n : Me (Option V) (View V)) (o1 : Option V) (t : Tally) (ts : List Tally) → m ≡ (view o1 (t ∷ ts) Idle, []) → n ≡ (without_first m.0, m.1) → n ≡ (view o1 ts Idle, [])
  split_left m n o1 t ts e q = q ∙ ap (λ (z : Me (Option V) (View V)). (without_first z.0, z.1)) e

  pub split_right : (m n : Me (Option V) (View V)) (o1 : Option V) (t : Tally) (ts : List Tally) → m ≡ (view o1 (t ∷ ts) Idle, []) → n ≡ (only_first m.0, []) → n ≡ (view o1 (t ∷ []) Idle, [])
  split_right m n o1 t ts e q = q ∙ ap (λ (z : Me (Option V) (View V)). (only_first z.0, [])) e
