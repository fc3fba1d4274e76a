-- The steps of `take` and `give` keep the rule
use Rattle.std.proofs.Common.{◌≡◌, ℕ, ◌+◌, ◌%◌, ◌^◌, ◌<◌, ◌≤◌, List, [], ◌∷◌, ◌++◌, length, get_or, set, sym, refl, ap, ◌∙◌, subst, ⊎_elim, inl, inr, arith, append-nil, length-append}
use Rattle.std.proofs.Math.Nat.{mod-add-mod}
use Rattle.std.specs.Prelude.{Option, Some}
use mathlib.Core.Logic.{dite}
use mathlib.Core.Option.{some, none}
use native.Mathlib.Decide.{ℕ_discrete}
use lib.ListN.{get_elem?}
use lib.Seq.{set-get_or}
use Rattle.atomic_table.specs.Table.{State, Me, Act, Valid, step, stepped, carried_after, rest, keeps, takes, gives, Allows}
use Rattle.atomic_table.proofs.Lists.{set_again, one_turn}
use Rattle.qm_lock.specs.declared.views.View.{View}
use Rattle.qm_lock.specs.declared.views.Tally.{Tally}
use Rattle.qm_lock.specs.declared.views.Stage.{Stage}
use Rattle.qm_lock.specs.declared.views.Stage.TheVariants.{Idle, Waiting, Served}
use Rattle.qm_lock.specs.Views.{tally, view, own, more, in_turn, has_ticket}
use Rattle.qm_lock.specs.Rule.{total, HasSeenAll, Knows, IsSlot, IsDesk}
use Rattle.qm_lock.specs.Steps.{draws_ticket, TakesSlot, looks_for_turn, counts_entry, serves_next}
use Rattle.qm_lock.proofs.Totals.{others, total_at, others_zero, others_le, others_at, moved, kept, each_set, one_if}
use Rattle.qm_lock.proofs.Line.{holds, waits, line_kept, line_drawn, line_served, only_holder}
use Rattle.qm_lock.proofs.Journal.{parts, journal_kept, journal_longer, counts_own, all_seen_longer}

-- the next number, modulo 2 ^ 64
next : (n : ℕ) → (n % 2 ^ 64 + 1) % 2 ^ 64 ≡ (n + 1) % 2 ^ 64
next n = mod-add-mod n (2 ^ 64) 1

-- a seat that isn't served need not have seen all
not_served : (served : ℕ) (journal : List ℕ) (st : Stage) (ts : List Tally) → in_turn st ≡ 0 → HasSeenAll served journal st ts
not_served served journal Idle ts z = tt
not_served served journal (Waiting j) ts z = tt
not_served served journal (Served j) ts z = absurd (omega arith)

-- a seat without the ticket that is served isn't served
idles : (served k : ℕ) (journal : List ℕ) (st : Stage) (ts : List Tally) → HasSeenAll served journal st ts → k ≡ served → has_ticket k st ≡ 0 → in_turn st ≡ 0
idles served k journal Idle ts h e z = refl
idles served k journal (Waiting j) ts h e z = refl
idles served k journal (Served j) ts h e z = let y : has_ticket k (Served j) ≡ 1 = one_if k j (omega (arith, h.0)) in absurd (omega arith)

module _ {V O : Type 0} (op : V → O) (tn : V → List ℕ) (o : V) where
  abbrev Table : Type 0
  Table = State (Option V) (View V)

  abbrev Rule : Table → Type 0
  Rule = IsDesk op tn o

  abbrev served_now : View V → ℕ
  served_now v = in_turn v.stage

  -- the tickets in the line are few
  few : (s : Table) (r : Rule s) (i : ℕ) (v : View V) → get_elem? s.views i ≡ some v → total waits s.views ≤ 16
  few s r i v at = let a = total_at waits s.views i v at in let b = total_at parts s.views i v at in
      let c : others waits s.views i ≤ others parts s.views i = others_le waits parts s.views i (λ j u e. (r.each j u e).one_ticket) in
      let d = (r.each i v at).one_ticket in let e = r.entries.seats in omega arith

  module _ (n id : ℕ) (o' : Option V) (t : Tally) where
    -- step 1
    pub drawing : (c : List (ℕ × Option V)) → Allows Rule n id (view o' (t ∷ []) Idle, c) 0 (λ x. (x + 1) % 2 ^ 64) (draws_ticket {V = V} (step n 0 1 0 none) (view o' (t ∷ []) Idle, c))
    drawing c s r long at low =
        let v : View V = view o' (t ∷ []) Idle in
        let k : ℕ = r.drawn in
        let w : View V = view o' (t ∷ []) (Waiting k) in
        let fits = r.each id v at in (
          w,
          keeps,
          tt,
          record {
            drawn = k + 1;
            served = r.served;
            journal = r.journal;
            words = ap (λ (ws : List ℕ). set ws 0 ((get_or ws 0 0 + 1) % 2 ^ 64)) r.words ∙ ap (λ (z : ℕ). z ∷ r.served % 2 ^ 64 ∷ length r.journal % 2 ^ 64 ∷ []) (next k);
            line = line_drawn r.served k s.views id o' o' (t ∷ []) (t ∷ []) at r.line;
            entries = journal_kept r.journal s.views id v w at refl (λ _. refl) (λ _. refl) (λ h. h) r.entries;
            each = each_set (Knows o r.served r.journal) (Knows o r.served r.journal) s.views id w r.each (λ _ _ _ _ h. h)
                record { start_is = fits.start_is; all_seen = fits.all_seen; one_ticket = omega arith; seen_all = tt };
            slot = subst (IsSlot op tn o r.journal s.homes) (sym (kept served_now s.views id v w at refl)) r.slot;
          },
          (k, ap (λ (ws : List ℕ). get_or ws 0 0) r.words, refl),
        )

    -- where the ticket that is served is this seat's, no other seat is served
    nobody : (k : ℕ) (s : Table) (r : Rule s) → k ≡ r.served → others (holds k) s.views id ≡ 0 → others served_now s.views id ≡ 0
    nobody k s r e z = others_zero (holds k) served_now s.views id (λ j u q. idles r.served k r.journal u.stage u.tallies (r.each j u q).seen_all e) z

    -- steps 2 and 3
    pub looking : (k : ℕ) → Allows Rule n id (view o' (t ∷ []) (Waiting k), []) 1 (λ x. x) (looks_for_turn op tn (step n 1 0 0 none) (view o' (t ∷ []) (Waiting k), []))
    looking k s r long at low =
        let v : View V = view o' (t ∷ []) (Waiting k) in
        let found : get_or s.words 1 0 ≡ r.served % 2 ^ 64 = ap (λ (ws : List ℕ). get_or ws 1 0) r.words in
        dite (ℕ_discrete (get_or s.words 1 0) (k % 2 ^ 64))
        (λ is.
        let mine = only_holder r.served r.drawn s.views id v k at (one_if k k refl) r.line in
        let line = r.line.count in
        let short = few s r id v at in
        let now : r.served ≡ k = one_turn r.served k (2 ^ 64) mine.0 (omega arith) (sym found ∙ is) in
        let quiet : others served_now s.views id ≡ 0 = nobody k s r (sym now) mine.2 in
        let all_quiet = total_at served_now s.views id v at in
        ⊎_elim (λ home. taken k s r at is now home) (λ out. let q = out.0 in absurd (omega arith)) r.slot)
        (λ is_not. (
          v,
          keeps,
          tt,
          subst (λ (vs : List (View V)). Rule record { words = set s.words 1 (get_or s.words 1 0); homes = s.homes; views = vs }) (sym (set_again s.views id v at))
              (subst (λ (ws : List ℕ). Rule record { words = ws; homes = s.homes; views = s.views }) (sym (set-get_or s.words 1 0)) r),
          inr (is_not, refl),
        ))
      where
        taken : (k : ℕ) (s : Table) (r : Rule s) (at : get_elem? s.views id ≡ some (view o' (t ∷ []) (Waiting k))) → get_or s.words 1 0 ≡ k % 2 ^ 64 → r.served ≡ k
            → ((total served_now s.views ≡ 0) × ((x : V) × (s.homes ≡ some (Some x) ∷ []) × (op x ≡ op o) × (tn x ≡ r.journal)))
            → (w : View V) × (a : Act (Option V)) × Valid s.homes [] a × Rule (stepped s 1 (get_or s.words 1 0) id [] w a)
            × looks_for_turn op tn (step n 1 0 0 none) (view o' (t ∷ []) (Waiting k), []) (get_or s.words 1 0) (w, carried_after [] a)
        taken k s r at is now (quiet, (x, homes_are, stands, lists)) =
            let v : View V = view o' (t ∷ []) (Waiting k) in
            let w : View V = view o' (tally t.number t.count r.journal ∷ []) (Served k) in
            let fits = r.each id v at in (
              w,
              takes 0 (Some x),
              ap (λ hs. get_elem? hs 0) homes_are,
              record {
                drawn = r.drawn;
                served = r.served;
                journal = r.journal;
                words = set-get_or s.words 1 0 ∙ r.words;
                line = line_kept r.served r.drawn s.views id v w at (λ _. refl) refl r.line;
                entries = journal_kept r.journal s.views id v w at refl (λ _. refl) (λ _. refl) (λ _. inl refl) r.entries;
                each = each_set (Knows o r.served r.journal) (Knows o r.served r.journal) s.views id w r.each (λ _ _ _ _ h. h)
                    record { start_is = fits.start_is; all_seen = (([], sym (append-nil r.journal)), tt); one_ticket = omega arith; seen_all = (sym now, (t.number, t.count, refl)) };
                slot = inr ((let m = moved served_now s.views id v w at in omega arith), ap (λ hs. set hs 0 none) homes_are);
              },
              inl (
                is,
                (
                  x,
                  r.journal,
                  refl,
                  (λ start e. let known : Some o ≡ Some start = sym (fits.start_is (omega arith)) ∙ e in let same : o ≡ start = cc in stands ∙ ap op same),
                  lists,
                  fits.all_seen.0,
                  counts_own r.journal s.views id o' t (Waiting k) at r.entries,
                ),
              ),
            )

    -- what the seat that is served knows: it has the ticket that is served, it has seen the journal, and the slot is out with it alone
    at_desk : (k : ℕ) (s : Table) (r : Rule s) → get_elem? s.views id ≡ some (view o' (t ∷ []) (Served k))
        → (k ≡ r.served) × (t.seen ≡ r.journal) × (k < r.drawn) × (others served_now s.views id ≡ 0) × (total served_now s.views ≡ 1) × (s.homes ≡ none ∷ [])
    at_desk k s r at =
        let mine = only_holder r.served r.drawn s.views id (view o' (t ∷ []) (Served k)) k at (one_if k k refl) r.line in
        let now = (r.each id (view o' (t ∷ []) (Served k)) at).seen_all in
        let list : (t ∷ []) ≡ tally now.1.0 now.1.1 r.journal ∷ [] = now.1.2 in
        let quiet : others served_now s.views id ≡ 0 = nobody k s r now.0 mine.2 in
        let one = total_at served_now s.views id (view o' (t ∷ []) (Served k)) at in (
          now.0,
          ap (λ (ts : List Tally). (own ts).seen) list,
          mine.1,
          quiet,
          omega arith,
          ⊎_elim (λ home. let q = home.0 in absurd (omega arith)) (λ out. out.1) r.slot,
        )

    -- step 4
    pub marking : (k : ℕ) (c : List (ℕ × Option V)) → Allows Rule n id (view o' (t ∷ []) (Served k), c) 2 (λ x. (x + 1) % 2 ^ 64) (counts_entry {V = V} (step n 2 1 0 none) (view o' (t ∷ []) (Served k), c))
    marking k c s r long at low =
        let v : View V = view o' (t ∷ []) (Served k) in
        let w : View V = view o' (more t ∷ []) (Served k) in
        let me = at_desk k s r at in
        let journal : List ℕ = r.journal ++ t.number ∷ [] in
        let fits = r.each id v at in
        let len : length journal ≡ length r.journal + 1 = length-append r.journal (t.number ∷ []) in (
          w,
          keeps,
          tt,
          record {
            drawn = r.drawn;
            served = r.served;
            journal = journal;
            words = ap (λ (ws : List ℕ). set ws 2 ((get_or ws 2 0 + 1) % 2 ^ 64)) r.words
                ∙ ap (λ (z : ℕ). r.drawn % 2 ^ 64 ∷ r.served % 2 ^ 64 ∷ z ∷ []) (next (length r.journal) ∙ ap (λ (z : ℕ). z % 2 ^ 64) (sym len));
            line = line_kept r.served r.drawn s.views id v w at (λ _. refl) refl r.line;
            entries = journal_longer r.journal s.views id o' t (Served k) at me.1 r.entries;
            each = each_set (Knows o r.served r.journal) (Knows o r.served journal) s.views id w r.each
                (λ j u other q h. record {
                  start_is = h.start_is;
                  all_seen = all_seen_longer r.journal t.number u.tallies h.all_seen;
                  one_ticket = h.one_ticket;
                  seen_all = not_served r.served journal u.stage u.tallies (let z = others_at served_now s.views id j u other q in let y = me.3 in omega arith);
                })
                record {
                  start_is = fits.start_is;
                  all_seen = (([], ap (λ l. l ++ t.number ∷ []) (sym me.1) ∙ sym (append-nil (t.seen ++ t.number ∷ []))), tt);
                  one_ticket = omega arith;
                  seen_all = (me.0, (t.number, t.count + 1, ap (λ l. tally t.number (t.count + 1) (l ++ t.number ∷ []) ∷ []) me.1));
                };
            slot = inr (kept served_now s.views id v w at refl ∙ me.4, me.5);
          },
          refl,
        )

    -- step 6
    pub serving_next : (k : ℕ) (x : V) → op x ≡ op o → tn x ≡ t.seen
        → Allows Rule n id (view o' (t ∷ []) (Served k), (0, Some x) ∷ []) 1 (λ z. (z + 1) % 2 ^ 64) (serves_next {V = V} (step n 1 1 0 none) (view o' (t ∷ []) (Served k), (0, Some x) ∷ []))
    serving_next k x stands lists s r long at low =
        let v : View V = view o' (t ∷ []) (Served k) in
        let w : View V = view o' (t ∷ []) Idle in
        let me = at_desk k s r at in
        let fits = r.each id v at in (
          w,
          gives,
          tt,
          record {
            drawn = r.drawn;
            served = r.served + 1;
            journal = r.journal;
            words = ap (λ (ws : List ℕ). set ws 1 ((get_or ws 1 0 + 1) % 2 ^ 64)) r.words
                ∙ ap (λ (z : ℕ). r.drawn % 2 ^ 64 ∷ z ∷ length r.journal % 2 ^ 64 ∷ []) (next r.served);
            line = line_served r.served r.drawn s.views id o' o' (t ∷ []) (t ∷ []) k me.0 me.2 at r.line;
            entries = journal_kept r.journal s.views id v w at refl (λ _. refl) (λ _. refl) (λ h. h) r.entries;
            each = each_set (Knows o r.served r.journal) (Knows o (r.served + 1) r.journal) s.views id w r.each
                (λ j u other q h. record {
                  start_is = h.start_is;
                  all_seen = h.all_seen;
                  one_ticket = h.one_ticket;
                  seen_all = not_served (r.served + 1) r.journal u.stage u.tallies (let z = others_at served_now s.views id j u other q in let y = me.3 in omega arith);
                })
                record { start_is = fits.start_is; all_seen = fits.all_seen; one_ticket = omega arith; seen_all = tt };
            slot = inl (
              (let m = moved served_now s.views id v w at in let y = me.4 in omega arith),
              (x, ap (λ hs. set hs 0 (some (Some x))) me.5, stands, lists ∙ me.1),
            );
          },
          refl,
        )

  -- the same at a seat which is known to be so
  module _ (n id : ℕ) (m : Me (Option V) (View V)) (o' : Option V) (t : Tally) where
    pub draw_at : (c : List (ℕ × Option V)) → m ≡ (view o' (t ∷ []) Idle, c) → Allows Rule n id m 0 (λ x. (x + 1) % 2 ^ 64) (draws_ticket {V = V} (step n 0 1 0 none) m)
    draw_at c e = subst (λ (z : Me (Option V) (View V)). Allows Rule n id z 0 (λ x. (x + 1) % 2 ^ 64) (draws_ticket {V = V} (step n 0 1 0 none) z)) (sym e) (drawing n id o' t c)

    pub look_at : (k : ℕ) → m ≡ (view o' (t ∷ []) (Waiting k), []) → Allows Rule n id m 1 (λ x. x) (looks_for_turn op tn (step n 1 0 0 none) m)
    look_at k e = subst (λ (z : Me (Option V) (View V)). Allows Rule n id z 1 (λ x. x) (looks_for_turn op tn (step n 1 0 0 none) z)) (sym e) (looking n id o' t k)

    pub mark_at : (k : ℕ) (c : List (ℕ × Option V)) → m ≡ (view o' (t ∷ []) (Served k), c) → Allows Rule n id m 2 (λ x. (x + 1) % 2 ^ 64) (counts_entry {V = V} (step n 2 1 0 none) m)
    mark_at k c e = subst (λ (z : Me (Option V) (View V)). Allows Rule n id z 2 (λ x. (x + 1) % 2 ^ 64) (counts_entry {V = V} (step n 2 1 0 none) z)) (sym e) (marking n id o' t k c)

    pub serve_at : (k : ℕ) (x : V) → m ≡ (view o' (t ∷ []) (Served k), (0, Some x) ∷ []) → op x ≡ op o → tn x ≡ t.seen → Allows Rule n id m 1 (λ x. (x + 1) % 2 ^ 64) (serves_next {V = V} (step n 1 1 0 none) m)
    serve_at k x e stands lists = subst (λ (z : Me (Option V) (View V)). Allows Rule n id z 1 (λ x. (x + 1) % 2 ^ 64) (serves_next {V = V} (step n 1 1 0 none) z)) (sym e) (serving_next n id o' t k x stands lists)

-- a seat that found its ticket served has the slot
module _ {V O : Type 0} (op : V → O) (tn : V → List ℕ) (k : ℕ) (o' : Option V) (t : Tally) (m w : Me (Option V) (View V)) (n : ℕ) (e : m ≡ (view o' (t ∷ []) (Waiting k), []))
    (l : looks_for_turn op tn (step 0 1 0 0 none) m n w) (is : n ≡ k % 2 ^ 64) where
  takes_here : TakesSlot op tn k o' t w
  takes_here = ⊎_elim (λ x. x.1) (λ y. absurd (y.0 is)) (subst (λ (z : Me (Option V) (View V)). looks_for_turn op tn (step 0 1 0 0 none) z n w) e l)

  pub slot_here : (x : Option V) × (w.1 ≡ (0, x) ∷ rest w.1)
  slot_here = let h = takes_here in let P : Me (Option V) (View V) → Type 0 = λ z. (x : Option V) × (z.1 ≡ (0, x) ∷ rest z.1) in subst P (sym h.2) (Some h.0, refl)
