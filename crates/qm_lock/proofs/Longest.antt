-- Some seat has seen the whole journal
use Rattle.std.proofs.Common.{◌≡◌, ◌≢◌, ℕ, zero, suc, ◌⊎◌, List, [], ◌∷◌, ◌++◌, length, set, sym, refl, ap, ◌∙◌, subst, ⊎_elim, inl, inr}
use mathlib.Core.Logic.{dite}
use mathlib.Core.Option.{some, some-injective, some-ne-none}
use native.Mathlib.Decide.{ℕ_discrete}
use lib.ListN.{get_elem?}
use Rattle.atomic_table.proofs.Lists.{set_else, at_longer, at_last}
use Rattle.qm_lock.specs.declared.views.View.{View}
use Rattle.qm_lock.specs.declared.views.Tally.{Tally}
use Rattle.qm_lock.specs.Views.{Sees}
use Rattle.qm_lock.specs.Rule.{SomeSees}

module _ {V : Type 0} where
  pub here : (vs : List (View V)) (i : ℕ) (v w : View V) → get_elem? vs i ≡ some v → get_elem? (set vs i w) i ≡ some w
  here [] i v w e = absurd (some-ne-none v (sym e))
  here (x ∷ xs) zero v w e = refl
  here (x ∷ xs) (suc i) v w e = here xs i v w e

  -- the view that changed has seen it
  pub now_sees : (journal : List ℕ) (vs : List (View V)) (i : ℕ) (v w : View V) → get_elem? vs i ≡ some v → Sees journal w.tallies → SomeSees journal (set vs i w)
  now_sees journal vs i v w at sees = (i, w, here vs i v w at, sees)

  -- the view that changed has seen it if it had
  pub still_sees : (journal : List ℕ) (vs : List (View V)) (i : ℕ) (v w : View V) → get_elem? vs i ≡ some v → (Sees journal v.tallies → Sees journal w.tallies) → SomeSees journal vs → SomeSees journal (set vs i w)
  still_sees journal vs i v w at keeps (j, u, e, sees) = dite (ℕ_discrete j i)
      (λ same. let q : u ≡ v = some-injective u v (sym e ∙ (ap (get_elem? vs) same ∙ at)) in now_sees journal vs i v w at (keeps (subst (λ (z : View V). Sees journal z.tallies) q sees)))
      (λ other. (j, u, set_else vs i j w other ∙ e, sees))

  pub more_views : (journal : List ℕ) (vs : List (View V)) (w : View V) → SomeSees journal vs → SomeSees journal (vs ++ w ∷ [])
  more_views journal vs w (j, u, e, sees) = (j, u, at_longer vs (w ∷ []) j u e, sees)

  -- a view that is cut in two
  pub cut_sees : (journal : List ℕ) (vs : List (View V)) (i : ℕ) (v left right : View V) → get_elem? vs i ≡ some v → (Sees journal v.tallies → Sees journal left.tallies ⊎ Sees journal right.tallies) → SomeSees journal vs
      → SomeSees journal (set vs i left ++ right ∷ [])
  cut_sees journal vs i v left right at cuts (j, u, e, sees) = dite (ℕ_discrete j i)
      (λ same. let q : u ≡ v = some-injective u v (sym e ∙ (ap (get_elem? vs) same ∙ at)) in ⊎_elim
      (λ l. more_views journal (set vs i left) right (now_sees journal vs i v left at l))
      (λ r. (length (set vs i left), right, at_last (set vs i left) right (length (set vs i left)) refl, r))
      (cuts (subst (λ (z : View V). Sees journal z.tallies) q sees)))
      (λ other. more_views journal (set vs i left) right (j, u, set_else vs i j left other ∙ e, sees))

  -- two views that are put together: the first has both, and the second nothing
  pub joined_sees : (journal : List ℕ) (vs : List (View V)) (i : ℕ) (v both : View V) (j : ℕ) (w spent : View V) → get_elem? vs i ≡ some v → j ≢ i → get_elem? vs j ≡ some w
      → (Sees journal v.tallies → Sees journal both.tallies) → (Sees journal w.tallies → Sees journal both.tallies) → SomeSees journal vs → SomeSees journal (set (set vs i both) j spent)
  joined_sees journal vs i v both j w spent at apart at' first second (k, u, e, sees) = dite (ℕ_discrete k i)
      (λ same. let q : u ≡ v = some-injective u v (sym e ∙ (ap (get_elem? vs) same ∙ at)) in there (first (subst (λ (z : View V). Sees journal z.tallies) q sees)))
      (λ other. dite (ℕ_discrete k j)
      (λ same. let q : u ≡ w = some-injective u w (sym e ∙ (ap (get_elem? vs) same ∙ at')) in there (second (subst (λ (z : View V). Sees journal z.tallies) q sees)))
      (λ another. (k, u, set_else (set vs i both) j k spent another ∙ (set_else vs i k both other ∙ e), sees)))
    where
      there : Sees journal both.tallies → SomeSees journal (set (set vs i both) j spent)
      there s = (i, both, set_else (set vs i both) j i spent (λ e. apart (sym e)) ∙ here vs i v both at, s)

pub sees_left : (journal : List ℕ) (ts us : List Tally) → Sees journal ts → Sees journal (ts ++ us)
sees_left journal [] us h = absurd h
sees_left journal (t ∷ ts) us (inl e) = inl e
sees_left journal (t ∷ ts) us (inr h) = inr (sees_left journal ts us h)

pub sees_right : (journal : List ℕ) (ts us : List Tally) → Sees journal us → Sees journal (ts ++ us)
sees_right journal [] us h = h
sees_right journal (t ∷ ts) us h = inr (sees_right journal ts us h)
