-- Letters that a store does one after another
use Rattle.std.proofs.Common.{◌≡◌, ℕ, ◌+◌, ◌<◌, ◌≤◌, ◌⊎◌, inl, inr, false, List, [], ◌∷◌, ◌++◌, length, take, drop, get_or, Some, Result, Ok, Err, slice_get, refl, sym, ap, subst, ◌∙◌, arith}
use Rattle.std.proofs.lemmas.List.{length-take}
use Rattle.std.proofs.lemmas.Option.{slice_get_within, slice_get-get_or}
use Rattle.std.specs.Result.{OnOk, is_err}
use Rattle.qm_denot.specs.declared.Letter.{Letter}
use Rattle.qm_denot.specs.declared.Letter.TheVariants.{Phase}
use Rattle.qm_denot.specs.Circuits.{Circuit}
use Rattle.qm_denot.specs.Stores.{Store, StandsFor, MayApply, Overflows, live_after}
use Rattle.qm_proto.specs.Model.Ideal.{made_fresh}
use Rattle.qm_eval.specs.Live.{HasRoomFor, MakesLive, live_past, AllMayFollow, live_through}
use Rattle.qm_eval.specs.Overflows.{OverflowsAt, IsFirstOverflow, NeverOverflows}
use Rattle.qm_eval.proofs.OverflowLemmas.{may_grow, overflows_here, fits_here}
use Rattle.qm_ideal.specs.OneCircuits.{most_letters}

-- what stands for a letter past the end
abbrev pub no_letter : Letter
no_letter = Phase 0 (record { rank = 0; made = 0; near = false })

-- the store t has done the first n letters after s, none of which leaves the range, and the others may follow
pub record HasDone (s t : Store) (ls : List Letter) (n : ℕ) : Type 0 where
  pub stands : StandsFor t (take n ls)
  pub follow : AllMayFollow t.capacity t.live (drop n ls)
  pub live : live_through t.live (drop n ls) ≡ live_through s.live ls
  pub fits : (k : ℕ) → k < n → ¬ OverflowsAt ls k
  pub capacity : t.capacity ≡ s.capacity

pub done_none : (s : Store) (ls : List Letter) → StandsFor s [] → AllMayFollow s.capacity s.live ls → HasDone s s ls 0
done_none s ls stands follow = record {
  stands = subst (StandsFor s) (sym (take_none ls)) stands;
  follow = subst (AllMayFollow s.capacity s.live) (sym (drop_none ls)) follow;
  live = ap (live_through s.live) (drop_none ls);
  fits = λ k below. absurd (omega (arith, below));
  capacity = refl;
}
  where
    take_none : (ls : List Letter) → take 0 ls ≡ []
    take_none [] = refl
    take_none (l ∷ ls) = refl

    drop_none : (ls : List Letter) → drop 0 ls ≡ ls
    drop_none [] = refl
    drop_none (l ∷ ls) = refl

-- ---- one letter more
module _ (s t u : Store) (ls : List Letter) (n : ℕ) (l : Letter) (within : n < length ls) (read : slice_get ls n ≡ Some l)
    (rest : drop n ls ≡ l ∷ drop (n + 1) ls) (front : take (n + 1) ls ≡ take n ls ++ l ∷ []) (done : HasDone s t ls n) where
  follow_here : AllMayFollow t.capacity t.live (l ∷ drop (n + 1) ls)
  follow_here = subst (AllMayFollow t.capacity t.live) rest done.follow

  pub room_here : HasRoomFor (made_fresh l) t
  room_here = follow_here.0.room

  module _ (made : MakesLive (made_fresh l) t u) where
    stands_here : StandsFor u (take n ls)
    stands_here = made.stands (take n ls) done.stands

    pub may_here : length ls ≤ most_letters → MayApply l u
    may_here few =
        let long : length (take n ls) ≤ most_letters = let e = length-take n ls in omega (arith, e, few, within) in
        follow_here.0.may u made.live (may_grow u (take n ls) stands_here long)

    pub first_here : Overflows l u → IsFirstOverflow ls n
    first_here h = record { overflows = overflows_here ls n l read u stands_here h; first = done.fits }

    same_or_below : (k : ℕ) → k < n + 1 → (k ≡ n) ⊎ (k < n)
    same_or_below k h = grind arith

    module _ (v : Store) where
      pub done_more : ¬ Overflows l u → ((c : Circuit) → StandsFor u c → StandsFor v (c ++ l ∷ [])) → v.live ≡ live_after l u.live → v.capacity ≡ u.capacity
          → HasDone s v ls (n + 1)
      done_more fits applied live capacity =
          let lives : v.live ≡ live_past t.live l = live ∙ ap (live_after l) made.live in
          let size : v.capacity ≡ t.capacity = capacity ∙ made.capacity in
          record {
            stands = subst (StandsFor v) (sym front) (applied (take n ls) stands_here);
            follow = subst (λ c. AllMayFollow c v.live (drop (n + 1) ls)) (sym size)
                (subst (λ ws. AllMayFollow t.capacity ws (drop (n + 1) ls)) (sym lives) follow_here.1);
            live = ap (λ ws. live_through ws (drop (n + 1) ls)) lives ∙ ap (live_through t.live) (sym rest) ∙ done.live;
            fits = λ k below. elim (same_or_below k below) [
              | inl e ↦ subst (λ j. ¬ OverflowsAt ls j) (sym e) (fits_here ls n l read u stands_here fits)
              | inr less ↦ done.fits k less
            ];
            capacity = size ∙ done.capacity;
          }

-- ---- all letters
past_none : (ls : List Letter) (k : ℕ) → length ls ≤ k → ¬ OverflowsAt ls k
past_none ls k past o = let e = slice_get_within ls k _ o.letter in omega (arith, e, past)

pub never_where_done : (s t : Store) (ls : List Letter) → HasDone s t ls (length ls) → NeverOverflows ls
never_where_done s t ls done k = elim (below_or_past k (length ls)) [ inl below ↦ done.fits k below | inr past ↦ past_none ls k past ]
  where
    below_or_past : (k n : ℕ) → (k < n) ⊎ (n ≤ k)
    below_or_past k n = grind arith

pub all_done : (s t : Store) (ls : List Letter) (n : ℕ) → n ≤ length ls → length ls ≤ n → HasDone s t ls n → HasDone s t ls (length ls)
all_done s t ls n most least done = let e : n ≡ length ls = omega (arith, most, least) in subst (HasDone s t ls) e done

pub read_at : (ls : List Letter) (n : ℕ) → n < length ls → slice_get ls n ≡ Some (get_or ls n no_letter)
read_at ls n within = slice_get-get_or ls n no_letter within

-- ---- an answer that is no error
pub where_ok : {T E : Type 0} {P : Type 0} (r : Result T E) → is_err r ≡ false → OnOk r P → P
where_ok (Ok v) e h = h
where_ok (Err x) e h = cc
