-- The run that steps the lowest enabled rank: it is legal, it is built one entry at a time, and the programs determine it
use Rattle.std.proofs.Common.{◌≡◌, ℕ, ◌<◌, ◌⊎◌, Bool, true, false, List, [], ◌∷◌, refl, ap, ◌∙◌, inl, inr, arith}
use Rattle.std.specs.List.{fold}
use Rattle.qm_instr.specs.Programs.{Programs}
use Rattle.qm_proto.specs.declared.Cause.{Cause}
use Rattle.qm_denot.specs.Circuits.{Circuit}
use Rattle.qm_proto.specs.Model.State.{Tables, State}
use Rattle.qm_proto.specs.declared.Check.{Check}
use Rattle.qm_proto.specs.Model.Runs.{enabled, IsAllowed, IsRefused, FirstFails, NoneFails, next_tables, next}
use Rattle.qm_proto.specs.Model.Schedules.{state_at_start, replay, IsLegal, IsLegalFrom, NoneEnabled, IsLowestEnabled, IsFirst, IsFirstFrom, IsFirstEnd, IsFirstSoFar, IsFirstSoFarFrom, IsMeetingFrom}
use Rattle.qm_proto.specs.Model.Ideal.{IdealState, ideal_enabled, ideal_next, ideal_at_start, IsIdealFrom, IsIdealRun, IsOneFrom, IsOneRun}

module _ (f : ℕ → Bool) (j k : ℕ) where
  one_order : (j ≡ k) ⊎ ((j < k) ⊎ (k < j))
  one_order = grind arith

  -- two numbers at which f is true and below which it is false are one
  lowest_unique : f j ≡ true → ((i : ℕ) → i < j → f i ≡ false) → f k ≡ true → ((i : ℕ) → i < k → f i ≡ false) → j ≡ k
  lowest_unique at_j below_j at_k below_k =
      elim one_order [
        | inl same ↦ same
        | inr (inl less) ↦ (let e = below_k j less in cc)
        | inr (inr more) ↦ (let e = below_j k more in cc)
      ]

pub lowest_enabled_unique : (p : Programs) (t : Tables) (r k : ℕ) → IsLowestEnabled p t r → IsLowestEnabled p t k → r ≡ k
lowest_enabled_unique p t r k a b = lowest_unique (enabled p t) r k a.able a.below b.able b.below

-- none and some can't both be enabled
none_or_lowest : (p : Programs) (t : Tables) (r : ℕ) → NoneEnabled p t → IsLowestEnabled p t r → ⊥
none_or_lowest p t r none low = let e = none r low.known in let d = low.able in cc

-- a list of tests of which the first that fails has a cause is not one of which none fails
fails_or_not : (g : Circuit) (ks : List Check) (c : Cause) → FirstFails g ks c → NoneFails g ks → ⊥
fails_or_not g [] c fails none = fails
fails_or_not g (k ∷ ks) c (inl fails) none = none.0 fails.0
fails_or_not g (k ∷ ks) c (inr fails) none = fails_or_not g ks c fails.1 none.1

pub refused_or_allowed : (p : Programs) (s : State) (r : ℕ) (c : Cause) → IsRefused p s r c → IsAllowed p s r → ⊥
refused_or_allowed p s r c refused allowed = fails_or_not s.circuit _ c refused allowed

-- where the run ends, it does not go on
end_or_more : (p : Programs) (s : State) (r : ℕ) → IsFirstEnd p s → IsLowestEnabled p s.tables r → IsAllowed p s r → ⊥
end_or_more p s r (inl none) low allowed = none_or_lowest p s.tables r none low
end_or_more p s r (inr (k, c, lowest, refused)) low allowed =
    refused_or_allowed p s r c (rw (lowest_enabled_unique p s.tables k r lowest low) at refused) allowed

first_from_unique : (p : Programs) (s : State) (xs ys : List ℕ) → IsFirstFrom p s xs → IsFirstFrom p s ys → xs ≡ ys
first_from_unique p s [] [] a b = refl
first_from_unique p s [] (y ∷ ys) a b = absurd (end_or_more p s y a b.0 b.1)
first_from_unique p s (x ∷ xs) [] a b = absurd (end_or_more p s x b a.0 a.1)
first_from_unique p s (x ∷ xs) (y ∷ ys) a b =
    let same = lowest_enabled_unique p s.tables x y a.0 b.0 in
    ap (λ r. r ∷ xs) same ∙ ap (λ rs. y ∷ rs) (first_from_unique p (next p s y) xs ys (rw same at a.2) b.2)

-- the programs determine the schedule that always takes the lowest enabled rank
pub first_unique : (p : Programs) (xs ys : List ℕ) → IsFirst p xs → IsFirst p ys → xs ≡ ys
unfolding IsFirst
first_unique p xs ys a b = first_from_unique p (state_at_start p) xs ys a b

one_from_unique : (p : Programs) (s : IdealState) (xs ys : List ℕ) → IsOneFrom p s xs → IsOneFrom p s ys → xs ≡ ys
one_from_unique p s [] [] a b = refl
one_from_unique p s [] (y ∷ ys) a b = let e = a y b.0.known in let d = b.0.able in cc
one_from_unique p s (x ∷ xs) [] a b = let e = b x a.0.known in let d = a.0.able in cc
one_from_unique p s (x ∷ xs) (y ∷ ys) a b =
    let same = lowest_unique (ideal_enabled p s.tables) x y a.0.able a.0.below b.0.able b.0.below in
    ap (λ r. r ∷ xs) same ∙ ap (λ rs. y ∷ rs) (one_from_unique p (ideal_next p s y) xs ys (rw same at a.1) b.1)

-- and the ideal run that takes it
pub one_run_unique : (p : Programs) (xs ys : List ℕ) → IsOneRun p xs → IsOneRun p ys → xs ≡ ys
unfolding IsOneRun
one_run_unique p xs ys a b = one_from_unique p (ideal_at_start p) xs ys a b

one_from_run : (p : Programs) (s : IdealState) (rs : List ℕ) → IsOneFrom p s rs → IsIdealFrom p s rs
one_from_run p s [] one = tt
one_from_run p s (r ∷ rs) one = (one.0.known, one.0.able, one_from_run p (ideal_next p s r) rs one.1)

-- which is an ideal run
pub one_run-ideal : (p : Programs) (rs : List ℕ) → IsOneRun p rs → IsIdealRun p rs
unfolding IsOneRun IsIdealRun
one_run-ideal p rs one = one_from_run p (ideal_at_start p) rs one

so_far_from_legal : (p : Programs) (s : State) (rs : List ℕ) → IsFirstSoFarFrom p s rs → IsLegalFrom p s rs
so_far_from_legal p s [] a = tt
so_far_from_legal p s (r ∷ rs) a =
    (record { known = a.0.known; able = a.0.able; allowed = a.1 }, so_far_from_legal p (next p s r) rs a.2)

-- what the run has done so far is legal
pub first_so_far-legal : (p : Programs) (rs : List ℕ) → IsFirstSoFar p rs → IsLegal p rs
unfolding IsFirstSoFar IsLegal
first_so_far-legal p rs a = so_far_from_legal p (state_at_start p) rs a

first_from_parts : (p : Programs) (s : State) (rs : List ℕ) → IsFirstFrom p s rs → IsFirstSoFarFrom p s rs × IsFirstEnd p (fold (next p) s rs)
first_from_parts p s [] a = (tt, a)
first_from_parts p s (r ∷ rs) a = let rest = first_from_parts p (next p s r) rs a.2 in ((a.0, a.1, rest.0), rest.1)

-- the whole run is what it has done so far, and an end
pub first_parts : (p : Programs) (rs : List ℕ) → IsFirst p rs → IsFirstSoFar p rs × IsFirstEnd p (replay p rs)
unfolding IsFirst IsFirstSoFar replay
first_parts p rs a = first_from_parts p (state_at_start p) rs a

pub first_legal : (p : Programs) (rs : List ℕ) → IsFirst p rs → IsLegal p rs
first_legal p rs a = first_so_far-legal p rs (first_parts p rs a).0

-- so do they, and the tables at its beginning, determine the run with letters left aside
pub meeting_unique : (p : Programs) (t : Tables) (xs ys : List ℕ) → IsMeetingFrom p t xs → IsMeetingFrom p t ys → xs ≡ ys
meeting_unique p t [] [] a b = refl
meeting_unique p t [] (y ∷ ys) a b = absurd (none_or_lowest p t y a b.0)
meeting_unique p t (x ∷ xs) [] a b = absurd (none_or_lowest p t x b a.0)
meeting_unique p t (x ∷ xs) (y ∷ ys) a b =
    let same = lowest_enabled_unique p t x y a.0 b.0 in
    ap (λ r. r ∷ xs) same ∙ ap (λ rs. y ∷ rs) (meeting_unique p (next_tables p t y) xs ys (rw same at a.1) b.1)
