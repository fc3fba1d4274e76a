-- One rank by itself: where it stands after so many events, and what it has put on lanes and taken from them
use Rattle.std.proofs.Common.{◌≡◌, ℕ, zero, suc, ◌+◌, ◌≤◌, nat_lt, Bool, true, false, cond, if◌then◌else◌, List, [], ◌∷◌, ◌++◌, fold, Option, Some, None, slice_get, inl, inr, refl, ap, subst, ◌∙◌, arith}
use Rattle.std.proofs.lemmas.Bool.{cases_eq}
use Rattle.qm_instr.specs.declared.Instr.{Instr}
use Rattle.qm_instr.specs.declared.Lane.{Lane}
use Rattle.qm_instr.specs.Lanes.{is_lane}
use Rattle.qm_proto.specs.Model.Runs.{events_at}
use Rattle.qm_confluence.specs.Stuck.Shapes.{Move, Puts, Tells, Gets, Shape, shapes}

-- where it stands; for each lane, of each parcel that it has put there, whether it has told its bits; and how many it has taken
pub record Alone : Type 0 where
  pub place : ℕ × ℕ
  pub told : Lane → List Bool
  pub taken : Lane → ℕ

-- the last parcel has its bits now
abbrev pub marked : List Bool → List Bool
marked [] = []
marked (x ∷ []) = true ∷ []
marked (x ∷ y ∷ xs) = x ∷ marked (y ∷ xs)

-- what a move makes of what was told on lane c
abbrev pub told_by : Lane → List Bool → Move → List Bool
told_by c xs (Puts a b) = cond (is_lane c a) (xs ++ b ∷ []) xs
told_by c xs (Tells a) = cond (is_lane c a) (marked xs) xs
told_by c xs (Gets a) = xs

-- and of how many parcels were taken from it
abbrev pub taken_by : Lane → ℕ → Move → ℕ
taken_by c n (Puts a b) = n
taken_by c n (Tells a) = n
taken_by c n (Gets a) = cond (is_lane c a) (suc n) n

-- the place after an event of an instruction that has n of them
abbrev pub past : ℕ → ℕ × ℕ → ℕ × ℕ
past n x = if nat_lt (x.1 + 1) n then (x.0, x.1 + 1) else (x.0 + 1, 0)

-- the line at stage s of an instruction, where there is one
abbrev pub shape_in : ℕ → ℕ → Option Instr → Option Shape
shape_in r s None = None
shape_in r s (Some i) = slice_get (shapes r i) s

-- the next line of rank r, whose instructions these are
abbrev pub shape_next : ℕ → List Instr → ℕ × ℕ → Option Shape
shape_next r is x = shape_in r x.1 (slice_get is x.0)

-- one event more, of an instruction that has n of them
abbrev pub stepped : ℕ → Option Shape → Alone → Alone
stepped n None s = s
stepped n (Some h) s =
    record { place = past n s.place; told = λ c. fold (told_by c) (s.told c) h.moves; taken = λ c. fold (taken_by c) (s.taken c) h.moves }

abbrev pub alone_next : ℕ → List Instr → Alone → Alone
alone_next r is s = stepped (events_at (slice_get is s.place.0)) (shape_next r is s.place) s

-- rank r after n events; past its last one nothing changes
abbrev pub alone : ℕ → List Instr → ℕ → Alone
alone r is zero = record { place = (0, 0); told = λ c. []; taken = λ c. 0 }
alone r is (suc n) = alone_next r is (alone r is n)

-- ---- it only grows
-- a parcel that had its bits has them still, and no fewer were taken
pub record Grows (s u : Alone) : Type 0 where
  pub told : (c : Lane) (k : ℕ) → slice_get (s.told c) k ≡ Some true → slice_get (u.told c) k ≡ Some true
  pub taken : (c : Lane) → s.taken c ≤ u.taken c

-- a bit that was told stays so
pub get_append : (xs ys : List Bool) (k : ℕ) → slice_get xs k ≡ Some true → slice_get (xs ++ ys) k ≡ Some true
get_append [] ys k e = cc
get_append (x ∷ xs) ys zero e = e
get_append (x ∷ xs) ys (suc k) e = get_append xs ys k e

pub get_marked : (xs : List Bool) (k : ℕ) → slice_get xs k ≡ Some true → slice_get (marked xs) k ≡ Some true
get_marked [] k e = e
get_marked (x ∷ []) zero e = refl
get_marked (x ∷ []) (suc k) e = cc
get_marked (x ∷ y ∷ xs) zero e = e
get_marked (x ∷ y ∷ xs) (suc k) e = get_marked (y ∷ xs) k e

get_cond : (b : Bool) (xs ys : List Bool) (k : ℕ) → slice_get xs k ≡ Some true → slice_get ys k ≡ Some true → slice_get (cond b xs ys) k ≡ Some true
get_cond true xs ys k d e = d
get_cond false xs ys k d e = e

pub told_more : (c : Lane) (m : Move) (xs : List Bool) (k : ℕ) → slice_get xs k ≡ Some true → slice_get (told_by c xs m) k ≡ Some true
told_more c (Puts a b) xs k e = get_cond (is_lane c a) (xs ++ b ∷ []) xs k (get_append xs (b ∷ []) k e) e
told_more c (Tells a) xs k e = get_cond (is_lane c a) (marked xs) xs k (get_marked xs k e) e
told_more c (Gets a) xs k e = e

all_told_more : (c : Lane) (ms : List Move) (xs : List Bool) (k : ℕ) → slice_get xs k ≡ Some true → slice_get (fold (told_by c) xs ms) k ≡ Some true
all_told_more c [] xs k e = e
all_told_more c (m ∷ ms) xs k e = all_told_more c ms (told_by c xs m) k (told_more c m xs k e)

taken_more : (c : Lane) (m : Move) (n : ℕ) → n ≤ taken_by c n m
taken_more c (Puts a b) n = omega arith
taken_more c (Tells a) n = omega arith
taken_more c (Gets a) n = by_bool (is_lane c a)
  where
    by_bool : (b : Bool) → n ≤ cond b (suc n) n
    by_bool true = omega arith
    by_bool false = omega arith

all_taken_more : (c : Lane) (ms : List Move) (n : ℕ) → n ≤ fold (taken_by c) n ms
all_taken_more c [] n = omega arith
all_taken_more c (m ∷ ms) n = let a = taken_more c m n in let b = all_taken_more c ms (taken_by c n m) in omega (arith, a, b)

grows_refl : (s : Alone) → Grows s s
grows_refl s = record { told = λ c k e. e; taken = λ c. omega arith }

grows_trans : (s u v : Alone) → Grows s u → Grows u v → Grows s v
grows_trans s u v g h = record { told = λ c k e. h.told c k (g.told c k e); taken = λ c. let a = g.taken c in let b = h.taken c in omega (arith, a, b) }

grows_step : (n : ℕ) (o : Option Shape) (s : Alone) → Grows s (stepped n o s)
grows_step n None s = grows_refl s
grows_step n (Some h) s = record { told = λ c k e. all_told_more c h.moves (s.told c) k e; taken = λ c. all_taken_more c h.moves (s.taken c) }

-- from n on
from_on : (P : ℕ → Type 0) (n : ℕ) → P n → ((m : ℕ) → P m → P (suc m)) → (m : ℕ) → n ≤ m → P m
from_on P n here next zero few = let e : n ≡ zero = omega (arith, few) in subst P e here
from_on P n here next (suc m) few = elim (cases_eq n (suc m)) [
  | inl e ↦ subst P e here
  | inr ne ↦ next m (from_on P n here next m (omega (arith, few, ne)))
]

module _ (r : ℕ) (is : List Instr) (n : ℕ) where
  pub grows : (m : ℕ) → n ≤ m → Grows (alone r is n) (alone r is m)
  grows m few =
      from_on (λ m. Grows (alone r is n) (alone r is m)) n (grows_refl (alone r is n))
      (λ m g. grows_trans (alone r is n) (alone r is m) (alone r is (suc m)) g (let s = alone r is m in grows_step (events_at (slice_get is s.place.0)) (shape_next r is s.place) s)) m few

  -- past its end nothing changes
  pub stays : shape_next r is (alone r is n).place ≡ None → (m : ℕ) → n ≤ m → alone r is m ≡ alone r is n
  stays none m few =
      from_on (λ m. alone r is m ≡ alone r is n) n refl
      (λ m e. ap (alone_next r is) e ∙ (let s = alone r is n in ap (λ o. stepped (events_at (slice_get is s.place.0)) o s) none)) m few
