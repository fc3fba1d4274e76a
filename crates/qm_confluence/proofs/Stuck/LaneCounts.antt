-- What a rank by itself has put on a lane and taken from it, as sums over its program
use Rattle.std.proofs.Common.{◌≡◌, ℕ, zero, suc, ◌+◌, ◌≤◌, ◌<◌, nat_lt, Bool, true, false, cond, List, [], ◌∷◌, ◌++◌, length, take, map, drop, fold, sum_by, Option, Some, None, slice_get, refl, sym, ap, subst, ◌∙◌, arith, length-append, length-drop}
use Rattle.std.proofs.lemmas.Bool.{ltb-true, ltb-false}
use Rattle.std.proofs.lemmas.List.{length-map}
use Rattle.qm_instr.specs.declared.Instr.{Instr}
use Rattle.qm_instr.specs.declared.Instr.TheVariants as instr
use Rattle.qm_instr.specs.declared.Lane.{Lane}
use Rattle.qm_instr.specs.Counts.{events_of}
use Rattle.qm_instr.specs.Lanes.{is_lane}
use Rattle.qm_check.proofs.TotalLemmas.{sum_more}
use Rattle.qm_proto.specs.Model.State.{Tables}
use Rattle.qm_proto.specs.Model.Runs.{events_at}
use Rattle.qm_proto.proofs.Lines.{some_events}
use Rattle.qm_confluence.specs.Stuck.Shapes.{Move, Puts, Tells, Gets, Shape, shapes}
use Rattle.qm_confluence.proofs.Stuck.Alone.{Alone, marked, told_by, taken_by, shape_in, shape_next, stepped, alone_next, alone}
use Rattle.qm_confluence.proofs.Stuck.LaneFits.{has_bits, taken_few}
use Rattle.qm_confluence.proofs.Stuck.Tracks.{Tracks}

shapes_count : (r : ℕ) (i : Instr) → length (shapes r i) ≡ events_of i
shapes_count r (instr.Alloc q) = refl
shapes_count r _ = refl

taken_whole : {A : Type 0} (k : ℕ) (xs : List A) → length xs ≤ k → take k xs ≡ xs
taken_whole zero [] few = refl
taken_whole (suc k) [] few = refl
taken_whole zero (x ∷ xs) few = absurd (omega (arith, few))
taken_whole (suc k) (x ∷ xs) few = ap (λ ys. x ∷ ys) (taken_whole k xs (omega (arith, few)))

take_all : {A : Type 0} (f : A → ℕ) (k : ℕ) (xs : List A) → length xs ≤ k → sum_by f (take k xs) ≡ sum_by f xs
take_all f k xs few = ap (sum_by f) (taken_whole k xs few)

past_end : {A : Type 0} (xs : List A) (k : ℕ) → slice_get xs k ≡ None → length xs ≤ k
past_end [] k e = omega arith
past_end (x ∷ xs) zero e = cc
past_end (x ∷ xs) (suc k) e = let h = past_end xs k e in omega (arith, h)

inside_is : {A : Type 0} (xs : List A) (k : ℕ) → slice_get xs k ≡ None → k < length xs → ⊥
inside_is xs k e below = let h = past_end xs k e in omega (arith, h, below)

-- ---- what grows by so much with each line
module _ (r : ℕ) (is : List Instr) (Q : Alone → ℕ) (g : Shape → ℕ) (start : Q (alone r is 0) ≡ 0) (more : (n : ℕ) (h : Shape) (s : Alone) → Q (stepped n (Some h) s) ≡ Q s + g h) where
  abbrev pub whole : Instr → ℕ
  whole i = sum_by g (shapes r i)

  abbrev pub part : ℕ → Option Instr → ℕ
  part s None = 0
  part s (Some i) = sum_by g (take s (shapes r i))

  pub record IsCounted (s : Alone) : Type 0 where
    pub counted : Q s ≡ sum_by whole (take s.place.0 is) + part s.place.1 (slice_get is s.place.0)
    pub inside : (i : Instr) → slice_get is s.place.0 ≡ Some i → s.place.1 < events_of i

  part_none : (o : Option Instr) → part 0 o ≡ 0
  part_none None = refl
  part_none (Some i) = refl

  module _ (s : Alone) (old : IsCounted s) (i : Instr) (read : slice_get is s.place.0 ≡ Some i) (h : Shape) (here : slice_get (shapes r i) s.place.1 ≡ Some h) where
    abbrev after : Alone
    after = stepped (events_of i) (Some h) s

    sum_is : Q after ≡ sum_by whole (take s.place.0 is) + sum_by g (take (s.place.1 + 1) (shapes r i))
    sum_is =
        let a = more (events_of i) h s in
        let b = old.counted in
        let c : part s.place.1 (slice_get is s.place.0) ≡ sum_by g (take s.place.1 (shapes r i)) = ap (part s.place.1) read in
        let d = sum_more g (shapes r i) s.place.1 h here in
        omega (arith, a, b, c, d)

    by_more : (b : Bool) → nat_lt (s.place.1 + 1) (events_of i) ≡ b → IsCounted after
    by_more true e =
        let place : after.place ≡ (s.place.0, s.place.1 + 1) = ap (λ (b : Bool). let x : ℕ × ℕ = cond b (s.place.0, s.place.1 + 1) (s.place.0 + 1, 0) in x) e in
        record {
          counted = sum_is ∙ sym (ap (λ (x : ℕ × ℕ). sum_by whole (take x.0 is) + part x.1 (slice_get is x.0)) place ∙ ap (λ o. sum_by whole (take s.place.0 is) + part (s.place.1 + 1) o) read);
          inside = λ j there.
              let same : Some i ≡ Some j = sym read ∙ sym (ap (λ (x : ℕ × ℕ). slice_get is x.0) place) ∙ there in
              subst (λ (x : ℕ × ℕ). x.1 < events_of j) (sym place) (subst (λ k. s.place.1 + 1 < events_of k) (same_instr i j same) (ltb-true (s.place.1 + 1) (events_of i) e));
        }
      where
        same_instr : (i j : Instr) → Some i ≡ Some j → i ≡ j
        same_instr i j e = cc
    by_more false e =
        let place : after.place ≡ (s.place.0 + 1, 0) = ap (λ (b : Bool). let x : ℕ × ℕ = cond b (s.place.0, s.place.1 + 1) (s.place.0 + 1, 0) in x) e in
        let few = ltb-false (s.place.1 + 1) (events_of i) e in
        let all = take_all g (s.place.1 + 1) (shapes r i) (omega (arith, few, shapes_count r i)) in
        let next = sum_more whole is s.place.0 i read in
        let none = part_none (slice_get is (s.place.0 + 1)) in
        let sum = sum_is in
        let now : Q after ≡ sum_by whole (take (s.place.0 + 1) is) + part 0 (slice_get is (s.place.0 + 1)) = omega (arith, sum, all, next, none) in
        record {
          counted = now ∙ sym (ap (λ (x : ℕ × ℕ). sum_by whole (take x.0 is) + part x.1 (slice_get is x.0)) place);
          inside = λ j there. subst (λ (x : ℕ × ℕ). x.1 < events_of j) (sym place) (some_events j);
        }

  counted_next : (s : Alone) → IsCounted s → IsCounted (alone_next r is s)
  counted_next s old = by_instr (slice_get is s.place.0) refl
    where
      by_shape : (i : Instr) → slice_get is s.place.0 ≡ Some i → (o : Option Shape) → slice_get (shapes r i) s.place.1 ≡ o → IsCounted (stepped (events_of i) o s)
      by_shape i read None e = old
      by_shape i read (Some h) e = by_more s old i read h e (nat_lt (s.place.1 + 1) (events_of i)) refl

      by_instr : (o : Option Instr) → slice_get is s.place.0 ≡ o → IsCounted (stepped (events_at o) (shape_in r s.place.1 o) s)
      by_instr None e = old
      by_instr (Some i) e = by_shape i e (slice_get (shapes r i) s.place.1) refl

  pub counted : (n : ℕ) → IsCounted (alone r is n)
  counted zero = record { counted = (let e = part_none (slice_get is 0) in omega (arith, start, e)); inside = λ j there. some_events j }
  counted (suc n) = counted_next (alone r is n) (counted n)

  -- at its end it is what the whole program comes to
  pub counted_all : (n : ℕ) → shape_next r is (alone r is n).place ≡ None → Q (alone r is n) ≡ sum_by whole is
  counted_all n none = by_instr (slice_get is (alone r is n).place.0) refl none
    where
      by_instr : (o : Option Instr) → slice_get is (alone r is n).place.0 ≡ o → shape_in r (alone r is n).place.1 o ≡ None → Q (alone r is n) ≡ sum_by whole is
      by_instr None e h =
          let x = counted n in
          let p : part (alone r is n).place.1 (slice_get is (alone r is n).place.0) ≡ 0 = ap (part (alone r is n).place.1) e in
          let c = x.counted in
          omega (arith, c, p, take_all whole (alone r is n).place.0 is (past_end is (alone r is n).place.0 e))
      by_instr (Some i) e h =
          let x = counted n in
          let b = x.inside i e in
          absurd (inside_is (shapes r i) (alone r is n).place.1 h (omega (arith, b, shapes_count r i)))

-- ---- what is put on a lane and taken from it
abbrev pub puts : Lane → List Move → ℕ
puts c [] = 0
puts c (Puts a b ∷ ms) = cond (is_lane c a) 1 0 + puts c ms
puts c (Tells a ∷ ms) = puts c ms
puts c (Gets a ∷ ms) = puts c ms

abbrev pub gets : Lane → List Move → ℕ
gets c [] = 0
gets c (Gets a ∷ ms) = cond (is_lane c a) 1 0 + gets c ms
gets c (Puts a b ∷ ms) = gets c ms
gets c (Tells a ∷ ms) = gets c ms

length-marked : (xs : List Bool) → length (marked xs) ≡ length xs
length-marked [] = refl
length-marked (x ∷ []) = refl
length-marked (x ∷ y ∷ xs) = let e = length-marked (y ∷ xs) in omega (arith, e)

module _ (c : Lane) where
  told_long : (ms : List Move) (xs : List Bool) → length (fold (told_by c) xs ms) ≡ length xs + puts c ms
  told_long [] xs = omega arith
  told_long (Puts a b ∷ ms) xs = let e = told_long ms (told_by c xs (Puts a b)) in let f = one (is_lane c a) in omega (arith, e, f)
    where
      one : (d : Bool) → length (cond d (xs ++ b ∷ []) xs) ≡ length xs + cond d 1 0
      one true = length-append xs (b ∷ [])
      one false = omega arith
  told_long (Tells a ∷ ms) xs = let e = told_long ms (told_by c xs (Tells a)) in let f = one (is_lane c a) in omega (arith, e, f)
    where
      one : (d : Bool) → length (cond d (marked xs) xs) ≡ length xs
      one true = length-marked xs
      one false = refl
  told_long (Gets a ∷ ms) xs = told_long ms xs

  taken_long : (ms : List Move) (k : ℕ) → fold (taken_by c) k ms ≡ k + gets c ms
  taken_long [] k = omega arith
  taken_long (Gets a ∷ ms) k = let e = taken_long ms (taken_by c k (Gets a)) in let f = one (is_lane c a) in omega (arith, e, f)
    where
      one : (d : Bool) → cond d (suc k) k ≡ k + cond d 1 0
      one true = omega arith
      one false = omega arith
  taken_long (Puts a b ∷ ms) k = taken_long ms k
  taken_long (Tells a ∷ ms) k = taken_long ms k

  module _ (r : ℕ) (is : List Instr) where
    -- all that a rank puts on the lane, and all that it takes, once it has no event left
    pub told_all : (n : ℕ) → shape_next r is (alone r is n).place ≡ None → length ((alone r is n).told c) ≡ sum_by (λ i. sum_by (λ (h : Shape). puts c h.moves) (shapes r i)) is
    told_all n none = counted_all r is (λ (s : Alone). length (s.told c)) (λ (h : Shape). puts c h.moves) refl (λ n h s. told_long h.moves (s.told c)) n none

    pub taken_all : (n : ℕ) → shape_next r is (alone r is n).place ≡ None → (alone r is n).taken c ≡ sum_by (λ i. sum_by (λ (h : Shape). gets c h.moves) (shapes r i)) is
    taken_all n none = counted_all r is (λ (s : Alone). s.taken c) (λ (h : Shape). gets c h.moves) refl (λ n h s. taken_long h.moves (s.taken c)) n none

-- a lane has what was put there and not taken
pub parcels : (is : ℕ → List Instr) (t : Tables) (n : ℕ → ℕ) → Tracks is t n → (c : Lane)
    → length (t.lanes c) + (alone c.to (is c.to) (n c.to)).taken c ≡ length ((alone c.from (is c.from) (n c.from)).told c)
parcels is t n tracks c =
    let k = (alone c.to (is c.to) (n c.to)).taken c in
    let hs = (alone c.from (is c.from) (n c.from)).told c in
    let few = taken_few k hs (tracks.lanes c).before in
    let same : length (map has_bits (t.lanes c)) ≡ length (drop k hs) = ap (λ (ys : List Bool). length ys) (tracks.lanes c).rest in
    omega (arith, few, same, length-map (t.lanes c) has_bits, length-drop k hs)
