-- Lanes with as many sends as receives
use Rattle.std.proofs.Common.{◌≡◌, ℕ, zero, suc, ◌+◌, ◌*◌, ◌<◌, ◌≤◌, Bool, true, false, cond, ◌||◌, List, [], ◌∷◌, ◌++◌, sum_by, Option, Some, None, refl, sym, ap, subst, ◌∙◌, arith, ◌⊎◌, ⊎_elim}
use Rattle.std.specs.Prelude.{◌==◌, count_by, option_to_list}
use Rattle.std.specs.List.{list_all, list_any}
use Rattle.std.proofs.lemmas.Bool.{and_parts, or_parts, or_right, or_cases, eq-eqb, cases_lt}
use Rattle.std.proofs.lemmas.List.Sums.{sum_by-append, sum_by-cons}
use Rattle.std.proofs.lemmas.List.Folds.{list_any-append}
use Rattle.qm_instr.specs.declared.Instr.{Instr}
use Rattle.qm_instr.specs.declared.Lane.{Lane}
use Rattle.qm_instr.specs.Lanes.{is_lane, is_on, lane_received}
use Rattle.qm_instr.proofs.LaneOrder.{same_lane}
use Rattle.qm_check.specs.Messages.{posts_in, receives_in, is_back}
use Rattle.qm_check.proofs.PostLanes.{post_lane, posts_in-lane}
use Rattle.qm_gen.proofs.Growth.{repeated}

-- ---- the lanes that instructions name
-- those of a list, by a way to tell the lane of an instruction
abbrev pub lanes_by : (Instr → Option Lane) → List Instr → List Lane
lanes_by f [] = []
lanes_by f (i ∷ is) = option_to_list (f i) ++ lanes_by f is

abbrev pub among : Lane → List Lane → Bool
among a bs = list_any (λ b. is_lane b a) bs

on-among : (o : Option Lane) (a : Lane) → among a (option_to_list o) ≡ false → is_on o a ≡ false
on-among None a h = refl
on-among (Some b) a h = (or_parts (is_lane b a) false h).0

none_by : (f : Instr → Option Lane) (a : Lane) (is : List Instr) → among a (lanes_by f is) ≡ false → count_by (λ i. is_on (f i) a) is ≡ 0
none_by f a [] h = refl
none_by f a (i ∷ is) h =
    let parts = or_parts (among a (option_to_list (f i))) (among a (lanes_by f is)) (sym (list_any-append (λ b. is_lane b a) (option_to_list (f i)) (lanes_by f is)) ∙ h) in
    sum_by-cons (λ j. cond (is_on (f j) a) 1 0) i is
    ∙ ap (λ b. cond b 1 0 + count_by (λ j. is_on (f j) a) is) (on-among (f i) a parts.0) ∙ ap (λ n. 0 + n) (none_by f a is parts.1)

-- those of so many ranks, from this one on
abbrev pub lanes_from : (ℕ → List Instr) → ℕ → ℕ → List Lane
lanes_from prog r zero = []
lanes_from prog r (suc n) = lanes_by (post_lane r) (prog r) ++ (lanes_by (lane_received r) (prog r) ++ lanes_from prog (r + 1) n)

-- a rank of these names no lane but these
none_from : (prog : ℕ → List Instr) (a : Lane) (r n s : ℕ) → r ≤ s → s < r + n → among a (lanes_from prog r n) ≡ false
    → (among a (lanes_by (post_lane s) (prog s)) ≡ false) × (among a (lanes_by (lane_received s) (prog s)) ≡ false)
none_from prog a r zero s low high h = absurd (omega arith)
none_from prog a r (suc n) s low high h =
    let posted : List Lane = lanes_by (post_lane r) (prog r) in
    let received : List Lane = lanes_by (lane_received r) (prog r) in
    let rest : List Lane = lanes_from prog (r + 1) n in
    let p = or_parts (among a posted) (among a (received ++ rest)) (sym (list_any-append (λ b. is_lane b a) posted (received ++ rest)) ∙ h) in
    let q = or_parts (among a received) (among a rest) (sym (list_any-append (λ b. is_lane b a) received rest) ∙ p.1) in
    ⊎_elim
    (λ same. subst (λ k. (among a (lanes_by (post_lane k) (prog k)) ≡ false) × (among a (lanes_by (lane_received k) (prog k)) ≡ false)) same (p.0, q.0))
    (λ other. none_from prog a (r + 1) n s (omega (arith, other)) (omega arith) q.1)
    (first_or_later r s low)
  where
    first_or_later : (x y : ℕ) → x ≤ y → (x ≡ y) ⊎ (x < y)
    first_or_later x y l = grind arith

-- ---- as many sends as receives
abbrev pub posts_of : (ℕ → List Instr) → Lane → ℕ
posts_of prog a = posts_in a.from a (prog a.from)

abbrev pub receives_of : (ℕ → List Instr) → Lane → ℕ
receives_of prog a = receives_in a.to a (prog a.to)

abbrev pub is_even : (ℕ → List Instr) → Lane → Bool
is_even prog a = is_back a.kind || (posts_of prog a == receives_of prog a)

even_among : (prog : ℕ → List Instr) (a : Lane) (bs : List Lane) → list_all (is_even prog) bs ≡ true → among a bs ≡ true → is_even prog a ≡ true
even_among prog a [] all hit = cc
even_among prog a (b ∷ bs) all hit =
    let parts = and_parts (is_even prog b) (list_all (is_even prog) bs) all in
    ⊎_elim (λ same. subst (λ (c : Lane). is_even prog c ≡ true) (same_lane b a same) parts.0) (λ more. even_among prog a bs parts.1 more) (or_cases (is_lane b a) (among a bs) hit)

-- the lanes that ranks name are even
abbrev pub all_even : (ℕ → List Instr) → ℕ → Bool
all_even prog n = list_all (is_even prog) (lanes_from prog 0 n)

-- then each lane is
pub each_even : (prog : ℕ → List Instr) (n : ℕ) → ((r : ℕ) → n ≤ r → prog r ≡ []) → all_even prog n ≡ true → (a : Lane) → is_even prog a ≡ true
each_even prog n none all a = by_hit (among a (lanes_from prog 0 n)) refl
  where
    no_posts : among a (lanes_from prog 0 n) ≡ false → posts_of prog a ≡ 0
    no_posts h =
        ⊎_elim (λ known. posts_in-lane a.from a (prog a.from) ∙ none_by (post_lane a.from) a (prog a.from) (none_from prog a 0 n a.from (omega arith) (omega arith) h).0)
        (λ past. ap (posts_in a.from a) (none a.from past)) (cases_lt a.from n)

    no_receives : among a (lanes_from prog 0 n) ≡ false → receives_of prog a ≡ 0
    no_receives h =
        ⊎_elim (λ known. none_by (lane_received a.to) a (prog a.to) (none_from prog a 0 n a.to (omega arith) (omega arith) h).1)
        (λ past. ap (receives_in a.to a) (none a.to past)) (cases_lt a.to n)

    by_hit : (b : Bool) → among a (lanes_from prog 0 n) ≡ b → is_even prog a ≡ true
    by_hit true h = even_among prog a (lanes_from prog 0 n) all h
    by_hit false h = or_right (is_back a.kind) (posts_of prog a == receives_of prog a) (eq-eqb (posts_of prog a) (receives_of prog a) (no_posts h ∙ sym (no_receives h)))

-- ---- rounds
pub sum-repeated : {A : Type 0} (f : A → ℕ) (n : ℕ) (xs : List A) → sum_by f (repeated n xs) ≡ n * sum_by f xs
sum-repeated f zero xs = omega arith
sum-repeated f (suc n) xs = sum_by-append f xs (repeated n xs) ∙ ap (λ k. sum_by f xs + k) (sum-repeated f n xs) ∙ omega arith
