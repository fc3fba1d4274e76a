-- Parts are sound: then programs of them are ready, whatever the size
use Rattle.std.proofs.Common.{◌≡◌, ℕ, zero, suc, ◌+◌, ◌*◌, ◌≤◌, Bool, true, false, cond, ◌&&◌, ◌||◌, List, [], ◌∷◌, ◌++◌, length, get_or, map, take, sum_by, Some, None, slice_get, refl, sym, ap, subst, ◌∙◌, arith, ⊎_elim}
use Rattle.std.specs.Prelude.{if◌then◌else◌, ◌==◌}
use Rattle.std.proofs.lemmas.Bool.{and_parts, or_cases, or_left, or_right, eqb-true, eq-eqb, le-ltb}
use Rattle.std.proofs.lemmas.List.{map-append, get_or_past}
use Rattle.std.proofs.lemmas.List.Sums.{sum_by-append}
use Rattle.qm_instr.specs.declared.Instr.{Instr}
use Rattle.qm_instr.specs.declared.Lane.{Lane}
use Rattle.qm_instr.specs.Counts.{protocol_of, own_of}
use Rattle.qm_instr.specs.Lanes.{is_on, lane_received}
use Rattle.qm_instr.specs.Programs.{RankProgram, Programs, rank_of}
use Rattle.qm_check.specs.declared.Fault.TheVariants as fault
use Rattle.qm_check.specs.Checks.{capacity_of, width_fault, AllRanks, AtInstr, OnLane, OnTape, IsReady}
use Rattle.qm_check.specs.Messages.{posts_on, is_back, lane_sends, lane_receives, match_fault, lane_fault}
use Rattle.qm_check.specs.Slots.{full_after, fault_if_any, step_fault}
use Rattle.qm_check.specs.Tapes.{length_fault}
use Rattle.qm_gen.proofs.Deeds.{Deed, instr_of, Part}
use Rattle.qm_gen.proofs.Growth.{repeated}
use Rattle.qm_gen.proofs.Expanded.{program_of}
use Rattle.qm_gen.proofs.Walks.{part_fits, Walks, part-walks, walks-none}
use Rattle.qm_gen.proofs.Matches.{all_even, each_even, posts_of, receives_of, sum-repeated}

-- ---- parts by their ranks; past the last one there is a part that does nothing
abbrev pub nothing : Part
nothing = record { once = []; again = [] }

abbrev pub part_at : List Part → ℕ → Part
part_at ps r = get_or ps r nothing

abbrev pub once_at : List Part → ℕ → List Instr
once_at ps r = map instr_of (part_at ps r).once

abbrev pub again_at : List Part → ℕ → List Instr
again_at ps r = map instr_of (part_at ps r).again

-- from this rank on, each part fits its rank
abbrev pub parts_fit : ℕ → ℕ → List Part → Bool
parts_fit ranks rank [] = true
parts_fit ranks rank (p ∷ ps) = part_fits ranks rank p && parts_fit ranks (rank + 1) ps

-- deeds fit, and the lanes are even, in what is done once and in a round
abbrev pub is_sound : List Part → Bool
is_sound ps = parts_fit (length ps) 0 ps && (all_even (once_at ps) (length ps) && all_even (again_at ps) (length ps))

-- ---- programs of parts, with tapes of the right lengths
pub record HasTapes (x : RankProgram) : Type 0 where
  pub own : sum_by own_of x.instructions ≡ length x.own
  pub protocol : sum_by protocol_of x.instructions ≡ length x.protocol

pub record Runs (size : ℕ) (ps : List Part) (p : Programs) : Type 0 where
  pub version : p.version ≡ 1
  pub narrow : capacity_of p ≤ 20
  pub ranks : length p.ranks ≡ length ps
  pub programs : (r : ℕ) → (rank_of p r).instructions ≡ program_of size (part_at ps r)
  pub tapes : (r : ℕ) → HasTapes (rank_of p r)

-- ---- no fault at an instruction
at-part : (ranks from : ℕ) (ps : List Part) (k : ℕ) → parts_fit ranks from ps ≡ true → Walks ranks (from + k) (part_at ps k)
at-part ranks from [] k h = record { full = false; once = refl; again = refl }
at-part ranks from (p ∷ ps) zero h =
    let same : from ≡ from + 0 = omega arith in
    subst (λ r. Walks ranks r p) same (part-walks ranks from p (and_parts (part_fits ranks from p) (parts_fit ranks (from + 1) ps) h).0)
at-part ranks from (p ∷ ps) (suc k) h =
    let same : (from + 1) + k ≡ from + suc k = omega arith in
    subst (λ r. Walks ranks r (part_at ps k)) same (at-part ranks (from + 1) ps k (and_parts (part_fits ranks from p) (parts_fit ranks (from + 1) ps) h).1)

map-repeated : (n : ℕ) (xs : List Deed) → map instr_of (repeated n xs) ≡ repeated n (map instr_of xs)
map-repeated zero xs = refl
map-repeated (suc n) xs = map-append instr_of xs (repeated n xs) ∙ ap (λ is. map instr_of xs ++ is) (map-repeated n xs)

program-is : (size : ℕ) (p : Part) → map instr_of (p.once ++ repeated size p.again) ≡ program_of size p
program-is size p = map-append instr_of p.once (repeated size p.again) ∙ ap (λ is. map instr_of p.once ++ is) (map-repeated size p.again)

step-none : (size : ℕ) (ps : List Part) (p : Programs) → Runs size ps p → is_sound ps ≡ true → (r k : ℕ) → step_fault p r k ≡ None
step-none size ps p runs sound r k =
    let n = length ps in
    let fit = (and_parts (parts_fit n 0 ps) (all_even (once_at ps) n && all_even (again_at ps) n) sound).0 in
    let zero_more : 0 + r ≡ r = omega arith in
    let walks : Walks n r (part_at ps r) = subst (λ j. Walks n j (part_at ps r)) zero_more (at-part n 0 ps r fit) in
    let is : List Instr = map instr_of ((part_at ps r).once ++ repeated size (part_at ps r).again) in
    let same : (rank_of p r).instructions ≡ is = runs.programs r ∙ sym (program-is size (part_at ps r)) in
    ap (λ (js : List Instr). fault_if_any (length p.ranks) r k (full_after (take k js)) (slice_get js k)) same
    ∙ ap (λ m. fault_if_any m r k (full_after (take k is)) (slice_get is k)) runs.ranks
    ∙ walks-none n r size (part_at ps r) walks k

-- ---- no lane that doesn't match
past-part : (ps : List Part) (r : ℕ) → length ps ≤ r → part_at ps r ≡ nothing
past-part ps r past = get_or_past ps r nothing past

posts-are : (size : ℕ) (ps : List Part) (p : Programs) (a : Lane) → Runs size ps p → lane_sends p a ≡ posts_of (once_at ps) a + size * posts_of (again_at ps) a
posts-are size ps p a runs =
    let f : Instr → ℕ = λ i. cond (posts_on a.from i a) 1 0 in
    ap (sum_by f) (runs.programs a.from) ∙ sum_by-append f (once_at ps a.from) (repeated size (again_at ps a.from)) ∙ ap (λ k. sum_by f (once_at ps a.from) + k) (sum-repeated f size (again_at ps a.from))

receives-are : (size : ℕ) (ps : List Part) (p : Programs) (a : Lane) → Runs size ps p → lane_receives p a ≡ receives_of (once_at ps) a + size * receives_of (again_at ps) a
receives-are size ps p a runs =
    let f : Instr → ℕ = λ i. cond (is_on (lane_received a.to i) a) 1 0 in
    ap (sum_by f) (runs.programs a.to) ∙ sum_by-append f (once_at ps a.to) (repeated size (again_at ps a.to)) ∙ ap (λ k. sum_by f (once_at ps a.to) + k) (sum-repeated f size (again_at ps a.to))

match-none : (a : Lane) (sends receives : ℕ) → (is_back a.kind || (sends == receives)) ≡ true → match_fault a sends receives ≡ None
match-none a sends receives h = ap (λ b. if b then None else Some (fault.UnmatchedLane a sends receives)) h

lane-none : (size : ℕ) (ps : List Part) (p : Programs) → Runs size ps p → is_sound ps ≡ true → (a : Lane) → lane_fault p a ≡ None
lane-none size ps p runs sound a =
    let n = length ps in
    let evens = and_parts (all_even (once_at ps) n) (all_even (again_at ps) n) (and_parts (parts_fit n 0 ps) (all_even (once_at ps) n && all_even (again_at ps) n) sound).1 in
    let once = each_even (once_at ps) n (λ r past. ap (λ (x : Part). map instr_of x.once) (past-part ps r past)) evens.0 a in
    let again = each_even (again_at ps) n (λ r past. ap (λ (x : Part). map instr_of x.again) (past-part ps r past)) evens.1 a in
    match-none a (lane_sends p a) (lane_receives p a)
    (⊎_elim (λ back. or_left (is_back a.kind) (lane_sends p a == lane_receives p a) back)
    (λ first. ⊎_elim (λ back. or_left (is_back a.kind) (lane_sends p a == lane_receives p a) back)
    (λ second. or_right (is_back a.kind) (lane_sends p a == lane_receives p a) (equal first second))
    (or_cases (is_back a.kind) (posts_of (again_at ps) a == receives_of (again_at ps) a) again))
    (or_cases (is_back a.kind) (posts_of (once_at ps) a == receives_of (once_at ps) a) once))
  where
    equal : (posts_of (once_at ps) a == receives_of (once_at ps) a) ≡ true → (posts_of (again_at ps) a == receives_of (again_at ps) a) ≡ true → (lane_sends p a == lane_receives p a) ≡ true
    equal first second =
        let x = eqb-true (posts_of (once_at ps) a) (receives_of (once_at ps) a) first in
        let y = eqb-true (posts_of (again_at ps) a) (receives_of (again_at ps) a) second in
        eq-eqb (lane_sends p a) (lane_receives p a)
        (posts-are size ps p a runs ∙ ap (λ k. k + size * posts_of (again_at ps) a) x ∙ ap (λ k. receives_of (once_at ps) a + size * k) y ∙ sym (receives-are size ps p a runs))

-- ---- no other fault
width-none : (p : Programs) → p.version ≡ 1 → capacity_of p ≤ 20 → width_fault p.version (capacity_of p) ≡ None
width-none p version narrow =
    ap (λ v. width_fault v (capacity_of p)) version ∙ ap (λ b. if b then Some (fault.TooWide (capacity_of p)) else None) (le-ltb 20 (capacity_of p) narrow)

length-none : (r : ℕ) (own : Bool) (needs has : ℕ) → needs ≡ has → length_fault r own needs has ≡ None
length-none r own needs has same = ap (λ b. if b then None else Some (fault.TapeLength r own needs has)) (eq-eqb needs has same)

pub ready : (size : ℕ) (ps : List Part) (p : Programs) → Runs size ps p → is_sound ps ≡ true → IsReady p
ready size ps p runs sound AllRanks = width-none p runs.version runs.narrow
ready size ps p runs sound (AtInstr r k) = step-none size ps p runs sound r k
ready size ps p runs sound (OnLane a) = lane-none size ps p runs sound a
ready size ps p runs sound (OnTape r true) = length-none r true _ _ (runs.tapes r).own
ready size ps p runs sound (OnTape r false) = length-none r false _ _ (runs.tapes r).protocol
