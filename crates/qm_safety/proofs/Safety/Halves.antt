-- No rank has more halves than its buffer has room for
use Rattle.std.proofs.Common.{◌≡◌, ℕ, ◌+◌, ◌<◌, ◌≤◌, nat_eq, nat_lt, ◌⊎◌, Bool, true, false, ◌&&◌, List, Option, Some, None, length, inl, inr, refl, ap, ◌∙◌, arith}
use Rattle.std.proofs.lemmas.Bool.{and_parts, or_cases, eqb-true, ltb-true}
use Rattle.qm_denot.specs.Wires.{no_wires, put, how_many}
use Rattle.qm_instr.specs.declared.Instr.{Instr}
use Rattle.qm_instr.specs.declared.Instr.TheVariants as instr
use Rattle.qm_instr.specs.declared.Lane.{Lane}
use Rattle.qm_instr.specs.Programs.{Programs, rank_of}
use Rattle.qm_denot.specs.declared.Parcel.{Parcel}
use Rattle.qm_proto.specs.Model.Rows.{current}
use Rattle.qm_proto.specs.Model.Schedules.{replay}
use Rattle.qm_proto.specs.Model.State.{Tables, near_last}
use Rattle.qm_safety.specs.Safety.Halves.{IsAtReceive, IsInReach, IsBetween, HalvesLaw, near_taken_at}
use Rattle.qm_safety.specs.Tables.Well.{middle_at, has_near, one_if, near_of, half_lane, keeps_half, has_parcel, is_taking, IsRankWell, IsWell}
use Rattle.qm_safety.proofs.Safety.Mayings.{well_here}
use Rattle.qm_safety.proofs.Tables.Standing.{well_roomy}

-- ---- far halves
module _ (p : Programs) (t : Tables) (r : ℕ) where
  at_lane : (o : Option Lane) → half_lane r (current p t r) ≡ o → has_parcel t.lanes o ≡ true → (t.parts r).stage ≡ 0 → IsAtReceive p t r
  at_lane None e some first = cc
  at_lane (Some a) e some first =
      record {
        first = first;
        lane = a;
        takes = e;
        some = λ none. let n : 0 < length (t.lanes a) = ltb-true 0 (length (t.lanes a)) some in let z : length (t.lanes a) ≡ 0 = ap (λ (xs : List Parcel). length xs) none in omega arith;
      }

  in_reach : (o : Option Instr) → current p t r ≡ o → keeps_half o ≡ true → 0 < (t.parts r).stage → IsInReach p t r
  in_reach (Some (instr.ReachFrom q from tag)) read keeps begun = record { slot = q; from = from; tag = tag; here = read; begun = begun }
  in_reach _ read keeps begun = cc

  where_taking : is_taking t.lanes r (current p t r) (t.parts r).stage ≡ true → IsAtReceive p t r ⊎ IsInReach p t r
  where_taking e =
      let s = (t.parts r).stage in
      let o = current p t r in
      elim (or_cases (nat_eq s 0 && has_parcel t.lanes (half_lane r o)) (nat_lt 0 s && keeps_half o) e) [
        | inl h ↦ let x = and_parts (nat_eq s 0) (has_parcel t.lanes (half_lane r o)) h in inl (at_lane (half_lane r o) refl x.1 (eqb-true s 0 x.0))
        | inr h ↦ let x = and_parts (nat_lt 0 s) (keeps_half o) h in inr (in_reach o refl x.1 (ltb-true 0 s x.0))
      ]

  -- ---- near halves
  record IsFrom (i : Instr) : Type 0 where
    last : ℕ
    taken_at : near_taken_at i ≡ Some last
    begun : 0 < (t.parts r).stage
    within : (t.parts r).stage ≤ last

  up_to : (s n : ℕ) → (nat_lt 0 s && nat_lt s (n + 1)) ≡ true → (0 < s) × (s ≤ n)
  up_to s n e =
      let x = and_parts (nat_lt 0 s) (nat_lt s (n + 1)) e in
      let low : 0 < s = ltb-true 0 s x.0 in
      let high : s < n + 1 = ltb-true s (n + 1) x.1 in
      (low, omega arith)

  from_near : (i : Instr) → has_near (middle_at (Some i)) (t.parts r).stage ≡ true → IsFrom i
  from_near (instr.CopyTo q to tag) e = let h = up_to (t.parts r).stage 2 e in record { last = 2; taken_at = refl; begun = h.0; within = h.1 }
  from_near (instr.MoveTo q to tag) e = let h = up_to (t.parts r).stage 3 e in record { last = 3; taken_at = refl; begun = h.0; within = h.1 }
  from_near (instr.ReachTo q to tag) e = let h = up_to (t.parts r).stage 2 e in record { last = 2; taken_at = refl; begun = h.0; within = h.1 }
  from_near _ e = absurd (nowhere (t.parts r).stage e)
    where
      nowhere : (s : ℕ) → (nat_lt 0 s && nat_lt s 0) ≡ true → ⊥
      nowhere s e = let x = ltb-true s 0 (and_parts (nat_lt 0 s) (nat_lt s 0) e).1 in omega arith

  between : (o : Option Instr) → current p t r ≡ o → has_near (middle_at o) (t.parts r).stage ≡ true → IsBetween p t r
  between None read e = absurd (let x = ltb-true (t.parts r).stage 0 (and_parts (nat_lt 0 (t.parts r).stage) (nat_lt (t.parts r).stage 0) e).1 in omega arith)
  between (Some i) read e =
      let h = from_near i e in
      record { instruction = i; here = read; last = h.last; taken_at = h.taken_at; begun = h.begun; within = h.within }

  near_so : IsRankWell p t r → (b : Bool) → has_near (middle_at (current p t r)) (t.parts r).stage ≡ b
      → ((t.near r ≡ put no_wires (near_last t r) true) × IsBetween p t r) ⊎ (t.near r ≡ no_wires)
  near_so well true e = inl (well.near_so ∙ ap (λ c. one_if c (near_of r (t.parts r))) e, between (current p t r) refl e)
  near_so well false e = inr (well.near_so ∙ ap (λ c. one_if c (near_of r (t.parts r))) e)

  far_full : IsWell p t → (b : Bool) → is_taking t.lanes r (current p t r) (t.parts r).stage ≡ b → how_many (t.far r) ≡ (rank_of p r).buffer → IsAtReceive p t r ⊎ IsInReach p t r
  far_full well true e full = where_taking e
  far_full well false e full = absurd (let room = (well.far r).room e in omega arith)

pub halves_law : HalvesLaw
halves_law p schedule run r known =
    let t = (replay p schedule).tables in
    let well = well_here p schedule run r known in
    record {
      counted = well.counted r;
      few = (well_roomy p t run.in_range well).halves_few r known;
      far_few = (well.far r).few;
      far_full = far_full p t r well (is_taking t.lanes r (current p t r) (t.parts r).stage) refl;
      near = near_so p t r (well.ranks r) (has_near (middle_at (current p t r)) (t.parts r).stage) refl;
    }
