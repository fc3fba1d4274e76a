-- A rank of other tables, and what its standing says
use Rattle.std.proofs.Common.{◌≡◌, ℕ, ◌+◌, nat_lt, Bool, true, false, ◌&&◌, cond, take, Option, Some, None, is_some, unwrap_or, refl, sym, ap, subst, ◌∙◌}
use Rattle.qm_denot.specs.declared.Wire.{Wire}
use Rattle.qm_denot.specs.Wires.{Wires, no_wires, put}
use Rattle.qm_denot.proofs.Sets.{has-no_wires, put_twice, put_has}
use Rattle.qm_instr.specs.declared.Instr.{Instr}
use Rattle.qm_instr.specs.Programs.{Programs, rank_of}
use Rattle.qm_check.specs.Slots.{full_after}
use Rattle.qm_proto.specs.Model.State.{Part, Tables}
use Rattle.qm_proto.specs.Model.Rows.{instr_at, current}
use Rattle.qm_safety.specs.Tables.Well.{middle_of, middle_at, Stands, IsRankWell}
use Rattle.qm_safety.proofs.Tables.NextEvents.{IsNext}

-- a rank of other tables, by its part, its slots and its near halves
pub rank_by : (p : Programs) (u : Tables) (r : ℕ) (v : Part) (slots : ℕ → Option Wire) (near : Wires)
    → u.parts r ≡ v → ((q : ℕ) → u.slots r q ≡ slots q) → u.near r ≡ near
    → Stands r (rank_of p r) (middle_at (instr_at p r v.at)) v.at v.stage v slots near → IsRankWell p u r
rank_by p u r v slots near part same_slots same_near h =
    let x = rank_of p r in
    let here : Stands r x (middle_at (instr_at p r v.at)) v.at v.stage v (u.slots r) (u.near r) = record {
      full = λ q. ap (λ (o : Option Wire). is_some o) (same_slots q) ∙ h.full q;
      near_so = same_near ∙ h.near_so;
      in_hand = λ q m s. same_slots q ∙ h.in_hand q m s;
      protocol = h.protocol;
      own = h.own;
      bits = h.bits;
    } in
    subst (λ (w : Part). Stands r x (middle_at (instr_at p r w.at)) w.at w.stage w (u.slots r) (u.near r)) (sym part) here

-- another rank, of which nothing changes
pub rank_same : (p : Programs) (t u : Tables) (r : ℕ) → IsRankWell p t r
    → u.parts r ≡ t.parts r → ((q : ℕ) → u.slots r q ≡ t.slots r q) → u.near r ≡ t.near r → IsRankWell p u r
rank_same p t u r h part slots near = rank_by p u r (t.parts r) (t.slots r) (t.near r) part slots near h

-- the rank before its event
pub standing_at : (p : Programs) (t : Tables) (r : ℕ) (i : Instr) (s : ℕ) → current p t r ≡ Some i → (t.parts r).stage ≡ s → IsRankWell p t r
    → Stands r (rank_of p r) (middle_of i) (t.parts r).at s (t.parts r) (t.slots r) (t.near r)
standing_at p t r i s read stage h =
    let v = t.parts r in
    let x = rank_of p r in
    subst (λ k. Stands r x (middle_of i) v.at k v (t.slots r) (t.near r)) stage
    (subst (λ o. Stands r x (middle_at o) v.at v.stage v (t.slots r) (t.near r)) read h)

pub standing : (p : Programs) (t : Tables) (r : ℕ) (i : Instr) (s : ℕ) → IsNext p t r i s → IsRankWell p t r
    → Stands r (rank_of p r) (middle_of i) (t.parts r).at s (t.parts r) (t.slots r) (t.near r)
standing p t r i s next h = standing_at p t r i s next.read next.stage h

-- a slot before an event of an instruction that takes no half into a slot
pub full_before : (p : Programs) (t : Tables) (r : ℕ) (i : Instr) → current p t r ≡ Some i → (middle_of i).settles ≡ None → IsRankWell p t r
    → (q : ℕ) → is_some (t.slots r q) ≡ full_after (take (t.parts r).at (rank_of p r).instructions) q
full_before p t r i read none h q =
    let n = (t.parts r).at in
    let s = (t.parts r).stage in
    let is = (rank_of p r).instructions in
    (standing_at p t r i s read refl h).full q
    ∙ ap (λ (o : Option ℕ). full_after (take (cond (nat_lt 0 s && is_some o) (n + 1) n) is) q) none
    ∙ by_begun (nat_lt 0 s)
  where
    by_begun : (b : Bool) → full_after (take (cond (b && false) ((t.parts r).at + 1) (t.parts r).at) (rank_of p r).instructions) q
        ≡ full_after (take (t.parts r).at (rank_of p r).instructions) q
    by_begun true = refl
    by_begun false = refl

-- a full slot has a wire, an empty one has none
pub some_is : {A : Type 0} (o : Option A) (d : A) → is_some o ≡ true → o ≡ Some (unwrap_or o d)
some_is None d e = cc
some_is (Some x) d e = refl

pub none_is : {A : Type 0} (o : Option A) → is_some o ≡ false → o ≡ None
none_is None e = refl
none_is (Some x) e = cc

-- the set of one wire without it
pub without_itself : (w : Wire) → put (put no_wires w true) w false ≡ no_wires
without_itself w = put_twice no_wires w true false ∙ put_has no_wires w false (has-no_wires w)
