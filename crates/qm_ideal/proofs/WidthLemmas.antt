-- Wires that are named and live, as letters go by
use Rattle.std.proofs.Common.{◌≡◌, ◌∙◌, ℕ, zero, suc, ◌+◌, ◌<◌, Bool, true, false, not, ◌&&◌, cond, List, [], ◌∷◌, ◌++◌, length, take, drop, filter, get_or, slice_set, refl, sym, ap, ap₂, arith, max}
use Rattle.std.proofs.Math.Path.{fun_ext}
use Rattle.std.specs.BTreeMap.{is_at}
use Rattle.qm_denot.specs.declared.Wire.{Wire}
use Rattle.qm_denot.specs.declared.Letter.{Letter}
use Rattle.qm_denot.specs.Stores.{live_after}
use Rattle.qm_denot.specs.WireLists.{lacks, with_renamed}
use Rattle.qm_denot.specs.Weights.{operands, also}
use Rattle.qm_denot.specs.Wires.{is_wire}
use Rattle.qm_denot.proofs.Sets.{same_from_is}
use Rattle.qm_proto.specs.Model.Ideal.{made_fresh, width_from}
use Rattle.qm_ideal.specs.Widths.{wire_order, is_unnamed_with}

-- ---- a wire in the place of another
abbrev renamed : Wire → Wire → Wire → Wire
renamed a b v = cond (is_wire v a) b v

pub renamed_more : (a b : Wire) (xs : List Wire) (i : ℕ) (d : Wire) → i < length xs
    → (let now = with_renamed (take i xs) a b ++ drop i xs in slice_set now i (renamed a b (get_or now i d)) ≡ with_renamed (take (i + 1) xs) a b ++ drop (i + 1) xs)
renamed_more a b [] i d within = absurd (omega arith)
renamed_more a b (x ∷ xs) zero d within = refl
renamed_more a b (x ∷ xs) (suc i) d within =
    let e : suc i + 1 ≡ suc (i + 1) = omega arith in
    ap (λ ys. renamed a b x ∷ ys) (renamed_more a b xs i d (omega (arith, within)))
    ∙ sym (ap (λ k. with_renamed (take k (x ∷ xs)) a b ++ drop k (x ∷ xs)) e)

-- ---- one wire more is named
pub same_wire : (v w : Wire) → is_at (wire_order v) w ≡ is_wire v w
unfolding is_wire
same_wire v w = refl

pub noted : (here had : Bool) → not (cond here true had) ≡ (not here && not had)
noted true had = refl
noted false had = refl

-- what a list lacks with more wires, where each stands there once
lacks_again : (nm : List Wire) (w v : Wire) → lacks nm w ≡ false → (not (is_wire w v) && lacks nm v) ≡ lacks nm v
lacks_again nm w v had = by_bool (is_wire w v) refl
  where
    by_bool : (b : Bool) → is_wire w v ≡ b → (not b && lacks nm v) ≡ lacks nm v
    by_bool true e = sym (ap (lacks nm) (sym (same_from_is w v e)) ∙ had)
    by_bool false e = refl

also_cases : (w : Wire) (ws nm : List Wire) (v : Wire) (b : Bool) → lacks nm w ≡ b
    → lacks (also (w ∷ nm) ws) v ≡ is_unnamed_with (lacks (w ∷ nm)) ws v → lacks (also nm ws) v ≡ is_unnamed_with (lacks nm) ws v
    → lacks (cond b (also (w ∷ nm) ws) (also nm ws)) v ≡ is_unnamed_with (λ u. not (is_wire w u) && lacks nm u) ws v
also_cases w ws nm v true e with_it without = with_it
also_cases w ws nm v false e with_it without =
    without ∙ ap (λ f. is_unnamed_with f ws v) (fun_ext (λ u. sym (lacks_again nm w u e)))

also_is : (ws nm : List Wire) (v : Wire) → lacks (also nm ws) v ≡ is_unnamed_with (lacks nm) ws v
also_is [] nm v = refl
also_is (w ∷ ws) nm v = also_cases w ws nm v (lacks nm w) refl (also_is ws (w ∷ nm) v) (also_is ws nm v)

-- ---- the letters so far: the wires that they name, and the width so far against that of the whole
pub record IsSoWide (lack : Wire → Bool) (live : List Wire) (widest : ℕ) (rest : List Letter) (ends : List Wire) (all : ℕ) : Type 0 where
  pub named : List Wire
  pub is_unnamed : (v : Wire) → lack v ≡ lacks named v
  pub total : max widest (width_from live named rest ends) ≡ all

max_assoc : (a b c : ℕ) → max (max a b) c ≡ max a (max b c)
max_assoc a b c = omega arith

pub wide_more : (lack lack' : Wire → Bool) (live now live' : List Wire) (widest : ℕ) (l : Letter) (rest : List Letter) (ends : List Wire) (all : ℕ)
    → IsSoWide lack live widest (l ∷ rest) ends all → now ≡ live ++ filter lack (made_fresh l) → live' ≡ live_after l now
    → ((v : Wire) → lack' v ≡ is_unnamed_with lack (operands l) v) → IsSoWide lack' live' (max widest (length now)) rest ends all
wide_more lack lack' live now live' widest l rest ends all was fresh after noted =
    let nm = was.named in
    let same : lack ≡ lacks nm = fun_ext was.is_unnamed in
    let next = live ++ filter (lacks nm) (made_fresh l) in
    let now_is : now ≡ next = fresh ∙ ap (λ f. live ++ filter f (made_fresh l)) same in
    record {
      named = also nm (operands l);
      is_unnamed = λ v. noted v ∙ ap (λ f. is_unnamed_with f (operands l) v) same ∙ sym (also_is (operands l) nm v);
      total =
          ap₂ (λ n vs. max (max widest (length n)) (width_from vs (also nm (operands l)) rest ends)) now_is (after ∙ ap (live_after l) now_is)
          ∙ max_assoc widest (length next) (width_from (live_after l next) (also nm (operands l)) rest ends) ∙ was.total;
    }

pub wide_end : (lack : Wire → Bool) (live : List Wire) (widest : ℕ) (ends : List Wire) (all : ℕ) → IsSoWide lack live widest [] ends all
    → max widest (length live + length (filter lack ends)) ≡ all
wide_end lack live widest ends all was =
    ap (λ f. max widest (length live + length (filter f ends))) (fun_ext was.is_unnamed) ∙ was.total
