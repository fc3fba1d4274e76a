-- Two new wires at the list's end: their places are the two above all others
use Rattle.std.proofs.Common.{◌≡◌, ◌≢◌, ℕ, zero, suc, ◌+◌, ◌*◌, ◌/◌, ◌%◌, ◌<◌, ◌^◌, Bool, true, false, cond, List, [], ◌∷◌, ◌++◌, length, Contains, append_assoc, refl, sym, ap, subst, ◌∙◌, arith}
use Rattle.std.proofs.lemmas.Nat.{pow-add}
use Rattle.std.proofs.Math.Nat.{pow-suc}
use Rattle.qm_zomega.specs.declared.Zw.{Zw}
use Rattle.qm_zomega.specs.Numbers.{Number, zero_number}
use Rattle.qm_denot.specs.declared.Wire.{Wire}
use Rattle.qm_denot.specs.declared.Letter.TheVariants.{Pair}
use Rattle.qm_denot.specs.Wires.{Wires, has, put}
use Rattle.qm_denot.specs.WireLists.{Lacks, Distinct}
use Rattle.qm_denot.specs.Circuits.{with_letter, same_bit}
use Rattle.qm_denot.specs.Places.{set_place, index_of, is_within, IsFirstAt}
use Rattle.qm_denot.specs.ListStores.{listed_value, listed_store, Does}
use Rattle.qm_denot.specs.LettersByPlace.{pair_at}
use Rattle.qm_zomega.specs.NumberLists.{number_at, IsListOf, Reduces}
use Rattle.qm_denot.specs.Sound.{Keeps}
use Rattle.qm_denot.proofs.Sets.{has-put_same, has-put_other}
use Rattle.qm_denot.proofs.PlaceLaws.{has-index, index-put, index_below, within-put}
use Rattle.qm_denot.proofs.LiveWires.{Lacks-from_absent, Lacks-push, Distinct-push}
use Rattle.qm_denot.proofs.FreshLaws.{index-push_zero, within-push_zero}
use Rattle.qm_denot.proofs.PlainLaws.{keeps, does_letter}

-- the list with the two wires of a pair
abbrev with_two : List Wire → Wire → Wire → List Wire
with_two ws a b = ws ++ a ∷ b ∷ []

-- ---- the wires of the list
distinct_two : (ws : List Wire) (a b : Wire) → Distinct ws → Lacks ws a → Lacks ws b → a ≢ b → Distinct (with_two ws a b)
distinct_two ws a b d la lb ne =
    subst Distinct (append_assoc ws (a ∷ []) (b ∷ [])) (Distinct-push (ws ++ a ∷ []) b (Distinct-push ws a d la) (Lacks-push ws a b lb ne))

-- where the two stand
first_new : (ws : List Wire) (a b : Wire) → Lacks ws a → IsFirstAt (with_two ws a b) (length ws) a
first_new [] a b l = refl
first_new (v ∷ ws) a b l = (l.0, first_new ws a b l.1)

second_new : (ws : List Wire) (a b : Wire) → Lacks ws b → a ≢ b → IsFirstAt (with_two ws a b) (suc (length ws)) b
second_new [] a b l ne = (ne, refl)
second_new (v ∷ ws) a b l ne = (l.0, second_new ws a b l.1 ne)

length-two : (ws : List Wire) (a b : Wire) → length (with_two ws a b) ≡ length ws + 2
length-two [] a b = refl
length-two (v ∷ ws) a b = let r = length-two ws a b in omega arith

-- ---- where both are zero
index-two : (ws : List Wire) (a b : Wire) (x : Wires) → has x a ≡ false → has x b ≡ false → index_of (with_two ws a b) x ≡ index_of ws x
index-two ws a b x p q =
    subst (λ us. index_of us x ≡ index_of ws x) (append_assoc ws (a ∷ []) (b ∷ [])) (index-push_zero (ws ++ a ∷ []) b x q ∙ index-push_zero ws a x p)

within-two : (ws : List Wire) (a b : Wire) (x : Wires) → Lacks ws a → Lacks ws b → a ≢ b → has x a ≡ false → has x b ≡ false → is_within x (with_two ws a b) ≡ is_within x ws
within-two ws a b x la lb ne p q =
    subst (λ us. is_within x us ≡ is_within x ws) (append_assoc ws (a ∷ []) (b ∷ []))
    (within-push_zero (ws ++ a ∷ []) b x (Lacks-push ws a b lb ne) q ∙ within-push_zero ws a x la p)

-- ---- an index without the two places
set_place-half : (n k : ℕ) → (k % 2 + 2 * set_place n false (k / 2)) / 2 ≡ set_place n false (k / 2)
set_place-half n k = omega arith

two_cleared : (n k : ℕ) → k < 2 ^ (n + 2) → set_place (suc n) false (set_place n false k) < 2 ^ n
two_cleared zero k h = omega arith
two_cleared (suc n) k h =
    let e : suc n + 2 ≡ suc (n + 2) = omega arith in
    let small : k < 2 * 2 ^ (n + 2) = let l = rw (e, pow-suc 2 (n + 2)) at h in omega arith in
    let r = two_cleared n (k / 2) (omega arith) in
    let p = pow-suc 2 n in
    rw (set_place-half n k) (omega arith)

-- an index without the two new places is one of the list before
pub cleared_below : (n k : ℕ) → k < 4 * 2 ^ n → set_place (n + 1) false (set_place n false k) < 2 ^ n
cleared_below n k h =
    let e : n + 1 ≡ suc n = omega arith in
    let f : n + 2 ≡ suc (suc n) = omega arith in
    rw e (two_cleared n k (rw (f, pow-suc 2 (suc n), pow-suc 2 n) (omega arith)))

-- ---- the numbers after `Pair`
module _ (ws : List Wire) (a b : Wire) (old new : List Zw) (d : Distinct ws) (la : Lacks ws a) (lb : Lacks ws b) (ne : a ≢ b)
    (made : (k : ℕ) → k < 2 ^ length (with_two ws a b) → number_at new k ≡ pair_at zero_number (length ws) (number_at old) k) where
  distinct : Distinct (with_two ws a b)
  distinct = distinct_two ws a b d la lb ne

  first : IsFirstAt (with_two ws a b) (length ws) a
  first = first_new ws a b la

  second : IsFirstAt (with_two ws a b) (length ws + 1) b
  second = let e : length ws + 1 ≡ suc (length ws) = omega arith in rw e (second_new ws a b lb ne)

  -- x without the two
  abbrev below : Wires → Wires
  below x = put (put x a false) b false

  within-below : (x : Wires) → is_within (below x) ws ≡ is_within x (with_two ws a b)
  within-below x =
      sym (within-two ws a b (below x) la lb ne (has-put_other (put x a false) b false a ne ∙ has-put_same x a false) (has-put_same (put x a false) b false))
      ∙ within-put (with_two ws a b) (length ws + 1) b (put x a false) false second
      ∙ within-put (with_two ws a b) (length ws) a x false first

  index-below : (x : Wires) → index_of ws (below x) ≡ set_place (length ws + 1) false (set_place (length ws) false (index_of (with_two ws a b) x))
  index-below x =
      sym (index-two ws a b (below x) (has-put_other (put x a false) b false a ne ∙ has-put_same x a false) (has-put_same (put x a false) b false))
      ∙ index-put (with_two ws a b) (length ws + 1) b (put x a false) false distinct second
      ∙ ap (set_place (length ws + 1) false) (index-put (with_two ws a b) (length ws) a x false distinct first)

  value_paired : (x : Wires) → listed_value (with_two ws a b) new x ≡ with_letter (Pair a b) (listed_value ws old) x
  value_paired x =
      let k = index_of (with_two ws a b) x in
      let n = length ws in
      let number = made k (index_below (with_two ws a b) x) in
      let place_a = has-index (with_two ws a b) n a x first in
      let place_b = has-index (with_two ws a b) (n + 1) b x second in
      rw (number, place_a, place_b, within-below x, index-below x) (swapped (is_within x (with_two ws a b)) (same_bit (has x a) (has x b)) _)
    where
      swapped : (s t : Bool) (z : Number) → cond s (cond t z zero_number) zero_number ≡ cond t (cond s z zero_number) zero_number
      swapped true true z = refl
      swapped true false z = refl
      swapped false true z = refl
      swapped false false z = refl

-- ---- what the store keeps
module _ (live : List Wire) (a b : Wire) (k j : ℕ) (zs made new : List Zw) (kept : Keeps live zs k) (size : length zs ≡ 2 ^ length live)
    (no_a : ¬ (Contains live a)) (no_b : ¬ (Contains live b)) (ne : a ≢ b) (done : IsListOf made (length zs * 4) (pair_at zero_number (length live) (number_at zs))) (reduces : Reduces made (k + 1) new j) where
  lacks_a : Lacks live a
  lacks_a = Lacks-from_absent live a no_a

  lacks_b : Lacks live b
  lacks_b = Lacks-from_absent live b no_b

  pub size_paired : length new ≡ 2 ^ length (with_two live a b)
  size_paired =
      let more : 2 ^ length (with_two live a b) ≡ 2 ^ length live * 4 = ap (λ n. 2 ^ n) (length-two live a b) ∙ pow-add 2 (length live) 2 in
      reduces.size ∙ done.size ∙ ap (λ n. n * 4) size ∙ sym more

  pub keeps_paired : Keeps (with_two live a b) new j
  keeps_paired = keeps (with_two live a b) new j (distinct_two live a b kept.distinct lacks_a lacks_b ne) size_paired reduces.reduced

  pub does_paired : (n : ℕ) → Does (Pair a b) (listed_store n live k zs) (listed_store n (with_two live a b) j new)
  does_paired n =
      does_letter (Pair a b) n live (with_two live a b) k j zs made new keeps_paired refl reduces
      (value_paired live a b zs made kept.distinct lacks_a lacks_b ne
      (λ i h. done.numbers i (let e = size_paired in let s = reduces.size in let t = done.size in rw (← t, ← s, e) h)))
