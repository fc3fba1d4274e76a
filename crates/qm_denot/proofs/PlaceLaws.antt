-- Indices, their places, and the sets of wires that they stand for
use Rattle.std.proofs.Common.{◌≡◌, ℕ, zero, suc, ◌+◌, ◌*◌, ◌/◌, ◌%◌, ◌^◌, ◌<◌, nat_eq, Bool, true, false, cond, List, [], ◌∷◌, length, refl, sym, ap, subst, ◌∙◌, arith}
use Rattle.std.proofs.lemmas.Bool.Decides.{nat_tests}
use Rattle.std.proofs.lemmas.Nat.{pow_below}
use Rattle.std.proofs.Math.Nat.{pow-suc, pow-succ', div-div-eq-div-mul}
use Rattle.qm_denot.specs.declared.Wire.{Wire}
use Rattle.qm_denot.specs.Wires.{Wires, has, put, is_empty, no_wires}
use Rattle.qm_denot.specs.WireLists.{Lacks, Distinct}
use Rattle.qm_denot.specs.Places.{bit_of, has_place, set_place, index_of, without, is_within, set_at, IsFirstAt}
use Rattle.qm_denot.proofs.NameLists.{not_sym}
use Rattle.qm_denot.proofs.Sets.{has-put_same, has-put_other, put_twice, put_swap, put_has, not_empty, has-no_wires, is_empty-no_wires}

-- ---- an index
pub half_bit : (b : Bool) (k : ℕ) → (bit_of b + 2 * k) / 2 ≡ k
half_bit true k = omega arith
half_bit false k = omega arith

pub rest_bit : (b : Bool) (k : ℕ) → (bit_of b + 2 * k) % 2 ≡ bit_of b
rest_bit true k = omega arith
rest_bit false k = omega arith

pub test_bit : (b : Bool) → nat_eq (bit_of b) 1 ≡ b
test_bit true = refl
test_bit false = refl

pub has-index : (ws : List Wire) (p : ℕ) (w : Wire) (x : Wires) → IsFirstAt ws p w → has_place p (index_of ws x) ≡ has x w
has-index [] p w x at = absurd at
has-index (v ∷ ws) zero w x at = ap (λ n. nat_eq n 1) (rest_bit (has x v) (index_of ws x)) ∙ test_bit _ ∙ ap (has x) at
has-index (v ∷ ws) (suc p) w x at = ap (has_place p) (half_bit (has x v) (index_of ws x)) ∙ has-index ws p w x at.1

pub index-put_lacks : (ws : List Wire) (w : Wire) (x : Wires) (b : Bool) → Lacks ws w → index_of ws (put x w b) ≡ index_of ws x
index-put_lacks [] w x b l = refl
index-put_lacks (v ∷ ws) w x b l =
    let h : has (put x w b) v ≡ has x v = has-put_other x w b v l.0 in
    let r : index_of ws (put x w b) ≡ index_of ws x = index-put_lacks ws w x b l.1 in
    rw (h, r) refl

pub index-put : (ws : List Wire) (p : ℕ) (w : Wire) (x : Wires) (b : Bool) → Distinct ws → IsFirstAt ws p w → index_of ws (put x w b) ≡ set_place p b (index_of ws x)
index-put [] p w x b d at = absurd at
index-put (v ∷ ws) zero w x b d at =
    let h : has (put x w b) v ≡ b = subst (λ u. has (put x w b) u ≡ b) (sym at) (has-put_same x w b) in
    let r : index_of ws (put x w b) ≡ index_of ws x = index-put_lacks ws w x b (subst (Lacks ws) at d.0) in
    rw (h, r, half_bit (has x v) (index_of ws x)) refl
index-put (v ∷ ws) (suc p) w x b d at =
    let h : has (put x w b) v ≡ has x v = has-put_other x w b v at.0 in
    let r = index-put ws p w x b d.1 at.1 in
    rw (h, r, half_bit (has x v) (index_of ws x), rest_bit (has x v) (index_of ws x)) refl

pub index_below : (ws : List Wire) (x : Wires) → index_of ws x < 2 ^ length ws
index_below [] x = omega arith
index_below (w ∷ ws) x = let h = index_below ws x in let p = pow-suc 2 (length ws) in elim (has x w) as (λ b. bit_of b + 2 * index_of ws x < 2 ^ suc (length ws)) [ true ↦ omega arith | false ↦ omega arith ]

-- ---- what lies outside
without-put : (ws : List Wire) (p : ℕ) (w : Wire) (x : Wires) (b : Bool) → IsFirstAt ws p w → without (put x w b) ws ≡ without x ws
without-put [] p w x b at = absurd at
without-put (v ∷ ws) zero w x b at = ap (λ y. without y ws) (subst (λ u. put (put x w b) u false ≡ put x u false) (sym at) (put_twice x w b false))
without-put (v ∷ ws) (suc p) w x b at = ap (λ y. without y ws) (put_swap x w v b false (not_sym at.0)) ∙ without-put ws p w (put x v false) b at.1

pub within-put : (ws : List Wire) (p : ℕ) (w : Wire) (x : Wires) (b : Bool) → IsFirstAt ws p w → is_within (put x w b) ws ≡ is_within x ws
within-put ws p w x b at = ap is_empty (without-put ws p w x b at)

pub has-without : (ws : List Wire) (w : Wire) (x : Wires) → Lacks ws w → has (without x ws) w ≡ has x w
has-without [] w x l = refl
has-without (v ∷ ws) w x l = has-without ws w (put x v false) l.1 ∙ has-put_other x v false w (not_sym l.0)

-- a set with a wire that ws lacks isn't within ws
pub not_within : (ws : List Wire) (w : Wire) (x : Wires) → Lacks ws w → has x w ≡ true → is_within x ws ≡ false
not_within ws w x l h = not_empty (without x ws) w (has-without ws w x l ∙ h)

-- ---- the bits of an index in closed form
pub set_place-closed : (p : ℕ) (b : Bool) (k : ℕ) → set_place p b k + cond (has_place p k) (2 ^ p) 0 ≡ k + cond b (2 ^ p) 0
set_place-closed zero true k = grind (arith, nat_tests)
set_place-closed zero false k = grind (arith, nat_tests)
set_place-closed (suc p) b k =
    let e = pow-suc 2 p in let r = set_place-closed p b (k / 2) in
    elim (has_place p (k / 2)) as (λ t. set_place p b (k / 2) + cond t (2 ^ p) 0 ≡ k / 2 + cond b (2 ^ p) 0 → k % 2 + 2 * set_place p b (k / 2) + cond t (2 ^ suc p) 0 ≡ k + cond b (2 ^ suc p) 0) [
      | true ↦ elim b as (λ b. set_place p b (k / 2) + 2 ^ p ≡ k / 2 + cond b (2 ^ p) 0 → k % 2 + 2 * set_place p b (k / 2) + 2 ^ suc p ≡ k + cond b (2 ^ suc p) 0) [ true ↦ λ h. omega arith | false ↦ λ h. omega arith ]
      | false ↦ elim b as (λ b. set_place p b (k / 2) + 0 ≡ k / 2 + cond b (2 ^ p) 0 → k % 2 + 2 * set_place p b (k / 2) + 0 ≡ k + cond b (2 ^ suc p) 0) [ true ↦ λ h. omega arith | false ↦ λ h. omega arith ]
    ] r

pub has_place_closed : (p k : ℕ) → has_place p k ≡ nat_eq (k / 2 ^ p % 2) 1
has_place_closed zero k = let e : k / 1 ≡ k = omega arith in rw e refl
has_place_closed (suc p) k = has_place_closed p (k / 2) ∙ ap (λ n. nat_eq (n % 2) 1) (let e : 2 ^ suc p ≡ 2 * 2 ^ p = pow-succ' 2 p in rw e (div-div-eq-div-mul k 2 (2 ^ p)))

pub set_place_below : (p : ℕ) (b : Bool) (k n : ℕ) → p < n → k < 2 ^ n → set_place p b k < 2 ^ n
set_place_below p b k zero h l = absurd (omega arith)
set_place_below zero b k (suc n) h l = let e = pow-suc 2 n in elim b as (λ b. bit_of b + 2 * (k / 2) < 2 ^ suc n) [ true ↦ omega arith | false ↦ omega arith ]
set_place_below (suc p) b k (suc n) h l = let e = pow-suc 2 n in let r = set_place_below p b (k / 2) n (omega arith) (omega arith) in omega arith

pub power_fits : (p : ℕ) → p < 32 → 2 ^ p < 2 ^ 32
power_fits p h = pow_below p 32 h

pub place_kept : (p k : ℕ) (b : Bool) → has_place p k ≡ b → set_place p b k ≡ k
place_kept p k true e = let c = set_place-closed p true k in let d = rw e at c in omega arith
place_kept p k false e = let c = set_place-closed p false k in let d = rw e at c in omega arith

pub place_added : (p k : ℕ) → has_place p k ≡ false → set_place p true k ≡ k + 2 ^ p
place_added p k e = let c = set_place-closed p true k in let d = rw e at c in omega arith

pub place_cleared : (p k : ℕ) → has_place p k ≡ true → set_place p false k + 2 ^ p ≡ k
place_cleared p k e = let c = set_place-closed p false k in let d = rw e at c in omega arith

-- ---- the set with a given index
bit_of-test : (k : ℕ) → bit_of (nat_eq (k % 2) 1) ≡ k % 2
bit_of-test k = grind (arith, nat_tests)

pub index-set_at : (ws : List Wire) (k : ℕ) → Distinct ws → k < 2 ^ length ws → index_of ws (set_at ws k) ≡ k
unfolding set_at
index-set_at [] k d h = omega arith
index-set_at (w ∷ ws) k d h =
    let e = pow-suc 2 (length ws) in
    let y = set_at ws (k / 2) in
    let b = nat_eq (k % 2) 1 in
    let r : index_of ws (put y w b) ≡ k / 2 = index-put_lacks ws w y b d.0 ∙ index-set_at ws (k / 2) d.1 (omega arith) in
    rw (has-put_same y w b, r, bit_of-test k) (omega arith)

has-set_at : (ws : List Wire) (k : ℕ) (w : Wire) → Lacks ws w → has (set_at ws k) w ≡ false
unfolding set_at
has-set_at [] k w l = has-no_wires w
has-set_at (v ∷ ws) k w l = has-put_other (set_at ws (k / 2)) v (nat_eq (k % 2) 1) w (not_sym l.0) ∙ has-set_at ws (k / 2) w l.1

without-set_at : (ws : List Wire) (k : ℕ) → Distinct ws → without (set_at ws k) ws ≡ no_wires
unfolding set_at
without-set_at [] k d = refl
without-set_at (w ∷ ws) k d =
    ap (λ y. without y ws) (put_twice (set_at ws (k / 2)) w (nat_eq (k % 2) 1) false ∙ put_has (set_at ws (k / 2)) w false (has-set_at ws (k / 2) w d.0)) ∙ without-set_at ws (k / 2) d.1

pub within-set_at : (ws : List Wire) (k : ℕ) → Distinct ws → is_within (set_at ws k) ws ≡ true
within-set_at ws k d = ap is_empty (without-set_at ws k d) ∙ is_empty-no_wires
