-- Sums over the sets of wires inside a list
use Rattle.std.proofs.Common.{◌≡◌, ◌≢◌, ℕ, zero, suc, ◌+◌, ◌*◌, ◌^◌, ◌≤◌, ◌⊎◌, inl, inr, Bool, true, false, not, ◌&&◌, cond, List, [], ◌∷◌, length, refl, sym, ap, subst, ◌∙◌, arith}
use Rattle.std.proofs.Math.Nat.{pow-succ', le_of_mul-le-mul_left, le_antisymm}
use Rattle.std.proofs.lemmas.Nat.{pow_pos}
use Rattle.qm_denot.specs.declared.Wire.{Wire}
use Rattle.qm_denot.specs.Wires.{Wires, has, put, is_wire}
use Rattle.qm_denot.specs.WireLists.{Lacks, Distinct, lacks, without_wire}
use Rattle.qm_denot.specs.Weights.{total}
use Rattle.qm_denot.proofs.Sets.{has-put_same, has-put_other, put_twice, put_swap, put_has, same_wires, same_from_is}
use Rattle.qm_denot.proofs.NameLists.{not_sym, other_from_is, lacks-first, lacks-rest, having-without_wire, HasAll-without_wire, HasAll, lacks-HasAll, without_wire-lacked, Lacks-without_wire_itself, Distinct-without_wire}

pub total-same : (ws : List Wire) (f g : Wires → ℕ) (x : Wires) → ((y : Wires) → f y ≡ g y) → total ws f x ≡ total ws g x
total-same [] f g x same = same x
total-same (w ∷ ws) f g x same = let p = total-same ws f g (put x w false) same in let q = total-same ws f g (put x w true) same in rw (p, q) refl

pub total-le : (ws : List Wire) (f g : Wires → ℕ) (x : Wires) → ((y : Wires) → f y ≤ g y) → total ws f x ≤ total ws g x
total-le [] f g x below = below x
total-le (w ∷ ws) f g x below = let p = total-le ws f g (put x w false) below in let q = total-le ws f g (put x w true) below in omega arith

pub total-plus : (ws : List Wire) (f g : Wires → ℕ) (x : Wires) → total ws (λ y. f y + g y) x ≡ total ws f x + total ws g x
total-plus [] f g x = refl
total-plus (w ∷ ws) f g x = omega (arith, total-plus ws f g (put x w false), total-plus ws f g (put x w true))

pub total-times : (ws : List Wire) (k : ℕ) (f : Wires → ℕ) (x : Wires) → total ws (λ y. k * f y) x ≡ k * total ws f x
total-times [] k f x = refl
total-times (w ∷ ws) k f x = let p = total-times ws k f (put x w false) in let q = total-times ws k f (put x w true) in rw (p, q) (omega arith)

total-zero : (ws : List Wire) (f : Wires → ℕ) (x : Wires) → ((y : Wires) → f y ≡ 0) → total ws f x ≡ 0
total-zero [] f x none = none x
total-zero (w ∷ ws) f x none = let a = total-zero ws f (put x w false) none in let b = total-zero ws f (put x w true) none in rw (a, b) refl

-- a wire that is not summed over stays as it is put
pub total-put : (ws : List Wire) (w : Wire) (b : Bool) (f : Wires → ℕ) (x : Wires) → Lacks ws w → total ws f (put x w b) ≡ total ws (λ y. f (put y w b)) x
total-put [] w b f x l = refl
total-put (v ∷ ws) w b f x l =
    let at : (t : Bool) → total ws f (put (put x w b) v t) ≡ total ws (λ y. f (put y w b)) (put x v t) =
    λ t. ap (total ws f) (put_swap x w v b t (not_sym l.0)) ∙ total-put ws w b f (put x v t) l.1 in
    let p = at false in let q = at true in rw (p, q) refl

-- ---- one wire of the list at a time
-- a wire of the list brought to its front
total-front : (ws : List Wire) (w : Wire) (f : Wires → ℕ) (x : Wires) → Distinct ws → lacks ws w ≡ false
    → total ws f x ≡ total (without_wire ws w) f (put x w false) + total (without_wire ws w) f (put x w true)
total-front [] w f x d has_it = let k : ⊥ = cc in absurd k
total-front (v ∷ ws) w f x d has_it = by_case (is_wire v w) refl has_it (λ b later. total-front ws w f (put x v b) d.1 later)
  where
    by_case : (b : Bool) → is_wire v w ≡ b → (not b && lacks ws w) ≡ false
        → ((b : Bool) → lacks ws w ≡ false
        → total ws f (put x v b) ≡ total (without_wire ws w) f (put (put x v b) w false) + total (without_wire ws w) f (put (put x v b) w true))
        → total ws f (put x v false) + total ws f (put x v true)
        ≡ total (cond b (without_wire ws w) (v ∷ without_wire ws w)) f (put x w false)
        + total (cond b (without_wire ws w) (v ∷ without_wire ws w)) f (put x w true)
    by_case true s here rest =
        let e = same_from_is v w s in
        let same : without_wire ws w ≡ ws = without_wire-lacked ws w (subst (Lacks ws) e d.0) in
        rw same (subst (λ u. total ws f (put x v false) + total ws f (put x v true) ≡ total ws f (put x u false) + total ws f (put x u true)) e refl)
    by_case false s later rest =
        let a = rest false later in
        let b = rest true later in
        let ne = other_from_is v w s in
        let swap : (b c : Bool) → put (put x v b) w c ≡ put (put x w c) v b = λ b c. put_swap x v w b c ne in
        let s1 = swap false false in let s2 = swap false true in let s3 = swap true false in let s4 = swap true true in
        rw (a, b, s1, s2, s3, s4) (omega arith)

-- f summed over both choices of one wire of the list is counted twice
total-spread : (ws : List Wire) (w : Wire) (f : Wires → ℕ) (x : Wires) → Distinct ws → lacks ws w ≡ false
    → total ws (λ y. f (put y w false) + f (put y w true)) x ≡ 2 * total ws f x
total-spread ws w f x d has_it =
    let vs = without_wire ws w in
    let l = Lacks-without_wire_itself ws w in
    let part : (b c : Bool) → total vs (λ y. f (put y w b)) (put x w c) ≡ total vs f (put x w b) =
    λ b c. sym (total-put vs w b f (put x w c) l) ∙ ap (total vs f) (put_twice x w c b) in
    let whole : (c : Bool) → total vs (λ y. f (put y w false) + f (put y w true)) (put x w c) ≡ total vs f (put x w false) + total vs f (put x w true) =
    λ c. total-plus vs (λ y. f (put y w false)) (λ y. f (put y w true)) (put x w c) ∙ (let p = part false c in let q = part true c in rw (p, q) refl) in
    let p = whole false in let q = whole true in
    let left = total-front ws w (λ y. f (put y w false) + f (put y w true)) x d has_it in
    let right = total-front ws w f x d has_it in
    omega arith

-- likewise with each wire of a list
total-spread_all : (ws ns : List Wire) (f : Wires → ℕ) (x : Wires) → Distinct ws → HasAll ws ns → total ws (total ns f) x ≡ 2 ^ length ns * total ws f x
total-spread_all ws [] f x d all = omega arith
total-spread_all ws (n ∷ ns) f x d all =
    let first = total-spread ws n (total ns f) x d (lacks-HasAll ws ns n all) in
    let rest = total-spread_all ws ns f x d (λ w l. (all w l).1) in
    first ∙ ap (λ k. 2 * k) rest ∙ again (length ns) (total ws f x)
  where
    again : (n t : ℕ) → 2 * (2 ^ n * t) ≡ 2 ^ suc n * t
    again n t = let p = pow-succ' 2 n in rw p (omega arith)

module _ (ws ns : List Wire) (k : ℕ) (f g : Wires → ℕ) (x : Wires) (d : Distinct ws) (all : HasAll ws ns) where
  -- a sum over all wires is bounded where the sums over some of them are
  pub total-le_locally : ((y : Wires) → total ns f y ≤ k * total ns g y) → total ws f x ≤ k * total ws g x
  total-le_locally below =
      let a = total-spread_all ws ns f x d all in
      let b = ap (λ t. k * t) (total-spread_all ws ns g x d all) in
      let c = total-le ws (total ns f) (λ y. k * total ns g y) x below in
      let e = total-times ws k (total ns g) x in
      let h : 2 ^ length ns * total ws f x ≤ 2 ^ length ns * (k * total ws g x) = omega arith in
      le_of_mul-le-mul_left h (pow_pos (length ns))

  pub total-same_locally : ((y : Wires) → total ns f y ≡ k * total ns g y) → total ws f x ≡ k * total ws g x
  total-same_locally same =
      let a = total-spread_all ws ns f x d all in
      let b = ap (λ t. k * t) (total-spread_all ws ns g x d all) in
      let c = total-same ws (total ns f) (λ y. k * total ns g y) x same in
      let e = total-times ws k (total ns g) x in
      let h : 2 ^ length ns * total ws f x ≤ 2 ^ length ns * (k * total ws g x) = omega arith in
      let h' : 2 ^ length ns * (k * total ws g x) ≤ 2 ^ length ns * total ws f x = omega arith in
      le_antisymm (le_of_mul-le-mul_left h (pow_pos (length ns))) (le_of_mul-le-mul_left h' (pow_pos (length ns)))

-- ---- the same sum over another list
-- f is zero wherever a wire of ws is one that ns lacks
abbrev pub IsZeroBeyond : (Wires → ℕ) → List Wire → List Wire → Type 0
IsZeroBeyond f ws ns = (y : Wires) (w : Wire) → has y w ≡ true → lacks ws w ≡ false → Lacks ns w → f y ≡ 0

-- no wire of the list is in x
abbrev pub IsOff : List Wire → Wires → Type 0
IsOff ws x = (w : Wire) → lacks ws w ≡ false → has x w ≡ false

total-none : (ws : List Wire) (f : Wires → ℕ) (x : Wires) → Distinct ws → IsZeroBeyond f ws [] → IsOff ws x → total ws f x ≡ f x
total-none [] f x d beyond off = refl
total-none (w ∷ ws) f x d beyond off =
    let none : put x w false ≡ x = put_has x w false (off w (lacks-first ws w)) in
    let ones : total ws f (put x w true) ≡ 0 =
    total-put ws w true f x d.0 ∙ total-zero ws (λ y. f (put y w true)) x (λ y. beyond (put y w true) w (has-put_same y w true) (lacks-first ws w) tt) in
    let rest = total-none ws f x d.1 (λ y v h e l. beyond y v h (lacks-rest ws w v e) l) (λ v e. off v (lacks-rest ws w v e)) in
    rw (none, ones, rest) (omega arith)

-- the sum is the same over each list that has all wires where f is not zero
pub total-any : (ns ws : List Wire) (f : Wires → ℕ) (x : Wires) → Distinct ns → Distinct ws → HasAll ws ns → IsZeroBeyond f ws ns → IsOff ws x
    → total ws f x ≡ total ns f x
total-any [] ws f x dn dw all beyond off = total-none ws f x dw beyond off
total-any (n ∷ ns) ws f x dn dw all beyond off =
    let ws' = without_wire ws n in
    let part : (b : Bool) → total ws' f (put x n b) ≡ total ns f (put x n b) = λ b.
    total-any ns ws' f (put x n b) dn.1 (Distinct-without_wire ws n dw) (HasAll-without_wire ws ns n dn.0 all)
    (λ y w h e l. let r = having-without_wire ws n w e in beyond y w h r.1 (r.0, l))
    (λ w e. let r = having-without_wire ws n w e in has-put_other x n b w (not_sym r.0) ∙ off w r.1) in
    let p = part false in let q = part true in
    total-front ws n f x dw (lacks-HasAll ws ns n all) ∙ rw (p, q) refl

-- ---- one term of a sum
-- a term is at most the sum, at a set that differs from x at wires of the list alone
pub term_below_total : (ws : List Wire) (f : Wires → ℕ) (x y : Wires) → ((w : Wire) → Lacks ws w → has y w ≡ has x w) → f y ≤ total ws f x
term_below_total [] f x y same = let e = same_wires y x (λ w. same w tt) in rw e (omega arith)
term_below_total (w ∷ ws) f x y same = elim (has y w) as (λ b. has y w ≡ b → f y ≤ total (w ∷ ws) f x) [
  | true ↦ λ e. let below = term_below_total ws f (put x w true) y (inner true e) in omega arith
  | false ↦ λ e. let below = term_below_total ws f (put x w false) y (inner false e) in omega arith
] refl
  where
    inner : (b : Bool) → has y w ≡ b → (v : Wire) → Lacks ws v → has y v ≡ has (put x w b) v
    inner b e v l = elim (is_wire w v) as (λ t. is_wire w v ≡ t → has y v ≡ has (put x w b) v) [
      | true ↦ λ s. subst (λ u. has y u ≡ has (put x w b) u) (same_from_is w v s) (e ∙ sym (has-put_same x w b))
      | false ↦ λ s. let ne = other_from_is w v s in same v (ne, l) ∙ sym (has-put_other x w b v (not_sym ne))
    ] refl

-- a sum that is not zero has a term that is not zero
pub term_of_total : (ws : List Wire) (f : Wires → ℕ) (x : Wires) → total ws f x ≢ 0 → (y : Wires) × (f y ≢ 0)
term_of_total [] f x ne = (x, ne)
term_of_total (w ∷ ws) f x ne = elim (zero_or (total ws f (put x w false))) [
  | inl e ↦ term_of_total ws f (put x w true) (λ z. ne (omega arith))
  | inr some ↦ term_of_total ws f (put x w false) some
]
  where
    zero_or : (n : ℕ) → (n ≡ 0) ⊎ (n ≢ 0)
    zero_or zero = inl refl
    zero_or (suc n) = inr (λ e. let k : ⊥ = omega arith in k)
