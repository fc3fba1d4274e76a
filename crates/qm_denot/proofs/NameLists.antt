-- Lists of wires, and the list of the wires that a circuit names
use Rattle.std.proofs.Common.{◌≡◌, ◌≢◌, Bool, true, false, not, ◌&&◌, cond, List, [], ◌∷◌, ◌++◌, refl, sym, ap, subst, ◌∙◌}
use Rattle.qm_denot.specs.declared.Wire.{Wire}
use Rattle.qm_denot.specs.declared.Letter.{Letter}
use Rattle.qm_denot.specs.Wires.{is_wire}
use Rattle.qm_denot.specs.WireLists.{Lacks, Distinct, lacks, without_wire}
use Rattle.qm_denot.specs.Circuits.{Circuit}
use Rattle.qm_denot.specs.Weights.{operands, also, names}
use Rattle.qm_denot.proofs.Sets.{is_wire_itself, is_wire_other, same_from_is}
use Rattle.std.proofs.lemmas.Bool.{and_parts}

pub not_sym : {A : Type 0} {a b : A} → a ≢ b → b ≢ a
not_sym ne p = ne (sym p)

pub other_from_is : (v w : Wire) → is_wire v w ≡ false → v ≢ w
other_from_is v w e s = let i : is_wire v w ≡ true = subst (λ u. is_wire v u ≡ true) s (is_wire_itself v) in let k : ⊥ = cc in k

-- ---- the tests
pub is_false : (b : Bool) → not b ≡ true → b ≡ false
is_false true e = cc
is_false false e = refl

pub Lacks-from_test : (ws : List Wire) (w : Wire) → lacks ws w ≡ true → Lacks ws w
Lacks-from_test [] w e = tt
Lacks-from_test (v ∷ ws) w e = let b = and_parts (not (is_wire v w)) (lacks ws w) e in (other_from_is v w (is_false (is_wire v w) b.0), Lacks-from_test ws w b.1)

pub lacks-where_Lacks : (ws : List Wire) (w : Wire) → Lacks ws w → lacks ws w ≡ true
lacks-where_Lacks [] w l = refl
lacks-where_Lacks (v ∷ ws) w l = let a = is_wire_other v w l.0 in let b = lacks-where_Lacks ws w l.1 in rw (a, b) refl

-- a list does not and_parts lack a wire and have it
pub lacking_and_having : {P : Type 0} (ws : List Wire) (w : Wire) → Lacks ws w → lacks ws w ≡ false → P
lacking_and_having ws w l e = let t = lacks-where_Lacks ws w l in absurd (let k : ⊥ = cc in k)

pub lacks-first : (ws : List Wire) (w : Wire) → lacks (w ∷ ws) w ≡ false
lacks-first ws w = let i = is_wire_itself w in rw i refl

pub lacks-rest : (ws : List Wire) (v w : Wire) → lacks ws w ≡ false → lacks (v ∷ ws) w ≡ false
lacks-rest ws v w e = rw e (neither (not (is_wire v w)))
  where
    neither : (b : Bool) → (b && false) ≡ false
    neither true = refl
    neither false = refl

-- each wire of the second list is in the first: what the first lacks, the second lacks
abbrev pub HasAll : List Wire → List Wire → Type 0
HasAll ws ns = (w : Wire) → Lacks ws w → Lacks ns w

pub lacks-HasAll : (ws ns : List Wire) (n : Wire) → HasAll ws (n ∷ ns) → lacks ws n ≡ false
lacks-HasAll ws ns n all = elim (lacks ws n) as (λ b. lacks ws n ≡ b → b ≡ false) [
  | true ↦ λ e. absurd ((all n (Lacks-from_test ws n e)).0 refl)
  | false ↦ λ e. refl
] refl

-- ---- a list without one of its wires
pub without_wire-lacked : (ws : List Wire) (w : Wire) → Lacks ws w → without_wire ws w ≡ ws
without_wire-lacked [] w l = refl
without_wire-lacked (v ∷ ws) w l = let a = is_wire_other v w l.0 in rw a (ap (λ vs. v ∷ vs) (without_wire-lacked ws w l.1))

-- the first wire of the list, as it is or is not the one that goes
without_cases : (P : List Wire → Type 0) (v w : Wire) (ws : List Wire) → (v ≡ w → P (without_wire ws w)) → (v ≢ w → P (v ∷ without_wire ws w))
    → P (without_wire (v ∷ ws) w)
without_cases P v w ws gone kept = elim (is_wire v w) as (λ b. is_wire v w ≡ b → P (cond b (without_wire ws w) (v ∷ without_wire ws w))) [
  | true ↦ λ e. gone (same_from_is v w e)
  | false ↦ λ e. kept (other_from_is v w e)
] refl

pub Lacks-without_wire : (ws : List Wire) (w v : Wire) → Lacks ws v → Lacks (without_wire ws w) v
Lacks-without_wire [] w v l = tt
Lacks-without_wire (u ∷ ws) w v l = without_cases (λ vs. Lacks vs v) u w ws (λ s. Lacks-without_wire ws w v l.1) (λ ne. (l.0, Lacks-without_wire ws w v l.1))

pub Lacks-without_wire_itself : (ws : List Wire) (w : Wire) → Lacks (without_wire ws w) w
Lacks-without_wire_itself [] w = tt
Lacks-without_wire_itself (u ∷ ws) w =
    without_cases (λ vs. Lacks vs w) u w ws (λ s. Lacks-without_wire_itself ws w) (λ ne. (ne, Lacks-without_wire_itself ws w))

pub Lacks-where_without_wire : (ws : List Wire) (w v : Wire) → w ≢ v → Lacks (without_wire ws w) v → Lacks ws v
Lacks-where_without_wire [] w v ne l = tt
Lacks-where_without_wire (u ∷ ws) w v ne l =
    without_cases (λ vs. Lacks vs v → Lacks (u ∷ ws) v) u w ws
    (λ s l. ((λ t. ne (sym s ∙ t)), Lacks-where_without_wire ws w v ne l))
    (λ other l. (l.0, Lacks-where_without_wire ws w v ne l.1)) l

-- what the shorter list has
pub having-without_wire : (ws : List Wire) (w v : Wire) → lacks (without_wire ws w) v ≡ false → (w ≢ v) × (lacks ws v ≡ false)
having-without_wire ws w v e = (
  (λ s. lacking_and_having (without_wire ws w) v (subst (Lacks (without_wire ws w)) s (Lacks-without_wire_itself ws w)) e),
  elim (lacks ws v) as (λ b. lacks ws v ≡ b → b ≡ false) [
    | true ↦ λ t. lacking_and_having (without_wire ws w) v (Lacks-without_wire ws w v (Lacks-from_test ws v t)) e
    | false ↦ λ t. refl
  ] refl,
)

pub HasAll-without_wire : (ws ns : List Wire) (n : Wire) → Lacks ns n → HasAll ws (n ∷ ns) → HasAll (without_wire ws n) ns
HasAll-without_wire ws ns n l all w out = elim (is_wire n w) as (λ b. is_wire n w ≡ b → Lacks ns w) [
  | true ↦ λ e. subst (Lacks ns) (same_from_is n w e) l
  | false ↦ λ e. (all w (Lacks-where_without_wire ws n w (other_from_is n w e) out)).1
] refl

pub Distinct-without_wire : (ws : List Wire) (w : Wire) → Distinct ws → Distinct (without_wire ws w)
Distinct-without_wire [] w d = tt
Distinct-without_wire (u ∷ ws) w d =
    let rest = Distinct-without_wire ws w d.1 in without_cases Distinct u w ws (λ s. rest) (λ ne. (Lacks-without_wire ws w u d.0, rest))

-- ---- a list and another one's wires
-- `also`, as the first wire of the second list is or is not in the first list
also_cases : (P : List Wire → Type 0) (ws : List Wire) (v : Wire) (vs : List Wire)
    → (lacks ws v ≡ true → P (also (v ∷ ws) vs)) → (lacks ws v ≡ false → P (also ws vs)) → P (also ws (v ∷ vs))
also_cases P ws v vs more same =
    elim (lacks ws v) as (λ b. lacks ws v ≡ b → P (cond b (also (v ∷ ws) vs) (also ws vs))) [ true ↦ more | false ↦ same ] refl

pub Lacks-where_also : (ws vs : List Wire) (w : Wire) → Lacks (also ws vs) w → Lacks ws w × Lacks vs w
Lacks-where_also ws [] w l = (l, tt)
Lacks-where_also ws (v ∷ vs) w l =
    also_cases (λ us. Lacks us w → Lacks ws w × Lacks (v ∷ vs) w) ws v vs
    (λ e l. let r = Lacks-where_also (v ∷ ws) vs w l in (r.0.1, (r.0.0, r.1)))
    (λ e l. let r = Lacks-where_also ws vs w l in (r.0, ((λ s. lacking_and_having ws w r.0 (subst (λ u. lacks ws u ≡ false) s e)), r.1))) l

pub Lacks-also : (ws vs : List Wire) (w : Wire) → Lacks ws w → Lacks vs w → Lacks (also ws vs) w
Lacks-also ws [] w l k = l
Lacks-also ws (v ∷ vs) w l k = also_cases (λ us. Lacks us w) ws v vs (λ e. Lacks-also (v ∷ ws) vs w (k.0, l) k.1) (λ e. Lacks-also ws vs w l k.1)

pub Distinct-also : (ws vs : List Wire) → Distinct ws → Distinct (also ws vs)
Distinct-also ws [] d = d
Distinct-also ws (v ∷ vs) d = also_cases Distinct ws v vs (λ e. Distinct-also (v ∷ ws) vs (Lacks-from_test ws v e, d)) (λ e. Distinct-also ws vs d)

-- ---- names
pub Distinct-names : (c : Circuit) → Distinct (names c)
Distinct-names [] = tt
Distinct-names (l ∷ ls) = Distinct-also (names ls) (operands l) (Distinct-names ls)

pub Lacks-where_names_append : (c ls : List Letter) (w : Wire) → Lacks (names (c ++ ls)) w → Lacks (names c) w × Lacks (names ls) w
Lacks-where_names_append [] ls w l = (tt, l)
Lacks-where_names_append (x ∷ c) ls w l =
    let r = Lacks-where_also (names (c ++ ls)) (operands x) w l in
    let s = Lacks-where_names_append c ls w r.0 in
    (Lacks-also (names c) (operands x) w s.0 r.1, s.1)
