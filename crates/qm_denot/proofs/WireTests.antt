-- The code's test whether two wires are equal is that of the definitions
use Rattle.std.proofs.Common.{◌≡◌, ◌∙◌, ℕ, Bool, true, false, cond, not, refl, ap, subst}
use Rattle.std.proofs.Math.Bool.{beq}
use Rattle.std.proofs.Math.Dec.{eqb}
use Rattle.std.specs.Cmp.{booleans_Decides}
use Rattle.std.proofs.lemmas.Bool.{and_parts, and_from, eqb-true, eq-eqb}
use Rattle.std.proofs.lemmas.Bool.Decides.{same_from_decides}
use Rattle.qm_denot.specs.declared.Wire.{Wire}
use Rattle.qm_denot.specs.contracts.WirePartialEq.TheImpl as wire_eq
use Rattle.qm_denot.specs.Wires.{is_wire}
use Rattle.qm_denot.proofs.Sets.{same_from_is, is_wire_itself}

-- the test of two wires in the code
abbrev pub code_wire : Wire → Wire → Bool
code_wire = (wire_eq.ghosts).eq

from_fields : (v w : Wire) → v.rank ≡ w.rank → v.made ≡ w.made → v.near ≡ w.near → v ≡ w
from_fields v w rank made near =
    let build : ℕ → ℕ → Bool → Wire = λ r m n. record { rank = r; made = m; near = n } in
    ap (λ r. build r v.made v.near) rank ∙ ap (λ m. build w.rank m v.near) made ∙ ap (build w.rank w.made) near

pub same_by_code : (v w : Wire) → code_wire v w ≡ true → v ≡ w
same_by_code v w e =
    let one = and_parts (eqb v.rank w.rank) _ e in
    let two = and_parts (eqb v.made w.made) (beq v.near w.near) one.1 in
    from_fields v w (eqb-true v.rank w.rank one.0) (eqb-true v.made w.made two.0) ((booleans_Decides v.near w.near).0 two.1)

code_same : (v w : Wire) → v ≡ w → code_wire v w ≡ true
code_same v w e =
    let rank = eq-eqb v.rank w.rank (ap (λ u. u.rank) e) in
    let made = eq-eqb v.made w.made (ap (λ u. u.made) e) in
    let near = (booleans_Decides v.near w.near).1 (ap (λ u. u.near) e) in
    and_from _ _ rank (and_from _ _ made near)

-- it is that of the definitions
pub code_wire-is_wire : (v w : Wire) → code_wire v w ≡ is_wire v w
code_wire-is_wire v w =
    same_from_decides (code_wire v w) (is_wire v w) (same_by_code v w, code_same v w) (same_from_is v w, λ e. subst (λ u. is_wire v u ≡ true) e (is_wire_itself v))

-- a choice by the opposite
pub cond_not : {A : Type 0} (b : Bool) (x y : A) → cond (not b) x y ≡ cond b y x
cond_not true x y = refl
cond_not false x y = refl
