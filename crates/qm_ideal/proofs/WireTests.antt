-- The wires that differ from one, as the code finds them
use Rattle.std.proofs.Common.{◌≡◌, ◌∙◌, not, cond, List, [], ◌∷◌, filter, refl, ap}
use Rattle.qm_denot.specs.declared.Wire.{Wire}
use Rattle.qm_denot.specs.Wires.{is_wire}
use Rattle.qm_denot.specs.WireLists.{without_wire}
use Rattle.qm_denot.proofs.WireTests.{code_wire, code_wire-is_wire, cond_not}

-- the wires that differ from w
pub without_wire-filter : (ws : List Wire) (w : Wire) → filter (λ v. not (code_wire v w)) ws ≡ without_wire ws w
without_wire-filter [] w = refl
without_wire-filter (v ∷ ws) w =
    let rest = filter (λ u. not (code_wire u w)) ws in
    cond_not (code_wire v w) (v ∷ rest) rest
    ∙ ap (λ b. cond b rest (v ∷ rest)) (code_wire-is_wire v w)
    ∙ ap (λ vs. cond (is_wire v w) vs (v ∷ vs)) (without_wire-filter ws w)
