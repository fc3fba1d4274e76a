use Rattle.std.proofs.Common.{◌≡◌, ◌∙◌, true, false, cond, sym, ap}
use Rattle.qm_denot.specs.Wires.{is_wire}
use Rattle.qm_denot.proofs.WireTests.{code_wire-is_wire}
use Rattle.qm_ideal.proofs.width.renamed.Goals as goal

pub returns-then-eq : goal.returns-then-eq
returns-then-eq c = let e : is_wire c.args.wire c.args.a ≡ true = sym (code_wire-is_wire c.args.wire c.args.a) ∙ sym c.eq.ensures ∙ c.if-eq.true in sym (ap (λ b. cond b c.args.b c.args.wire) e)

pub returns-else-eq : goal.returns-else-eq
returns-else-eq c = let e : is_wire c.args.wire c.args.a ≡ false = sym (code_wire-is_wire c.args.wire c.args.a) ∙ sym c.eq.ensures ∙ c.if-eq.false in sym (ap (λ b. cond b c.args.b c.args.wire) e)
