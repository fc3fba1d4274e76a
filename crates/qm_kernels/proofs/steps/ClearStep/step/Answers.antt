use Rattle.std.proofs.Common.{cond, refl, sym, ap, arith, ◌∙◌}
use Rattle.qm_zomega.specs.NumberLists.{seen_at}
use Rattle.qm_kernels.proofs.StepLaws.{clear_done}
use Rattle.qm_kernels.proofs.steps.ClearStep.step.Goals as goal

pub returns-then-self-clause-done : goal.returns-then-self-clause-done
returns-then-self-clause-done g c = λ past.
    let s = c.args.self.now in
    let done = c.clear.ensures.cleared past in
    clear_done (λ x. x) past s.place c.args.low.now c.args.high.now c.clear.new.list c.args.high.now c.requires.low_half c.requires.high_half done.size refl s.zero s.kept
    (λ i h. done.numbers i (omega (arith, c.requires.low_half)) ∙ ap (λ b. cond b s.zero (seen_at (λ x. x) past c.args.low.now i)) (sym c.if-self.true))
    (λ r h. ap (λ b. cond b (seen_at (λ x. x) past c.args.high.now r) s.zero) (sym c.if-self.true))

pub returns-else-self-clause-done : goal.returns-else-self-clause-done
returns-else-self-clause-done g c = λ past.
    let s = c.args.self.now in
    let done = c.clear-else-self.ensures.cleared past in
    clear_done (λ x. x) past s.place c.args.low.now c.args.high.now c.args.low.now c.clear-else-self.new.list c.requires.low_half c.requires.high_half refl done.size s.zero s.kept
    (λ i h. ap (λ b. cond b s.zero (seen_at (λ x. x) past c.args.low.now i)) (sym c.if-self.false))
    (λ r h. done.numbers r (omega (arith, c.requires.high_half)) ∙ ap (λ b. cond b (seen_at (λ x. x) past c.args.high.now r) s.zero) (sym c.if-self.false))
