use Rattle.std.proofs.Common.{refl}
use Rattle.qm_kernels.proofs.PlaceFits.{lower_place}
use Rattle.qm_kernels.proofs.StepLaws.{cross_done}
use Rattle.qm_kernels.proofs.steps.FlipUpperStep.step.Goals as goal

pub flip-requires : goal.flip-requires
flip-requires g c = lower_place _ c.args.self.now.control c.args.self.now.target c.requires.high_half c.requires.may

pub returns-clause-done : goal.returns-clause-done
returns-clause-done g c = λ below past.
    let s = c.args.self.now in
    cross_done (λ x. x) past s.control c.args.low.now c.args.high.now c.args.low.now c.flip.new.list c.requires.low_half c.requires.high_half refl c.flip.ensures.size
    s.target below refl (c.flip.ensures.moved past)
