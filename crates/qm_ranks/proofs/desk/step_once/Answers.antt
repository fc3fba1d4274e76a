use Rattle.std.proofs.Common.{sym, subst}
use Rattle.qm_ranks.specs.Workers.{StepsTo}
use Rattle.qm_ranks.proofs.Leaving.{steps_to}
use Rattle.qm_ranks.proofs.desk.step_once.Goals as goal

pub returns-clause-step : goal.returns-clause-step
returns-clause-step g c =
    subst (λ s. StepsTo c.args.machine.now.programs c.args.machine.now.schedule c.args.rank s c.step.new.self.schedule) (sym c.stay_for-stayed.ensures)
    (steps_to g.A.Amps.store _ _ _ _ c.step.ensures.step c.step.ensures.programs c.schedule.ensures.kept)
