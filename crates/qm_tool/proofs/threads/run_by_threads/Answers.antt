use Rattle.std.proofs.Common.{sym, subst}
use Rattle.qm_machine.specs.Keeps.{MachineView}
use Rattle.qm_ranks.specs.Played.{IsAtEnd}
use Rattle.qm_tool.proofs.DueLemmas.{has_played_any}
use Rattle.qm_tool.proofs.threads.run_by_threads.Goals as goal

pub of-requires : goal.of-requires
of-requires g c =
    has_played_any _ _ c.args.play.order c.requires.any c.schedule-schedule.ensures.kept
    (subst (λ (m : MachineView _). IsAtEnd m) (sym c.into_machine-machine.ensures.value) c.into_machine-machine.ensures.kept.over)
