use Rattle.std.proofs.Common.{ℕ, List, length, sym, ap, subst, ◌∙◌}
use Rattle.qm_instr.specs.Programs.{Programs}
use Rattle.qm_cost.specs.Reports.{IsCost}
use Rattle.qm_tool.specs.CostText.{cost_text}
use Rattle.qm_tool.proofs.AnswerLemmas.{cost-ends, cost-stops}
use Rattle.qm_tool.proofs.RunLemmas.{cost-ended, cost-stopped}
use Rattle.qm_tool.proofs.costs.cost_of.Goals as goal

pub returns-in-Some : goal.returns-in-Some
returns-in-Some c =
    let m = c.play_as.new.machine in
    let programs = c.play_as.ensures.programs ∙ c.in_ok-machine.ensures.programs in
    cost-stops _ c.args.ready c.args.seed c.args.delays c.in-Some.halt _ c.stop_line.ensures
    (cost-stopped c.args.seed c.args.delays c.args.ready m programs c.halt_of.ensures.kept.in_range c.play_as.ensures.played c.in-Some.halt (sym c.halt_of.ensures.halt ∙ c.in-Some.is))

pub returns : goal.returns
returns c =
    let m = c.play_as.new.machine in
    let r = c.in_ok-report.report in
    let programs = c.play_as.ensures.programs ∙ c.in_ok-machine.ensures.programs in
    let so : IsCost m.programs m.schedule c.args.delays r =
    subst (λ (p : Programs). IsCost p m.schedule c.args.delays r) c.ready.ensures
    (subst (λ (s : List ℕ). IsCost c.ready.result.now s c.args.delays r) c.schedule.ensures.value c.in_ok-report.ensures.cost) in
    cost-ends _ c.args.ready c.args.seed c.args.delays c.in_ok-text.text _ (c.in_ok-text.ensures ∙ ap (λ (s : List ℕ). cost_text (length s) r) c.schedule-2.ensures.value)
    (cost-ended c.args.seed c.args.delays c.args.ready m programs c.halt_of.ensures.kept.in_range c.play_as.ensures.played (sym c.halt_of.ensures.halt ∙ c.in_default.is) r so)
