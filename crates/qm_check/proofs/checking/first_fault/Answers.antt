use Rattle.std.proofs.Common.{ℕ, Option, ap, sym, subst, ◌∙◌}
use Rattle.std.specs.Option.{option_or}
use Rattle.qm_check.specs.declared.Fault.{Fault}
use Rattle.qm_check.specs.Checks.{fault_at, IsBefore, width_fault}
use Rattle.qm_check.specs.Faults.{IsFirst}
use Rattle.qm_check.proofs.LaneLemmas.{lane_fault-first}
use Rattle.qm_check.proofs.Sites.{first_of_all}
use Rattle.qm_check.proofs.checking.first_fault.Goals as goal

pub returns : goal.returns
returns c =
    let p = c.args.input.now in
    let x = c.args.read.now in
    let read = c.requires.read in
    let width = sym (c.fault_of_width-width.ensures ∙ ap (λ (v : ℕ). width_fault v c.args.capacity) c.version.ensures.value ∙ ap (width_fault p.version) c.requires.capacity) in
    let lanes = lane_fault-first p x.tallies _ c.fault_of_lanes-lane.ensures.ordered read.lanes c.fault_of_lanes-lane.ensures.value in
    let all = c.or-3.ensures ∙ ap (λ (o : Option Fault). option_or o x.tape) (c.or-2.ensures ∙ ap (λ (o : Option Fault). option_or o c.fault_of_lanes-lane.result) c.or.ensures) in
    subst (IsFirst IsBefore (fault_at p)) (sym all) (first_of_all p _ _ _ _ width read.step lanes read.tape)
