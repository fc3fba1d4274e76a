use Rattle.std.proofs.Common.{◌≡◌, ◌∙◌, ap, subst, arith}
use Rattle.qm_print.specs.Gathering.{Added, Stopped}
use Rattle.qm_print.proofs.GatherLemmas.{Added-join, Gathers-stop, Stopped-next}
use Rattle.qm_print.proofs.BranchLemmas.{zero_left, zero_back, zero_may_go_on, one_goes_on, lines_both, Stopped-zero}
use Rattle.qm_print.proofs.state.+add_branches.Goals as goal

pub add_branches-requires : goal.add_branches-requires
add_branches-requires g t c κs within =
    (omega arith, (within.0, (within.1, rw c.enter_zero.ensures (zero_may_go_on _ c.args.branch.now c.args.slots.now c.in-len1-up.len_at_least c.requires))))

pub returns-in_err-add_branches-in-len1-up-clause-gathers : goal.returns-in_err-add_branches-in-len1-up-clause-gathers
returns-in_err-add_branches-in-len1-up-clause-gathers g t c =
    Gathers-stop _ _ _ _ _ _ _ c.from_residual.ensures.1
    (Stopped-zero (g.A.Amps.store c.args.amps.now).value c.args.branch.now _ c.args.slots.now _ _ _ c.in-len1-up.len_at_least c.enter_zero.ensures c.in_err-add_branches-in-len1-up.ensures.gathers)

pub add_branches-requires-in-len1-up : goal.add_branches-requires-in-len1-up
add_branches-requires-in-len1-up g t c κs within =
    let back : c.leave_zero.new.self ≡ c.args.branch.now =
    c.leave_zero.ensures ∙ ap zero_left (c.in_ok-add_branches-in-len1-up.ensures.back ∙ c.enter_zero.ensures) ∙ zero_back c.args.branch.now in
    (omega arith, (within.0, (within.1, one_goes_on c.args.branch.now _ c.enter_zero.new.self _ c.args.slots.now _ c.in-len1-up.len_at_least _ c.requires back c.enter_one.ensures)))

pub returns-in_err-add_branches-in-len1-up-2-clause-gathers : goal.returns-in_err-add_branches-in-len1-up-2-clause-gathers
returns-in_err-add_branches-in-len1-up-2-clause-gathers g t c =
    let back : c.leave_zero.new.self ≡ c.args.branch.now =
    c.leave_zero.ensures ∙ ap zero_left (c.in_ok-add_branches-in-len1-up.ensures.back ∙ c.enter_zero.ensures) ∙ zero_back c.args.branch.now in
    let lines = lines_both c.args.branch.now _ _ _ c.args.slots.now _ c.in-len1-up.len_at_least (g.A.Amps.store c.args.amps.now).value c.enter_zero.ensures back c.enter_one.ensures in
    Gathers-stop _ _ _ _ _ _ _ c.from_residual-in_err-add_branches-in-len1-up-2.ensures.1
    (subst (Stopped _ _ _) lines (Stopped-next _ _ _ _ _ _ _ c.in_ok-add_branches-in-len1-up.ensures.gathers c.in_err-add_branches-in-len1-up-2.ensures.gathers))

pub returns-in_ok-add_branches-in-len1-up-2-clause-gathers : goal.returns-in_ok-add_branches-in-len1-up-2-clause-gathers
returns-in_ok-add_branches-in-len1-up-2-clause-gathers g t c =
    let back : c.leave_zero.new.self ≡ c.args.branch.now =
    c.leave_zero.ensures ∙ ap zero_left (c.in_ok-add_branches-in-len1-up.ensures.back ∙ c.enter_zero.ensures) ∙ zero_back c.args.branch.now in
    let lines = lines_both c.args.branch.now _ _ _ c.args.slots.now _ c.in-len1-up.len_at_least (g.A.Amps.store c.args.amps.now).value c.enter_zero.ensures back c.enter_one.ensures in
    subst (Added _ _ _ _) lines (Added-join _ _ _ _ _ _ _ _ c.in_ok-add_branches-in-len1-up.ensures.gathers c.in_ok-add_branches-in-len1-up-2.ensures.gathers)
