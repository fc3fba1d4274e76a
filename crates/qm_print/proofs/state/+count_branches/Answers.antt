use Rattle.std.proofs.Common.{◌≡◌, ◌∙◌, ◌+◌, ap, ap₂, arith}
use Rattle.qm_print.proofs.BranchLemmas.{ones_are_live, zero_left, zero_back, zero_may_go_on, one_goes_on, count_both}
use Rattle.qm_print.proofs.state.+count_branches.Goals as goal

pub value-requires-clause-live : goal.value-requires-clause-live
value-requires-clause-live g t c = rw c.ones.ensures (ones_are_live _ c.args.branch.now c.args.slots.now c.requires)

pub count_branches-zero-requires : goal.count_branches-zero-requires
count_branches-zero-requires g t c κs within =
    (omega arith, (within, rw c.enter_zero.ensures (zero_may_go_on _ c.args.branch.now c.args.slots.now c.in-len1-up.len_at_least c.requires)))

pub count_branches-one-requires : goal.count_branches-one-requires
count_branches-one-requires g t c κs within =
    let back : c.leave_zero.new.self ≡ c.args.branch.now =
    c.leave_zero.ensures ∙ ap zero_left (c.count_branches-zero.ensures.back ∙ c.enter_zero.ensures) ∙ zero_back c.args.branch.now in
    (omega arith, (within, one_goes_on c.args.branch.now _ c.enter_zero.new.self _ c.args.slots.now _ c.in-len1-up.len_at_least _ c.requires back c.enter_one.ensures))

pub returns-in-len1-up-clause-count : goal.returns-in-len1-up-clause-count
returns-in-len1-up-clause-count g t c =
    let back : c.leave_zero.new.self ≡ c.args.branch.now =
    c.leave_zero.ensures ∙ ap zero_left (c.count_branches-zero.ensures.back ∙ c.enter_zero.ensures) ∙ zero_back c.args.branch.now in
    ap₂ (λ m n. m + n) c.count_branches-zero.ensures.count c.count_branches-one.ensures.count
    ∙ count_both c.args.branch.now _ _ _ c.args.slots.now _ c.in-len1-up.len_at_least (g.A.Amps.store c.args.amps.now).value c.enter_zero.ensures back c.enter_one.ensures
