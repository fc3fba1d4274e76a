use Rattle.std.proofs.Common.{◌∙◌, ◌≡◌, ◌<◌, IsSome, false, true, sym, ap, subst}
use Rattle.std.specs.Option.{option_copied_mut}
use Rattle.std.proofs.Common.{deque_len}
use Rattle.qm_cost.specs.Books.{last_set}
use Rattle.qm_cost.proofs.LaneLemmas.{written, last_put, last_none, none_set}
use Rattle.qm_cost.proofs.lanes.Lanes.set_last.Goals as goal

pub returns-in-Some-back_mut : goal.returns-in-Some-back_mut
returns-in-Some-back_mut c =
    let had = sym c.get_mut.ensures.value ∙ ap option_copied_mut c.in-Some.is in
    let q = c.in-Some.queue.now in
    written c.args.self.now (record { queues = c.get_mut.follows.lender _ }) c.args.lane q _ (λ xs. last_set xs c.args.giver) had
    (last_put q.items (deque_len q) c.args.giver q.ok.0) (c.get_mut.follows.holds _)

pub returns-in_default-back_mut : goal.returns-in_default-back_mut
returns-in_default-back_mut c =
    let had = sym c.get_mut.ensures.value ∙ ap option_copied_mut c.in-Some.is in
    let q = c.in-Some.queue.now in
    let empty : ¬ (0 < deque_len q) = λ h. let some : false ≡ true = subst IsSome c.in_default-back_mut.is (c.back_mut.ensures.variant.1 h) in let z : ⊥ = cc in z in
    written c.args.self.now (record { queues = c.get_mut.follows.lender _ }) c.args.lane q q (λ xs. last_set xs c.args.giver) had
    (last_none q.items (deque_len q) c.args.giver q.ok.0 empty) (c.get_mut.follows.holds _)

pub returns-in_default : goal.returns-in_default
returns-in_default c =
    let none = sym c.get_mut.ensures.value ∙ ap option_copied_mut c.in_default.is in
    none_set c.args.self.now (record { queues = c.get_mut.follows.lender-at-none }) c.args.lane c.args.giver c.get_mut.follows.holds-at-none none
