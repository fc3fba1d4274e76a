use Rattle.std.proofs.Common.{◌∙◌, sym, ap, drop}
use Rattle.std.specs.Option.{option_copied_mut}
use Rattle.qm_cost.proofs.LaneLemmas.{written, none_taken}
use Rattle.qm_cost.proofs.lanes.Lanes.take.Goals as goal

pub returns-in-Some : goal.returns-in-Some
returns-in-Some c =
    let had = sym c.get_mut.ensures.value ∙ ap option_copied_mut c.in-Some.is in
    written c.args.self.now (record { queues = c.get_mut.follows.lender _ }) c.args.lane c.in-Some.queue.now _ (drop 1) had c.pop_front.ensures.rest (c.get_mut.follows.holds _)

pub returns-in_default : goal.returns-in_default
returns-in_default c =
    let none = sym c.get_mut.ensures.value ∙ ap option_copied_mut c.in_default.is in
    none_taken c.args.self.now (record { queues = c.get_mut.follows.lender-at-none }) c.args.lane c.get_mut.follows.holds-at-none none
