use Rattle.std.proofs.Common.{◌∙◌, ◌++◌, ◌∷◌, [], sym, ap}
use Rattle.std.specs.Option.{option_copied_mut}
use Rattle.qm_cost.proofs.LaneLemmas.{written, inserted}
use Rattle.qm_cost.proofs.lanes.Lanes.put.Goals as goal

pub returns-in-Some : goal.returns-in-Some
returns-in-Some c =
    let had = sym c.get_mut.ensures.value ∙ ap option_copied_mut c.in-Some.is in
    written c.args.self.now (record { queues = c.get_mut.follows.lender _ }) c.args.lane c.in-Some.queue.now _ (λ xs. xs ++ c.args.giver ∷ []) had c.in_ok-push_back.ensures.items (c.get_mut.follows.holds _)

pub returns : goal.returns
returns c =
    let none = sym c.get_mut.ensures.value ∙ ap option_copied_mut c.in_default.is in
    let items = c.in_ok-push_back-2.ensures.items ∙ ap (λ xs. xs ++ c.args.giver ∷ []) c.new-queue.ensures.items in
    inserted c.args.self.now (record { queues = c.insert.new.self }) c.get_mut.follows.lender-at-none c.args.lane c.push_back-2.new.self c.args.giver
    c.get_mut.follows.holds-at-none none items c.in_ok-insert.ensures.updates
