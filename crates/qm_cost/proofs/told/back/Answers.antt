use Rattle.std.proofs.Common.{◌<◌, length}
use Rattle.qm_cost.specs.Longest.{before_in}
use Rattle.qm_cost.proofs.Passing.{some_below, back_step, below_on}
use Rattle.qm_cost.proofs.told.back.Goals as goal

pub loop-next-preserved : goal.loop-next-preserved
loop-next-preserved c =
    let lt : c.in-Some.j < length c.args.marks.now = some_below _ c.in-Some.j c.loop-next.next c.loop-next.invariant.known c.in-Some.is in
    record {
      leads = back_step (before_in c.args.marks.now) c.args.end c.loop-next.chain.items c.push.new.self.items c.loop-next.next c.in-Some.j
          c.in-Some.is c.in_ok-push.ensures.items c.loop-next.invariant.leads;
      known = below_on c.in-Some.j _ _ lt (c.requires.below c.in-Some.j lt);
    }
