use Rattle.std.proofs.Common.{◌%◌, length, subst}
use Rattle.qm_instr.specs.Programs.{Programs}
use Rattle.qm_proto.specs.Model.Orders.{from_the_lowest}
use Rattle.qm_ranks.specs.Plays.{Turns}
use Rattle.qm_ranks.proofs.Playing.{nothing_played, still_played, all_played}
use Rattle.qm_ranks.proofs.play_order.Goals as goal

pub loop-init : goal.loop-init
loop-init g c = nothing_played g.A.Amps.store _ from_the_lowest

pub loop-preserved : goal.loop-preserved
loop-preserved g c =
    still_played g.A.Amps.store _ _ _ from_the_lowest from_the_lowest c.loop.invariant _
    (subst (λ (p : Programs). Turns g.A.Amps.store c.loop.machine (0 % length p.ranks) c.turn.new.machine c.turn.result) c.loop.invariant.programs c.turn.ensures) c.loop-test.true

pub returns : goal.returns
returns g c =
    all_played g.A.Amps.store _ _ _ from_the_lowest from_the_lowest c.loop.invariant _
    (subst (λ (p : Programs). Turns g.A.Amps.store c.loop.machine (0 % length p.ranks) c.turn.new.machine c.turn.result) c.loop.invariant.programs c.turn.ensures) c.loop-test.false
