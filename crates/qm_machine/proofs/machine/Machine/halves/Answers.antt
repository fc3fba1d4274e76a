use Rattle.std.proofs.Common.{◌<◌, length, arith}
use Rattle.qm_machine.proofs.Starts.{kept_size, kept_sized}
use Rattle.qm_machine.proofs.machine.Machine.halves.Goals as goal

pub halves-requires : goal.halves-requires
halves-requires g c =
    let known : c.args.rank < length c.self.inside.ready.ranks = rw (← c.self.view_is) at c.requires in
    kept_sized c.self.invariant c.args.rank known

pub returns-clause-few : goal.returns-clause-few
returns-clause-few g c =
    let known : c.args.rank < length c.self.inside.ready.ranks = rw (← c.self.view_is) at c.requires in
    rw (← c.self.view_is) (omega (arith, c.halves.ensures.within, kept_size c.self.invariant c.args.rank known))
