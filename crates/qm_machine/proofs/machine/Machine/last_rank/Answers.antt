use Rattle.std.proofs.Common.{◌<◌, length, sym, arith}
use Rattle.qm_proto.proofs.Replays.{legal-known}
use Rattle.qm_machine.proofs.machine.Machine.last_rank.Goals as goal

pub overflow_cast-result : goal.overflow_cast-result
overflow_cast-result g c =
    let entry = rw c.deref.ensures.value at c.in-Some.ensures.value in
    let known : c.in-Some.last.now < length c.self.inside.ready.ranks = legal-known c.self.inside.ready c.self.inside.schedule.items _ c.in-Some.last.now c.self.invariant.legal (sym entry) in
    omega (arith, known, c.self.invariant.in_range.most_ranks)

pub returns-in-Some : goal.returns-in-Some
returns-in-Some g c =
    let entry = rw c.deref.ensures.value at c.in-Some.ensures.value in
    let known : c.in-Some.last.now < length c.self.inside.ready.ranks = legal-known c.self.inside.ready c.self.inside.schedule.items _ c.in-Some.last.now c.self.invariant.legal (sym entry) in
    rw (← c.self.view_is) known
