use Rattle.std.proofs.Common.{◌-◌, refl, arith}
use Rattle.qm_buffers.proofs.Changes.{below, changed}
use Rattle.qm_buffers.proofs.Halves.drop_half.Goals as goal

pub returns : goal.returns
returns c =
    changed c.self.inside.buffers c.args.self.now c.self.inside.ranks c.from.result c.args.rank (λ n. n - 1) c.self.view_is c.from.ensures
    (below (λ b. b.held) refl c.self.inside.buffers c.args.self.now c.self.inside.ranks c.args.rank c.self.view_is (omega (arith, c.requires)))
