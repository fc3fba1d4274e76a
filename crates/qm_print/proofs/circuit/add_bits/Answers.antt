use Rattle.qm_instr.specs.Bits.{number_of_bits}
use Rattle.qm_ideal.specs.OneCircuits.{bits_of}
use Rattle.qm_print.specs.Bits.{bits_line}
use Rattle.std.proofs.Common.{◌<◌, arith}
use Rattle.qm_print.proofs.GatherLemmas.{Added-nothing, Gathers-stop}
use Rattle.qm_print.proofs.BelowLemmas.{Added-below, Stopped-below}
use Rattle.qm_print.proofs.circuit.add_bits.Goals as goal

pub returns-in_err-add_bits_line : goal.returns-in_err-add_bits_line
returns-in_err-add_bits_line g c =
    let known : c.loop-rank.rank < c.args.ranks = omega arith in
    (Gathers-stop _ _ _ _ _ _ _ c.from_residual.ensures.1 (Stopped-below (λ r. bits_line r (number_of_bits (bits_of c.args.mono.now r))) _ _ _ _ _ c.loop-rank.rank (c.args.ranks) known c.loop-rank.invariant (rw c.bits.ensures at c.in_err-add_bits_line.ensures)))

pub loop-rank-init : goal.loop-rank-init
loop-rank-init g c = Added-nothing _ _

pub loop-rank-preserved : goal.loop-rank-preserved
loop-rank-preserved g c = Added-below (λ r. bits_line r (number_of_bits (bits_of c.args.mono.now r))) _ _ _ _ _ c.loop-rank.rank _ c.loop-rank.invariant (rw c.bits.ensures at c.in_ok-add_bits_line.ensures)
