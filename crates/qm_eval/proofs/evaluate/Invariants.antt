use Rattle.qm_ideal.specs.OneCircuits.{slot_of, wires_in}
use Rattle.qm_eval.specs.Live.{MakesLive}
use Rattle.qm_eval.proofs.evaluate.Given as goal

abbrev pub invariant-loop-rank : goal.invariant-loop-rank
invariant-loop-rank g l = MakesLive (wires_in (slot_of l.circuit) l.rank) (g.A.Amps.store l.initial.amps) (g.A.Amps.store l.amps)
