use Rattle.qm_ideal.specs.OneCircuits.{slot_of, wires_below}
use Rattle.qm_eval.specs.Live.{MakesLive}
use Rattle.qm_eval.proofs.wires.make_slots_live.Given as goal

abbrev pub invariant-loop-q : goal.invariant-loop-q
invariant-loop-q g l = MakesLive (wires_below (slot_of l.circuit l.rank) l.q) (g.A.Amps.store l.initial.amps) (g.A.Amps.store l.amps)
