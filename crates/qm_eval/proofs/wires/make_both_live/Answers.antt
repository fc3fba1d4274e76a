use Rattle.std.proofs.Common.{[], ◌∷◌}
use Rattle.qm_eval.proofs.RoomLemmas.{made_then}
use Rattle.qm_eval.proofs.wires.make_both_live.Goals as goal

pub returns : goal.returns
returns g c =
    let store = g.A.Amps.store in
    made_then (store c.args.amps.now) (store c.make_live.new.amps) (store c.make_live-2.new.amps) (c.args.v ∷ []) (c.args.w ∷ []) c.make_live.ensures c.make_live-2.ensures
