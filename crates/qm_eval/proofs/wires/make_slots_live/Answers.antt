use Rattle.std.proofs.Common.{◌≡◌, ◌∙◌, Option, Some, None, option_to_list, [], ◌∷◌, refl, sym, subst, add-one, arith}
use Rattle.qm_denot.specs.declared.Wire.{Wire}
use Rattle.qm_ideal.specs.OneCircuits.{slot_of, wires_below}
use Rattle.qm_eval.specs.Live.{HasRoomFor, MakesLive}
use Rattle.qm_eval.proofs.RoomLemmas.{made_none, piece_fits, piece_made, none_where_not_some}
use Rattle.qm_eval.proofs.wires.make_slots_live.Goals as goal
use Rattle.qm_eval.proofs.wires.make_slots_live.Goals.{in-Some, in_default}

pub loop-q-init : goal.loop-q-init
loop-q-init g c = made_none (g.A.Amps.store c.args.amps.now)

pub make_live-requires-clause-room : goal.make_live-requires-clause-room
make_live-requires-clause-room g c =
    let f = slot_of c.args.circuit.now c.args.rank in
    let is : f c.loop-q.q ≡ Some c.in-Some.wire = sym c.slot.ensures ∙ c.in-Some.is in
    let t = g.A.Amps.store c.loop-q.amps in
    subst (λ (o : Option Wire). HasRoomFor (option_to_list o) t) is
    (piece_fits (wires_below f) (λ q. option_to_list (f q)) (λ n. refl) (g.A.Amps.store c.args.amps.now) t 16 c.loop-q.q c.loop-q-test.true c.requires.room c.loop-q.invariant)

pub loop-q-preserved : goal.loop-q-preserved
loop-q-preserved g c =
    let store = g.A.Amps.store in
    let f = slot_of c.args.circuit.now c.args.rank in
    let q = c.loop-q.q in
    let next = λ (o : Option Wire) (is : o ≡ f q) (made : MakesLive (option_to_list o) (store c.loop-q.amps) (store c.match-slot.amps)).
    piece_made (wires_below f) (λ q. option_to_list (f q)) (λ n. refl) (store c.args.amps.now) (store c.loop-q.amps) (store c.match-slot.amps) q c.loop-q.invariant
    (subst (λ (o : Option Wire). MakesLive (option_to_list o) (store c.loop-q.amps) (store c.match-slot.amps)) is made) in
    rw (add-one q) (elim c.match-slot.branch [
      | in-Some w ↦
          next (Some w.in-Some.wire) (sym w.in-Some.is ∙ c.slot.ensures)
          (subst (λ a. MakesLive (w.in-Some.wire ∷ []) (store c.loop-q.amps) (store a)) (sym w.amps-is) w.make_live.ensures)
      | in_default w ↦
          next None (sym (none_where_not_some _ w.in_default.not-Some) ∙ c.slot.ensures)
          (subst (λ a. MakesLive [] (store c.loop-q.amps) (store a)) (sym w.amps-is) (made_none (store c.loop-q.amps)))
    ])

pub returns : goal.returns
returns g c =
    let f = slot_of c.args.circuit.now c.args.rank in
    let store = g.A.Amps.store in
    let end : c.loop-q.q ≡ 16 = let h = c.loop-q.auto.q-end in let k = c.loop-q-test.false in omega (arith, h, k) in
    subst (λ q. MakesLive (wires_below f q) (store c.args.amps.now) (store c.loop-q.amps)) end c.loop-q.invariant
