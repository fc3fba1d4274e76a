use Rattle.std.proofs.Common.{◌≡◌, ◌∙◌, [], ◌∷◌, ◌++◌, List, length, Contains, refl, sym, ap, arith}
use Rattle.std.proofs.lemmas.List.{length-append}
use Rattle.qm_denot.specs.declared.Wire.{Wire}
use Rattle.qm_eval.specs.Live.{all_live}
use Rattle.qm_eval.proofs.ListLemmas.{live_new, live_old}
use Rattle.qm_eval.proofs.wires.make_live.Goals as goal

pub fresh-requires-clause-room : goal.fresh-requires-clause-room
fresh-requires-clause-room g c =
    let s = g.A.Amps.store c.args.amps.now in
    let absent : ¬ (Contains s.live c.args.w) = λ h. let t = c.is_live.ensures.1 h in let f = c.if-not-is_live.true in cc in
    let long : length (all_live s.live (c.args.w ∷ [])) ≡ length (s.live ++ c.args.w ∷ []) = ap (λ (ws : List Wire). length ws) (live_new s.live c.args.w absent) in
    let one = length-append s.live (c.args.w ∷ []) in
    let room = c.requires.room in
    omega (arith, long, one, room)

pub returns-then-not-is_live : goal.returns-then-not-is_live
returns-then-not-is_live g c =
    let s = g.A.Amps.store c.args.amps.now in
    let absent : ¬ (Contains s.live c.args.w) = λ h. let t = c.is_live.ensures.1 h in let f = c.if-not-is_live.true in cc in
    record {
      live = c.fresh.ensures.live ∙ sym (live_new s.live c.args.w absent);
      stands = c.fresh.ensures.stands;
      capacity = c.fresh.ensures.capacity;
    }

pub returns-else-not-is_live : goal.returns-else-not-is_live
returns-else-not-is_live g c =
    let s = g.A.Amps.store c.args.amps.now in
    let there : Contains s.live c.args.w = c.is_live.ensures.0 c.if-not-is_live.false in
    record { live = sym (live_old s.live c.args.w there); stands = λ k h. h; capacity = refl }
