use Rattle.std.proofs.Common.{Some, None, sym, ap, ◌∙◌}
use Rattle.std.proofs.lemmas.List.{append-nil}
use Rattle.qm_tool.proofs.FullSlots.{rank_slots-next}
use Rattle.qm_tool.proofs.ends.push_slots.Goals as goal
use Rattle.qm_tool.proofs.ends.push_slots.Goals.{in-Some+in_ok-push, in_default}
use Rattle.qm_eval.proofs.RoomLemmas.{none_where_not_some}

pub loop-slot-preserved : goal.loop-slot-preserved
loop-slot-preserved g c =
    let slots = g.E.RankEnds.slots c.args.ends.now c.args.rank in
    let next = rank_slots-next c.args.live.now.items c.loop-slot.live.items c.args.rank c.loop-slot.slot slots in
    elim c.match-rank_slot.branch [
      | in-Some+in_ok-push w ↦ ap (λ v. v.items) w.live-is ∙ w.in_ok-push.ensures.items ∙ next (Some w.in-Some.wire) c.loop-slot.invariant w.in-Some.ensures
      | in_default w ↦
          let read = sym (none_where_not_some _ w.in_default.not-Some) ∙ c.rank_slot.ensures in
          ap (λ v. v.items) w.live-is ∙ sym (append-nil _) ∙ next None c.loop-slot.invariant read
    ]
