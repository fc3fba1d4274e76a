use Rattle.std.proofs.Common.{◌∙◌, ◌++◌, ◌∷◌, [], List, map, take, sym, ap, slice_index_or, arith}
use Rattle.std.proofs.lemmas.Option.{slice_get-get_or}
use Rattle.std.proofs.lemmas.List.{take_more, map_push}
use Rattle.qm_instr.specs.Lanes.{lane}
use Rattle.qm_instr.specs.declared.Kind.TheVariants as kind
use Rattle.qm_denot.specs.declared.Parcel.{Parcel}
use Rattle.qm_check.specs.declared.LaneCount.{LaneCount}
use Rattle.qm_mail.specs.Mails.{empty_lane}
use Rattle.qm_mail.specs.Queues.{lane_shown}
use Rattle.qm_mail.proofs.Starting.{put_last}
use Rattle.qm_mail.proofs.Mail.start.Goals as goal

pub loop-count-preserved : goal.loop-count-preserved
loop-count-preserved c =
    let lanes = c.args.lanes.now in
    let i = c.loop-count.count-index in
    let no_count : LaneCount = record { lane = lane 0 0 kind.Bit 0; sends = 0 } in
    let count : LaneCount = slice_index_or lanes i no_count in
    let read = slice_get-get_or lanes i no_count (omega arith) in
    ap (map lane_shown) (c.in_ok-insert.ensures.entries ∙ put_last c.loop-count.all.entries lanes i count _ c.loop-count.invariant c.requires read)
    ∙ map_push lane_shown c.loop-count.all.entries _
    ∙ ap (λ (ps : List Parcel). map lane_shown c.loop-count.all.entries ++ record { lane = count.lane; parcels = ps; sends = count.sends } ∷ []) c.in_ok-with_capacity.ensures.items
    ∙ ap (λ xs. xs ++ empty_lane count ∷ []) c.loop-count.invariant
    ∙ sym (ap (map empty_lane) (take_more lanes i no_count (omega arith)) ∙ map_push empty_lane (take i lanes) count)
