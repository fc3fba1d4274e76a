-- The queues of the code as lanes with parcels
use Rattle.std.specs.Prelude.{ℕ, List, [], map, Option, Some, None}
use Rattle.std.specs.BTreeMap.{BTreeMap}
use Rattle.qm_denot.specs.declared.Parcel.{Parcel}
use Rattle.qm_instr.specs.declared.Lane.{Lane}
use Rattle.qm_mail.specs.declared.Queue.{Queue}
use Rattle.qm_mail.specs.Mails.{MailLane}

-- what a queue of a lane shows
abbrev pub lane_shown : Lane × Queue → MailLane
lane_shown e = record { lane = e.0; parcels = e.1.parcels.items; sends = e.1.sends }

-- the lanes that queues show
abbrev pub lanes_shown : BTreeMap Lane Queue → List MailLane
lanes_shown m = map lane_shown m.entries

-- the parcels of a queue, where there is one, and how many are sent to it
abbrev pub parcels_in : Option Queue → List Parcel
parcels_in None = []
parcels_in (Some q) = q.parcels.items

abbrev pub sends_in : Option Queue → ℕ
sends_in None = 0
sends_in (Some q) = q.sends
