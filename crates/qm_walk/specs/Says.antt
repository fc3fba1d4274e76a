-- What an instruction alone tells of its events
use Rattle.std.specs.Prelude.{◌≡◌, ℕ, ◌+◌, nat_lt, Option, Some, None, map, if◌then◌else◌}
use Rattle.qm_instr.specs.declared.Instr.{Instr}
use Rattle.qm_instr.specs.declared.Instr.TheVariants as instr
use Rattle.qm_instr.specs.declared.Kind.TheVariants as kind
use Rattle.qm_instr.specs.declared.Lane.{Lane}
use Rattle.qm_instr.specs.Lanes.{lane, lane_sent, lane_received}
use Rattle.qm_instr.specs.Programs.{Programs}
use Rattle.qm_proto.specs.declared.Event.{Event}
use Rattle.qm_proto.specs.declared.Event.TheVariants as event
use Rattle.qm_proto.specs.Events.{events_in}
use Rattle.qm_proto.specs.Model.State.{Tables}
use Rattle.qm_proto.specs.Model.Rows.{rows}
use Rattle.qm_walk.specs.declared.Note.{Note}
use Rattle.qm_walk.specs.declared.Place.{Place}
use Rattle.qm_walk.specs.Notes.{note_of}

-- the rank to which a lane goes, where there is one
abbrev pub receiver_of : Option Lane → Option ℕ
receiver_of None = None
receiver_of (Some a) = Some a.to

abbrev pub partner_at : ℕ → Instr → Event → Option ℕ
partner_at r i event.Pair = receiver_of (lane_sent r i)
partner_at r i event.Test = receiver_of (lane_sent r i)
partner_at r i _ = None

-- the lane of the parcel that an instruction answers or sends last: the answer to a reach is none of its sends
abbrev pub answered_on : ℕ → Instr → Option Lane
answered_on r (instr.ReachFrom t from tag) = Some (lane r from kind.Back tag)
answered_on r i = lane_sent r i

-- the lane of what an instruction takes
abbrev pub asked_on : ℕ → Instr → Option Lane
asked_on r (instr.ReachTo q to tag) = Some (lane to r kind.Back tag)
asked_on r i = lane_received r i

-- the lane of a parcel that is put when it is given its bits: it carries bits alone
abbrev pub posted_on : ℕ → Instr → Option Lane
posted_on r (instr.SendBit b to tag) = Some (lane r to kind.Bit tag)
posted_on r (instr.UndoTo q to tag) = Some (lane r to kind.Undo tag)
posted_on r (instr.ReachFrom t from tag) = Some (lane r from kind.Back tag)
posted_on r _ = None

abbrev pub put_at : ℕ → Instr → Event → Option Lane
put_at r i event.Pair = lane_sent r i
put_at r i event.Post = posted_on r i
put_at r i event.SendBit = posted_on r i
put_at r i _ = None

abbrev pub given_at : ℕ → Instr → Event → Option Lane
given_at r i event.Post = answered_on r i
given_at r i event.SendBit = answered_on r i
given_at r i _ = None

abbrev pub taken_at : ℕ → Instr → Event → Option Lane
taken_at r i event.Deliver = asked_on r i
taken_at r i event.RecvBit = asked_on r i
taken_at r i _ = None

abbrev pub note_at : ℕ → Instr → Event → Note
note_at r i e =
    record {
      rank = r;
      event = e;
      partner = partner_at r i e;
      put = put_at r i e;
      given = given_at r i e;
      taken = taken_at r i e;
    }

abbrev pub note_from : ℕ → Instr → Option Event → Option Note
note_from r i None = None
note_from r i (Some e) = Some (note_at r i e)

-- the place behind an event of an instruction that has n of them
abbrev pub place_after : ℕ → Place → Place
place_after n x = if nat_lt (x.stage + 1) n then record x { stage = x.stage + 1 } else record { at = x.at + 1; stage = 0 }

-- the lines of each instruction, at all tables, say what the instruction alone tells
abbrev pub NotesAgree : Type 0
NotesAgree = (p : Programs) (t : Tables) (r : ℕ) (i : Instr) → map (note_of r) (rows p t r i) ≡ map (note_at r i) (events_in i)
