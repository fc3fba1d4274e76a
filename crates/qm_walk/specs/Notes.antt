-- What the line of an event says of its partner and of parcels, and where the ranks stand
use Rattle.std.specs.Prelude.{◌≡◌, ℕ, ◌<◌, List, [], ◌∷◌, Option, Some, None, is_some, if◌then◌else◌, slice_get, length}
use Rattle.qm_instr.specs.declared.Lane.{Lane}
use Rattle.qm_instr.specs.Programs.{Programs}
use Rattle.qm_proto.specs.declared.Act.{Act}
use Rattle.qm_proto.specs.declared.Act.TheVariants.{Posts, Fills, Receives}
use Rattle.qm_proto.specs.declared.Rule.{Rule}
use Rattle.qm_proto.specs.declared.Rule.TheVariants.{Always, PairRoom, Engaged, Filled}
use Rattle.qm_proto.specs.declared.Row.{Row}
use Rattle.qm_proto.specs.Model.State.{Part, Tables}
use Rattle.qm_proto.specs.Model.Acts.{list_of}
use Rattle.qm_proto.specs.Model.Runs.{row_next}
use Rattle.qm_walk.specs.declared.Note.{Note}
use Rattle.qm_walk.specs.declared.Place.{Place}

-- the rank that an event waits for: the receiver of a pair, and the rank of the source of a copy that is given up
abbrev pub partner_by : Rule → Option ℕ
partner_by Always = None
partner_by (PairRoom a) = Some a.to
partner_by (Engaged a) = Some a.to
partner_by (Filled a) = None

-- the lane on which acts put a parcel
abbrev pub put_by : List Act → Option Lane
put_by [] = None
put_by (Posts a x ∷ acts) = Some a
put_by (_ ∷ acts) = put_by acts

-- the lane on which acts give the last parcel its bits
abbrev pub given_by : List Act → Option Lane
given_by [] = None
given_by (Posts a x ∷ acts) = if is_some x.bits then Some a else given_by acts
given_by (Fills a b ∷ acts) = Some a
given_by (_ ∷ acts) = given_by acts

-- the lane from which acts take the front parcel
abbrev pub taken_by : List Act → Option Lane
taken_by [] = None
taken_by (Receives a ∷ acts) = Some a
taken_by (_ ∷ acts) = taken_by acts

-- what a line of rank r says
abbrev pub note_of : ℕ → Row → Note
note_of r w =
    record {
      rank = r;
      event = w.event;
      partner = partner_by w.rule;
      put = put_by (list_of w.acts);
      given = given_by (list_of w.acts);
      taken = taken_by (list_of w.acts);
    }

abbrev pub noted : ℕ → Option Row → Option Note
noted r None = None
noted r (Some w) = Some (note_of r w)

-- what the line of rank r's next event says, where it has an event left
abbrev pub note_next : Programs → Tables → ℕ → Option Note
note_next p t r = noted r (row_next p t r)

abbrev pub place_of : Part → Place
place_of x = record { at = x.at; stage = x.stage }

-- the ranks stand in these places
pub record AreStanding (p : Programs) (t : Tables) (places : List Place) : Type 0 where
  pub count : length places ≡ length p.ranks
  pub each : (r : ℕ) → r < length p.ranks → slice_get places r ≡ Some (place_of (t.parts r))
