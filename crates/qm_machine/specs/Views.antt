-- What the parts of a machine mean
use Rattle.std.specs.Prelude.{◌≡◌, ℕ, Bool, List, [], ◌∷◌, Option, Some, None, map, slice_get, length}
use Rattle.qm_denot.specs.declared.Wire.{Wire}
use Rattle.qm_denot.specs.Wires.{Wires}
use Rattle.qm_denot.specs.WireLists.{wires_of}
use Rattle.qm_denot.specs.Stores.{Store}
use Rattle.qm_instr.specs.declared.Lane.{Lane}
use Rattle.qm_instr.specs.Programs.{idle_rank}
use Rattle.qm_buffers.specs.declared.Buffer.{Buffer}
use Rattle.qm_buffers.specs.Halves.{buffer_at}
use Rattle.qm_owner.specs.declared.Place.{Place}
use Rattle.qm_owner.specs.declared.Place.TheVariants.{Slot, Near, Far}
use Rattle.qm_owner.specs.Places.{wire_at, wires_at}
use Rattle.qm_mail.specs.Mails.{MailLane, parcels_on, sends_on}
use Rattle.qm_denot.specs.declared.Parcel.{Parcel}
use Rattle.qm_proto.specs.Model.State.{Part, Tables, with_lane}
use Rattle.qm_proto.specs.declared.Act.{Act}
use Rattle.qm_proto.specs.Model.Schedules.{part_at_start}
use Rattle.qm_machine.specs.declared.body.Body.{Body}
use Rattle.qm_machine.specs.declared.books.Books.{Books}
use Rattle.qm_machine.specs.declared.rank.Rank.{Rank}
use Rattle.qm_machine.specs.Facts.{Facts, Can, Did}

-- ---- the ranks
-- a rank's part of the tables
abbrev pub part_of : Rank → Part
part_of x =
    record {
      at = x.at;
      stage = x.stage;
      made = x.made;
      bits = x.bits;
      own = x.own;
      protocol = x.protocol;
      taken = x.taken;
      first = x.first;
    }

-- a rank with these tapes before its first event
abbrev pub part_with : List Bool → List Bool → Part
part_with own protocol = part_at_start (record idle_rank { own = own; protocol = protocol })

-- what stands for a rank that there isn't is one that does nothing
abbrev pub part_in : Option Rank → Part
part_in None = part_at_start idle_rank
part_in (Some x) = part_of x

-- a rank of a list
abbrev pub part_at : List Rank → ℕ → Part
part_at ranks r = part_in (slice_get ranks r)

-- ---- the places
-- the wire in a rank's slot
abbrev pub slots_in : List (Wire × Place) → ℕ → ℕ → Option Wire
slots_in placed r q = wire_at placed (Slot r q)

-- a rank's near halves
abbrev pub near_in : List (Wire × Place) → ℕ → Wires
near_in placed r = wires_of (wires_at placed (Near r))

-- its far halves
abbrev pub far_in : List (Wire × Place) → ℕ → Wires
far_in placed r = wires_of (wires_at placed (Far r))

-- ---- the buffers
-- how many halves a rank holds
abbrev pub held_in : List Buffer → ℕ → ℕ
held_in buffers r = (buffer_at buffers r).held

-- how many each rank may hold
abbrev pub sizes_in : List Buffer → List ℕ
sizes_in buffers = map (λ b. b.size) buffers

-- ---- the mail
-- the parcels of each lane, the front one first, and how many a lane has room for
pub record MailView : Type 0 where
  pub lanes : Lane → List Parcel
  pub parcels : Lane → ℕ

-- what lanes show: their parcels, and room on each for as many as are sent
abbrev pub mail_of : List MailLane → MailView
mail_of m = record { lanes = λ a. parcels_on m a; parcels = λ a. sends_on m a }

-- other parcels on a lane
abbrev pub with_mail : MailView → Lane → List Parcel → MailView
with_mail m a xs = record m { lanes = with_lane m.lanes a xs }

-- ---- the books
-- the tables that ranks, places, buffers and mail mean
abbrev pub tables_of : List Rank → List (Wire × Place) → List Buffer → MailView → Tables
tables_of ranks placed buffers m =
    record {
      parts = part_at ranks;
      slots = slots_in placed;
      near = near_in placed;
      far = far_in placed;
      held = held_in buffers;
      lanes = m.lanes;
    }

-- the tables that a machine's books mean
unfoldable pub tables : Books → Tables
tables b = tables_of b.ranks.items b.places.placed b.halves (mail_of b.mail)

-- how many ranks there are
abbrev pub rank_count : Books → ℕ
rank_count b = length b.ranks.items

-- the sizes of their buffers
abbrev pub sizes : Books → List ℕ
sizes b = sizes_in b.halves

-- ---- the body
-- what a body means, by what its store contains
abbrev pub facts : {A : Type 0} → (A → Store) → Body A → Facts
facts store b =
    record {
      tables = tables b.books;
      store = store b.amps;
      places = b.books.places;
      sizes = sizes b.books;
      parcels = λ a. sends_on b.books.mail a;
      ranks = rank_count b.books;
      letters = b.letters;
      paulis = b.paulis;
    }

-- rank r may do acts on a body, and has done them
abbrev pub MayDo : {A : Type 0} → (A → Store) → Body A → ℕ → List Act → Type 0
MayDo store b r acts = Can (facts store b) r acts

abbrev pub HasDone : {A : Type 0} → (A → Store) → Body A → ℕ → List Act → Body A → Type 0
HasDone store b r acts d = Did (facts store b) r acts (facts store d)

-- and the same of one act
abbrev pub MayAct : {A : Type 0} → (A → Store) → Body A → ℕ → Act → Type 0
MayAct store b r act = MayDo store b r (act ∷ [])

abbrev pub Acted : {A : Type 0} → (A → Store) → Body A → ℕ → Act → Body A → Type 0
Acted store b r act d = HasDone store b r (act ∷ []) d

-- a body that means the same
abbrev pub IsUnchanged : {A : Type 0} → (A → Store) → Body A → Body A → Type 0
IsUnchanged store b d = facts store d ≡ facts store b
