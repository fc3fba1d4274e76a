-- What is kept on the way over a schedule: the last event of each rank, and for each lane the events that gave their bits to the parcels
-- that stand on it
use Rattle.std.specs.Prelude.{ℕ, List, [], ◌∷◌, ◌++◌, Option, Some, None, drop, slice_set, slice_index_or}
use Rattle.std.specs.BTreeMap.{get}
use Rattle.std.specs.declared.alloc.Global.{Global}
use Rattle.std.specs.declared.collections.VecDeque.{VecDeque}
use Rattle.qm_instr.specs.declared.Lane.{Lane}
use Rattle.qm_instr.specs.Lanes.{code_order}
use Rattle.qm_proto.specs.Model.State.{with_lane}
use Rattle.qm_walk.specs.declared.Note.{Note}
use Rattle.qm_cost.specs.declared.Links.{Links}
use Rattle.qm_cost.specs.declared.lanes.Lanes as code
use Rattle.qm_cost.specs.declared.books.Books as kept

-- the elements of a queue, where there is one
abbrev pub items_in : Option (VecDeque (Option ℕ) Global) → List (Option ℕ)
items_in None = []
items_in (Some q) = q.items

-- what a lane holds, the front first
abbrev pub lanes_of : code.Lanes → Lane → List (Option ℕ)
lanes_of m a = items_in (get code_order m.queues a)

-- a list with another last element
abbrev pub last_set : List (Option ℕ) → Option ℕ → List (Option ℕ)
last_set [] v = []
last_set (x ∷ []) v = v ∷ []
last_set (x ∷ y ∷ xs) v = x ∷ last_set (y ∷ xs) v

pub record BooksView : Type 0 where
  pub last : List (Option ℕ)
  pub lanes : Lane → List (Option ℕ)

-- what the books of the code say
abbrev pub books_of : kept.Books → BooksView
books_of b = record { last = b.last.items; lanes = lanes_of b.lanes }

-- the last event of a rank, where there are the rank and the event
abbrev pub last_in : List (Option ℕ) → Option ℕ → Option ℕ
last_in last None = None
last_in last (Some r) = slice_index_or last r None

-- what stands at a list's front, where there is something
abbrev pub front_of : List (Option ℕ) → Option ℕ
front_of xs = slice_index_or xs 0 None

-- the event that gave its bits to the front parcel of a lane
abbrev pub front_in : (Lane → List (Option ℕ)) → Option Lane → Option ℕ
front_in f None = None
front_in f (Some a) = front_of (f a)

-- the direct predecessors of an event of which this is noted
abbrev pub links_by : BooksView → Note → Links
links_by b n =
    record {
      event = n.event;
      own = slice_index_or b.last n.rank None;
      partner = last_in b.last n.partner;
      post = front_in b.lanes n.taken;
    }

-- the lanes after an event: a parcel is taken, put, and given its bits
abbrev pub lanes_taken : (Lane → List (Option ℕ)) → Option Lane → Lane → List (Option ℕ)
lanes_taken f None = f
lanes_taken f (Some a) = with_lane f a (drop 1 (f a))

abbrev pub lanes_put : (Lane → List (Option ℕ)) → Option Lane → Lane → List (Option ℕ)
lanes_put f None = f
lanes_put f (Some a) = with_lane f a (f a ++ None ∷ [])

abbrev pub lanes_given : (Lane → List (Option ℕ)) → Option Lane → ℕ → Lane → List (Option ℕ)
lanes_given f None j = f
lanes_given f (Some a) j = with_lane f a (last_set (f a) (Some j))

-- the books after event j
abbrev pub books_after : BooksView → ℕ → Note → BooksView
books_after b j n =
    record {
      last = slice_set b.last n.rank (Some j);
      lanes = lanes_given (lanes_put (lanes_taken b.lanes n.taken) n.put) n.given j;
    }
