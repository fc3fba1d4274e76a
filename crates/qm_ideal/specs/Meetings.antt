-- The rendezvous run by what decides it: where each rank stands, and for each parcel of a lane whether it has bits
use Rattle.std.specs.Prelude.{ℕ, ◌≡◌, ◌<◌, ◌+◌, nat_eq, nat_lt, Bool, true, false, ◌&&◌, if◌then◌else◌, List, [], ◌∷◌, ◌++◌, Option, Some, None, is_some, map, drop, fold, slice_get, slice_index_or, length}
use Rattle.qm_instr.specs.declared.Instr.{Instr}
use Rattle.qm_instr.specs.declared.Lane.{Lane}
use Rattle.qm_denot.specs.declared.Parcel.{Parcel}
use Rattle.qm_proto.specs.declared.Rule.{Rule}
use Rattle.qm_proto.specs.declared.Rule.TheVariants.{Always, PairRoom, Engaged, Filled}
use Rattle.qm_proto.specs.Model.Runs.{receives_on, events_at}
use Rattle.qm_proto.specs.Model.State.{Tables, with_at, with_lane}
use Rattle.qm_confluence.specs.Stuck.Shapes.{Move, Puts, Tells, Gets, Shape, shapes}

-- where the ranks stand, and the lanes
pub record Stand : Type 0 where
  pub at : ℕ → ℕ
  pub stage : ℕ → ℕ
  pub lanes : Lane → List Bool

abbrev pub has_bits : Parcel → Bool
has_bits x = is_some x.bits

abbrev pub stand_of : Tables → Stand
stand_of t = record { at = λ r. (t.parts r).at; stage = λ r. (t.parts r).stage; lanes = λ a. map has_bits (t.lanes a) }

-- a list with another last element
abbrev pub last_set : {T : Type 0} → List T → T → List T
last_set [] v = []
last_set (x ∷ []) v = v ∷ []
last_set (x ∷ y ∷ xs) v = x ∷ last_set (y ∷ xs) v

-- what a move leaves: a parcel more, bits in the last one, or all but the front one
abbrev pub lanes_after : (Lane → List Bool) → Move → Lane → List Bool
lanes_after f (Puts a b) = with_lane f a (f a ++ b ∷ [])
lanes_after f (Tells a) = with_lane f a (last_set (f a) true)
lanes_after f (Gets a) = with_lane f a (drop 1 (f a))

-- the instruction number k of a rank
abbrev pub Reader : Type 0
Reader = ℕ → ℕ → Option Instr

-- the event at which rank r stands, where it has one left
abbrev pub shape_in : ℕ → ℕ → Option Instr → Option Shape
shape_in r stage None = None
shape_in r stage (Some i) = slice_get (shapes r i) stage

abbrev pub shape_next : Reader → Stand → ℕ → Option Shape
shape_next read s r = shape_in r (s.stage r) (read r (s.at r))

-- whether lane a is wanted: its receiver stands at the first event of a receive of it, and it is empty
abbrev pub is_wanted_at : Reader → Stand → Lane → Bool
is_wanted_at read s a =
    nat_eq (s.stage a.to) 0 && (receives_on a.to (read a.to (s.at a.to)) a && nat_eq (length (s.lanes a)) 0)

-- whether what the rule asks for is so; a buffer of one has room for no pair that isn't wanted
abbrev pub rule_holds : Reader → Stand → Rule → Bool
rule_holds read s Always = true
rule_holds read s (PairRoom a) = is_wanted_at read s a
rule_holds read s (Engaged a) = is_wanted_at read s a
rule_holds read s (Filled a) = slice_index_or (s.lanes a) 0 false

abbrev pub shape_holds : Reader → Stand → Option Shape → Bool
shape_holds read s None = false
shape_holds read s (Some w) = rule_holds read s w.rule

-- whether rank r is enabled
abbrev pub may_go : Reader → Stand → ℕ → Bool
may_go read s r = shape_holds read s (shape_next read s r)

-- after an event of rank r, whose instruction has n of them
abbrev pub stand_past : ℕ → Stand → ℕ → Option Shape → Stand
stand_past n s r None = s
stand_past n s r (Some w) =
    let more = nat_lt (s.stage r + 1) n in
    record {
      at = with_at s.at r (if more then s.at r else s.at r + 1);
      stage = with_at s.stage r (if more then s.stage r + 1 else 0);
      lanes = fold lanes_after s.lanes w.moves;
    }

abbrev pub go : Reader → Stand → ℕ → Stand
go read s r = stand_past (events_at (read r (s.at r))) s r (shape_next read s r)

-- r is the lowest of n numbers at which f is true
pub record IsLeast (f : ℕ → Bool) (n r : ℕ) : Type 0 where
  pub known : r < n
  pub able : f r ≡ true
  pub below : (k : ℕ) → k < r → f k ≡ false
