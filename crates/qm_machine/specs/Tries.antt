-- What a try of an event comes to
use Rattle.std.specs.Prelude.{◌≡◌, ℕ, ◌+◌, Bool, true, false, ◌&&◌, List, [], ◌∷◌, Option, Some, None, Result, MatchResult, length, count_by, ◌++◌}
use Rattle.qm_denot.specs.Circuits.{Circuit}
use Rattle.qm_denot.specs.declared.Letter.TheVariants.{Had}
use Rattle.qm_denot.specs.Stores.{Store, StandsFor, MayGrow, Overflows}
use Rattle.qm_instr.specs.Programs.{Programs}
use Rattle.qm_proto.specs.declared.Cause.{Cause}
use Rattle.qm_proto.specs.declared.Act.{Act}
use Rattle.qm_proto.specs.declared.Act.TheVariants.{Twin, Apply}
use Rattle.qm_proto.specs.declared.Few.{Few}
use Rattle.qm_proto.specs.declared.Few.TheVariants.{Empty, One, Two, Three}
use Rattle.qm_proto.specs.declared.Check.TheVariants.{Possible, Zero, Equal, Fits}
use Rattle.qm_proto.specs.Model.Acts.{list_of}
use Rattle.qm_proto.specs.declared.Check.{Check}
use Rattle.qm_proto.specs.declared.Row.{Row}
use Rattle.qm_proto.specs.Model.Rows.{letter_checks}
use Rattle.qm_proto.specs.Model.Runs.{FirstFails, NoneFails, next_tables, next_letters}
use Rattle.qm_proto.specs.May.{AllMayCheck}
use Rattle.qm_machine.specs.Facts.{Facts, Can, Did, AreSound, is_pauli}

-- no test fails, for whichever circuit the store stands
abbrev pub Passes : Facts → List Check → Type 0
Passes f checks = (c : Circuit) → StandsFor f.store c → NoneFails c checks

-- the first test that fails has this cause
abbrev pub Stops : Facts → List Check → Cause → Type 0
Stops f checks cause = (c : Circuit) → StandsFor f.store c → FirstFails c checks cause

-- what the tests say where they were asked
abbrev pub Asked : Facts → List Check → Option Cause → Type 0
Asked f checks None = Passes f checks
Asked f checks (Some cause) = Stops f checks cause

-- the tests that are asked before the acts: all but whether a `Had` fits, which its act tells
abbrev pub checks_before_acts : List Check → List Check
checks_before_acts [] = []
checks_before_acts (Possible w m ∷ ks) = Possible w m ∷ checks_before_acts ks
checks_before_acts (Zero w ∷ ks) = Zero w ∷ checks_before_acts ks
checks_before_acts (Equal w v ∷ ks) = Equal w v ∷ checks_before_acts ks
checks_before_acts (Fits w ∷ ks) = checks_before_acts ks

-- the tests that acts tell themselves: whether a `Had` fits that is the only one
abbrev pub told_by : List Act → List Check
told_by (Apply l ∷ []) = list_of (letter_checks l)
told_by _ = []

-- the act is not a `Had`, and so never refused
abbrev pub is_sure : Act → Bool
is_sure (Apply (Had w)) = false
is_sure _ = true

-- the act neither is a `Had` nor prepares a pair, and so leaves the exponent as it is
abbrev pub is_quiet : Act → Bool
is_quiet (Apply (Had w)) = false
is_quiet (Twin to) = false
is_quiet _ = true

-- none of them is refused but one that is alone, and none but the first needs that the exponent can grow
abbrev pub are_sure : Few Act → Bool
are_sure Empty = true
are_sure (One a) = true
are_sure (Two a b) = is_sure a && is_quiet b
are_sure (Three a b c) = is_sure a && (is_quiet b && is_quiet c)

-- the exponent can grow where the act needs it
abbrev pub MayGrowBy : Act → Store → Type 0
MayGrowBy a s = is_quiet a ≡ false → MayGrow s

-- the only act is a `Had` that leaves the range
abbrev pub AllOverflow : List Act → Store → Type 0
AllOverflow (Apply l ∷ []) s = Overflows l s
AllOverflow _ s = ⊥

-- a line that can be tried: its tests are those that are asked and then those that its acts tell
pub record IsTriable (w : Row) : Type 0 where
  pub checks : list_of w.checks ≡ checks_before_acts (list_of w.checks) ++ told_by (list_of w.acts)
  pub sure : are_sure w.acts ≡ true

-- rank r may do the acts of the line and make its tests, and the exponent can grow
pub record CanTry (f : Facts) (r : ℕ) (w : Row) : Type 0 where
  pub acts : Can f r (list_of w.acts)
  pub checks : AllMayCheck f.tables (list_of w.checks)
  pub triable : IsTriable w
  pub grow : MayGrow f.store

-- no test of the line failed, and rank r has done its acts
pub record WasDone (f : Facts) (r : ℕ) (w : Row) (g : Facts) : Type 0 where
  pub passes : Passes f (list_of w.checks)
  pub did : Did f r (list_of w.acts) g

-- the first test of the line that failed has this cause, and nothing has changed
pub record WasRefused (f : Facts) (w : Row) (cause : Cause) (g : Facts) : Type 0 where
  pub stops : Stops f (list_of w.checks) cause
  pub same : g ≡ f

-- rank r has tried the line: on Ok its acts were done, on Err refused for its cause
abbrev pub Tried : {T : Type 0} → Facts → ℕ → Row → Result T Cause → Facts → Type 0
Tried f r w answer g = MatchResult answer (λ _. WasDone f r w g) (λ cause. WasRefused f w cause g)

-- what the next event of rank r leaves
pub record Advanced (p : Programs) (f : Facts) (r : ℕ) (g : Facts) : Type 0 where
  pub tables : g.tables ≡ next_tables p f.tables r
  pub stands : (c : Circuit) → StandsFor f.store c → StandsFor g.store (c ++ next_letters p f.tables r)
  pub sound : AreSound g
  pub capacity : g.places.capacity ≡ f.places.capacity
  pub sizes : g.sizes ≡ f.sizes
  pub parcels : g.parcels ≡ f.parcels
  pub ranks : g.ranks ≡ f.ranks
  pub letters : g.letters ≡ f.letters + length (next_letters p f.tables r)
  pub paulis : g.paulis ≡ f.paulis + count_by is_pauli (next_letters p f.tables r)
