-- What an event owes: from the letters that its message has begun to those that it has then
use Rattle.std.proofs.Common.{◌≡◌, ℕ, Bool, true, false, if◌then◌else◌, List, [], ◌++◌, filter, Option, Some, None, refl, sym, ap, subst, append-nil}
use Rattle.qm_denot.specs.declared.Wire.{Wire}
use Rattle.qm_denot.specs.declared.Letter.{Letter}
use Rattle.qm_denot.specs.declared.Letter.TheVariants.{Phase, Flip}
use Rattle.qm_denot.specs.Circuits.{Circuit, IsEqualUpTo}
use Rattle.qm_denot.specs.Protocols.{letter_if}
use Rattle.qm_denot.specs.Tags.{Tagged}
use Rattle.qm_instr.specs.declared.Instr.{Instr}
use Rattle.qm_instr.specs.declared.Lane.{Lane}
use Rattle.qm_instr.specs.Programs.{Programs}
use Rattle.qm_proto.specs.declared.Event.{Event}
use Rattle.qm_proto.specs.declared.Event.TheVariants as event
use Rattle.qm_denot.specs.declared.Parcel.{Parcel}
use Rattle.qm_proto.specs.Model.State.{Tables, front}
use Rattle.qm_proto.specs.Model.Acts.{acts_letters}
use Rattle.qm_safety.specs.Tables.Lines.{row_at, acts_of}
use Rattle.qm_simulation.specs.Following.Debts.{Holder, AtRank, OnLane}
use Rattle.qm_simulation.specs.Following.Follows.{Follows}
use Rattle.qm_simulation.specs.Following.Simulation.{settles, is_early, outcomes_of, corrections, is_due_after}
use Rattle.qm_simulation.proofs.Following.Places.{after}
use Rattle.qm_simulation.proofs.Following.Raws.{Raw, holder_raw, due_letters}
use Rattle.qm_simulation.proofs.Following.Deeds.{ideal_letters, given_at, taken_at}

-- the holders between which an event moves its message
abbrev pub holder_from : Tables → ℕ → Option Lane → Holder
holder_from t r None = AtRank r
holder_from t r (Some a) = OnLane a (front t a)

abbrev pub holder_to : ℕ → Option (Lane × Parcel) → Holder
holder_to r None = AtRank r
holder_to r (Some y) = OnLane y.0 y.1

-- from these letters of the event's message to those
pub record RawChange (p : Programs) (t : Tables) (r : ℕ) (i : Instr) (s : ℕ) (c : Circuit) (ls ms : List Letter) (b a : Raw) : Type 0 where
  pub begun_so : a.begun ≡ (if settles (Some i) s then [] else (if is_early (Some i) s then b.begun ++ ls else b.begun))
  pub pending_so : a.pending ≡ (if settles (Some i) s then b.pending ++ corrections p t r (Some i) else due_letters (row_at p t r i s) b.pending)
  pub law : IsEqualUpTo (if settles (Some i) s then outcomes_of (Some i) else 0) (c ++ ((b.begun ++ b.pending) ++ ls)) (c ++ (ms ++ (a.begun ++ a.pending)))

-- what every event owes
abbrev pub Changes : Programs → Tables → ℕ → Instr → ℕ → Type 0
Changes p t r i s =
    (n : ℕ) (g c : Circuit) (ds : Tagged _) → Follows p t n g c ds
    → RawChange p t r i s c (acts_letters r (acts_of (row_at p t r i s)) t) (ideal_letters p t r i s)
    (holder_raw p t (holder_from t r (taken_at r i s))) (holder_raw p (after p t r i s) (holder_to r (given_at t r i s)))

-- corrections done and not done
pub flip_done : (b : Bool) (f : Wire) → [] ≡ filter (is_due_after event.FixX) (letter_if b (Flip f))
flip_done true f = refl
flip_done false f = refl

pub sign_done : (b : Bool) (f : Wire) → [] ≡ filter (is_due_after event.FixZ) (letter_if b (Phase 4 f))
sign_done true f = refl
sign_done false f = refl

pub flip_first : (a b : Bool) (f : Wire) → letter_if a (Phase 4 f) ≡ filter (is_due_after event.FixX) (letter_if a (Phase 4 f) ++ letter_if b (Flip f))
flip_first true true f = refl
flip_first true false f = refl
flip_first false true f = refl
flip_first false false f = refl

pub nothing_due : (e : Event) (zs : List Letter) → zs ≡ [] → [] ≡ filter (is_due_after e) zs
nothing_due e zs none = sym (ap (filter (is_due_after e)) none)

pub twice_law : (c ls : List Letter) → IsEqualUpTo 0 (c ++ (ls ++ ls)) c → IsEqualUpTo 0 (c ++ (ls ++ ls)) (c ++ [])
twice_law c ls h = subst (IsEqualUpTo 0 (c ++ (ls ++ ls))) (sym (append-nil c)) h
