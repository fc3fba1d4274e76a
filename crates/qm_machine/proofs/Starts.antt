-- A machine before its first event, and bounds on what its readers tell
use Rattle.std.proofs.Common.{◌≡◌, ◌<◌, ◌≤◌, ◌↔◌, ℕ, List, [], Option, None, Some, Ok, Contains, length, count_by, refl, sym, ap, subst, ◌∙◌, arith}
use Rattle.std.proofs.lemmas.List.{length-map}
use Rattle.std.proofs.lemmas.List.{get_or-map}
use Rattle.qm_denot.specs.declared.Wire.{Wire}
use Rattle.qm_denot.specs.Stores.{Store, StandsFor}
use Rattle.qm_denot.proofs.Sets.{has-no_wires}
use Rattle.qm_instr.specs.Programs.{RankProgram, Programs, IsInRange, rank_of, idle_rank}
use Rattle.qm_owner.specs.Places.{PlaceMap, IsPlacing}
use Rattle.qm_check.specs.Checks.{IsReady, capacity_of}
use Rattle.qm_expand.specs.Reading.{Reads}
use Rattle.qm_proto.specs.Model.State.{State, Tables}
use Rattle.qm_proto.specs.Model.Places.{InSlot, NearOf, FarOf, IsPlaced}
use Rattle.qm_proto.specs.Model.Schedules.{replay, tables_at_start, state_at_start, IsLegal}
use Rattle.qm_machine.specs.declared.Halt.{Halt}
use Rattle.qm_machine.specs.Facts.{Facts, IsAtStart, AreSound, is_pauli, size_at}
use Rattle.qm_proto.specs.Model.Totals.{event_total}
use Rattle.qm_machine.specs.Keeps.{IsKept}
use Rattle.qm_safety.proofs.Tables.Standing.{well, well_roomy}

-- nothing has a place at the start
unplaced : (p : Programs) (w : Wire) → ¬ (IsPlaced (tables_at_start p) w)
unplaced p w (InSlot r q, at) = cc
unplaced p w (NearOf r, at) = let none = has-no_wires w in cc
unplaced p w (FarOf r, at) = let none = has-no_wires w in cc

legal_nothing : (p : Programs) → IsLegal p []
unfolding IsLegal
legal_nothing p = tt

replay_nothing : (p : Programs) → replay p [] ≡ state_at_start p
unfolding replay
replay_nothing p = refl

nothing_placed : IsPlacing []
nothing_placed = record { wires = tt; slots = tt }

sound_at_start : (p : Programs) (s : Store) (f : Facts) → IsAtStart p s f → s.live ≡ [] → capacity_of p ≤ s.capacity → AreSound f
sound_at_start p s f a empty wide =
    let none : f.store.live ≡ [] = ap (λ (x : Store). x.live) a.store ∙ empty in
    record {
      live = λ w. subst (λ (t : Tables). Contains f.store.live w ↔ IsPlaced t w) (sym a.tables)
          (subst (λ (ws : List Wire). Contains ws w ↔ IsPlaced (tables_at_start p) w) (sym none)
          ((λ (h : Contains [] w). absurd (omega arith)), (λ (h : IsPlaced (tables_at_start p) w). absurd (unplaced p w h))));
      placing = subst (λ (m : PlaceMap). IsPlacing m.placed) (sym a.places) nothing_placed;
      slotted = ap (λ (m : PlaceMap). m.ranks) a.places ∙ sym a.ranks;
      few = omega (arith, ap (λ (ws : List Wire). length ws) none);
      room = omega (arith, wide, ap (λ (m : PlaceMap). m.capacity) a.places, ap (λ (x : Store). x.capacity) a.store);
      fewer = omega arith;
    }

pub kept_at_start : (text : List ℕ) (p : Programs) (s : Store) (f : Facts) (room : ℕ) (rs : List ℕ) → Reads text (Ok p) → IsReady p → IsInRange p → IsAtStart p s f
    → StandsFor s [] → s.live ≡ [] → capacity_of p ≤ s.capacity → event_total p ≤ room → rs ≡ [] → IsKept text p rs None f room
kept_at_start text p s f room rs reads ready ranged a stands empty wide turns e =
    subst (λ (xs : List ℕ). IsKept text p xs None f room) (sym e)
    (let back : state_at_start p ≡ replay p [] = sym (replay_nothing p) in
    record {
      reads = reads;
      ready = ready;
      in_range = ranged;
      legal = legal_nothing p;
      tables = a.tables ∙ ap (λ (x : State). x.tables) back;
      stands = subst (λ (x : State). StandsFor f.store x.circuit) back (subst (λ (x : Store). StandsFor x []) (sym a.store) stands);
      letters = a.letters ∙ ap (λ (x : State). length x.circuit) back;
      paulis = a.paulis ∙ ap (λ (x : State). count_by is_pauli x.circuit) back;
      parcels = a.parcels;
      ranks = a.ranks;
      sound = sound_at_start p s f a empty wide;
      wires = omega (arith, ap (λ (m : PlaceMap). m.capacity) a.places);
      sizes = a.sizes;
      turns = turns;
      halt = tt;
    })

module _ {text : List ℕ} {p : Programs} {rs : List ℕ} {h : Option Halt} {f : Facts} {room : ℕ} (k : IsKept text p rs h f room) (r : ℕ) (known : r < length p.ranks) where
  -- a rank's buffer has the size that its program says
  pub kept_size : size_at f.sizes r ≡ (rank_of p r).buffer
  kept_size =
      ap (λ ns. size_at ns r) k.sizes ∙ get_or-map (λ (x : RankProgram). x.buffer) p.ranks r idle_rank 0 known

  pub kept_sized : r < length f.sizes
  kept_sized = omega (arith, known, ap (λ (ns : List ℕ). length ns) k.sizes, length-map p.ranks (λ (x : RankProgram). x.buffer))

-- a rank that there isn't has no wire
pub no_slot_elsewhere : {text : List ℕ} {p : Programs} {rs : List ℕ} {h : Option Halt} {f : Facts} {room : ℕ} → IsKept text p rs h f room
    → (r q : ℕ) → ¬ (r < length p.ranks) → (replay p rs).tables.slots r q ≡ None
no_slot_elsewhere {text} {p} {rs} {h} {f} {room} k r q unknown = by_slot (t.slots r q) refl
  where
    t : Tables
    t = (replay p rs).tables

    by_slot : (o : Option Wire) → t.slots r q ≡ o → o ≡ None
    by_slot None e = refl
    by_slot (Some w) e = absurd (unknown ((well_roomy p t k.in_range (well p k.ready k.in_range rs k.legal)).slot_known r q w e).0)
