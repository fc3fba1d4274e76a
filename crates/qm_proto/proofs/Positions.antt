-- What acts keep: where each rank stands, and all that is of other ranks
use Rattle.std.proofs.Common.{◌≡◌, ◌≢◌, ℕ, ◌+◌, nat_lt, Option, List, [], ◌∷◌, refl, ap, ◌∙◌}
use Rattle.qm_denot.specs.declared.Wire.{Wire}
use Rattle.qm_proto.specs.Model.State.{Part, Tables, with_slot}
use Rattle.qm_proto.specs.declared.Act.{Act}
use Rattle.qm_proto.specs.declared.Act.TheVariants.{Fresh, Twin, Apply, SlotOut, NearOut, FarOut, Settle, Posts, Fills, Receives, OwnUsed, ProtocolUsed, FirstKept, BitSet}
use Rattle.qm_proto.specs.Model.Acts.{after_act, after_acts}
use Rattle.qm_proto.specs.Model.Runs.{part_after_event}
use Rattle.qm_proto.proofs.Changes.{by_test, with_at-elsewhere, with_at-keeps, with_slot-elsewhere}

-- what each act of rank r keeps of the tables, all acts of a list keep
pub over_acts : {B : Type 0} (g : Tables → B) (r : ℕ) → ((act : Act) (t : Tables) → g (after_act r act t) ≡ g t)
    → (acts : List Act) (t : Tables) → g (after_acts r acts t) ≡ g t
over_acts g r kept [] t = refl
over_acts g r kept (a ∷ acts) t = over_acts g r kept acts (after_act r a t) ∙ kept a t

-- ---- where a rank stands
-- the number of its next instruction, and the stage
abbrev pub position : Part → ℕ × ℕ
position x = (x.at, x.stage)

module _ (r : ℕ) where
  pub position_kept : (k : ℕ) (act : Act) (t : Tables) → position ((after_act r act t).parts k) ≡ position (t.parts k)
  position_kept k (Fresh q) t = with_at-keeps position t.parts r _ refl k
  position_kept k (Twin to) t = with_at-keeps position t.parts r _ refl k
  position_kept k (Apply l) t = refl
  position_kept k (SlotOut q m) t = refl
  position_kept k (NearOut m) t = refl
  position_kept k (FarOut f m) t = refl
  position_kept k (Settle f q) t = refl
  position_kept k (Posts a x) t = refl
  position_kept k (Fills a b) t = refl
  position_kept k (Receives a) t = with_at-keeps position t.parts r _ refl k
  position_kept k OwnUsed t = with_at-keeps position t.parts r _ refl k
  position_kept k ProtocolUsed t = with_at-keeps position t.parts r _ refl k
  position_kept k (FirstKept m) t = with_at-keeps position t.parts r _ refl k
  position_kept k (BitSet b v) t = with_at-keeps position t.parts r _ refl k

  pub at_kept : (k : ℕ) (act : Act) (t : Tables) → ((after_act r act t).parts k).at ≡ (t.parts k).at
  at_kept k act t = ap (λ (x : ℕ × ℕ). x.0) (position_kept k act t)

  pub stage_kept : (k : ℕ) (act : Act) (t : Tables) → ((after_act r act t).parts k).stage ≡ (t.parts k).stage
  stage_kept k act t = ap (λ (x : ℕ × ℕ). x.1) (position_kept k act t)

  pub all_at_kept : (k : ℕ) (acts : List Act) (t : Tables) → ((after_acts r acts t).parts k).at ≡ (t.parts k).at
  all_at_kept k acts t = over_acts (λ (t : Tables). (t.parts k).at) r (at_kept k) acts t

  pub all_stage_kept : (k : ℕ) (acts : List Act) (t : Tables) → ((after_acts r acts t).parts k).stage ≡ (t.parts k).stage
  all_stage_kept k acts t = over_acts (λ (t : Tables). (t.parts k).stage) r (stage_kept k) acts t

-- ---- what is of another rank

module _ (r k : ℕ) (other : k ≢ r) where
  pub other_part_kept : (act : Act) (t : Tables) → (after_act r act t).parts k ≡ t.parts k
  other_part_kept (Fresh q) t = with_at-elsewhere t.parts r _ k other
  other_part_kept (Twin to) t = with_at-elsewhere t.parts r _ k other
  other_part_kept (Apply l) t = refl
  other_part_kept (SlotOut q m) t = refl
  other_part_kept (NearOut m) t = refl
  other_part_kept (FarOut f m) t = refl
  other_part_kept (Settle f q) t = refl
  other_part_kept (Posts a x) t = refl
  other_part_kept (Fills a b) t = refl
  other_part_kept (Receives a) t = with_at-elsewhere t.parts r _ k other
  other_part_kept OwnUsed t = with_at-elsewhere t.parts r _ k other
  other_part_kept ProtocolUsed t = with_at-elsewhere t.parts r _ k other
  other_part_kept (FirstKept m) t = with_at-elsewhere t.parts r _ k other
  other_part_kept (BitSet b v) t = with_at-elsewhere t.parts r _ k other

  slot_elsewhere : (t : Tables) (q p : ℕ) (v : Option Wire) → with_slot t.slots r q v k p ≡ t.slots k p
  slot_elsewhere t q p v = with_slot-elsewhere t.slots r q v k p (λ s. other s.rank)

  pub other_slot_kept : (p : ℕ) (act : Act) (t : Tables) → (after_act r act t).slots k p ≡ t.slots k p
  other_slot_kept p (Fresh q) t = slot_elsewhere t q p _
  other_slot_kept p (SlotOut q m) t = slot_elsewhere t q p _
  other_slot_kept p (Settle f q) t = slot_elsewhere t q p _
  other_slot_kept p _ t = refl

  pub other_near_kept : (act : Act) (t : Tables) → (after_act r act t).near k ≡ t.near k
  other_near_kept (Twin to) t = with_at-elsewhere t.near r _ k other
  other_near_kept (NearOut m) t = with_at-elsewhere t.near r _ k other
  other_near_kept _ t = refl

  pub all_other_parts_kept : (acts : List Act) (t : Tables) → (after_acts r acts t).parts k ≡ t.parts k
  all_other_parts_kept acts t = over_acts (λ (t : Tables). t.parts k) r other_part_kept acts t

  pub all_other_slots_kept : (p : ℕ) (acts : List Act) (t : Tables) → (after_acts r acts t).slots k p ≡ t.slots k p
  all_other_slots_kept p acts t = over_acts (λ (t : Tables). t.slots k p) r (other_slot_kept p) acts t

  pub all_other_near_kept : (acts : List Act) (t : Tables) → (after_acts r acts t).near k ≡ t.near k
  all_other_near_kept acts t = over_acts (λ (t : Tables). t.near k) r other_near_kept acts t

-- a rank that moves on counts no wire
pub moved_made : (n : ℕ) (x : Part) → (part_after_event n x).made ≡ x.made
moved_made n x =
    by_test (λ y. y.made ≡ x.made) (nat_lt (x.stage + 1) n) (record x { stage = x.stage + 1 }) (record x { at = x.at + 1; stage = 0 }) (λ _. refl)
    (λ _. refl)
