-- Wires of messages: in custody, or the near half of the message's pair, also where it was measured away
use Rattle.std.proofs.Common.{◌≡◌, ℕ, true, false, ◌⊎◌, inl, inr, [], ◌∷◌, Some, None, is_some, refl, sym, subst, ◌∙◌, ⊎_elim}
use Rattle.std.proofs.lemmas.Option.{same_Some}
use Rattle.qm_denot.specs.declared.Wire.{Wire}
use Rattle.qm_denot.specs.declared.Letter.{Letter}
use Rattle.qm_denot.specs.declared.Letter.TheVariants.{Cx}
use Rattle.qm_denot.specs.Weights.{operands}
use Rattle.qm_denot.proofs.Partings.{AreNaming}
use Rattle.qm_instr.specs.declared.Gate.{Gate}
use Rattle.qm_instr.specs.declared.Gate.TheVariants as gate
use Rattle.qm_instr.specs.Programs.{Programs, IsInRange}
use Rattle.qm_check.specs.Checks.{IsReady}
use Rattle.qm_check.specs.Operands.{gate_uses}
use Rattle.qm_check.proofs.Faultless.{FindsSlots}
use Rattle.qm_proto.specs.Model.State.{Tables, wire_in, no_wire}
use Rattle.qm_proto.specs.Model.Rows.{one_letter, gate_letter}
use Rattle.qm_proto.specs.Model.Places.{Place, InSlot, NearOf, FarOf, IsAt, IsPlaced}
use Rattle.qm_simulation.specs.Following.Seen.{tables_seen}
use Rattle.qm_simulation.specs.Following.Debts.{Message, NoMessage, pair_of, slots_message, custody_at, IsInCustody}
use Rattle.qm_safety.proofs.Tables.RankSteps.{some_is}
use Rattle.qm_simulation.proofs.Following.Rewritings.{one_custody}
use Rattle.qm_confluence.proofs.Confluence.IdealWires.{AreWiresCounted}
use Rattle.qm_simulation.proofs.Following.Stood.{IsStood}
use Rattle.qm_simulation.proofs.Following.Safe.{custody}
use Rattle.qm_simulation.proofs.Following.Events.{one_named, two_named, one_operand, slot_off}

-- the wire is in the message's custody, or is the near half of its pair
abbrev pub IsEngaged : Programs → Tables → Wire → Message → Type 0
IsEngaged p t w k = IsInCustody p t w k ⊎ ((w.near ≡ true) × (pair_of w ≡ k))

-- an event of message k may touch the wire: it is engaged in no other message
abbrev pub IsClear : Programs → Tables → Message → Wire → Type 0
IsClear p t k w = (j : Message) → IsEngaged p t w j → j ≡ k

module _ (p : Programs) (ready : IsReady p) (ranges : IsInRange p) (t : Tables) (stood : IsStood p t) (ideal : AreWiresCounted (tables_seen p t)) where
  -- near halves are in no slots
  pub near_off_slots : (w : Wire) → w.near ≡ true → (r q : ℕ) → IsAt t w (InSlot r q) → ⊥
  near_off_slots w near r q at = let far : w.near ≡ false = (ideal.slots r q w at).far in cc

  -- so a near half is in custody of no message but its pair's
  near_custody : (w : Wire) (k : Message) → w.near ≡ true → IsInCustody p t w k → pair_of w ≡ k
  near_custody w k near (o, at, e) = by_place o at e
    where
      by_place : (o : Place) → IsAt t w o → custody_at p t w o ≡ Some k → pair_of w ≡ k
      by_place (InSlot r q) at e = absurd (near_off_slots w near r q at)
      by_place (NearOf r) at e = same_Some (pair_of w) k e
      by_place (FarOf r) at e = same_Some (pair_of w) k e

  -- no wire is engaged in two messages
  pub one_engaged : (w : Wire) (j k : Message) → IsEngaged p t w j → IsEngaged p t w k → j ≡ k
  one_engaged w j k (inl a) (inl b) = one_custody p t stood.well.tidy (custody p ready ranges t stood) w j k a b
  one_engaged w j k (inl a) (inr b) = sym (near_custody w j b.0 a) ∙ b.1
  one_engaged w j k (inr a) (inl b) = sym a.1 ∙ near_custody w k a.0 b
  one_engaged w j k (inr a) (inr b) = sym a.1 ∙ b.1

  -- a wire in the message's custody is engaged in no other
  pub own_clear : (w : Wire) (k : Message) → IsInCustody p t w k → IsClear p t k w
  own_clear w k own j e = one_engaged w j k e (inl own)

  -- nor is a new half of its pair
  pub new_clear : (w : Wire) (k : Message) → ¬ IsPlaced t w → pair_of w ≡ k → IsClear p t k w
  new_clear w k absent pair j (inl (o, there, e)) = absurd (absent (o, there))
  new_clear w k absent pair j (inr h) = sym h.1 ∙ pair

  pub one_clear : (l : Letter) (w : Wire) (k : Message) → operands l ≡ w ∷ [] → IsInCustody p t w k → (x : Wire) → AreNaming (l ∷ []) x → IsClear p t k x
  one_clear l w k is own x h = subst (IsClear p t k) (one_named l w x is h) (own_clear w k own)

  pub two_clear : (l : Letter) (v w : Wire) (k : Message) → operands l ≡ v ∷ w ∷ [] → IsInCustody p t v k → IsInCustody p t w k
      → (x : Wire) → AreNaming (l ∷ []) x → IsClear p t k x
  two_clear l v w k is a b x h =
      ⊎_elim (λ (e : v ≡ x). subst (IsClear p t k) e (own_clear v k a)) (λ (e : w ≡ x). subst (IsClear p t k) e (own_clear w k b)) (two_named l v w x is h)

  module _ (r : ℕ) where
    -- a wire in a slot that is set aside for no message is engaged in none
    pub slot_clear : (q : ℕ) (w : Wire) (k : Message) → IsAt t w (InSlot r q) → slots_message p t r ≡ None → IsClear p t k w
    slot_clear q w k at free j (inl h) = absurd (slot_off p ready ranges t r stood ideal q w at free j h)
    slot_clear q w k at free j (inr h) = absurd (near_off_slots w h.0 r q at)

    full_clear : (q : ℕ) → slots_message p t r ≡ None → is_some (t.slots r q) ≡ true → IsClear p t NoMessage (wire_in t r q)
    full_clear q free full = slot_clear q (wire_in t r q) NoMessage (some_is (t.slots r q) no_wire full) free

    pub gate_clear : (g : Gate) → slots_message p t r ≡ None → FindsSlots (λ q. is_some (t.slots r q)) (gate_uses g) → (x : Wire) → AreNaming (gate_letter (wire_in t r) g ∷ []) x
        → IsClear p t NoMessage x
    gate_clear (gate.One g q) free f x h =
        subst (IsClear p t NoMessage) (one_named (one_letter g (wire_in t r q)) (wire_in t r q) x (one_operand p ready ranges t r stood ideal g (wire_in t r q)) h) (full_clear q free f)
    gate_clear (gate.Cx a b) free f x h =
        ⊎_elim (λ (e : wire_in t r a ≡ x). subst (IsClear p t NoMessage) e (full_clear a free f.1)) (λ (e : wire_in t r b ≡ x). subst (IsClear p t NoMessage) e (full_clear b free f.2))
        (two_named (Cx (wire_in t r a) (wire_in t r b)) (wire_in t r a) (wire_in t r b) x refl h)
    gate_clear (gate.Cz a b) free f x h =
        ⊎_elim (λ (e : wire_in t r a ≡ x). subst (IsClear p t NoMessage) e (full_clear a free f.1)) (λ (e : wire_in t r b ≡ x). subst (IsClear p t NoMessage) e (full_clear b free f.2))
        (two_named (gate_letter (wire_in t r) (gate.Cz a b)) (wire_in t r a) (wire_in t r b) x refl h)
