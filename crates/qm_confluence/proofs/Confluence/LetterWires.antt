-- The wires of a step's letters: of the rank's own slots, the one that it counts next, and one that another rank offers
use Rattle.std.proofs.Common.{◌≡◌, ◌≢◌, ℕ, ◌<◌, cond, Bool, true, false, length, Option, Some, None, is_some, unwrap_or, refl, sym, ap, subst, ◌∙◌, arith}
use Rattle.qm_denot.specs.declared.Wire.{Wire}
use Rattle.qm_denot.specs.declared.Letter.{Letter}
use Rattle.qm_denot.specs.Weights.{operands}
use Rattle.qm_denot.specs.Protocols.{letter_if}
use Rattle.qm_instr.specs.declared.OneGate.TheVariants as one
use Rattle.qm_instr.specs.declared.Gate.{Gate}
use Rattle.qm_instr.specs.declared.Gate.TheVariants as gate
use Rattle.qm_instr.specs.declared.Instr.{Instr}
use Rattle.qm_instr.specs.declared.Instr.TheVariants as instr
use Rattle.qm_instr.specs.Programs.{Programs, IsInRange}
use Rattle.qm_check.specs.Checks.{IsReady}
use Rattle.qm_check.specs.Operands.{uses_of, gate_uses, partner_of}
use Rattle.qm_check.specs.Slots.{full_after}
use Rattle.qm_check.proofs.Faultless.{FindsSlots, before}
use Rattle.qm_check.proofs.Faultless as faultless
use Rattle.qm_proto.specs.Model.State.{no_wire}
use Rattle.qm_proto.specs.Model.Rows.{gate_letter}
use Rattle.qm_proto.specs.Model.Ideal.{IdealTables, IdealRule, ideal_enabled, ideal_wire_made, ideal_wire_in, ideal_wire_offered}
use Rattle.std.proofs.lemmas.Bool.{eqb-true}
use Rattle.qm_confluence.proofs.Confluence.ByView.{View, slot_wire, bit_in, made_in, rule_of, offered_read, reads, letters_by, view}
use Rattle.qm_confluence.proofs.Confluence.Helpers.{IsNextInstr, Helps, helped, helps_one}
use Rattle.qm_confluence.proofs.Confluence.OnePlace.{Spot, InSlot, OnLane, ArePlaced}
use Rattle.qm_confluence.proofs.Confluence.WellIdeal.{IsWellIdeal, at_step}
use Rattle.qm_proto.proofs.Changes.{number_itself}
use Rattle.qm_denot.proofs.OperandFacts.{Each, EachOperand}
use Rattle.qm_confluence.specs.Counted.{IsCounted}

-- the instruction's letters name the wire that it counts
abbrev pub names_made : Instr → Bool
names_made (instr.CopyTo q to tag) = true
names_made (instr.MoveTo q to tag) = true
names_made _ = false

-- ---- the operands of a step's letters, for slots that are full as the instruction needs them
module _ (P : Wire → Type 0) where
  gate_where : (g : Gate) (wire : ℕ → Wire) (full : ℕ → Bool) → FindsSlots full (gate_uses g) → ((q : ℕ) → full q ≡ true → P (wire q))
      → Each P (operands (gate_letter wire g))
  gate_where (gate.One one.X q) wire full found slots = (slots q found, tt)
  gate_where (gate.One one.Z q) wire full found slots = (slots q found, tt)
  gate_where (gate.One one.H q) wire full found slots = (slots q found, tt)
  gate_where (gate.One one.S q) wire full found slots = (slots q found, tt)
  gate_where (gate.One one.Sdg q) wire full found slots = (slots q found, tt)
  gate_where (gate.One one.T q) wire full found slots = (slots q found, tt)
  gate_where (gate.One one.Tdg q) wire full found slots = (slots q found, tt)
  gate_where (gate.Cx c q) wire full found slots = (slots c found.1, (slots q found.2, tt))
  gate_where (gate.Cz c q) wire full found slots = (slots c found.1, (slots q found.2, tt))

  if_where : (b : Bool) (l : Letter) → Each P (operands l) → EachOperand P (letter_if b l)
  if_where true l h = (h, tt)
  if_where false l h = tt

  pub letters_where : (r : ℕ) (i : Instr) (v : View) (full : ℕ → Bool) → FindsSlots full (uses_of i) → ((q : ℕ) → full q ≡ true → P (slot_wire v q))
      → (names_made i ≡ true → P (made_in r v)) → ((h : ℕ) → reads (rule_of r i) h ≡ true → P (v.offered h)) → EachOperand P (letters_by r i v)
  letters_where r (instr.Do g) v full found slots made wire = (gate_where g (slot_wire v) full found slots, tt)
  letters_where r (instr.Free q) v full found slots made wire = ((slots q found, tt), tt)
  letters_where r (instr.Measure q b) v full found slots made wire = ((slots q found, tt), tt)
  letters_where r (instr.When b g) v full found slots made wire = if_where (bit_in v b) (gate_letter (slot_wire v) g) (gate_where g (slot_wire v) full found slots)
  letters_where r (instr.CopyTo q to tag) v full found slots made wire = ((slots q found, (made refl, tt)), tt)
  letters_where r (instr.UndoTo q to tag) v full found slots made wire = ((wire to (number_itself to), (slots q found, tt)), ((slots q found, tt), tt))
  letters_where r (instr.MoveTo q to tag) v full found slots made wire = ((slots q found, (made refl, tt)), tt)
  letters_where r (instr.ReachFrom q from tag) v full found slots made wire = ((wire from (number_itself from), (slots q found, tt)), tt)
  letters_where r _ v full found slots made wire = tt

-- ---- the wires that a step of a rank may name
pub data IsReached (p : Programs) (t : IdealTables) (r : ℕ) (w : Wire) : Type 0 where
  Made : w ≡ ideal_wire_made t r → IsReached p t r w
  Own : (q : ℕ) → t.slots r q ≡ Some w → IsReached p t r w
  Offered : (h q : ℕ) → Helps p t h r → t.slots h q ≡ Some w → IsReached p t r w

-- the wire is in a slot of a rank that helps
pub record IsOffered (p : Programs) (t : IdealTables) (h r : ℕ) (w : Wire) : Type 0 where
  pub helps : Helps p t h r
  pub q : ℕ
  pub there : t.slots h q ≡ Some w

some_is : (o : Option Wire) → is_some o ≡ true → o ≡ Some (unwrap_or o no_wire)
some_is None e = cc
some_is (Some w) e = refl

offered_where : (p : Programs) (t : IdealTables) (rule : IdealRule) (h : ℕ) → reads rule h ≡ true → offered_read p t rule h ≡ ideal_wire_offered p t h
offered_where p t rule h e = ap (λ b. cond b (ideal_wire_offered p t h) no_wire) e

helper_named : (r : ℕ) (i : Instr) (h : ℕ) → reads (rule_of r i) h ≡ true → partner_of i ≡ Some h
helper_named r (instr.UndoTo q to tag) h e = ap (λ k. Some k) (eqb-true _ h e)
helper_named r (instr.ReachFrom q from tag) h e = ap (λ k. Some k) (eqb-true _ h e)
helper_named r _ h e = absurd (let n : ⊥ = cc in n)

module _ (p : Programs) (ready : IsReady p) (ranges : IsInRange p) (t : IdealTables) (well : IsWellIdeal p t) where
  -- a slot that an instruction finds full has a wire
  pub slot_found : (r q : ℕ) → full_after (before p r (t.parts r).at) q ≡ true → t.slots r q ≡ Some (ideal_wire_in t r q)
  slot_found r q full = some_is (t.slots r q) (well.full r q ∙ full)

  module _ (r : ℕ) (known : r < length p.ranks) (i : Instr) (next : IsNextInstr p t r i) where
    pub offered : (h : ℕ) → reads (rule_of r i) h ≡ true → IsOffered p t h r (offered_read p t (rule_of r i) h)
    offered h e =
        let helps = helped p t r i next.holds h e in
        let step = at_step p ready ranges t well r known i next in
        let h_known : h < length p.ranks = (step.partner h (helper_named r i h e)).known in
        let its = faultless.step_of p h (t.parts h).at helps.i ready ranges h_known helps.read in
        let there : t.slots h helps.q ≡ Some (ideal_wire_in t h helps.q) = slot_found h helps.q (helps.keeps (full_after (before p h (t.parts h).at)) its.slots) in
        record { helps = helps; q = helps.q; there = there ∙ ap (λ w. Some w) (sym (offered_where p t (rule_of r i) h e ∙ helps.offers)) }

    pub letters_reached : EachOperand (IsReached p t r) (letters_by r i (view p t r i))
    letters_reached =
        let step = at_step p ready ranges t well r known i next in
        letters_where (IsReached p t r) r i (view p t r i) (full_after (before p r (t.parts r).at)) step.slots
        (λ q full. Own q (slot_found r q full)) (λ _. Made refl) (λ h e. let o = offered h e in Offered h o.q o.helps o.there)

-- ---- two ranks that are enabled reach no wire in common
rank_at : Spot → ℕ
rank_at (InSlot r q) = r
rank_at (OnLane a) = 0

module _ (p : Programs) (t : IdealTables) (placed : ArePlaced t) where
  pub one_rank : (a b q k : ℕ) (w : Wire) → t.slots a q ≡ Some w → t.slots b k ≡ Some w → a ≡ b
  unfolding rank_at
  one_rank a b q k w e f = ap rank_at (placed.one w (InSlot a q) (InSlot b k) e f)

  pub made_new : (a b q : ℕ) (w : Wire) → w ≡ ideal_wire_made t a → ¬ (t.slots b q ≡ Some w)
  made_new a b q w e f =
      let c : (t.parts a).made < (t.parts a).made = (subst (IsCounted t) e (placed.counted w (InSlot b q) f)).below in omega (arith, c)

  pub not_idle : (a h b : ℕ) → ideal_enabled p t a ≡ true → Helps p t h b → a ≢ h
  not_idle a h b able helps e = let idle : ideal_enabled p t h ≡ false = helps.idle in let on : ideal_enabled p t h ≡ true = subst (λ k. ideal_enabled p t k ≡ true) e able in cc

  pub none_common : (a b : ℕ) → a ≢ b → ideal_enabled p t a ≡ true → ideal_enabled p t b ≡ true → (w : Wire) → IsReached p t a w → IsReached p t b w → ⊥
  none_common a b other able bable w (Made e) (Made f) = other (ap (λ (v : Wire). v.rank) (sym e ∙ f))
  none_common a b other able bable w (Made e) (Own q f) = made_new a b q w e f
  none_common a b other able bable w (Made e) (Offered h q helps f) = made_new a h q w e f
  none_common a b other able bable w (Own q e) (Made f) = made_new b a q w f e
  none_common a b other able bable w (Own q e) (Own k f) = other (one_rank a b q k w e f)
  none_common a b other able bable w (Own q e) (Offered h k helps f) = not_idle a h b able helps (one_rank a h q k w e f)
  none_common a b other able bable w (Offered h q helps e) (Made f) = made_new b h q w f e
  none_common a b other able bable w (Offered h q helps e) (Own k f) = not_idle b h a bable helps (one_rank b h k q w f e)
  none_common a b other able bable w (Offered h q helps e) (Offered g k too f) =
      other (helps_one p t h a b helps (subst (λ x. Helps p t x b) (sym (one_rank h g q k w e f)) too))
