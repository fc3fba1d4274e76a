-- The letters of an ideal step have different operands
use Rattle.std.proofs.Common.{◌≡◌, ◌≢◌, ℕ, ◌<◌, Bool, true, false, [], ◌∷◌, length, Some, sym, ap, subst}
use Rattle.qm_denot.specs.declared.Wire.{Wire}
use Rattle.qm_denot.specs.declared.Letter.{Letter}
use Rattle.qm_denot.specs.WireLists.{Distinct}
use Rattle.qm_denot.specs.CircuitFacts.{IsProper, AllProper}
use Rattle.qm_denot.specs.Protocols.{letter_if}
use Rattle.qm_instr.specs.declared.OneGate.TheVariants as one
use Rattle.qm_instr.specs.declared.Gate.{Gate}
use Rattle.qm_instr.specs.declared.Gate.TheVariants as gate
use Rattle.qm_instr.specs.declared.Instr.{Instr}
use Rattle.qm_instr.specs.declared.Instr.TheVariants as instr
use Rattle.qm_instr.specs.Programs.{Programs, IsInRange}
use Rattle.qm_check.specs.Checks.{IsReady}
use Rattle.qm_check.specs.Operands.{uses_of, gate_uses}
use Rattle.qm_check.specs.Slots.{full_after}
use Rattle.qm_check.proofs.Faultless.{FindsSlots, before}
use Rattle.qm_proto.specs.Model.Rows.{gate_letter}
use Rattle.qm_proto.specs.Model.Ideal.{IdealTables, ideal_wire_in}
use Rattle.qm_confluence.proofs.Confluence.ByView.{View, slot_wire, bit_in, made_in, rule_of, reads, letters_by, view}
use Rattle.qm_confluence.proofs.Confluence.Helpers.{IsNextInstr, able_where_next}
use Rattle.qm_confluence.proofs.Confluence.OnePlace.{Spot, InSlot, OnLane}
use Rattle.qm_confluence.proofs.Confluence.WellIdeal.{IsWellIdeal, at_step}
use Rattle.qm_confluence.proofs.Confluence.LetterWires.{slot_found, offered, made_new, not_idle, one_rank}
use Rattle.qm_proto.proofs.Changes.{number_itself}

two : (v w : Wire) → v ≢ w → Distinct (v ∷ w ∷ [])
two v w other = (((λ e. other (sym e)), tt), (tt, tt))

module _ (r : ℕ) (v : View) (full : ℕ → Bool) (slots : (c t : ℕ) → c ≢ t → full c ≡ true → full t ≡ true → slot_wire v c ≢ slot_wire v t) where
  gate_proper : (g : Gate) → FindsSlots full (gate_uses g) → IsProper (gate_letter (slot_wire v) g)
  gate_proper (gate.One one.X q) found = (tt, tt)
  gate_proper (gate.One one.Z q) found = (tt, tt)
  gate_proper (gate.One one.H q) found = (tt, tt)
  gate_proper (gate.One one.S q) found = (tt, tt)
  gate_proper (gate.One one.Sdg q) found = (tt, tt)
  gate_proper (gate.One one.T q) found = (tt, tt)
  gate_proper (gate.One one.Tdg q) found = (tt, tt)
  gate_proper (gate.Cx c q) found = two (slot_wire v c) (slot_wire v q) (slots c q found.0 found.1 found.2)
  gate_proper (gate.Cz c q) found = two (slot_wire v c) (slot_wire v q) (slots c q found.0 found.1 found.2)

  if_proper : (b : Bool) (l : Letter) → IsProper l → AllProper (letter_if b l)
  if_proper true l h = (h, tt)
  if_proper false l h = tt

  proper_where : (i : Instr) → FindsSlots full (uses_of i) → ((q : ℕ) → full q ≡ true → slot_wire v q ≢ made_in r v)
      → ((h q : ℕ) → reads (rule_of r i) h ≡ true → full q ≡ true → (v.offered h) ≢ slot_wire v q) → AllProper (letters_by r i v)
  proper_where (instr.Do g) found made wire = (gate_proper g found, tt)
  proper_where (instr.Free q) found made wire = ((tt, tt), tt)
  proper_where (instr.Measure q b) found made wire = ((tt, tt), tt)
  proper_where (instr.When b g) found made wire = if_proper (bit_in v b) (gate_letter (slot_wire v) g) (gate_proper g found)
  proper_where (instr.CopyTo q to tag) found made wire = (two (slot_wire v q) (made_in r v) (made q found), tt)
  proper_where (instr.UndoTo q to tag) found made wire = (two (v.offered to) (slot_wire v q) (wire to q (number_itself to) found), ((tt, tt), tt))
  proper_where (instr.MoveTo q to tag) found made wire = (two (slot_wire v q) (made_in r v) (made q found), tt)
  proper_where (instr.ReachFrom q from tag) found made wire = (two (v.offered from) (slot_wire v q) (wire from q (number_itself from) found), tt)
  proper_where _ found made wire = tt

slot_at : Spot → ℕ
slot_at (InSlot r q) = q
slot_at (OnLane a) = 0

module _ (p : Programs) (ready : IsReady p) (ranges : IsInRange p) (t : IdealTables) (well : IsWellIdeal p t) (r : ℕ) (known : r < length p.ranks) (i : Instr) (next : IsNextInstr p t r i) where
  slots_differ : (c k : ℕ) → c ≢ k → full_after (before p r (t.parts r).at) c ≡ true → full_after (before p r (t.parts r).at) k ≡ true → ideal_wire_in t r c ≢ ideal_wire_in t r k
  unfolding slot_at
  slots_differ c k other fc fk e =
      let w = ideal_wire_in t r c in
      let one : t.slots r c ≡ Some w = slot_found p ready ranges t well r c fc in
      let two : t.slots r k ≡ Some w = subst (λ v. t.slots r k ≡ Some v) (sym e) (slot_found p ready ranges t well r k fk) in
      other (ap slot_at (well.placed.one w (InSlot r c) (InSlot r k) one two))

  pub letters_proper : AllProper (letters_by r i (view p t r i))
  letters_proper =
      let step = at_step p ready ranges t well r known i next in
      let full = full_after (before p r (t.parts r).at) in
      let able = able_where_next p t r i next in
      proper_where r (view p t r i) full slots_differ i step.slots
      (λ q f e. made_new p t well.placed r r q (ideal_wire_in t r q) e (slot_found p ready ranges t well r q f))
      (λ h q e f same.
      let o = offered p ready ranges t well r known i next h e in
      not_idle p t well.placed r h r able o.helps
      (one_rank p t well.placed r h q o.q (ideal_wire_in t r q) (slot_found p ready ranges t well r q f) (subst (λ w. t.slots h o.q ≡ Some w) same o.there)))
