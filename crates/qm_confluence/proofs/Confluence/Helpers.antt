-- The rank whose position an enabled step reads waits for that very step
use Rattle.std.proofs.Common.{◌≡◌, ℕ, arith, nat_eq, nat_lt, Bool, true, false, List, [], ◌∷◌, length, Option, Some, None, refl, sym, ap, subst, ◌∙◌}
use Rattle.std.proofs.lemmas.Bool.{and_parts, eqb-true}
use Rattle.std.proofs.lemmas.Option.{same_Some}
use Rattle.qm_instr.specs.declared.Instr.{Instr}
use Rattle.qm_instr.specs.declared.Instr.TheVariants as instr
use Rattle.qm_instr.specs.declared.Kind.TheVariants as kind
use Rattle.qm_instr.specs.declared.Lane.{Lane}
use Rattle.qm_instr.specs.Lanes.{lane, is_lane}
use Rattle.qm_instr.specs.Programs.{Programs}
use Rattle.qm_instr.proofs.LaneOrder.{same_lane}
use Rattle.qm_check.specs.Operands.{uses_of, partner_of}
use Rattle.qm_check.proofs.Faultless.{FindsSlots}
use Rattle.qm_proto.specs.Model.Rows.{wire_offered}
use Rattle.qm_proto.specs.Model.Runs.{receives_on}
use Rattle.qm_proto.specs.Model.Ideal.{IdealTables, Load, instr_enabled, ideal_current, ideal_enabled, ideal_holds, ideal_wire_offered, ideal_wire_in, is_empty_lane, sends_on}
use Rattle.qm_confluence.proofs.Confluence.ByView.{rule_of, reads, step_is}

-- ---- the next instruction of a rank that is enabled
pub record IsNextInstr (p : Programs) (t : IdealTables) (r : ℕ) (i : Instr) : Type 0 where
  pub read : ideal_current p t r ≡ Some i
  pub holds : ideal_holds p t (rule_of r i) ≡ true

pub next_where_able : (p : Programs) (t : IdealTables) (r : ℕ) → ideal_enabled p t r ≡ true → (i : Instr) × IsNextInstr p t r i
next_where_able p t r able = by_read (ideal_current p t r) refl able
  where
    by_read : (o : Option Instr) → ideal_current p t r ≡ o → instr_enabled p t r o ≡ true → (i : Instr) × IsNextInstr p t r i
    by_read None e able = absurd (cc)
    by_read (Some i) e able = (i, record { read = e; holds = sym (ap (λ s. ideal_holds p t s.rule) (step_is p t r i)) ∙ able })

pub able_where_next : (p : Programs) (t : IdealTables) (r : ℕ) (i : Instr) → IsNextInstr p t r i → ideal_enabled p t r ≡ true
able_where_next p t r i next = ap (instr_enabled p t r) next.read ∙ ap (λ s. ideal_holds p t s.rule) (step_is p t r i) ∙ next.holds

-- ---- a rank whose position a rule reads
-- it stands at an instruction that names the other rank, isn't enabled, and offers the wire of a slot that it keeps
pub record Helps (p : Programs) (t : IdealTables) (h r : ℕ) : Type 0 where
  pub i : Instr
  pub q : ℕ
  pub read : ideal_current p t h ≡ Some i
  pub idle : ideal_enabled p t h ≡ false
  pub partner : partner_of i ≡ Some r
  pub keeps : (full : ℕ → Bool) → FindsSlots full (uses_of i) → full q ≡ true
  pub offers : ideal_wire_offered p t h ≡ ideal_wire_in t h q

alike_kind : (a b : Lane) → is_lane a b ≡ true → a.kind ≡ b.kind
alike_kind a b e = ap (λ (c : Lane). c.kind) (same_lane a b e)

not_filled : (t : IdealTables) (a b : Lane) → a ≡ b → is_empty_lane t b ≡ true → nat_lt 0 (length (t.lanes a)) ≡ false
not_filled t a b same empty = ap (λ (c : Lane). nat_lt 0 (length (t.lanes c))) same ∙ none (t.lanes b) empty
  where
    none : (xs : List Load) → nat_eq (length xs) 0 ≡ true → nat_lt 0 (length xs) ≡ false
    none [] e = refl
    none (x ∷ xs) e = absurd (let n : length (x ∷ xs) ≡ 0 = eqb-true (length (x ∷ xs)) 0 e in omega (arith, n))

module _ (p : Programs) (t : IdealTables) (r h tag : ℕ) where
  engaged : (o : Option Instr) → ideal_current p t h ≡ o → receives_on h o (lane r h kind.Undo tag) ≡ true
      → is_empty_lane t (lane r h kind.Undo tag) ≡ true → Helps p t h r
  engaged (Some (instr.UndoFrom q from old)) read on empty =
      let same = same_lane (lane from h kind.Undo old) (lane r h kind.Undo tag) on in
      record {
        i = instr.UndoFrom q from old;
        q = q;
        read = read;
        idle = ap (instr_enabled p t h) read ∙ not_filled t (lane from h kind.Undo old) (lane r h kind.Undo tag) same empty;
        partner = ap (λ (a : Lane). let o : Option ℕ = Some a.from in o) same;
        keeps = λ full found. found;
        offers = ap (λ o. wire_offered (ideal_wire_in t h) o) read;
      }
  engaged (Some (instr.RecvBit b from old)) read on empty = let e : kind.Bit ≡ kind.Undo = alike_kind (lane from h kind.Bit old) (lane r h kind.Undo tag) on in absurd (cc)
  engaged (Some (instr.CopyFrom q from old)) read on empty = let e : kind.Copy ≡ kind.Undo = alike_kind (lane from h kind.Copy old) (lane r h kind.Undo tag) on in absurd (cc)
  engaged (Some (instr.MoveFrom q from old)) read on empty = let e : kind.Move ≡ kind.Undo = alike_kind (lane from h kind.Move old) (lane r h kind.Undo tag) on in absurd (cc)
  engaged (Some (instr.ReachFrom q from old)) read on empty = let e : kind.Reach ≡ kind.Undo = alike_kind (lane from h kind.Reach old) (lane r h kind.Undo tag) on in absurd (cc)
  engaged _ read on empty = absurd (let n : ⊥ = cc in n)

  lent : (o : Option Instr) → ideal_current p t h ≡ o → sends_on h o (lane h r kind.Reach tag) ≡ true
      → is_empty_lane t (lane r h kind.Back tag) ≡ true → Helps p t h r
  lent (Some (instr.ReachTo q to old)) read on empty =
      let same = same_lane (lane h to kind.Reach old) (lane h r kind.Reach tag) on in
      let back : lane to h kind.Back old ≡ lane r h kind.Back tag = ap (λ (a : Lane). lane a.to h kind.Back a.tag) same in
      record {
        i = instr.ReachTo q to old;
        q = q;
        read = read;
        idle = ap (instr_enabled p t h) read ∙ not_filled t (lane to h kind.Back old) (lane r h kind.Back tag) back empty;
        partner = ap (λ (a : Lane). let o : Option ℕ = Some a.to in o) same;
        keeps = λ full found. found;
        offers = ap (λ o. wire_offered (ideal_wire_in t h) o) read;
      }
  lent (Some (instr.SendBit b to old)) read on empty = let e : kind.Bit ≡ kind.Reach = alike_kind (lane h to kind.Bit old) (lane h r kind.Reach tag) on in absurd (cc)
  lent (Some (instr.CopyTo q to old)) read on empty = let e : kind.Copy ≡ kind.Reach = alike_kind (lane h to kind.Copy old) (lane h r kind.Reach tag) on in absurd (cc)
  lent (Some (instr.UndoTo q to old)) read on empty = let e : kind.Undo ≡ kind.Reach = alike_kind (lane h to kind.Undo old) (lane h r kind.Reach tag) on in absurd (cc)
  lent (Some (instr.MoveTo q to old)) read on empty = let e : kind.Move ≡ kind.Reach = alike_kind (lane h to kind.Move old) (lane h r kind.Reach tag) on in absurd (cc)
  lent _ read on empty = absurd (let n : ⊥ = cc in n)

pub helped : (p : Programs) (t : IdealTables) (r : ℕ) (i : Instr) → ideal_holds p t (rule_of r i) ≡ true
    → (h : ℕ) → reads (rule_of r i) h ≡ true → Helps p t h r
helped p t r (instr.UndoTo q to tag) holds h e =
    let parts = and_parts (receives_on to (ideal_current p t to) (lane r to kind.Undo tag)) (is_empty_lane t (lane r to kind.Undo tag)) holds in
    subst (λ k. Helps p t k r) (eqb-true to h e) (engaged p t r to tag (ideal_current p t to) refl parts.0 parts.1)
helped p t r (instr.ReachFrom q from tag) holds h e =
    let parts = and_parts (sends_on from (ideal_current p t from) (lane from r kind.Reach tag)) (is_empty_lane t (lane r from kind.Back tag)) holds in
    subst (λ k. Helps p t k r) (eqb-true from h e) (lent p t r from tag (ideal_current p t from) refl parts.0 parts.1)
helped p t r _ holds h e = absurd (let n : ⊥ = cc in n)

-- a rank helps one rank alone
pub helps_one : (p : Programs) (t : IdealTables) (h a b : ℕ) → Helps p t h a → Helps p t h b → a ≡ b
helps_one p t h a b x y =
    let same : x.i ≡ y.i = same_Some x.i y.i (sym x.read ∙ y.read) in
    same_Some a b (sym x.partner ∙ ap partner_of same ∙ y.partner)
