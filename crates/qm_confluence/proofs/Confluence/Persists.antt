-- A rank that is enabled stays enabled when another rank steps, and sees the same
use Rattle.std.proofs.Common.{◌≡◌, ◌≢◌, ℕ, nat_eq, nat_lt, true, ◌&&◌, length, Option, Some, unwrap_or, slice_index_or, refl, sym, ap, ap₂, subst, ◌∙◌}
use Rattle.qm_instr.specs.declared.Instr.{Instr}
use Rattle.qm_instr.specs.declared.Instr.TheVariants as instr
use Rattle.qm_instr.specs.Programs.{Programs}
use Rattle.qm_proto.specs.Model.State.{no_wire}
use Rattle.qm_proto.specs.Model.Rows.{instr_at, wire_offered}
use Rattle.qm_proto.specs.Model.Runs.{receives_on}
use Rattle.qm_proto.specs.Model.Ideal.{IdealPart, IdealTables, IdealRule, Always, Filled, Engaged, Lent, Token, ideal_current, ideal_enabled, ideal_holds, ideal_wire_offered, ideal_wire_in, sends_on}
use Rattle.qm_confluence.proofs.Confluence.Effects.{stepped, part_elsewhere, slot_elsewhere, lane_stepped}
use Rattle.qm_confluence.proofs.Confluence.ByView.{rule_of, view, acts_by, front_read, reads, view_same, fits, puts}
use Rattle.qm_confluence.proofs.Confluence.LaneEnds.{lane_put, lane_stays, front_put}
use Rattle.qm_confluence.proofs.Confluence.Helpers.{IsNextInstr, able_where_next, Helps, helped}
use Rattle.qm_proto.proofs.Changes.{number_itself}

-- the lanes of a rule end at the rank, or begin there
abbrev pub RuleFits : ℕ → IdealRule → Type 0
RuleFits r Always = Unit {0}
RuleFits r (Filled a) = a.to ≡ r
RuleFits r (Engaged a) = a.from ≡ r
RuleFits r (Lent a back) = (back.from ≡ r) × (back.to ≡ a.from)

pub rule_fits : (r : ℕ) (i : Instr) → RuleFits r (rule_of r i)
rule_fits r (instr.RecvBit b from tag) = refl
rule_fits r (instr.CopyFrom q from tag) = refl
rule_fits r (instr.UndoTo q to tag) = refl
rule_fits r (instr.UndoFrom q from tag) = refl
rule_fits r (instr.MoveFrom q from tag) = refl
rule_fits r (instr.ReachTo q to tag) = refl
rule_fits r (instr.ReachFrom q from tag) = (refl, refl)
rule_fits r _ = tt

-- ---- rank a steps
module _ (p : Programs) (t : IdealTables) (a : ℕ) (i : Instr) where
  abbrev pub after : IdealTables
  after = stepped a (acts_by a i (view p t a i)) t

  -- what another rank offers
  offered_kept : (h : ℕ) → h ≢ a → ideal_wire_offered p after h ≡ ideal_wire_offered p t h
  offered_kept h other =
      let acts = acts_by a i (view p t a i) in
      let part = part_elsewhere a acts t h other in
      ap (λ (x : IdealPart). wire_offered (ideal_wire_in after h) (instr_at p h x.at)) part
      ∙ by_current (ideal_current p t h)
    where
      slot_kept : (q : ℕ) → ideal_wire_in after h q ≡ ideal_wire_in t h q
      slot_kept q = ap (λ o. unwrap_or o no_wire) (slot_elsewhere a (acts_by a i (view p t a i)) t h other q)

      by_current : (o : Option Instr) → wire_offered (ideal_wire_in after h) o ≡ wire_offered (ideal_wire_in t h) o
      by_current (Some (instr.UndoFrom q from tag)) = slot_kept q
      by_current (Some (instr.ReachTo q to tag)) = slot_kept q
      by_current _ = refl

  pub current_kept : (h : ℕ) → h ≢ a → ideal_current p after h ≡ ideal_current p t h
  current_kept h other = ap (λ (x : IdealPart). instr_at p h x.at) (part_elsewhere a (acts_by a i (view p t a i)) t h other)

  -- what the step of another rank waits for stays so, and what it reads stays the same
  record Stays (rule : IdealRule) : Type 0 where
    holds : ideal_holds p after rule ≡ true
    front : front_read after rule ≡ front_read t rule

  stays : (b : ℕ) → b ≢ a → (rule : IdealRule) → RuleFits b rule → ((h : ℕ) → reads rule h ≡ true → h ≢ a) → ideal_holds p t rule ≡ true → Stays rule
  stays b other Always fit helper holds = record { holds = refl; front = refl }
  stays b other (Filled c) fit helper holds =
      let acts = acts_by a i (view p t a i) in
      let same = lane_stepped a acts t c ∙ lane_put a c (λ e. other (sym fit ∙ e)) acts (fits a i (view p t a i)) (t.lanes c) in
      let kept = front_put (t.lanes c) (puts c acts) holds in
      record {
        holds = ap (λ xs. nat_lt 0 (length xs)) same ∙ kept.0;
        front = ap (λ xs. slice_index_or xs 0 Token) same ∙ kept.1;
      }
  stays b other (Engaged c) fit helper holds =
      let acts = acts_by a i (view p t a i) in
      let away : c.to ≢ a = helper c.to (number_itself c.to) in
      let same = lane_stepped a acts t c ∙ lane_stays a c (λ e. other (sym fit ∙ e)) away acts (fits a i (view p t a i)) (t.lanes c) in
      record {
        holds = ap₂ (λ o xs. receives_on c.to o c && nat_eq (length xs) 0) (current_kept c.to away) same ∙ holds;
        front = refl;
      }
  stays b other (Lent c back) fit helper holds =
      let acts = acts_by a i (view p t a i) in
      let away : c.from ≢ a = helper c.from (number_itself c.from) in
      let same = lane_stepped a acts t back ∙ lane_stays a back (λ e. other (sym fit.0 ∙ e)) (λ e. away (sym fit.1 ∙ e)) acts (fits a i (view p t a i)) (t.lanes back) in
      record {
        holds = ap₂ (λ o xs. sends_on c.from o c && nat_eq (length xs) 0) (current_kept c.from away) same ∙ holds;
        front = refl;
      }

  -- a rank that helps an enabled one is not rank a, if rank a is enabled
  module _ (first : IsNextInstr p t a i) (b : ℕ) (other : b ≢ a) (j : Instr) (second : IsNextInstr p t b j) where
    pub not_helper : (h r : ℕ) → Helps p t h r → h ≢ a
    not_helper h r helps e = let able : ideal_enabled p t h ≡ true = subst (λ k. ideal_enabled p t k ≡ true) (sym e) (able_where_next p t a i first) in let idle = helps.idle in cc

    still : Stays (rule_of b j)
    still = stays b other (rule_of b j) (rule_fits b j) (λ h e. not_helper h b (helped p t b j second.holds h e)) second.holds

    -- it is still enabled
    pub next_kept : IsNextInstr p after b j
    next_kept = record { read = current_kept b other ∙ second.read; holds = still.holds }

    -- and sees the same
    pub view_kept : view p after b j ≡ view p t b j
    view_kept =
        let acts = acts_by a i (view p t a i) in
        view_same p t after b j (part_elsewhere a acts t b other) (slot_elsewhere a acts t b other) still.front
        (λ h e. offered_kept h (not_helper h b (helped p t b j second.holds h e)))
