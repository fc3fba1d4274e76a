-- What is so of the ideal tables at all times: slots are full as the program says, and each wire has one place
use Rattle.std.proofs.Common.{◌≡◌, ℕ, ◌+◌, ◌<◌, nat_eq, Bool, true, false, cond, ◌==◌, List, [], ◌∷◌, length, take, fold, Option, is_some, refl, sym, ap, ◌∙◌, arith, inl, inr}
use Rattle.std.proofs.lemmas.Bool.{eq-eqb, ne_eqb}
use Rattle.std.proofs.lemmas.Bool.Decides.{eqb_tells}
use Rattle.qm_denot.specs.declared.Wire.{Wire}
use Rattle.qm_instr.specs.declared.Gate.{Gate}
use Rattle.qm_instr.specs.declared.Gate.TheVariants as gate
use Rattle.qm_instr.specs.declared.Instr.{Instr}
use Rattle.qm_instr.specs.declared.Instr.TheVariants as instr
use Rattle.qm_instr.specs.Programs.{Programs, rank_of, IsInRange}
use Rattle.qm_check.specs.Checks.{IsReady}
use Rattle.qm_check.specs.Operands.{uses_of, gate_uses}
use Rattle.qm_check.specs.Slots.{is_full_after, full_after}
use Rattle.qm_check.proofs.Faultless.{IsStep, before}
use Rattle.qm_check.proofs.Faultless as faultless
use Rattle.qm_proto.specs.Model.Ideal.{IdealPart, IdealTables, IdealAct, Counts, ideal_at_start}
use Rattle.qm_confluence.proofs.Confluence.Effects.{stepped, part_act, slot_act, part_stepped, slot_stepped, part_elsewhere, slot_elsewhere}
use Rattle.qm_confluence.proofs.Confluence.ByView.{acts_by, view, View}
use Rattle.qm_confluence.proofs.Confluence.Helpers.{IsNextInstr}
use Rattle.qm_confluence.proofs.Confluence.OnePlace.{ArePlaced, Spot, InSlot, OnLane, Stands}
use Rattle.qm_confluence.proofs.Confluence.Placing.{step_placed}
use Rattle.qm_proto.proofs.Changes.{by_number}

pub record IsWellIdeal (p : Programs) (t : IdealTables) : Type 0 where
  pub full : (r q : ℕ) → is_some (t.slots r q) ≡ full_after (before p r (t.parts r).at) q
  pub placed : ArePlaced t

-- ---- slots
same_test : (q k : ℕ) → nat_eq q k ≡ (k == q)
same_test q k = elim (eqb_tells q k) [ inl h ↦ h.0 ∙ sym (eq-eqb k q (sym h.1)) | inr h ↦ h.0 ∙ sym (ne_eqb k q (λ e. h.1 (sym e))) ]

set_full : (q k : ℕ) (w o : Option Wire) → is_some (cond (nat_eq q k) w o) ≡ cond (k == q) (is_some w) (is_some o)
set_full q k w o = ap (λ b. is_some (cond b w o)) (same_test q k) ∙ by_bool (k == q)
  where
    by_bool : (b : Bool) → is_some (cond b w o) ≡ cond b (is_some w) (is_some o)
    by_bool true = refl
    by_bool false = refl

gate_keeps : (g : Gate) (q : ℕ) (b : Bool) → b ≡ is_full_after q b (gate_uses g)
gate_keeps (gate.One g s) q b = refl
gate_keeps (gate.Cx c s) q b = refl
gate_keeps (gate.Cz c s) q b = refl

-- a step fills and empties slots as the check reads it
slots_so : (r : ℕ) (i : Instr) (v : View) (q : ℕ) (o : Option Wire) → is_some (fold (slot_act q) o (acts_by r i v)) ≡ is_full_after q (is_some o) (uses_of i)
slots_so r (instr.Alloc s) v q o = set_full q s _ o
slots_so r (instr.Do g) v q o = gate_keeps g q (is_some o)
slots_so r (instr.Free s) v q o = set_full q s _ o
slots_so r (instr.When b g) v q o = gate_keeps g q (is_some o)
slots_so r (instr.CopyFrom s from tag) v q o = set_full q s _ o
slots_so r (instr.UndoTo s from tag) v q o = set_full q s _ o
slots_so r (instr.MoveTo s from tag) v q o = set_full q s _ o
slots_so r (instr.MoveFrom s from tag) v q o = set_full q s _ o
slots_so r _ v q o = refl

-- acts leave a rank where it stands
pub at_same : (x : IdealPart) (acts : List IdealAct) → (fold part_act x acts).at ≡ x.at
at_same x [] = refl
at_same x (a ∷ acts) = at_same (part_act x a) acts ∙ one a
  where
    one : (a : IdealAct) → (part_act x a).at ≡ x.at
    one Counts = refl
    one _ = refl

module _ (p : Programs) (ready : IsReady p) (ranges : IsInRange p) (t : IdealTables) (h : IsWellIdeal p t) (r : ℕ) (known : r < length p.ranks) (i : Instr) (next : IsNextInstr p t r i) where
  -- the instruction finds its slots
  pub at_step : IsStep p r (t.parts r).at i
  at_step = faultless.step_of p r (t.parts r).at i ready ranges known next.read

  pub well_step : IsWellIdeal p (stepped r (acts_by r i (view p t r i)) t)
  well_step =
      let acts = acts_by r i (view p t r i) in
      let u = stepped r acts t in
      record {
        full = by_number (λ k. (q : ℕ) → is_some (u.slots k q) ≡ full_after (before p k (u.parts k).at) q) r
            (λ q.
            let at : (u.parts r).at ≡ (t.parts r).at + 1 = ap (λ (x : IdealPart). x.at) (part_stepped r acts t) ∙ ap (λ k. k + 1) (at_same (t.parts r) acts) in
            ap (λ (o : Option Wire). is_some o) (slot_stepped r acts t q) ∙ slots_so r i (view p t r i) q (t.slots r q)
            ∙ ap (λ b. is_full_after q b (uses_of i)) (h.full r q) ∙ sym (at_step.full q) ∙ ap (λ k. full_after (before p r k) q) (sym at))
            (λ k other q.
            ap (λ (o : Option Wire). is_some o) (slot_elsewhere r acts t k other q) ∙ h.full k q
            ∙ ap (λ (x : IdealPart). full_after (before p k x.at) q) (sym (part_elsewhere r acts t k other)));
        placed = step_placed p r t i next.holds h.placed;
      }

none_full : (is : List Instr) (q : ℕ) → false ≡ full_after (take 0 is) q
none_full [] q = refl
none_full (i ∷ is) q = refl

-- at the start
pub well_start : (p : Programs) → IsWellIdeal p (ideal_at_start p).tables
well_start p = record {
  full = λ r q. none_full (rank_of p r).instructions q;
  placed = record {
    one = λ w s z a b. absurd (nowhere w s a);
    counted = λ w s a. absurd (nowhere w s a);
    once = λ a. tt;
    wired = λ a e. tt;
  };
}
  where
    nowhere : (w : Wire) (s : Spot) → ¬ Stands (ideal_at_start p).tables w s
    nowhere w (InSlot r q) e = cc
    nowhere w (OnLane a) c = let below : c.0 < 0 = c.1 in omega (arith, below)
