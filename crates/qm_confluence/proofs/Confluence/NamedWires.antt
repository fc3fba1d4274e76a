-- What is so of the circuit of an ideal run: its letters are proper, and name counted wires alone
use Rattle.std.proofs.Common.{◌≡◌, ℕ, ◌<◌, ◌≤◌, ◌^◌, true, List, [], ◌∷◌, length, fold, refl, sym, ap, subst, arith}
use Rattle.qm_denot.specs.Weights.{weight}
use Rattle.qm_denot.specs.Circuits.{Circuit, halvings}
use Rattle.qm_denot.specs.CircuitFacts.{AllProper}
use Rattle.qm_denot.proofs.Weights.{weight_le}
use Rattle.qm_instr.specs.declared.Instr.{Instr}
use Rattle.qm_instr.specs.declared.Instr.TheVariants as instr
use Rattle.qm_instr.specs.Programs.{Programs, IsInRange}
use Rattle.qm_check.specs.Checks.{IsReady}
use Rattle.qm_proto.specs.Model.Ideal.{IdealPart, IdealTables, IdealState, IdealAct, Counts, OwnUsed, ideal_enabled, ideal_next, ideal_at_start, ideal_replay, IsIdealFrom, IsIdealRun}
use Rattle.qm_confluence.specs.Confluence.{IdealWeightLaw}
use Rattle.qm_confluence.proofs.Confluence.Effects.{stepped, part_act, part_stepped, part_elsewhere}
use Rattle.qm_confluence.proofs.Confluence.ByView.{View, letters_by, acts_by, view}
use Rattle.qm_confluence.proofs.Confluence.Helpers.{IsNextInstr, next_where_able}
use Rattle.qm_confluence.proofs.Confluence.OnePlace.{InSlot}
use Rattle.qm_confluence.proofs.Confluence.WellIdeal.{IsWellIdeal, at_step, well_step, well_start}
use Rattle.qm_confluence.proofs.Confluence.LetterWires.{letters_where, names_made, slot_found, offered}
use Rattle.qm_confluence.proofs.Confluence.ProperLetters.{letters_proper}
use Rattle.qm_confluence.proofs.Confluence.Diamond.{next_is, state_by}
use Rattle.qm_check.specs.Slots.{full_after}
use Rattle.qm_check.proofs.Faultless.{before}
use Rattle.qm_proto.proofs.Changes.{by_number}
use Rattle.qm_denot.proofs.OperandFacts.{EachOperand, operands_on, operands_append, proper_append}
use Rattle.qm_confluence.proofs.Confluence.IdealWires.{counted_on, CountsGrow}
use Rattle.qm_confluence.specs.Counted.{IsCounted}

-- every letter names counted wires alone
abbrev pub NamesCounted : IdealTables → Circuit → Type 0
NamesCounted t c = EachOperand (IsCounted t) c

-- ---- counts grow
made_grows : (x : IdealPart) (acts : List IdealAct) → x.made ≤ (fold part_act x acts).made
made_grows x [] = omega arith
made_grows x (a ∷ acts) = let later = made_grows (part_act x a) acts in let here = one a in omega (arith, later, here)
  where
    one : (a : IdealAct) → x.made ≤ (part_act x a).made
    one Counts = omega arith
    one OwnUsed = omega arith
    one _ = omega arith

pub step_grows : (r : ℕ) (acts : List IdealAct) (t : IdealTables) → CountsGrow t (stepped r acts t)
step_grows r acts t =
    by_number (λ k. (t.parts k).made ≤ ((stepped r acts t).parts k).made) r
    (let e = ap (λ (x : IdealPart). x.made) (part_stepped r acts t) in let g = made_grows (t.parts r) acts in omega (arith, e, g))
    (λ k other. let e = ap (λ (x : IdealPart). x.made) (part_elsewhere r acts t k other) in omega (arith, e))

-- an instruction whose letters name its made wire counts it
made_counted : (r : ℕ) (i : Instr) (v : View) → names_made i ≡ true → v.part.made < (fold part_act v.part (acts_by r i v)).made
made_counted r (instr.CopyTo q to tag) v e = omega arith
made_counted r (instr.MoveTo q to tag) v e = omega arith
made_counted r _ v e = absurd (let n : ⊥ = cc in n)

module _ (p : Programs) (ready : IsReady p) (ranges : IsInRange p) where
  module _ (t : IdealTables) (well : IsWellIdeal p t) (r : ℕ) (known : r < length p.ranks) (i : Instr) (next : IsNextInstr p t r i) where
    pub step_counted : EachOperand (IsCounted (stepped r (acts_by r i (view p t r i)) t)) (letters_by r i (view p t r i))
    step_counted =
        let v = view p t r i in
        let acts = acts_by r i v in
        let u = stepped r acts t in
        let grow = step_grows r acts t in
        let full = full_after (before p r (t.parts r).at) in
        letters_where (IsCounted u) r i v full (at_step p ready ranges t well r known i next).slots
        (λ q f. counted_on t u _ grow (well.placed.counted _ (InSlot r q) (slot_found p ready ranges t well r q f)))
        (λ e. record { far = refl; below = (let a = made_counted r i v e in let b = ap (λ (x : IdealPart). x.made) (part_stepped r acts t) in omega (arith, a, b)) })
        (λ h e. let o = offered p ready ranges t well r known i next h e in counted_on t u _ grow (well.placed.counted _ (InSlot h o.q) o.there))

  -- ---- ideal states
  pub record IsWellState (s : IdealState) : Type 0 where
    pub tables : IsWellIdeal p s.tables
    pub proper : AllProper s.circuit
    pub named : NamesCounted s.tables s.circuit

  pub state_next : (s : IdealState) (r : ℕ) → IsWellState s → r < length p.ranks → ideal_enabled p s.tables r ≡ true → IsWellState (ideal_next p s r)
  state_next s r h known able =
      let n = next_where_able p s.tables r able in
      let i = n.0 in
      let v = view p s.tables r i in
      let u = stepped r (acts_by r i v) s.tables in
      let ls = letters_by r i v in
      let here : IsWellState (state_by r i v s) = record {
        tables = well_step p ready ranges s.tables h.tables r known i n.1;
        proper = proper_append s.circuit ls h.proper (letters_proper p ready ranges s.tables h.tables r known i n.1);
        named = operands_append (IsCounted u) s.circuit ls
            (operands_on (IsCounted s.tables) (IsCounted u) (λ w c. counted_on s.tables u w (step_grows r (acts_by r i v) s.tables) c) s.circuit h.named)
            (step_counted s.tables h.tables r known i n.1);
      } in
      subst IsWellState (sym (next_is p s r i n.1.read)) here

  pub state_after : (rs : List ℕ) (s : IdealState) → IsWellState s → IsIdealFrom p s rs → IsWellState (fold (ideal_next p) s rs)
  state_after [] s h run = h
  state_after (r ∷ rs) s h run = state_after rs (ideal_next p s r) (state_next s r h run.0 run.1) run.2

  -- after each ideal run
  pub state_of_run : (rs : List ℕ) → IsIdealRun p rs → IsWellState (ideal_replay p rs)
  unfolding ideal_replay IsIdealRun
  state_of_run rs run = state_after rs (ideal_at_start p) (record { tables = well_start p; proper = tt; named = tt }) run

  pub weight_of_run : (rs : List ℕ) → IsIdealRun p rs → weight (ideal_replay p rs).circuit ≤ 2 ^ halvings (ideal_replay p rs).circuit
  weight_of_run rs run = weight_le (ideal_replay p rs).circuit (state_of_run rs run).proper

-- no letter has an operand twice, and the weight is bounded
pub ideal_weights : IdealWeightLaw
ideal_weights p ready ranges rs run =
    record { proper = (state_of_run p ready ranges rs run).proper; weight = weight_of_run p ready ranges rs run }
