-- Two ranks that are both enabled may step in either order
use Rattle.std.proofs.Common.{◌≡◌, ◌≢◌, ℕ, ◌<◌, ◌++◌, length, fold, Some, sym, ap, subst, ◌∙◌, arith}
use Rattle.qm_denot.specs.Circuits.{Amplitudes}
use Rattle.qm_denot.proofs.Amplitudes.{halvings-append}
use Rattle.qm_denot.proofs.Commuting.{AllApart, swapped_end}
use Rattle.qm_instr.specs.declared.Instr.{Instr}
use Rattle.qm_instr.specs.declared.Lane.{Lane}
use Rattle.qm_instr.specs.Programs.{Programs, IsInRange}
use Rattle.qm_check.specs.Checks.{IsReady}
use Rattle.qm_proto.specs.Model.Ideal.{IdealState, IdealRow, ideal_after_act, ideal_past_instr, ideal_current, after_instr, ideal_next}
use Rattle.qm_confluence.specs.Confluence.{Alike}
use Rattle.qm_confluence.proofs.Confluence.Effects.{stepped, lane_act}
use Rattle.qm_confluence.proofs.Confluence.ByView.{view, View, acts_by, letters_by, step_is, fits, takes_few}
use Rattle.qm_confluence.proofs.Confluence.LaneEnds.{lanes_swap}
use Rattle.qm_confluence.proofs.Confluence.Helpers.{IsNextInstr, able_where_next}
use Rattle.qm_confluence.proofs.Confluence.Persists.{next_kept, view_kept}
use Rattle.qm_confluence.proofs.Confluence.TablesSwap.{acts_swap}
use Rattle.qm_confluence.proofs.Confluence.WellIdeal.{IsWellIdeal}
use Rattle.qm_confluence.proofs.Confluence.LetterWires.{IsReached, letters_reached, none_common}
use Rattle.qm_denot.proofs.OperandFacts.{all_apart}

-- the state after an instruction of a rank that sees this
abbrev pub state_by : ℕ → Instr → View → IdealState → IdealState
state_by r i v s = record { tables = stepped r (acts_by r i v) s.tables; circuit = s.circuit ++ letters_by r i v }

pub next_is : (p : Programs) (s : IdealState) (r : ℕ) (i : Instr) → ideal_current p s.tables r ≡ Some i → ideal_next p s r ≡ state_by r i (view p s.tables r i) s
next_is p s r i read =
    ap (after_instr p s r) read
    ∙ ap (λ (x : IdealRow). let u : IdealState = record { tables = ideal_past_instr (fold (ideal_after_act r) s.tables x.acts) r; circuit = s.circuit ++ x.letters } in u) (step_is p s.tables r i)

module _ (p : Programs) (s : IdealState) (a b : ℕ) (other : a ≢ b) (i j : Instr) (first : IsNextInstr p s.tables a i) (second : IsNextInstr p s.tables b j) where
  -- rank b is enabled after the step of rank a
  pub next_after : IsNextInstr p (ideal_next p s a).tables b j
  next_after =
      subst (λ (u : IdealState). IsNextInstr p u.tables b j) (sym (next_is p s a i first.read))
      (next_kept p s.tables a i first b (λ e. other (sym e)) j second)

  both_is : ideal_next p (ideal_next p s a) b ≡ state_by b j (view p s.tables b j) (state_by a i (view p s.tables a i) s)
  both_is =
      let back : b ≢ a = λ e. other (sym e) in
      let u = state_by a i (view p s.tables a i) s in
      let kept = next_kept p s.tables a i first b back j second in
      ap (λ x. ideal_next p x b) (next_is p s a i first.read) ∙ next_is p u b j kept.read
      ∙ ap (λ v. state_by b j v u) (view_kept p s.tables a i first b back j second)

-- the two orders end alike
pub steps_alike : (p : Programs) → IsReady p → IsInRange p → (s : IdealState) (a b : ℕ) → a ≢ b → a < length p.ranks → b < length p.ranks → IsWellIdeal p s.tables
    → (i j : Instr) → IsNextInstr p s.tables a i → IsNextInstr p s.tables b j → Alike (ideal_next p (ideal_next p s a) b) (ideal_next p (ideal_next p s b) a)
steps_alike p ready ranges s a b other a_known b_known well i j first second =
    let t = s.tables in
    let back : b ≢ a = λ e. other (sym e) in
    let v = view p t a i in
    let w = view p t b j in
    let x = acts_by a i v in
    let y = acts_by b j w in
    let ls = letters_by a i v in
    let ks = letters_by b j w in
    let one = both_is p s a b other i j first second in
    let two = both_is p s b a back j i second first in
    let lanes : (c : Lane) → fold (lane_act c) (fold (lane_act c) (t.lanes c) x) y ≡ fold (lane_act c) (fold (lane_act c) (t.lanes c) y) x =
    λ c. lanes_swap a b other c (t.lanes c) x y (fits a i v) (fits b j w) (takes_few p t a i v first.holds c) (takes_few p t b j w second.holds c) in
    let apart : AllApart ls ks =
    all_apart (IsReached p t a) (IsReached p t b) (none_common p t well.placed a b other (able_where_next p t a i first) (able_where_next p t b j second)) ls ks
    (letters_reached p ready ranges t well a a_known i first) (letters_reached p ready ranges t well b b_known j second) in
    let u = state_by b j w (state_by a i v s) in
    let z = state_by a i v (state_by b j w s) in
    let c = s.circuit in
    let here : Alike u z = record {
      tables = acts_swap a b other x y t lanes;
      amplitudes = λ n. ap (λ (f : Amplitudes). f n) (swapped_end c ls ks apart);
      halves = omega (arith, halvings-append (c ++ ls) ks, halvings-append c ls, halvings-append (c ++ ks) ls, halvings-append c ks);
    } in
    subst (λ e. Alike e (ideal_next p (ideal_next p s b) a)) (sym one) (subst (λ e. Alike u e) (sym two) here)
