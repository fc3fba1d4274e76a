-- The line of the table at which a rank stands
use Rattle.std.proofs.Common.{◌≡◌, ◌<◌, ◌+◌, ◌^◌, ℕ, Bool, true, false, nat_lt, ◌==◌, if◌then◌else◌, Option, Some, None, List, [], ◌∷◌, ◌++◌, ◌≤◌, length, take, slice_get, inl, inr, refl, sym, ap, subst, ◌∙◌, arith}
use Rattle.std.specs.Option.{option_or}
use Rattle.std.specs.List.{AllByRecursion}
use Rattle.std.proofs.lemmas.Option.{slice_get_within, get_or_from_slice_get}
use Rattle.std.proofs.lemmas.List.Elements.{All-get_or, All-from_recursion}
use Rattle.std.proofs.lemmas.Bool.{ltb-true}
use Rattle.std.proofs.lemmas.List.Sums.{get_or-le-sum_by}
use Rattle.qm_instr.specs.declared.Instr.{Instr}
use Rattle.qm_instr.specs.declared.Instr.TheVariants as instr
use Rattle.qm_instr.specs.Counts.{events_of}
use Rattle.qm_instr.specs.Programs.{RankProgram, Programs, rank_of, idle_rank, IsInRange}
use Rattle.qm_check.specs.declared.Fault.{Fault}
use Rattle.qm_check.specs.Checks.{IsReady, AtInstr}
use Rattle.qm_check.specs.Operands.{uses_of, partner_of}
use Rattle.qm_check.specs.Slots.{partner_fault, slot_fault, fault_if_any, full_after}
use Rattle.qm_denot.specs.Circuits.{Circuit}
use Rattle.qm_denot.specs.declared.Letter.{Letter}
use Rattle.qm_denot.specs.declared.Letter.TheVariants.{Phase, Flip, Had}
use Rattle.qm_proto.specs.declared.Cause.TheVariants as cause
use Rattle.qm_proto.specs.declared.Check.{Check}
use Rattle.qm_proto.specs.declared.Check.TheVariants.{Possible, Zero, Equal, Fits}
use Rattle.qm_proto.specs.declared.Event.TheVariants as event
use Rattle.qm_proto.specs.declared.Few.{Few}
use Rattle.qm_proto.specs.declared.Few.TheVariants.{Empty}
use Rattle.qm_proto.specs.Model.Acts.{list_of}
use Rattle.qm_proto.specs.Model.State.{Tables, wire_in, bit_of, wire_of, first_bit, second_bit}
use Rattle.qm_proto.specs.declared.Row.{Row}
use Rattle.qm_proto.specs.Model.Rows.{rows, current, letter, letter_checks, gate_letter, few_if}
use Rattle.qm_proto.specs.Model.Runs.{FirstFails, row_in, row_next}
use Rattle.qm_proto.proofs.Positions.{all_at_kept, all_stage_kept}
use Rattle.qm_proto.proofs.Lines.{rows_count}
use Rattle.qm_machine.specs.Facts.{Facts, Did}
use Rattle.qm_machine.specs.Reads.{IsRuleKnown}
use Rattle.qm_machine.specs.Tries.{IsTriable, checks_before_acts, told_by, are_sure}

-- ---- the lines of an instruction
-- there are few of them
events_few : (i : Instr) → events_of i ≤ 5
events_few (instr.Alloc q) = omega arith
events_few _ = omega arith

-- a rank that a rule of a line asks about is the one that the instruction names
module _ (n : ℕ) where
  rows_known : (p : Programs) (t : Tables) (r : ℕ) (i : Instr) → ((d : ℕ) → partner_of i ≡ Some d → d < n)
      → AllByRecursion (λ w. IsRuleKnown n w.rule) (rows p t r i)
  rows_known p t r (instr.CopyTo q to tag) h = (h to refl, (tt, (tt, tt)))
  rows_known p t r (instr.CopyFrom q from tag) h = (tt, (tt, tt))
  rows_known p t r (instr.UndoTo q to tag) h = (h to refl, (tt, tt))
  rows_known p t r (instr.UndoFrom q from tag) h = (tt, (tt, tt))
  rows_known p t r (instr.MoveTo q to tag) h = (h to refl, (tt, (tt, (tt, (tt, tt)))))
  rows_known p t r (instr.MoveFrom q from tag) h = (tt, (tt, (tt, tt)))
  rows_known p t r (instr.ReachTo q to tag) h = (h to refl, (tt, (tt, (tt, (tt, tt)))))
  rows_known p t r (instr.ReachFrom q from tag) h = (tt, (tt, (tt, (tt, (tt, tt)))))
  rows_known p t r _ h = (tt, tt)

-- ---- what ready programs say of an instruction
no_bad_rank : (b c : Bool) (x y : Fault) (o : Option Fault)
    → option_or (if b then (if c then Some x else None) else Some y) o ≡ None → b ≡ true
no_bad_rank true c x y o e = refl
no_bad_rank false c x y o e = cc

-- the rank that an instruction names is one of the ranks
pub partner_below : (p : Programs) (r k : ℕ) (i : Instr) → IsReady p → slice_get (rank_of p r).instructions k ≡ Some i
    → (d : ℕ) → partner_of i ≡ Some d → d < length p.ranks
partner_below p r k i ready is d names =
    let n = length p.ranks in
    let full = full_after (take k (rank_of p r).instructions) in
    let slots = slot_fault r k full (uses_of i) in
    let none : fault_if_any n r k full (Some i) ≡ None = ap (fault_if_any n r k full) (sym is) ∙ ready (AtInstr r k) in
    let named : option_or (partner_fault n r k (Some d)) slots ≡ None = ap (λ o. option_or (partner_fault n r k o) slots) (sym names) ∙ none in
    ltb-true d n (no_bad_rank (nat_lt d n) (d == r) _ _ slots named)

-- a rank with an instruction left stands below 100,000
at_few : (p : Programs) (t : Tables) (r : ℕ) (i : Instr)
    → IsInRange p → r < length p.ranks → current p t r ≡ Some i → (t.parts r).at < 100000
at_few p t r i in_range known stands =
    let lt : (t.parts r).at < length (rank_of p r).instructions = slice_get_within _ _ i stands in
    let le = get_or-le-sum_by (λ (x : RankProgram). length x.instructions) p.ranks r idle_rank known in
    omega (arith, lt, le, in_range.few)

-- ---- lines can be tried
module _ (P : Row → Type 0) where
  -- what is so of each line of each instruction is so of the next one
  pub each_line : (p : Programs) (t : Tables) (r : ℕ) (i : Instr) (k : ℕ) (w : Row) → AllByRecursion P (rows p t r i) → slice_get (rows p t r i) k ≡ Some w → P w
  each_line p t r i k w all is =
      let ws = rows p t r i in
      let this = All-get_or P ws k w (slice_get_within ws k w is) (All-from_recursion P ws all) in
      subst P (get_or_from_slice_get ws k w w is) this

-- the tests of a letter are those that its act tells
letter_told : (l : Letter) → list_of (letter_checks l) ≡ checks_before_acts (list_of (letter_checks l)) ++ told_by (list_of (letter l))
letter_told (Had w) = refl
letter_told _ = refl

if_told : (b : Bool) (l : Letter)
    → list_of (few_if b (letter_checks l)) ≡ checks_before_acts (list_of (few_if b (letter_checks l))) ++ told_by (list_of (few_if b (letter l)))
if_told true l = letter_told l
if_told false l = refl

if_sure : (b : Bool) (l : Letter) → are_sure (few_if b (letter l)) ≡ true
if_sure true l = refl
if_sure false l = refl

-- a correction is never refused
fix_told : (b : Bool) (l : Letter) → letter_checks l ≡ Empty → [] ≡ told_by (list_of (few_if b (letter l)))
fix_told true l e = sym (ap (λ (ks : Few Check). list_of ks) e)
fix_told false l e = refl

ok : (w : Row) → list_of w.checks ≡ checks_before_acts (list_of w.checks) ++ told_by (list_of w.acts) → are_sure w.acts ≡ true → IsTriable w
ok w checks sure = record { checks = checks; sure = sure }

rows_triable : (p : Programs) (t : Tables) (r : ℕ) (i : Instr) → AllByRecursion IsTriable (rows p t r i)
rows_triable p t r (instr.Alloc q) = (ok _ refl refl, tt)
rows_triable p t r (instr.Do g) = (ok _ (letter_told (gate_letter (wire_in t r) g)) refl, tt)
rows_triable p t r (instr.Free q) = (ok _ refl refl, tt)
rows_triable p t r (instr.Measure q b) = (ok _ refl refl, tt)
rows_triable p t r (instr.Set b v) = (ok _ refl refl, tt)
rows_triable p t r (instr.Xor b c) = (ok _ refl refl, tt)
rows_triable p t r (instr.When b g) = let l = gate_letter (wire_in t r) g in (ok _ (if_told (bit_of t r b) l) (if_sure (bit_of t r b) l), tt)
rows_triable p t r (instr.SendBit b to tag) = (ok _ refl refl, tt)
rows_triable p t r (instr.RecvBit b from tag) = (ok _ refl refl, tt)
rows_triable p t r (instr.CopyTo q to tag) = (ok _ refl refl, (ok _ refl refl, (ok _ refl refl, tt)))
rows_triable p t r (instr.CopyFrom q from tag) =
    let x = (t.parts r).taken in
    (ok _ refl refl, (ok _ (fix_told (first_bit x) (Flip (wire_of x)) refl) (if_sure (first_bit x) (Flip (wire_of x))), tt))
rows_triable p t r (instr.UndoTo q to tag) = (ok _ refl refl, (ok _ refl refl, tt))
rows_triable p t r (instr.UndoFrom q from tag) =
    let b = first_bit (t.parts r).taken in
    let l = Phase 4 (wire_in t r q) in
    (ok _ refl refl, (ok _ (fix_told b l refl) (if_sure b l), tt))
rows_triable p t r (instr.MoveTo q to tag) = (ok _ refl refl, (ok _ refl refl, (ok _ refl refl, (ok _ refl refl, (ok _ refl refl, tt)))))
rows_triable p t r (instr.MoveFrom q from tag) =
    let x = (t.parts r).taken in
    let w = wire_of x in
    (ok _ refl refl, (ok _ (fix_told (first_bit x) (Flip w) refl) (if_sure (first_bit x) (Flip w)), (ok _ (fix_told (second_bit x) (Phase 4 w) refl) (if_sure (second_bit x) (Phase 4 w)), tt)))
rows_triable p t r (instr.ReachTo q to tag) =
    let b = first_bit (t.parts r).taken in
    let l = Phase 4 (wire_in t r q) in
    (ok _ refl refl, (ok _ refl refl, (ok _ refl refl, (ok _ refl refl, (ok _ (fix_told b l refl) (if_sure b l), tt)))))
rows_triable p t r (instr.ReachFrom q from tag) =
    let x = (t.parts r).taken in
    let w = wire_of x in
    (ok _ refl refl, (ok _ (fix_told (first_bit x) (Flip w) refl) (if_sure (first_bit x) (Flip w)), (ok _ refl refl, (ok _ refl refl, (ok _ refl refl, tt)))))

-- ---- a line that may be refused as impossible is a measurement's
record IsOwn (w : Row) : Type 0 where
  pub own : (g : Circuit) → FirstFails g (list_of w.checks) cause.Impossible → w.event ≡ event.Measure

-- whether no test asks if an outcome is possible
abbrev asks_none : List Check → Bool
asks_none [] = true
asks_none (Possible w m ∷ ks) = false
asks_none (_ ∷ ks) = asks_none ks

never_impossible : (g : Circuit) (ks : List Check) → asks_none ks ≡ true → ¬ FirstFails g ks cause.Impossible
never_impossible g [] none h = h
never_impossible g (Possible w m ∷ ks) none h = cc
never_impossible g (Zero w ∷ ks) none (inl h) = let e = h.1 in cc
never_impossible g (Zero w ∷ ks) none (inr h) = never_impossible g ks none h.1
never_impossible g (Equal w v ∷ ks) none (inl h) = let e = h.1 in cc
never_impossible g (Equal w v ∷ ks) none (inr h) = never_impossible g ks none h.1
never_impossible g (Fits w ∷ ks) none (inl h) = let e = h.1 in cc
never_impossible g (Fits w ∷ ks) none (inr h) = never_impossible g ks none h.1

other : (w : Row) → asks_none (list_of w.checks) ≡ true → IsOwn w
other w none = record { own = λ g h. absurd (never_impossible g (list_of w.checks) none h) }

letter_asks_none : (l : Letter) → asks_none (list_of (letter_checks l)) ≡ true
letter_asks_none (Had w) = refl
letter_asks_none _ = refl

if_asks_none : (b : Bool) (l : Letter) → asks_none (list_of (few_if b (letter_checks l))) ≡ true
if_asks_none true l = letter_asks_none l
if_asks_none false l = refl

rows_own : (p : Programs) (t : Tables) (r : ℕ) (i : Instr) → AllByRecursion IsOwn (rows p t r i)
rows_own p t r (instr.Do g) = (other _ (letter_asks_none (gate_letter (wire_in t r) g)), tt)
rows_own p t r (instr.When b g) = (other _ (if_asks_none (bit_of t r b) (gate_letter (wire_in t r) g)), tt)
rows_own p t r (instr.Measure q b) = (record { own = λ g h. refl }, tt)
rows_own p t r (instr.CopyTo q to tag) = (other _ refl, (other _ refl, (other _ refl, tt)))
rows_own p t r (instr.CopyFrom q from tag) = (other _ refl, (other _ refl, tt))
rows_own p t r (instr.UndoTo q to tag) = (other _ refl, (other _ refl, tt))
rows_own p t r (instr.UndoFrom q from tag) = (other _ refl, (other _ refl, tt))
rows_own p t r (instr.MoveTo q to tag) = (other _ refl, (other _ refl, (other _ refl, (other _ refl, (other _ refl, tt)))))
rows_own p t r (instr.MoveFrom q from tag) = (other _ refl, (other _ refl, (other _ refl, tt)))
rows_own p t r (instr.ReachTo q to tag) = (other _ refl, (other _ refl, (other _ refl, (other _ refl, (other _ refl, tt)))))
rows_own p t r (instr.ReachFrom q from tag) = (other _ refl, (other _ refl, (other _ refl, (other _ refl, (other _ refl, tt)))))
rows_own p t r _ = (other _ refl, tt)

-- ---- the line at which a rank stands
-- the instruction whose line it is
pub record Line (p : Programs) (t : Tables) (r : ℕ) (w : Row) : Type 0 where
  pub i : Instr
  pub read : current p t r ≡ Some i
  pub line : slice_get (rows p t r i) (t.parts r).stage ≡ Some w

module _ (p : Programs) (t : Tables) (r : ℕ) (w : Row) (is : row_next p t r ≡ Some w) where
  at : Line p t r w
  at = by_read (current p t r) refl
    where
      by_read : (o : Option Instr) → current p t r ≡ o → Line p t r w
      by_read None read = let none : row_next p t r ≡ None = ap (row_in p t r) read in cc
      by_read (Some i) read = record { i = i; read = read; line = sym (ap (row_in p t r) read) ∙ is }

  pub rule_known : IsReady p → IsRuleKnown (length p.ranks) w.rule
  rule_known ready =
      let n = length p.ranks in
      each_line (λ x. IsRuleKnown n x.rule) p t r at.i (t.parts r).stage w
      (rows_known n p t r at.i (partner_below p r (t.parts r).at at.i ready at.read)) at.line

  pub triable_next : IsTriable w
  triable_next = each_line IsTriable p t r at.i (t.parts r).stage w (rows_triable p t r at.i) at.line

  pub measured : (g : Circuit) → FirstFails g (list_of w.checks) cause.Impossible → w.event ≡ event.Measure
  measured = (each_line IsOwn p t r at.i (t.parts r).stage w (rows_own p t r at.i) at.line).own

  -- places in a program are few
  pub place_few : IsInRange p → r < length p.ranks → ((t.parts r).at < 100000) × ((t.parts r).stage < 5)
  place_few in_range known =
      let count = rows_count p t r at.i in
      let within = slice_get_within (rows p t r at.i) (t.parts r).stage w at.line in
      (at_few p t r at.i in_range known at.read, omega (arith, count, within, events_few at.i))

module _ (p : Programs) (f : Facts) (r : ℕ) (w : Row) (is : row_next p f.tables r ≡ Some w) where
  -- the rank still stands there after its acts, so that the next place can be counted
  pub at_countable : (g : Facts) → Did f r (list_of w.acts) g → IsInRange p → r < length p.ranks
      → ((g.tables.parts r).at + 1 < 2 ^ 32) × ((g.tables.parts r).stage + 1 < 2 ^ 32)
  at_countable g did in_range known =
      let few = place_few p f.tables r w is in_range known in
      let acts = list_of w.acts in
      let at : (g.tables.parts r).at ≡ (f.tables.parts r).at = ap (λ (t : Tables). (t.parts r).at) did.tables ∙ all_at_kept r r acts f.tables in
      let stage : (g.tables.parts r).stage ≡ (f.tables.parts r).stage = ap (λ (t : Tables). (t.parts r).stage) did.tables ∙ all_stage_kept r r acts f.tables in
      (omega (arith, few.0), omega (arith, few.1))
