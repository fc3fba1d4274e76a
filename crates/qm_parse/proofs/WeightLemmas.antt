-- Each step leaves less to do
use Rattle.std.proofs.Common.{◌≡◌, ℕ, ◌+◌, ◌*◌, ◌-◌, ◌<◌, ◌≤◌, Bool, true, false, nat_lt, nat_le, ◌&&◌, zero, suc, List, [], ◌∷◌, length, drop, Option, Some, None, refl, arith, if◌then◌else◌}
use Rattle.std.specs.Prelude.{is_some}
use Rattle.std.proofs.lemmas.Bool.Decides.{nat_tests}
use Rattle.qm_parse.specs.declared.goals.Fixed.{Fixed}
use Rattle.qm_parse.specs.declared.goals.Fixed.TheVariants as fixed
use Rattle.qm_parse.specs.declared.goals.Goal.{Goal}
use Rattle.qm_parse.specs.declared.goals.Goal.TheVariants as goal
use Rattle.qm_parse.specs.declared.goals.Stop.TheVariants as stop
use Rattle.qm_parse.specs.declared.goals.Verdict.TheVariants as verdict
use Rattle.qm_parse.specs.declared.looks.Look.{Look}
use Rattle.qm_parse.specs.declared.looks.Look.TheVariants as look
use Rattle.qm_parse.specs.declared.tree.What.{What}
use Rattle.qm_parse.specs.declared.tree.What.TheVariants as what
use Rattle.qm_parse.specs.declared.words.Keyword.TheVariants as keyword
use Rattle.qm_parse.specs.declared.words.Mark.TheVariants as mark
use Rattle.qm_parse.specs.declared.words.Version.{Version}
use Rattle.qm_parse.specs.declared.words.Version.TheVariants as version
use Rattle.qm_parse.specs.Words.{takes_gate, size_count}
use Rattle.qm_parse.specs.Signs.{Sign}
use Rattle.qm_parse.specs.Looks.{look_at}
use Rattle.qm_parse.specs.Verdicts.{is_fixed, verdict_if, stay_unless, number_verdict, prim_verdict, braced_verdict, is_all, is_tape, is_rank, is_statement, mul_op, add_op, verdict_of}
use Rattle.qm_parse.specs.Moves.{ranks_goals, number_goals, each_goals, statement_goals, gate_goals, muls_goals, adds_goals, prim_goals, next_goals}
use Rattle.qm_parse.specs.Weights.{weight_of, goals_weight, HasFewOperands}

-- ---- verdicts
pub verdict_if-stay : (b : Bool) → verdict_if b ≡ verdict.Stay → ⊥
verdict_if-stay true e = cc
verdict_if-stay false e = cc

open-stay : (b : Bool) → (if b then verdict.Take else verdict.Stop stop.TooDeep) ≡ verdict.Stay → ⊥
open-stay true e = cc
open-stay false e = cc

pub number-stay : (l : Look) (least end : ℕ) → number_verdict l least end ≡ verdict.Stay → ⊥
number-stay (look.Number v) least end e = by_test (nat_lt 2147483647 v) e
  where
    by_test : (b : Bool) → (if b then verdict.Stop stop.NumberTooLarge else verdict_if (nat_le least v && nat_lt v end)) ≡ verdict.Stay → ⊥
    by_test true e = cc
    by_test false e = verdict_if-stay _ e
number-stay l least end e = cc

pub prim-stay : (l : Look) (depth : ℕ) → prim_verdict l depth ≡ verdict.Stay → ⊥
prim-stay (look.Number v) depth e = number-stay (look.Number v) 0 2147483648 e
prim-stay (look.Mark mark.OpenParenthesis) depth e = open-stay _ e
prim-stay (look.Keyword keyword.Rank) depth e = cc
prim-stay (look.Keyword keyword.Size) depth e = cc
prim-stay l depth e = cc

pub braced-stay : (l : Look) (depth : ℕ) → braced_verdict l depth ≡ verdict.Stay → ⊥
braced-stay (look.Mark mark.OpenBrace) depth e = open-stay _ e
braced-stay l depth e = cc

pub stay_unless-stay : (b : Bool) → stay_unless b ≡ verdict.Stay → b ≡ false
stay_unless-stay true e = cc
stay_unless-stay false e = refl

-- ---- a goal that takes no token
each-stay : (next ranks base : ℕ) (l : Look) (b : Bool) → (if b then verdict_if (is_rank l) else verdict.Stay) ≡ verdict.Stay
    → goals_weight (if b then each_goals next ranks base else []) < 1
each-stay next ranks base l true e = absurd (verdict_if-stay _ e)
each-stay next ranks base l false e = omega arith

blocks-stay : (ranks base : ℕ) (b : Bool) → b ≡ false
    → goals_weight (if b then goal.Body ∷ goal.Close base ∷ goal.Fixed fixed.End ∷ [] else goal.Each 0 ranks ∷ []) < 2
blocks-stay ranks base b e = rw e (omega arith)

tapes-stay : (b : Bool) (gs : List Goal) → b ≡ false → goals_weight (if b then gs else []) < 1
tapes-stay b gs e = rw e (omega arith)

statement-stay : (l : Look) (base : ℕ) → is_statement l ≡ false → goals_weight (statement_goals l base) < 1
statement-stay (look.Verb v) base e = cc
statement-stay (look.Keyword keyword.For) base e = cc
statement-stay l base e = omega arith

muls-stay : (o : Option What) (at : ℕ) → is_some o ≡ false → goals_weight (muls_goals o at) < 1
muls-stay None at e = omega arith
muls-stay (Some w) at e = cc

adds-stay : (o : Option What) (at : ℕ) → is_some o ≡ false → goals_weight (adds_goals o at) < 1
adds-stay None at e = omega arith
adds-stay (Some w) at e = cc

operands-stay : (left at : ℕ) (l : Look) (b : Bool) → nat_lt 0 left ≡ b
    → goals_weight (if b then goal.Prim ∷ goal.Muls ∷ goal.Adds ∷ goal.Leaf what.Arg at ∷ goal.Operands (left - 1) ∷ [] else []) < 5 * left + 1
operands-stay left at l true e = let h : 0 < left = grind (arith, nat_tests) in omega arith
operands-stay left at l false e = omega arith

numbers-stay : (left end : ℕ) (b : Bool) → nat_lt 0 left ≡ b → goals_weight (if b then number_goals (left - 1) end else []) < 2 * left + 1
numbers-stay left end true e = let h : 0 < left = grind (arith, nat_tests) in omega arith
numbers-stay left end false e = omega arith

pub weight-stay : (g : Goal) (l : Look) (depth at base : ℕ) → verdict_of g l depth ≡ verdict.Stay → goals_weight (next_goals g l at base) < weight_of g
weight-stay (goal.Fixed f) l depth at base e = absurd (verdict_if-stay _ e)
weight-stay (goal.Number least end w) l depth at base e = absurd (number-stay l least end e)
weight-stay goal.Version l depth at base e = absurd (number-stay l 1 3 e)
weight-stay (goal.Ranks v) l depth at base e = absurd (number-stay l 1 17 e)
weight-stay (goal.Numbers left end) l depth at base e = numbers-stay left end (nat_lt 0 left) refl
weight-stay (goal.Blocks ranks) l depth at base e = blocks-stay ranks base (is_all l) (stay_unless-stay _ e)
weight-stay (goal.Each next ranks) l depth at base e = each-stay next ranks base l (nat_lt next ranks) e
weight-stay (goal.Tapes ranks) l depth at base e = tapes-stay (is_tape l) _ (stay_unless-stay _ e)
weight-stay goal.Outcomes l depth at base e = absurd (verdict_if-stay _ e)
weight-stay goal.Name l depth at base e = absurd (verdict_if-stay _ e)
weight-stay goal.Body l depth at base e = statement-stay l base (stay_unless-stay _ e)
weight-stay goal.Braced l depth at base e = absurd (braced-stay l depth e)
weight-stay (goal.Operands left) l depth at base e = operands-stay left at l (nat_lt 0 left) refl
weight-stay goal.Gate l depth at base e = absurd (verdict_if-stay _ e)
weight-stay goal.Prim l depth at base e = absurd (prim-stay l depth e)
weight-stay goal.Muls l depth at base e = muls-stay (mul_op l) at (stay_unless-stay _ e)
weight-stay goal.Adds l depth at base e = adds-stay (add_op l) at (stay_unless-stay _ e)
weight-stay (goal.Leaf w token) l depth at base e = omega arith
weight-stay (goal.Close node) l depth at base e = omega arith

-- ---- a goal that takes one
if-weight : (b : Bool) (gs hs : List Goal) → goals_weight gs ≤ 71 → goals_weight hs ≤ 71 → goals_weight (if b then gs else hs) ≤ 71
if-weight true gs hs g h = g
if-weight false gs hs g h = h

-- a number that is taken is below the end of its range
number-below : (n least end : ℕ) → number_verdict (look.Number n) least end ≡ verdict.Take → n < end
number-below n least end e = by_tests (nat_lt 2147483647 n) (nat_le least n) (nat_lt n end) refl e
  where
    by_tests : (a b c : Bool) → nat_lt n end ≡ c → (if a then verdict.Stop stop.NumberTooLarge else verdict_if (b && c)) ≡ verdict.Take → n < end
    by_tests true b c k f = cc
    by_tests false false c k f = cc
    by_tests false true false k f = cc
    by_tests false true true k f = grind (arith, nat_tests)

count-below : (v : Version) (n : ℕ) → n < 17 → size_count v n ≤ 16
count-below version.One n h = omega arith
count-below version.Two n h = omega (arith, h)

ranks-take : (v : Version) (l : Look) → number_verdict l 1 17 ≡ verdict.Take → goals_weight (ranks_goals v l) ≤ 71
ranks-take v (look.Number n) e = let few = count-below v n (number-below n 1 17 e) in omega (arith, few)
ranks-take v l e = omega arith

statement-take : (l : Look) (base : ℕ) → HasFewOperands l → goals_weight (statement_goals l base) ≤ 71
statement-take (look.Verb v) base h = if-weight (takes_gate v.action) _ _ (omega (arith, h)) (omega (arith, h))
statement-take (look.Keyword keyword.For) base h = omega arith
statement-take l base h = omega arith

gate-take : (l : Look) (base : ℕ) → HasFewOperands l → goals_weight (gate_goals l base) ≤ 71
gate-take (look.Verb v) base h = omega (arith, h)
gate-take l base h = omega arith

prim-take : (l : Look) → goals_weight (prim_goals l) ≤ 71
prim-take (look.Mark mark.OpenParenthesis) = omega arith
prim-take l = omega arith

muls-take : (o : Option What) (at : ℕ) → goals_weight (muls_goals o at) ≤ 71
muls-take None at = omega arith
muls-take (Some w) at = omega arith

adds-take : (o : Option What) (at : ℕ) → goals_weight (adds_goals o at) ≤ 71
adds-take None at = omega arith
adds-take (Some w) at = omega arith

pub weight-take : (g : Goal) (l : Look) (depth at base : ℕ) → HasFewOperands l → verdict_of g l depth ≡ verdict.Take → goals_weight (next_goals g l at base) ≤ 71
weight-take (goal.Ranks v) l depth at base h e = ranks-take v l e
weight-take (goal.Blocks ranks) l depth at base h e = if-weight (is_all l) _ _ (omega arith) (omega arith)
weight-take (goal.Each next ranks) l depth at base h e = if-weight (nat_lt next ranks) _ _ (omega arith) (omega arith)
weight-take (goal.Tapes ranks) l depth at base h e = if-weight (is_tape l) _ _ (omega arith) (omega arith)
weight-take goal.Body l depth at base h e = statement-take l base h
weight-take goal.Braced l depth at base h e = omega arith
weight-take (goal.Numbers left end) l depth at base h e = cc
weight-take (goal.Operands left) l depth at base h e = cc
weight-take goal.Gate l depth at base h e = gate-take l base h
weight-take goal.Prim l depth at base h e = prim-take l
weight-take goal.Muls l depth at base h e = muls-take (mul_op l) at
weight-take goal.Adds l depth at base h e = adds-take (add_op l) at
weight-take g l depth at base h e = omega arith

-- ---- at the end no token is taken
verdict_if-end : verdict_if false ≡ verdict.Take → ⊥
verdict_if-end e = cc

pub each-no : (b : Bool) → (if b then verdict_if false else verdict.Stay) ≡ verdict.Take → ⊥
each-no true e = cc
each-no false e = cc

fixed-end : (f : Fixed) → verdict_if (is_fixed f look.End) ≡ verdict.Take → ⊥
fixed-end fixed.Qmpi e = cc
fixed-end f e = cc

pub verdict-end : (g : Goal) (depth : ℕ) → verdict_of g look.End depth ≡ verdict.Take → ⊥
verdict-end (goal.Each next ranks) depth e = each-no (nat_lt next ranks) e
verdict-end (goal.Fixed f) depth e = fixed-end f e
verdict-end g depth e = cc

pub take-token : (g : Goal) (depth at : ℕ) (xs : List Sign) → verdict_of g (look_at (drop at xs)) depth ≡ verdict.Take → at < length xs
take-token g depth at [] e = absurd (nothing at e)
  where
    nothing : (n : ℕ) → verdict_of g (look_at (drop n [])) depth ≡ verdict.Take → ⊥
    nothing zero e = verdict-end g depth e
    nothing (suc n) e = verdict-end g depth e
take-token g depth zero (x ∷ xs) e = omega arith
take-token g depth (suc n) (x ∷ xs) e = let h : n < length xs = take-token g depth n xs e in omega arith
