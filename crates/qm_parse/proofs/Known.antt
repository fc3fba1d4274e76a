-- What is known at each place that the reading reaches: the programs that go on from there
use Rattle.std.proofs.Common.{◌≡◌, ℕ, zero, suc, ◌+◌, ◌-◌, ◌<◌, ◌≤◌, Bool, true, false, nat_lt, List, [], ◌∷◌, ◌++◌, length, take, drop, Option, Some, None, refl, sym, ap, ◌∙◌, subst, append_assoc, arith, if◌then◌else◌}
use Rattle.std.specs.Prelude.{count_by, is_some}
use Rattle.std.proofs.lemmas.List.{append-nil}
use Rattle.std.proofs.lemmas.Bool.Decides.{nat_tests}
use Rattle.qm_parse.specs.declared.goals.Fixed.{Fixed}
use Rattle.qm_parse.specs.declared.goals.Fixed.TheVariants as fixed
use Rattle.qm_parse.specs.declared.goals.Goal.{Goal}
use Rattle.qm_parse.specs.declared.goals.Goal.TheVariants as goal
use Rattle.qm_parse.specs.declared.goals.Stop.TheVariants as stop
use Rattle.qm_parse.specs.declared.goals.Verdict.TheVariants as verdict
use Rattle.qm_parse.specs.declared.looks.Look.{Look}
use Rattle.qm_parse.specs.declared.looks.Look.TheVariants as look
use Rattle.qm_parse.specs.declared.words.Keyword.TheVariants as keyword
use Rattle.qm_parse.specs.declared.words.Mark.TheVariants as mark
use Rattle.qm_parse.specs.declared.tree.What.{What}
use Rattle.qm_parse.specs.declared.words.Version.{Version}
use Rattle.qm_parse.specs.Words.{takes_gate, size_count}
use Rattle.qm_parse.specs.Signs.{Sign, Number, Key, Act, Ident, Symbol}
use Rattle.qm_parse.specs.Trees.{Program, ProgramMay}
use Rattle.qm_parse.specs.Spelling.{program_signs}
use Rattle.qm_parse.specs.Faults.{open_behind, open_after, MayOpen, IsShallow}
use Rattle.qm_parse.specs.Looks.{capped, look_of, look_at}
use Rattle.qm_parse.specs.Verdicts.{is_fixed, verdict_if, number_verdict, open_verdict, is_all, is_tape, mul_op, add_op, verdict_of}
use Rattle.qm_parse.specs.Moves.{start_goals, ranks_goals, number_goals, each_goals, statement_goals, gate_goals, muls_goals, adds_goals, prim_goals, next_goals}
use Rattle.qm_parse.specs.Reaching.{Place, start_place, depth_behind, moved, behind_goal, next_look, Reaches, AtStart, Taking, Staying}
use Rattle.qm_parse.proofs.WeightLemmas.{verdict_if-stay, number-stay, prim-stay, braced-stay, each-no, verdict-end}
use Rattle.qm_parse.specs.declared.tree.What.TheVariants as what
use Rattle.qm_parse.proofs.Behind.{Spot, spot, met, taken, noted, behind_rest, behind_program}
use Rattle.qm_parse.proofs.Parts.{Part, Parts, PartMay, PartsMay, PartEnds, PartsEnd, part_signs, before, behind, behind_all, Back, Forth, rest_signs}
use Rattle.qm_parse.proofs.ExprSteps.{operand_goals}
use Rattle.qm_parse.proofs.Turns.{number-in, back-take}
use Rattle.qm_parse.proofs.Stays.{GoalOk, back-stay, forth-stay, forth-take}

-- ---- parts of goals in a row, and of others behind them
abbrev join : (gs hs : List Goal) → Parts gs → Parts hs → Parts (gs ++ hs)
join [] hs q k = k
join (g ∷ gs) hs q k = (q.0, join gs hs q.1 k)

before-join : (gs hs : List Goal) (q : Parts gs) (k : Parts hs) (xs : List Sign) → before (gs ++ hs) (join gs hs q k) xs ≡ before gs q (before hs k xs)
before-join [] hs q k xs = refl
before-join (g ∷ gs) hs q k xs = ap (λ z. part_signs g q.0 ++ z) (before-join gs hs q.1 k xs)

may-join : (gs hs : List Goal) (q : Parts gs) (k : Parts hs) → PartsMay gs q → PartsMay hs k → PartsMay (gs ++ hs) (join gs hs q k)
may-join [] hs q k m n = n
may-join (g ∷ gs) hs q k m n = (m.0, may-join gs hs q.1 k m.1 n)

ends-join : (gs hs : List Goal) (q : Parts gs) (k : Parts hs) (xs : List Sign) → PartsEnd gs q (before hs k xs) → PartsEnd hs k xs → PartsEnd (gs ++ hs) (join gs hs q k) xs
ends-join [] hs q k xs e f = f
ends-join (g ∷ gs) hs q k xs e f = (subst (λ (z : List Sign). PartEnds g z) (sym (before-join gs hs q.1 k xs)) e.0, ends-join gs hs q.1 k xs e.1 f)

record Split (gs hs : List Goal) (q : Parts (gs ++ hs)) : Type 0 where
  first : Parts gs
  rest : Parts hs
  first_may : PartsMay gs first
  rest_may : PartsMay hs rest
  spelled : (xs : List Sign) → before (gs ++ hs) q xs ≡ before gs first (before hs rest xs)
  written : (s : Spot) → behind_all (gs ++ hs) q s ≡ behind_all hs rest (behind_all gs first s)

split : (gs hs : List Goal) (q : Parts (gs ++ hs)) → PartsMay (gs ++ hs) q → Split gs hs q
split [] hs q m = record { first = tt; rest = q; first_may = tt; rest_may = m; spelled = λ xs. refl; written = λ s. refl }
split (g ∷ gs) hs q m = let s = split gs hs q.1 m.1 in record {
  first = (q.0, s.first);
  rest = s.rest;
  first_may = (m.0, s.first_may);
  rest_may = s.rest_may;
  spelled = λ xs. ap (λ z. part_signs g q.0 ++ z) (s.spelled xs);
  written = λ t. s.written (behind g q.0 t);
}

-- ---- goals that may come next
abbrev pub GoalsOk : List Goal → Type 0
GoalsOk [] = Unit {0}
GoalsOk (g ∷ gs) = GoalOk g × GoalsOk gs

ok-append : (gs hs : List Goal) → GoalsOk gs → GoalsOk hs → GoalsOk (gs ++ hs)
ok-append [] hs a b = b
ok-append (g ∷ gs) hs a b = (a.0, ok-append gs hs a.1 b)

ok-if : (b : Bool) (gs hs : List Goal) → GoalsOk gs → GoalsOk hs → GoalsOk (if b then gs else hs)
ok-if true gs hs x y = x
ok-if false gs hs x y = y

ok-ranks : (v : Version) (t : Sign) → number_verdict (look_of t) 1 17 ≡ verdict.Take → GoalsOk (ranks_goals v (look_of t))
ok-ranks v (Number n) e =
    let r = number-in 1 17 n e in
    let a : 1 ≤ capped n = omega (arith, r.low, r.same) in
    let b : capped n ≤ 16 = omega (arith, r.high, r.same) in
    let c : 1 < 17 = omega arith in let d : 17 ≤ 2147483648 = omega arith in let f : 1 < 9 = omega arith in let g : 9 ≤ 2147483648 = omega arith in
    (tt, ((c, d), (tt, ((f, g), ((a, b), ((a, b), tt))))))
ok-ranks v t e = cc

ok-numbers : (left end : ℕ) (b : Bool) → (1 < end) × (end ≤ 2147483648) → GoalsOk (if b then number_goals (left - 1) end else [])
ok-numbers left end true o = (o, (o, tt))
ok-numbers left end false o = tt

ok-each : (next ranks base : ℕ) (b : Bool) → nat_lt next ranks ≡ b → ranks ≤ 16 → GoalsOk (if b then each_goals next ranks base else [])
ok-each next ranks base true k o =
    let l : next < ranks = grind (arith, nat_tests) in
    let a : next < next + 1 = omega arith in let c : next + 1 ≤ 2147483648 = omega arith in ((a, c), (tt, (tt, (tt, (o, tt)))))
ok-each next ranks base false k o = tt

ok-statement : (l : Look) (base : ℕ) → GoalsOk (statement_goals l base)
ok-statement (look.Verb v) base =
    let n = count_by is_some v.operands in
    ok-if (takes_gate v.action) (goal.Operands n ∷ goal.Gate ∷ goal.Close base ∷ goal.Body ∷ []) (goal.Operands n ∷ goal.Close base ∷ goal.Body ∷ []) (tt, (tt, (tt, (tt, tt)))) (tt, (tt, (tt, tt)))
ok-statement (look.Keyword keyword.For) base = (tt, (tt, (tt, (tt, (tt, (tt, (tt, (tt, tt))))))))
ok-statement l base = tt

ok-gate : (l : Look) (base : ℕ) → GoalsOk (gate_goals l base)
ok-gate (look.Verb v) base = (tt, (tt, tt))
ok-gate l base = tt

ok-prim : (l : Look) → GoalsOk (prim_goals l)
ok-prim (look.Mark mark.OpenParenthesis) = (tt, (tt, (tt, (tt, tt))))
ok-prim l = tt

ok-muls : (o : Option What) (at : ℕ) → GoalsOk (muls_goals o at)
ok-muls None at = tt
ok-muls (Some w) at = (tt, (tt, (tt, tt)))

ok-adds : (o : Option What) (at : ℕ) → GoalsOk (adds_goals o at)
ok-adds None at = tt
ok-adds (Some w) at = (tt, (tt, (tt, (tt, tt))))

ok-blocks : (ranks base : ℕ) (b : Bool) → ranks ≤ 16 → GoalsOk (if b then goal.Body ∷ goal.Close base ∷ goal.Fixed fixed.End ∷ [] else goal.Each 0 ranks ∷ [])
ok-blocks ranks base true o = (tt, (tt, (tt, tt)))
ok-blocks ranks base false o = (o, tt)

ok-tapes : (ranks base : ℕ) (b : Bool) → (1 ≤ ranks) × (ranks ≤ 16) → GoalsOk (if b then goal.Number 0 ranks true ∷ goal.Outcomes ∷ goal.Close base ∷ goal.Tapes ranks ∷ [] else [])
ok-tapes ranks base true o = let a : 0 < ranks = omega (arith, o.0) in let b : ranks ≤ 2147483648 = omega (arith, o.1) in ((a, b), (tt, (tt, (o, tt))))
ok-tapes ranks base false o = tt

ok-operands : (left at : ℕ) (b : Bool) → GoalsOk (if b then operand_goals at (left - 1) else [])
ok-operands left at true = (tt, (tt, (tt, (tt, (tt, tt)))))
ok-operands left at false = tt

pub ok-take : (g : Goal) (t : Sign) (at base : ℕ) → GoalOk g → verdict_of g (look_of t) 0 ≡ verdict.Take → GoalsOk (next_goals g (look_of t) at base)
ok-take goal.Version t at base o e = (tt, (tt, tt))
ok-take (goal.Ranks v) t at base o e = ok-ranks v t e
ok-take (goal.Numbers left end) t at base o e = ok-numbers left end (nat_lt 0 left) o
ok-take (goal.Blocks ranks) t at base o e = ok-blocks ranks base (is_all (look_of t)) o.1
ok-take (goal.Each next ranks) t at base o e = ok-each next ranks base (nat_lt next ranks) refl o
ok-take (goal.Tapes ranks) t at base o e = ok-tapes ranks base (is_tape (look_of t)) o
ok-take goal.Body t at base o e = ok-statement (look_of t) base
ok-take goal.Braced t at base o e = (tt, (tt, tt))
ok-take (goal.Operands left) t at base o e = ok-operands left at (nat_lt 0 left)
ok-take goal.Gate t at base o e = ok-gate (look_of t) base
ok-take goal.Prim t at base o e = ok-prim (look_of t)
ok-take goal.Muls t at base o e = ok-muls (mul_op (look_of t)) at
ok-take goal.Adds t at base o e = ok-adds (add_op (look_of t)) at
ok-take g t at base o e = tt

ok-stay : (g : Goal) (l : Look) (at base : ℕ) → GoalOk g → verdict_of g l 0 ≡ verdict.Stay → GoalsOk (next_goals g l at base)
ok-stay goal.Version l at base o e = absurd (number-stay l 1 3 e)
ok-stay (goal.Ranks v) l at base o e = absurd (number-stay l 1 17 e)
ok-stay (goal.Numbers left end) l at base o e = ok-numbers left end (nat_lt 0 left) o
ok-stay (goal.Blocks ranks) l at base o e = ok-blocks ranks base (is_all l) o.1
ok-stay (goal.Each next ranks) l at base o e = ok-each next ranks base (nat_lt next ranks) refl o
ok-stay (goal.Tapes ranks) l at base o e = ok-tapes ranks base (is_tape l) o
ok-stay goal.Body l at base o e = ok-statement l base
ok-stay goal.Braced l at base o e = (tt, (tt, tt))
ok-stay (goal.Operands left) l at base o e = ok-operands left at (nat_lt 0 left)
ok-stay goal.Gate l at base o e = ok-gate l base
ok-stay goal.Prim l at base o e = ok-prim l
ok-stay goal.Muls l at base o e = ok-muls (mul_op l) at
ok-stay goal.Adds l at base o e = ok-adds (add_op l) at
ok-stay g l at base o e = tt

-- ---- verdicts where none is open
pub zero-take : (g : Goal) (l : Look) (depth : ℕ) → verdict_of g l depth ≡ verdict.Take → verdict_of g l 0 ≡ verdict.Take
zero-take goal.Braced (look.Mark mark.OpenBrace) depth e = refl
zero-take goal.Braced (look.Mark m) depth e = cc
zero-take goal.Braced l depth e = cc
zero-take goal.Prim (look.Number v) depth e = e
zero-take goal.Prim (look.Name b) depth e = e
zero-take goal.Prim (look.Keyword keyword.Rank) depth e = e
zero-take goal.Prim (look.Keyword keyword.Size) depth e = e
zero-take goal.Prim (look.Keyword k) depth e = cc
zero-take goal.Prim (look.Mark mark.OpenParenthesis) depth e = refl
zero-take goal.Prim (look.Mark m) depth e = cc
zero-take goal.Prim l depth e = cc
zero-take g l depth e = e

pub zero-stay : (g : Goal) (l : Look) (depth : ℕ) → verdict_of g l depth ≡ verdict.Stay → verdict_of g l 0 ≡ verdict.Stay
zero-stay goal.Braced l depth e = absurd (braced-stay l depth e)
zero-stay goal.Prim l depth e = absurd (prim-stay l depth e)
zero-stay g l depth e = e

-- ---- braces and parentheses
pub open_after-next : (n : ℕ) (xs : List Sign) (t : Sign) → open_after n (xs ++ t ∷ []) ≡ depth_behind (look_of t) (open_after n xs)
open_after-next n [] (Symbol m) = refl
open_after-next n [] (Number v) = refl
open_after-next n [] (Key k) = refl
open_after-next n [] (Act v) = refl
open_after-next n [] (Ident bytes) = refl
open_after-next n (Symbol m ∷ xs) t = open_after-next (open_behind m n) xs t
open_after-next n (Number v ∷ xs) t = open_after-next n xs t
open_after-next n (Key k ∷ xs) t = open_after-next n xs t
open_after-next n (Act v ∷ xs) t = open_after-next n xs t
open_after-next n (Ident bytes ∷ xs) t = open_after-next n xs t

abbrev SignMay : Sign → ℕ → Type 0
SignMay (Symbol m) n = MayOpen m n
SignMay t n = Unit {0}

shallow-next : (n : ℕ) (xs : List Sign) (t : Sign) → IsShallow n xs → SignMay t (open_after n xs) → IsShallow n (xs ++ t ∷ [])
shallow-next n [] (Symbol m) h k = (k, tt)
shallow-next n [] (Number v) h k = tt
shallow-next n [] (Key x) h k = tt
shallow-next n [] (Act v) h k = tt
shallow-next n [] (Ident bytes) h k = tt
shallow-next n (Symbol m ∷ xs) t h k = (h.0, shallow-next (open_behind m n) xs t h.1 k)
shallow-next n (Number v ∷ xs) t h k = shallow-next n xs t h k
shallow-next n (Key x ∷ xs) t h k = shallow-next n xs t h k
shallow-next n (Act v ∷ xs) t h k = shallow-next n xs t h k
shallow-next n (Ident bytes ∷ xs) t h k = shallow-next n xs t h k

open-take : (depth : ℕ) → open_verdict depth ≡ verdict.Take → depth < 32
open-take depth e = by_test (nat_lt depth 32) refl e
  where
    by_test : (b : Bool) → nat_lt depth 32 ≡ b → (if b then verdict.Take else verdict.Stop stop.TooDeep) ≡ verdict.Take → depth < 32
    by_test true k f = grind (arith, nat_tests)
    by_test false k f = cc

fixed-brace : (f : Fixed) → verdict_if (is_fixed f (look.Mark mark.OpenBrace)) ≡ verdict.Take → ⊥
fixed-brace fixed.Qmpi e = cc
fixed-brace f e = cc

fixed-parenthesis : (f : Fixed) → verdict_if (is_fixed f (look.Mark mark.OpenParenthesis)) ≡ verdict.Take → ⊥
fixed-parenthesis fixed.Qmpi e = cc
fixed-parenthesis f e = cc

brace-take : (g : Goal) (depth : ℕ) → verdict_of g (look.Mark mark.OpenBrace) depth ≡ verdict.Take → depth < 32
brace-take goal.Braced depth e = open-take depth e
brace-take (goal.Fixed f) depth e = absurd (fixed-brace f e)
brace-take (goal.Each next ranks) depth e = absurd (each-no (nat_lt next ranks) e)
brace-take g depth e = cc

parenthesis-take : (g : Goal) (depth : ℕ) → verdict_of g (look.Mark mark.OpenParenthesis) depth ≡ verdict.Take → depth < 32
parenthesis-take goal.Prim depth e = open-take depth e
parenthesis-take (goal.Fixed f) depth e = absurd (fixed-parenthesis f e)
parenthesis-take (goal.Each next ranks) depth e = absurd (each-no (nat_lt next ranks) e)
parenthesis-take g depth e = cc

may-take : (g : Goal) (t : Sign) (depth : ℕ) → verdict_of g (look_of t) depth ≡ verdict.Take → SignMay t depth
may-take g (Symbol mark.OpenBrace) depth e = brace-take g depth e
may-take g (Symbol mark.OpenParenthesis) depth e = parenthesis-take g depth e
may-take g (Symbol m) depth e = tt
may-take g t depth e = tt

-- ---- what is known
-- the same token to every goal, but for the value of a number
abbrev pub Alike : Look → Look → Type 0
Alike (look.Number n) (look.Number m) = Unit {0}
Alike l k = l ≡ k

pub Alike-same : (l : Look) → Alike l l
Alike-same (look.Number n) = tt
Alike-same (look.Keyword k) = refl
Alike-same (look.Verb v) = refl
Alike-same (look.Name b) = refl
Alike-same (look.Mark m) = refl
Alike-same look.End = refl

-- a program of these tokens, and then others, behind whose nodes this is the spot
pub record Reads (front rest : List Sign) (s : Spot) : Type 0 where
  pub program : Program
  pub may : ProgramMay program
  pub spelled : program_signs program ≡ front ++ rest
  pub written : behind_program program ≡ s

abbrev pub spot_of : Place → Spot
spot_of p = spot p.at p.nodes

pub record Known (signs : List Sign) (p : Place) : Type 0 where
  pub ok : GoalsOk p.goals
  pub depth_is : p.depth ≡ open_after 0 (take p.at signs)
  pub shallow : IsShallow 0 (take p.at signs)
  pub back : (q : Parts p.goals) → PartsMay p.goals q → Reads (take p.at signs) (before p.goals q []) (behind_all p.goals q (spot_of p))
  pub forth : (r : Program) (ys : List Sign) → ProgramMay r → Alike (look_at ys) (next_look signs p) → program_signs r ≡ take p.at signs ++ ys → Forth p.goals [] ys

start-back : (signs : List Sign) (q : Parts start_goals) → PartsMay start_goals q → Reads [] (before start_goals q []) (behind_all start_goals q (spot_of start_place))
start-back signs (u, (r, w)) m = record {
  program = r;
  may = m.1.0;
  spelled = ap (λ z. Key keyword.Qmpi ∷ z) (sym (append-nil (rest_signs r)));
  written = refl;
}

start-forth : (r : Program) (ys : List Sign) → ProgramMay r → program_signs r ≡ ys → Forth start_goals [] ys
start-forth r ys m e = record {
  parts = (tt, (r, tt));
  may = (tt, (m, tt));
  ends = (tt, (tt, tt));
  spelled = ap (λ z. Key keyword.Qmpi ∷ z) (append-nil (rest_signs r)) ∙ e;
}

known-start : (signs : List Sign) → Known signs start_place
known-start signs = record {
  ok = (tt, (tt, tt));
  depth_is = refl;
  shallow = tt;
  back = start-back signs;
  forth = λ r ys m a e. start-forth r ys m e;
}

take-next : (n : ℕ) (xs : List Sign) (t : Sign) (ts : List Sign) → drop n xs ≡ t ∷ ts → take (suc n) xs ≡ take n xs ++ t ∷ []
take-next zero [] t ts e = cc
take-next (suc n) [] t ts e = cc
take-next zero (x ∷ xs) t ts e = let h : x ≡ t = cc in ap (λ (y : Sign). y ∷ []) h
take-next (suc n) (x ∷ xs) t ts e = ap (λ z. x ∷ z) (take-next n xs t ts e)

-- ---- one goal further
joined-back : (front extra front' : List Sign) (g : Goal) (rest gs : List Goal) (u v : Spot) → front' ≡ front ++ extra
    → ((q : Parts (g ∷ rest)) → PartsMay (g ∷ rest) q → Reads front (before (g ∷ rest) q []) (behind_all (g ∷ rest) q u)) → ((x : Parts gs) → PartsMay gs x → Back g extra gs x u v)
    → (q : Parts (gs ++ rest)) → PartsMay (gs ++ rest) q → Reads front' (before (gs ++ rest) q []) (behind_all (gs ++ rest) q v)
joined-back front extra front' g rest gs u v more back one q m =
    let s = split gs rest q m in
    let b = one s.first s.first_may in
    let r = back (b.part, s.rest) (b.may, s.rest_may) in record {
      program = r.program;
      may = r.may;
      spelled = r.spelled ∙ ap (λ z. front ++ z) (b.spelled (before rest s.rest []) ∙ ap (λ z. extra ++ z) (sym (s.spelled [])))
          ∙ sym (append_assoc front extra (before (gs ++ rest) q [])) ∙ ap (λ z. z ++ before (gs ++ rest) q []) (sym more);
      written = r.written ∙ ap (λ (w : Spot). behind_all rest s.rest w) b.written ∙ sym (s.written v);
    }

joined-forth : (g : Goal) (rest gs : List Goal) (ys zs : List Sign) → Forth (g ∷ rest) [] zs
    → ((x : Part g) (ws : List Sign) → PartMay g x → PartEnds g ws → part_signs g x ++ ws ≡ zs → Forth gs ws ys) → Forth (gs ++ rest) [] ys
joined-forth g rest gs ys zs f one =
    let o = one f.parts.0 (before rest f.parts.1 []) f.may.0 f.ends.0 f.spelled in record {
      parts = join gs rest o.parts f.parts.1;
      may = may-join gs rest o.parts f.parts.1 o.may f.may.1;
      ends = ends-join gs rest o.parts f.parts.1 [] o.ends f.ends.1;
      spelled = before-join gs rest o.parts f.parts.1 [] ∙ o.spelled;
    }

-- by a token
known-take : (signs : List Sign) (p : Place) (g : Goal) (rest : List Goal) (t : Sign) (ts : List Sign) → Known signs p → p.goals ≡ g ∷ rest → drop p.at signs ≡ t ∷ ts → verdict_of g (look_of t) p.depth ≡ verdict.Take
    → Known signs (moved g (look_of t) true (behind_goal p rest))
known-take signs p g rest t ts h e d v =
    let front : List Sign = take p.at signs in
    let gs : List Goal = next_goals g (look_of t) p.at (length p.nodes) in
    let v0 : verdict_of g (look_of t) 0 ≡ verdict.Take = zero-take g (look_of t) p.depth v in
    let n : suc p.at ≡ p.at + 1 = omega arith in
    let more : take (p.at + 1) signs ≡ front ++ t ∷ [] = subst (λ (n : ℕ). take n signs ≡ front ++ t ∷ []) n (take-next p.at signs t ts d) in
    let same : next_look signs p ≡ look_of t = ap look_at d in
    let ok : GoalsOk (g ∷ rest) = subst (λ (x : List Goal). GoalsOk x) e h.ok in
    let s = spot_of p in
    let back : (q : Parts (g ∷ rest)) → PartsMay (g ∷ rest) q → Reads front (before (g ∷ rest) q []) (behind_all (g ∷ rest) q s) = subst (λ (x : List Goal). (q : Parts x) → PartsMay x q → Reads front (before x q []) (behind_all x q s)) e h.back in
    record {
      ok = ok-append gs rest (ok-take g t p.at (length p.nodes) ok.0 v0) ok.1;
      depth_is = ap (depth_behind (look_of t)) h.depth_is ∙ sym (ap (open_after 0) more ∙ open_after-next 0 front t);
      shallow = subst (λ (x : List Sign). IsShallow 0 x) (sym more) (shallow-next 0 front t h.shallow (subst (λ (n : ℕ). SignMay t n) h.depth_is (may-take g t p.depth v)));
      back = joined-back front (t ∷ []) (take (p.at + 1) signs) g rest gs s (met g (look_of t) true s) more back (λ x m. back-take g t s v0 x m);
      forth = λ r ys m a w.
          joined-forth g rest gs ys (t ∷ ys)
          (subst (λ (x : List Goal). Forth x [] (t ∷ ys)) e (h.forth r (t ∷ ys) m (subst (λ (l : Look). Alike (look_of t) l) (sym same) (Alike-same (look_of t))) (w ∙ ap (λ z. z ++ ys) more ∙ append_assoc front (t ∷ []) ys)))
          (λ x ws n en k. forth-take g t p.at (length p.nodes) x ws ys ok.0 n en v0 k);
    }

-- the value of a number doesn't matter to a goal that takes no token
number-stays : (g : Goal) (n m : ℕ) (at base : ℕ) → verdict_of g (look.Number n) 0 ≡ verdict.Stay
    → (verdict_of g (look.Number m) 0 ≡ verdict.Stay) × (next_goals g (look.Number m) at base ≡ next_goals g (look.Number n) at base)
number-stays goal.Version n m at base e = absurd (number-stay (look.Number n) 1 3 e)
number-stays (goal.Ranks v) n m at base e = absurd (number-stay (look.Number n) 1 17 e)
number-stays (goal.Number least end w) n m at base e = absurd (number-stay (look.Number n) least end e)
number-stays goal.Prim n m at base e = absurd (prim-stay (look.Number n) 0 e)
number-stays (goal.Fixed f) n m at base e = absurd (verdict_if-stay _ e)
number-stays g n m at base e = (e, refl)

alike-stays : (g : Goal) (l k : Look) (at base : ℕ) → Alike l k → verdict_of g k 0 ≡ verdict.Stay → (verdict_of g l 0 ≡ verdict.Stay) × (next_goals g l at base ≡ next_goals g k at base)
alike-stays g (look.Number n) (look.Number m) at base a e = number-stays g m n at base e
alike-stays g (look.Number n) k at base a e = cc
alike-stays g l k at base a e = (ap (λ (x : Look). verdict_of g x 0) a ∙ e, ap (λ (x : Look). next_goals g x at base) a)

-- without one
known-stay : (signs : List Sign) (p : Place) (g : Goal) (rest : List Goal) → Known signs p → p.goals ≡ g ∷ rest → verdict_of g (next_look signs p) p.depth ≡ verdict.Stay
    → Known signs (moved g (next_look signs p) false (behind_goal p rest))
known-stay signs p g rest h e v =
    let front : List Sign = take p.at signs in
    let l : Look = next_look signs p in
    let gs : List Goal = next_goals g l p.at (length p.nodes) in
    let v0 : verdict_of g l 0 ≡ verdict.Stay = zero-stay g l p.depth v in
    let ok : GoalsOk (g ∷ rest) = subst (λ (x : List Goal). GoalsOk x) e h.ok in
    let s = spot_of p in
    let back : (q : Parts (g ∷ rest)) → PartsMay (g ∷ rest) q → Reads front (before (g ∷ rest) q []) (behind_all (g ∷ rest) q s) = subst (λ (x : List Goal). (q : Parts x) → PartsMay x q → Reads front (before x q []) (behind_all x q s)) e h.back in
    record {
      ok = ok-append gs rest (ok-stay g l p.at (length p.nodes) ok.0 v0) ok.1;
      depth_is = h.depth_is;
      shallow = h.shallow;
      back = joined-back front [] front g rest gs s (met g l false s) (sym (append-nil front)) back (λ x m. back-stay g l s v0 x m);
      forth = λ r ys m a w.
          let other = alike-stays g (look_at ys) l p.at (length p.nodes) a v0 in
          joined-forth g rest gs ys ys (subst (λ (x : List Goal). Forth x [] ys) e (h.forth r ys m a w)) (λ x ws n en k. stayed g l p.at (length p.nodes) x ws ys n en k other.0 other.1);
    }
  where
    stayed : (g : Goal) (l : Look) (at base : ℕ) (x : Part g) (ws ys : List Sign) → PartMay g x → PartEnds g ws → part_signs g x ++ ws ≡ ys → verdict_of g (look_at ys) 0 ≡ verdict.Stay
        → next_goals g (look_at ys) at base ≡ next_goals g l at base → Forth (next_goals g l at base) ws ys
    stayed g l at base x ws ys n en w v k =
        let f : verdict_of g (look_at (part_signs g x ++ ws)) 0 ≡ verdict.Stay = ap (λ (z : List Sign). verdict_of g (look_at z) 0) w ∙ v in
        subst (λ (z : List Goal). Forth z ws ys) k (subst (λ (z : List Sign). Forth (next_goals g (look_at z) at base) ws z) w (forth-stay g at base x ws n en f))

pub known : (signs : List Sign) (p : Place) → Reaches signs p → Known signs p
known signs p AtStart = known-start signs
known signs q (Taking p g rest h e v) = by_token (drop p.at signs) refl (known signs p h)
  where
    by_token : (xs : List Sign) → drop p.at signs ≡ xs → Known signs p → Known signs (moved g (next_look signs p) true (behind_goal p rest))
    by_token [] d k = absurd (verdict-end g p.depth (ap (λ (z : List Sign). verdict_of g (look_at z) p.depth) (sym d) ∙ v))
    by_token (t ∷ ts) d k =
        let same : look_of t ≡ next_look signs p = ap look_at (sym d) in
        subst (λ (l : Look). Known signs (moved g l true (behind_goal p rest))) same (known-take signs p g rest t ts k e d (ap (λ (l : Look). verdict_of g l p.depth) same ∙ v))
known signs q (Staying p g rest h e v) = known-stay signs p g rest (known signs p h) e v
