-- The goals of expressions: what stands for them, and what follows their first tokens
use Rattle.std.proofs.Common.{◌≡◌, ℕ, ◌+◌, Bool, true, false, List, [], ◌∷◌, ◌++◌, length, refl, sym, ap, ◌∙◌, subst, append_assoc, arith}
use Rattle.std.specs.Prelude.{All}
use Rattle.std.proofs.lemmas.List.Elements.{All-cons, All-head, All-tail}
use Rattle.qm_parse.specs.declared.goals.Fixed.TheVariants as fixed
use Rattle.qm_parse.specs.declared.goals.Goal.{Goal}
use Rattle.qm_parse.specs.declared.goals.Goal.TheVariants as goal
use Rattle.qm_parse.specs.declared.tree.What.{What}
use Rattle.qm_parse.specs.declared.tree.What.TheVariants as what
use Rattle.qm_parse.specs.declared.words.Mark.TheVariants as mark
use Rattle.qm_parse.specs.Signs.{Sign, Symbol}
use Rattle.qm_parse.specs.Trees.{AddOp, Plus, Minus, MulOp, Times, Over, Rest, Expr, Sum, Adds, NoAdd, Add, Product, Muls, NoMul, Mul, Prim, Num, Name, Rank, Size, Paren, ExprMay, AddsMay, MulsMay, PrimMay}
use Rattle.qm_parse.specs.Spelling.{add_mark, mul_mark, expr_signs, adds_signs, muls_signs, prim_signs, operands_signs}
use Rattle.qm_parse.specs.Nodes.{add_what, mul_what}
use Rattle.qm_parse.proofs.Behind.{Spot, taken}
use Rattle.qm_parse.proofs.Parts.{Parts, PartsMay, NoHead, is_mul, is_op, Back, Forth}

-- ---- heads of tokens
pub NoHead-weaker : (f g : Sign → Bool) (xs : List Sign) → ((t : Sign) → f t ≡ false → g t ≡ false) → NoHead f xs → NoHead g xs
NoHead-weaker f g [] w h = tt
NoHead-weaker f g (t ∷ ts) w h = w t h

op-mul : (t : Sign) → is_op t ≡ false → is_mul t ≡ false
op-mul (Symbol mark.Times) e = e
op-mul (Symbol mark.Over) e = e
op-mul (Symbol mark.Rest) e = e
op-mul t e = refl

pub no_op-mul : (xs : List Sign) → NoHead is_op xs → NoHead is_mul xs
no_op-mul xs h = NoHead-weaker is_op is_mul xs op-mul h

pub adds-no_mul : (more : Adds) (xs : List Sign) → NoHead is_op xs → NoHead is_mul (adds_signs more ++ xs)
adds-no_mul NoAdd xs h = no_op-mul xs h
adds-no_mul (Add Plus t more) xs h = refl
adds-no_mul (Add Minus t more) xs h = refl

pub prim-no_op : (p : Prim) (xs : List Sign) → NoHead is_op (prim_signs p ++ xs)
prim-no_op (Num v) xs = refl
prim-no_op (Name bytes) xs = refl
prim-no_op Rank xs = refl
prim-no_op Size xs = refl
prim-no_op (Paren e) xs = refl

pub operands-no_op : (es : List Expr) (xs : List Sign) → NoHead is_op xs → NoHead is_op (operands_signs es ++ xs)
operands-no_op [] xs h = h
operands-no_op (Sum (Product p ms) more ∷ es) xs h =
    subst (λ (z : List Sign). NoHead is_op z) (sym (append_assoc (expr_signs (Sum (Product p ms) more)) (operands_signs es) xs ∙ append_assoc (prim_signs p ++ muls_signs ms) (adds_signs more) (operands_signs es ++ xs) ∙ append_assoc (prim_signs p) (muls_signs ms) (adds_signs more ++ (operands_signs es ++ xs))))
    (prim-no_op p (muls_signs ms ++ (adds_signs more ++ (operands_signs es ++ xs))))

-- ---- operators
pub back-mul : (op : MulOp) (s : Spot) (q : Parts (goal.Prim ∷ goal.Leaf (mul_what op) s.at ∷ goal.Muls ∷ [])) → PartsMay (goal.Prim ∷ goal.Leaf (mul_what op) s.at ∷ goal.Muls ∷ []) q
    → Back goal.Muls (Symbol (mul_mark op) ∷ []) (goal.Prim ∷ goal.Leaf (mul_what op) s.at ∷ goal.Muls ∷ []) q s (taken s)
back-mul op s (p, (u, (more, v))) h = record {
  part = Mul op p more;
  may = (h.0, h.1.1.0);
  spelled = λ xs. ap (λ z. Symbol (mul_mark op) ∷ z) (append_assoc (prim_signs p) (muls_signs more) xs);
  written = refl;
}

pub back-add : (op : AddOp) (s : Spot) (q : Parts (goal.Prim ∷ goal.Muls ∷ goal.Leaf (add_what op) s.at ∷ goal.Adds ∷ [])) → PartsMay (goal.Prim ∷ goal.Muls ∷ goal.Leaf (add_what op) s.at ∷ goal.Adds ∷ []) q
    → Back goal.Adds (Symbol (add_mark op) ∷ []) (goal.Prim ∷ goal.Muls ∷ goal.Leaf (add_what op) s.at ∷ goal.Adds ∷ []) q s (taken s)
back-add op s (p, (ms, (u, (more, v)))) h = record {
  part = Add op (Product p ms) more;
  may = ((h.0, h.1.0), h.1.1.1.0);
  spelled = λ xs. ap (λ z. Symbol (add_mark op) ∷ z) (append_assoc (prim_signs p ++ muls_signs ms) (adds_signs more) xs ∙ append_assoc (prim_signs p) (muls_signs ms) (adds_signs more ++ xs));
  written = refl;
}

pub mul_mark-is : (op : MulOp) → is_mul (Symbol (mul_mark op)) ≡ true
mul_mark-is Times = refl
mul_mark-is Over = refl
mul_mark-is Rest = refl

pub add_mark-is : (op : AddOp) → is_op (Symbol (add_mark op)) ≡ true
add_mark-is Plus = refl
add_mark-is Minus = refl

-- a token at which nothing more may begin
pub absurd-head : {A : Type 0} (f : Sign → Bool) (xs ts : List Sign) (t : Sign) → NoHead f xs → xs ≡ t ∷ ts → f t ≡ true → A
absurd-head f xs ts t h e k = absurd (let no : f t ≡ false = subst (λ (z : List Sign). NoHead f z) e h in cc)

pub forth-mul : (w : What) (at : ℕ) (p : Muls) (t : Sign) (xs ts : List Sign) → MulsMay p → NoHead is_mul xs → is_mul t ≡ true → muls_signs p ++ xs ≡ t ∷ ts
    → Forth (goal.Prim ∷ goal.Leaf w at ∷ goal.Muls ∷ []) xs ts
forth-mul w at NoMul t xs ts m h k e = absurd-head is_mul xs ts t h e k
forth-mul w at (Mul op p more) t xs ts m h k e = record {
  parts = (p, (tt, (more, tt)));
  may = (m.0, (tt, (m.1, tt)));
  ends = (tt, (tt, (h, tt)));
  spelled = let f : (prim_signs p ++ muls_signs more) ++ xs ≡ ts = cc in sym (append_assoc (prim_signs p) (muls_signs more) xs) ∙ f;
}

pub forth-add : (w : What) (at : ℕ) (p : Adds) (t : Sign) (xs ts : List Sign) → AddsMay p → NoHead is_op xs → is_op t ≡ true → adds_signs p ++ xs ≡ t ∷ ts
    → Forth (goal.Prim ∷ goal.Muls ∷ goal.Leaf w at ∷ goal.Adds ∷ []) xs ts
forth-add w at NoAdd t xs ts m h k e = absurd-head is_op xs ts t h e k
forth-add w at (Add op (Product p ms) more) t xs ts m h k e = record {
  parts = (p, (ms, (tt, (more, tt))));
  may = (m.0.0, (m.0.1, (tt, (m.1, tt))));
  ends = (tt, (adds-no_mul more xs h, (tt, (h, tt))));
  spelled = let f : ((prim_signs p ++ muls_signs ms) ++ adds_signs more) ++ xs ≡ ts = cc in
      sym (append_assoc (prim_signs p ++ muls_signs ms) (adds_signs more) xs ∙ append_assoc (prim_signs p) (muls_signs ms) (adds_signs more ++ xs)) ∙ f;
}

-- ---- operands
abbrev pub operand_goals : ℕ → ℕ → List Goal
operand_goals at left = goal.Prim ∷ goal.Muls ∷ goal.Adds ∷ goal.Leaf what.Arg at ∷ goal.Operands left ∷ []

expr-before : (p : Prim) (ms : Muls) (more : Adds) (xs : List Sign) → expr_signs (Sum (Product p ms) more) ++ xs ≡ prim_signs p ++ (muls_signs ms ++ (adds_signs more ++ xs))
expr-before p ms more xs = append_assoc (prim_signs p ++ muls_signs ms) (adds_signs more) xs ∙ append_assoc (prim_signs p) (muls_signs ms) (adds_signs more ++ xs)

pub back-operand : (s : Spot) (left : ℕ) (q : Parts (operand_goals s.at left)) → PartsMay (operand_goals s.at left) q → Back (goal.Operands (left + 1)) [] (operand_goals s.at left) q s s
back-operand s left (p, (ms, (more, (u, (es, v))))) h = record {
  part = Sum (Product p ms) more ∷ es;
  may = (omega (arith, h.1.1.1.1.0.0), All-cons ExprMay (Sum (Product p ms) more) es ((h.0, h.1.0), h.1.1.0) h.1.1.1.1.0.1);
  spelled = λ xs. append_assoc (expr_signs (Sum (Product p ms) more)) (operands_signs es) xs ∙ expr-before p ms more (operands_signs es ++ xs);
  written = refl;
}

pub forth-operand : (at left : ℕ) (es : List Expr) (xs : List Sign) → length es ≡ left + 1 → All ExprMay es → NoHead is_op xs → Forth (operand_goals at left) xs (operands_signs es ++ xs)
forth-operand at left [] xs l m h = absurd (omega (arith, l))
forth-operand at left (Sum (Product p ms) more ∷ es) xs l m h = record {
  parts = (p, (ms, (more, (tt, (es, tt)))));
  may = let e = All-head ExprMay (Sum (Product p ms) more) es m in (e.0.0, (e.0.1, (e.1, (tt, ((omega (arith, l), All-tail ExprMay (Sum (Product p ms) more) es m), tt)))));
  ends = (tt, (adds-no_mul more (operands_signs es ++ xs) (operands-no_op es xs h), (operands-no_op es xs h, (tt, (h, tt)))));
  spelled = sym (append_assoc (expr_signs (Sum (Product p ms) more)) (operands_signs es) xs ∙ expr-before p ms more (operands_signs es ++ xs));
}

-- ---- parentheses
abbrev pub paren_goals : List Goal
paren_goals = goal.Prim ∷ goal.Muls ∷ goal.Adds ∷ goal.Fixed fixed.CloseParenthesis ∷ []

pub back-paren : (s : Spot) (q : Parts paren_goals) → PartsMay paren_goals q → Back goal.Prim (Symbol mark.OpenParenthesis ∷ []) paren_goals q s (taken s)
back-paren s (p, (ms, (more, (u, v)))) h = record {
  part = Paren (Sum (Product p ms) more);
  may = ((h.0, h.1.0), h.1.1.0);
  spelled = λ xs. ap (λ z. Symbol mark.OpenParenthesis ∷ z) (append_assoc (expr_signs (Sum (Product p ms) more)) (Symbol mark.CloseParenthesis ∷ []) xs ∙ expr-before p ms more (Symbol mark.CloseParenthesis ∷ xs));
  written = refl;
}

pub forth-paren : (p : Prim) (xs ts : List Sign) → PrimMay p → prim_signs p ++ xs ≡ Symbol mark.OpenParenthesis ∷ ts → Forth paren_goals xs ts
forth-paren (Paren (Sum (Product p ms) more)) xs ts m e = record {
  parts = (p, (ms, (more, (tt, tt))));
  may = (m.0.0, (m.0.1, (m.1, (tt, tt))));
  ends = (tt, (adds-no_mul more (Symbol mark.CloseParenthesis ∷ xs) refl, (refl, (tt, tt))));
  spelled = let f : (expr_signs (Sum (Product p ms) more) ++ Symbol mark.CloseParenthesis ∷ []) ++ xs ≡ ts = cc in
      sym (append_assoc (expr_signs (Sum (Product p ms) more)) (Symbol mark.CloseParenthesis ∷ []) xs ∙ expr-before p ms more (Symbol mark.CloseParenthesis ∷ xs)) ∙ f;
}
forth-paren p xs ts m e = cc
