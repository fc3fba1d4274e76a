-- The goals of bodies: what stands for them, and what follows their first tokens
use Rattle.std.proofs.Common.{◌≡◌, ℕ, true, false, List, [], ◌∷◌, ◌++◌, length, Option, Some, None, refl, sym, ap, ◌∙◌, subst, append_assoc, arith, cond}
use Rattle.std.specs.Prelude.{All, count_by, is_some}
use Rattle.std.specs.List.{filter_map}
use Rattle.std.proofs.lemmas.List.{append-nil}
use Rattle.std.proofs.lemmas.List.Sums.{sum_by_from}
use Rattle.std.proofs.lemmas.List.Elements.{All-cons, All-head}
use Rattle.qm_parse.specs.declared.goals.Fixed.TheVariants as fixed
use Rattle.qm_parse.specs.declared.goals.Goal.{Goal}
use Rattle.qm_parse.specs.declared.goals.Goal.TheVariants as goal
use Rattle.qm_parse.specs.declared.words.Keyword.TheVariants as keyword
use Rattle.qm_parse.specs.declared.words.Mark.TheVariants as mark
use Rattle.qm_parse.specs.declared.words.Operand.{Operand}
use Rattle.qm_parse.specs.declared.words.Verb.{Verb}
use Rattle.qm_parse.specs.Words.{operands_of, is_gate, takes_gate}
use Rattle.qm_parse.specs.Signs.{Sign, Key, Act, Ident, Symbol}
use Rattle.qm_parse.specs.Trees.{Expr, Call, Body, Nothing, Then, Do, DoUnder, For, ExprMay, CallMay, BodyMay}
use Rattle.qm_parse.specs.Spelling.{expr_signs, operands_signs, call_signs, body_signs}
use Rattle.qm_parse.specs.declared.tree.What.TheVariants as what
use Rattle.qm_parse.proofs.Behind.{Spot, taken, noted, finished, behind_operand, behind_operands, behind_body, behind_braced}
use Rattle.qm_parse.proofs.Parts.{Parts, PartsMay, NoHead, is_op, is_inner, Back, Forth}
use Rattle.qm_parse.proofs.ExprSteps.{NoHead-weaker, absurd-head}

-- ---- heads
inner-op : (t : Sign) → is_inner t ≡ false → is_op t ≡ false
inner-op (Symbol mark.Times) e = e
inner-op (Symbol mark.Over) e = e
inner-op (Symbol mark.Rest) e = e
inner-op (Symbol mark.Plus) e = e
inner-op (Symbol mark.Minus) e = e
inner-op t e = refl

pub body-no_op : (more : Body) (xs : List Sign) → NoHead is_inner xs → NoHead is_op (body_signs more ++ xs)
body-no_op Nothing xs h = NoHead-weaker is_inner is_op xs inner-op h
body-no_op (Then (Do c) more) xs h = refl
body-no_op (Then (DoUnder c g) more) xs h = refl
body-no_op (Then (For name a b body) more) xs h = refl

length-operands : (os : List (Option Operand)) → length (filter_map (λ o. o) os) ≡ count_by is_some os
length-operands [] = refl
length-operands (Some o ∷ os) = let e = sum_by_from (λ (x : Option Operand). cond (is_some x) 1 0) 1 os in let k = length-operands os in omega (arith, e, k)
length-operands (None ∷ os) = length-operands os

pub count-is : (v : Verb) → length (operands_of v) ≡ count_by is_some v.operands
count-is v = length-operands v.operands

abbrev call : Verb → List Expr → Call
call v es = record { verb = v; operands = es }

-- ---- an instruction
abbrev pub do_goals : ℕ → ℕ → List Goal
do_goals n base = goal.Operands n ∷ goal.Close base ∷ goal.Body ∷ []

pub back-do : (v : Verb) (s : Spot) (q : Parts (do_goals (count_by is_some v.operands) (length s.nodes))) → takes_gate v.action ≡ false → PartsMay (do_goals (count_by is_some v.operands) (length s.nodes)) q
    → Back goal.Body (Act v ∷ []) (do_goals (count_by is_some v.operands) (length s.nodes)) q s (noted what.Instr 0 s)
back-do v s (es, (u, (more, w))) g h = record {
  part = Then (Do (call v es)) more;
  may = ((g, record { count = h.0.0 ∙ sym (count-is v); operands = h.0.1 }), h.1.1.0);
  spelled = λ xs. ap (λ z. Act v ∷ z) (append_assoc (operands_signs es) (body_signs more) xs);
  written = refl;
}

same-gate : {A : Type 0} (c : Call) (v : Verb) → c.verb ≡ v → takes_gate c.verb.action ≡ true → takes_gate v.action ≡ false → A
same-gate c v e t f = absurd (let k : takes_gate v.action ≡ true = subst (λ (x : Verb). takes_gate x.action ≡ true) e t in cc)

pub forth-do : (v : Verb) (base : ℕ) (p : Body) (xs ts : List Sign) → takes_gate v.action ≡ false → BodyMay p → NoHead is_inner xs → body_signs p ++ xs ≡ Act v ∷ ts
    → Forth (do_goals (count_by is_some v.operands) base) xs ts
forth-do v base Nothing xs ts g m h e = absurd-head is_inner xs ts (Act v) h e refl
forth-do v base (Then (Do c) more) xs ts g m h e =
    let same : c.verb ≡ v = cc in
    let f : (operands_signs c.operands ++ body_signs more) ++ xs ≡ ts = cc in record {
      parts = (c.operands, (tt, (more, tt)));
      may = ((m.0.1.count ∙ ap (λ (x : Verb). length (operands_of x)) same ∙ count-is v, m.0.1.operands), (tt, (m.1, tt)));
      ends = (body-no_op more xs h, (tt, (h, tt)));
      spelled = sym (append_assoc (operands_signs c.operands) (body_signs more) xs) ∙ f;
    }
forth-do v base (Then (DoUnder c d) more) xs ts g m h e = let same : c.verb ≡ v = cc in same-gate c v same m.0.0 g
forth-do v base (Then (For name a b body) more) xs ts g m h e = cc

-- ---- an instruction over a gate
abbrev pub under_goals : ℕ → ℕ → List Goal
under_goals n base = goal.Operands n ∷ goal.Gate ∷ goal.Close base ∷ goal.Body ∷ []

pub back-under : (v : Verb) (s : Spot) (q : Parts (under_goals (count_by is_some v.operands) (length s.nodes))) → takes_gate v.action ≡ true → PartsMay (under_goals (count_by is_some v.operands) (length s.nodes)) q
    → Back goal.Body (Act v ∷ []) (under_goals (count_by is_some v.operands) (length s.nodes)) q s (noted what.Instr 0 s)
back-under v s (es, (d, (u, (more, w)))) g h = record {
  part = Then (DoUnder (call v es) d) more;
  may = ((g, record { count = h.0.0 ∙ sym (count-is v); operands = h.0.1 }, h.1.0.0, h.1.0.1), h.1.1.1.0);
  spelled = λ xs. ap (λ z. Act v ∷ z) (append_assoc (operands_signs es ++ call_signs d) (body_signs more) xs ∙ append_assoc (operands_signs es) (call_signs d) (body_signs more ++ xs));
  written = refl;
}

pub forth-under : (v : Verb) (base : ℕ) (p : Body) (xs ts : List Sign) → takes_gate v.action ≡ true → BodyMay p → NoHead is_inner xs → body_signs p ++ xs ≡ Act v ∷ ts
    → Forth (under_goals (count_by is_some v.operands) base) xs ts
forth-under v base Nothing xs ts g m h e = absurd-head is_inner xs ts (Act v) h e refl
forth-under v base (Then (DoUnder c d) more) xs ts g m h e =
    let same : c.verb ≡ v = cc in
    let f : ((operands_signs c.operands ++ call_signs d) ++ body_signs more) ++ xs ≡ ts = cc in record {
      parts = (c.operands, (d, (tt, (more, tt))));
      may = ((m.0.1.count ∙ ap (λ (x : Verb). length (operands_of x)) same ∙ count-is v, m.0.1.operands), ((m.0.2, m.0.3), (tt, (m.1, tt))));
      ends = (refl, (body-no_op more xs h, (tt, (h, tt))));
      spelled = sym (append_assoc (operands_signs c.operands ++ call_signs d) (body_signs more) xs ∙ append_assoc (operands_signs c.operands) (call_signs d) (body_signs more ++ xs)) ∙ f;
    }
forth-under v base (Then (Do c) more) xs ts g m h e = let same : v ≡ c.verb = cc in same-gate (call v []) c.verb same g m.0.0
forth-under v base (Then (For name a b body) more) xs ts g m h e = cc

-- ---- a gate
abbrev pub gate_calls : ℕ → ℕ → List Goal
gate_calls n base = goal.Operands n ∷ goal.Close base ∷ []

pub back-gate : (v : Verb) (s : Spot) (q : Parts (gate_calls (count_by is_some v.operands) (length s.nodes))) → is_gate v.action ≡ true → PartsMay (gate_calls (count_by is_some v.operands) (length s.nodes)) q
    → Back goal.Gate (Act v ∷ []) (gate_calls (count_by is_some v.operands) (length s.nodes)) q s (noted what.Instr 0 s)
back-gate v s (es, (u, w)) g h = record {
  part = call v es;
  may = (g, record { count = h.0.0 ∙ sym (count-is v); operands = h.0.1 });
  spelled = λ xs. refl;
  written = refl;
}

pub forth-gate : (v : Verb) (base : ℕ) (p : Call) (xs ts : List Sign) → CallMay p → NoHead is_op xs → call_signs p ++ xs ≡ Act v ∷ ts → Forth (gate_calls (count_by is_some v.operands) base) xs ts
forth-gate v base p xs ts m h e = let same : p.verb ≡ v = cc in record {
  parts = (p.operands, (tt, tt));
  may = ((m.count ∙ ap (λ (x : Verb). length (operands_of x)) same ∙ count-is v, m.operands), (tt, tt));
  ends = (h, (tt, tt));
  spelled = cc;
}

-- ---- a loop
abbrev pub for_goals : ℕ → List Goal
for_goals base =
    goal.Name ∷ goal.Fixed fixed.In ∷ goal.Operands 1 ∷ goal.Fixed fixed.Dots ∷ goal.Operands 1 ∷ goal.Braced ∷ goal.Close base ∷ goal.Body ∷ []

-- one operand alone
only : (es : List Expr) → length es ≡ 1 → All ExprMay es → (e : Expr) × (operands_signs es ≡ expr_signs e) × ExprMay e × (es ≡ e ∷ [])
only [] l m = absurd (omega arith)
only (e ∷ []) l m = (e, append-nil (expr_signs e), All-head ExprMay e [] m, refl)
only (e ∷ d ∷ es) l m = absurd (omega arith)

abbrev for_tail : List Sign → List Sign → List Sign → List Sign
for_tail a b body = a ++ Symbol mark.Dots ∷ (b ++ Symbol mark.OpenBrace ∷ (body ++ Symbol mark.CloseBrace ∷ []))

for_tail-before : (a b body xs : List Sign) → for_tail a b body ++ xs ≡ a ++ Symbol mark.Dots ∷ (b ++ Symbol mark.OpenBrace ∷ ((body ++ Symbol mark.CloseBrace ∷ []) ++ xs))
for_tail-before a b body xs =
    append_assoc a (Symbol mark.Dots ∷ (b ++ Symbol mark.OpenBrace ∷ (body ++ Symbol mark.CloseBrace ∷ []))) xs
    ∙ ap (λ z. a ++ Symbol mark.Dots ∷ z) (append_assoc b (Symbol mark.OpenBrace ∷ (body ++ Symbol mark.CloseBrace ∷ [])) xs)

pub back-for : (s : Spot) (q : Parts (for_goals (length s.nodes))) → PartsMay (for_goals (length s.nodes)) q → Back goal.Body (Key keyword.For ∷ []) (for_goals (length s.nodes)) q s (noted what.For 0 s)
back-for s (name, (u, (lows, (u2, (highs, (body, (u3, (more, w)))))))) h =
    let a = only lows h.1.1.0.0 h.1.1.0.1 in
    let b = only highs h.1.1.1.1.0.0 h.1.1.1.1.0.1 in record {
      part = Then (For name a.0 b.0 body) more;
      may = ((a.2, b.2, h.1.1.1.1.1.0), h.1.1.1.1.1.1.1.0);
      spelled = λ xs. ap (λ z. Key keyword.For ∷ Ident name ∷ Key keyword.In ∷ z)
          (append_assoc (for_tail (expr_signs a.0) (expr_signs b.0) (body_signs body)) (body_signs more) xs
          ∙ for_tail-before (expr_signs a.0) (expr_signs b.0) (body_signs body) (body_signs more ++ xs)
          ∙ ap (λ (z : List Sign). z ++ Symbol mark.Dots ∷ (expr_signs b.0 ++ Symbol mark.OpenBrace ∷ ((body_signs body ++ Symbol mark.CloseBrace ∷ []) ++ (body_signs more ++ xs)))) (sym a.1)
          ∙ ap (λ (z : List Sign). operands_signs lows ++ Symbol mark.Dots ∷ (z ++ Symbol mark.OpenBrace ∷ ((body_signs body ++ Symbol mark.CloseBrace ∷ []) ++ (body_signs more ++ xs)))) (sym b.1));
      written = ap (λ (x : List Expr). behind_body more (finished (length s.nodes) (behind_braced body (behind_operand b.0 (taken (behind_operands x (taken (taken (noted what.For 0 s))))))))) (sym a.3)
          ∙ ap (λ (x : List Expr). behind_body more (finished (length s.nodes) (behind_braced body (behind_operands x (taken (behind_operands lows (taken (taken (noted what.For 0 s))))))))) (sym b.3);
    }

one : (e : Expr) → ExprMay e → All ExprMay (e ∷ [])
one e m = All-cons ExprMay e [] m (λ k d h. absurd (omega arith))

pub forth-for : (base : ℕ) (p : Body) (xs ts : List Sign) → BodyMay p → NoHead is_inner xs → body_signs p ++ xs ≡ Key keyword.For ∷ ts → Forth (for_goals base) xs ts
forth-for base Nothing xs ts m h e = absurd-head is_inner xs ts (Key keyword.For) h e refl
forth-for base (Then (For name a b body) more) xs ts m h e =
    let f : Ident name ∷ Key keyword.In ∷ ((for_tail (expr_signs a) (expr_signs b) (body_signs body) ++ body_signs more) ++ xs) ≡ ts = cc in record {
      parts = (name, (tt, (a ∷ [], (tt, (b ∷ [], (body, (tt, (more, tt))))))));
      may = (tt, (tt, ((refl, one a m.0.0), (tt, ((refl, one b m.0.1), (m.0.2, (tt, (m.1, tt))))))));
      ends = (tt, (tt, (refl, (tt, (refl, (tt, (tt, (h, tt))))))));
      spelled = ap (λ z. Ident name ∷ Key keyword.In ∷ z)
          (ap (λ (z : List Sign). z ++ Symbol mark.Dots ∷ ((expr_signs b ++ []) ++ Symbol mark.OpenBrace ∷ ((body_signs body ++ Symbol mark.CloseBrace ∷ []) ++ (body_signs more ++ xs)))) (append-nil (expr_signs a))
          ∙ ap (λ (z : List Sign). expr_signs a ++ Symbol mark.Dots ∷ (z ++ Symbol mark.OpenBrace ∷ ((body_signs body ++ Symbol mark.CloseBrace ∷ []) ++ (body_signs more ++ xs)))) (append-nil (expr_signs b))
          ∙ sym (append_assoc (for_tail (expr_signs a) (expr_signs b) (body_signs body)) (body_signs more) xs
          ∙ for_tail-before (expr_signs a) (expr_signs b) (body_signs body) (body_signs more ++ xs))) ∙ f;
    }
forth-for base (Then (Do c) more) xs ts m h e = cc
forth-for base (Then (DoUnder c d) more) xs ts m h e = cc

-- ---- a body in braces
abbrev pub braced_goals : List Goal
braced_goals = goal.Body ∷ goal.Fixed fixed.CloseBrace ∷ []

pub back-braced : (s : Spot) (q : Parts braced_goals) → PartsMay braced_goals q → Back goal.Braced (Symbol mark.OpenBrace ∷ []) braced_goals q s (taken s)
back-braced s (b, (u, w)) h = record {
  part = b;
  may = h.0;
  spelled = λ xs. ap (λ z. Symbol mark.OpenBrace ∷ z) (append_assoc (body_signs b) (Symbol mark.CloseBrace ∷ []) xs);
  written = refl;
}

pub forth-braced : (p : Body) (xs ts : List Sign) → BodyMay p → Symbol mark.OpenBrace ∷ ((body_signs p ++ Symbol mark.CloseBrace ∷ []) ++ xs) ≡ Symbol mark.OpenBrace ∷ ts → Forth braced_goals xs ts
forth-braced p xs ts m e = record {
  parts = (p, (tt, tt));
  may = (m, (tt, tt));
  ends = (refl, (tt, tt));
  spelled = let f : (body_signs p ++ Symbol mark.CloseBrace ∷ []) ++ xs ≡ ts = cc in sym (append_assoc (body_signs p) (Symbol mark.CloseBrace ∷ []) xs) ∙ f;
}
