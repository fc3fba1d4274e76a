-- Tokens spell one source tree at most
use Rattle.std.proofs.Common.{◌≡◌, ℕ, ◌+◌, ◌≤◌, Bool, true, false, List, [], ◌∷◌, ◌++◌, length, map, refl, sym, ap, ◌∙◌, subst, append_assoc, arith, if◌then◌else◌}
use Rattle.std.specs.Prelude.{All}
use Rattle.std.proofs.lemmas.List.Elements.{All-head, All-tail}
use Rattle.qm_parse.specs.declared.words.Keyword.TheVariants as keyword
use Rattle.qm_parse.specs.declared.words.Mark.TheVariants as mark
use Rattle.qm_parse.specs.declared.words.Verb.{Verb}
use Rattle.qm_parse.specs.declared.words.Version.{Version}
use Rattle.qm_parse.specs.Words.{operands_of, takes_gate, bits_word, size_count}
use Rattle.qm_parse.specs.Signs.{Sign, Number, Key, Act, Ident, Symbol}
use Rattle.qm_parse.specs.Trees.{AddOp, Plus, Minus, MulOp, Times, Over, Rest, Expr, Sum, Adds, NoAdd, Add, Term, Product, Muls, NoMul, Mul, Prim, Num, Name, Rank, Size, Paren, Call, Body, Nothing, Then, Stmt, Do, DoUnder, For, Blocks, ForAll, ForEach, TapeLine, Program, CallMay, BodyMay, StmtMay, BlocksMay}
use Rattle.qm_parse.specs.Spelling.{add_mark, mul_mark, expr_signs, adds_signs, term_signs, muls_signs, prim_signs, operands_signs, call_signs, body_signs, stmt_signs, each_signs, blocks_signs, tapes_signs, numbers_signs}
use Rattle.qm_parse.specs.Faults.{Spells}
use Rattle.qm_parse.proofs.ListLemmas.{head-same, tail-same}
use Rattle.qm_parse.proofs.Parts.{NoHead, is_mul, is_op, is_inner}
use Rattle.qm_parse.proofs.ExprSteps.{absurd-head, adds-no_mul, operands-no_op, mul_mark-is, add_mark-is}
use Rattle.qm_parse.proofs.BodySteps.{body-no_op}
use Rattle.qm_parse.proofs.FrameSteps.{version-same}

-- ---- tokens
number-same : {v w : ℕ} → Number v ≡ Number w → v ≡ w
number-same e = cc

name-same : {v w : List ℕ} → Ident v ≡ Ident w → v ≡ w
name-same e = cc

-- the same, where both sides are two lists and others behind them
regroup : {A : Type 0} (a b xs c d ys : List A) → (a ++ b) ++ xs ≡ (c ++ d) ++ ys → a ++ (b ++ xs) ≡ c ++ (d ++ ys)
regroup a b xs c d ys e = sym (append_assoc a b xs) ∙ e ∙ append_assoc c d ys

-- ---- expressions
add_mark-same : (o p : AddOp) → Symbol (add_mark o) ≡ Symbol (add_mark p) → o ≡ p
add_mark-same Plus Plus e = refl
add_mark-same Minus Minus e = refl
add_mark-same o p e = cc

mul_mark-same : (o p : MulOp) → Symbol (mul_mark o) ≡ Symbol (mul_mark p) → o ≡ p
mul_mark-same Times Times e = refl
mul_mark-same Over Over e = refl
mul_mark-same Rest Rest e = refl
mul_mark-same o p e = cc

mutual
  expr-same : (p q : Expr) (xs ys : List Sign) → NoHead is_op xs → NoHead is_op ys → expr_signs p ++ xs ≡ expr_signs q ++ ys → (p ≡ q) × (xs ≡ ys)
  expr-same (Sum t more) (Sum u rest) xs ys h k e =
      let a = term-same t u (adds_signs more ++ xs) (adds_signs rest ++ ys) (adds-no_mul more xs h) (adds-no_mul rest ys k) (regroup (term_signs t) (adds_signs more) xs (term_signs u) (adds_signs rest) ys e) in
      let b = adds-same more rest xs ys h k a.1 in (ap (λ x. Sum x more) a.0 ∙ ap (λ x. Sum u x) b.0, b.1)

  adds-same : (p q : Adds) (xs ys : List Sign) → NoHead is_op xs → NoHead is_op ys → adds_signs p ++ xs ≡ adds_signs q ++ ys → (p ≡ q) × (xs ≡ ys)
  adds-same NoAdd NoAdd xs ys h k e = (refl, e)
  adds-same NoAdd (Add o u rest) xs ys h k e = absurd-head is_op xs ((term_signs u ++ adds_signs rest) ++ ys) (Symbol (add_mark o)) h e (add_mark-is o)
  adds-same (Add o t more) NoAdd xs ys h k e = absurd-head is_op ys ((term_signs t ++ adds_signs more) ++ xs) (Symbol (add_mark o)) k (sym e) (add_mark-is o)
  adds-same (Add o t more) (Add p u rest) xs ys h k e =
      let a = term-same t u (adds_signs more ++ xs) (adds_signs rest ++ ys) (adds-no_mul more xs h) (adds-no_mul rest ys k) (regroup (term_signs t) (adds_signs more) xs (term_signs u) (adds_signs rest) ys (tail-same e)) in
      let b = adds-same more rest xs ys h k a.1 in
      (ap (λ x. Add x t more) (add_mark-same o p (head-same e)) ∙ ap (λ x. Add p x more) a.0 ∙ ap (λ x. Add p u x) b.0, b.1)

  term-same : (p q : Term) (xs ys : List Sign) → NoHead is_mul xs → NoHead is_mul ys → term_signs p ++ xs ≡ term_signs q ++ ys → (p ≡ q) × (xs ≡ ys)
  term-same (Product p more) (Product q rest) xs ys h k e =
      let a = prim-same p q (muls_signs more ++ xs) (muls_signs rest ++ ys) (regroup (prim_signs p) (muls_signs more) xs (prim_signs q) (muls_signs rest) ys e) in
      let b = muls-same more rest xs ys h k a.1 in (ap (λ x. Product x more) a.0 ∙ ap (λ x. Product q x) b.0, b.1)

  muls-same : (p q : Muls) (xs ys : List Sign) → NoHead is_mul xs → NoHead is_mul ys → muls_signs p ++ xs ≡ muls_signs q ++ ys → (p ≡ q) × (xs ≡ ys)
  muls-same NoMul NoMul xs ys h k e = (refl, e)
  muls-same NoMul (Mul o q rest) xs ys h k e = absurd-head is_mul xs ((prim_signs q ++ muls_signs rest) ++ ys) (Symbol (mul_mark o)) h e (mul_mark-is o)
  muls-same (Mul o p more) NoMul xs ys h k e = absurd-head is_mul ys ((prim_signs p ++ muls_signs more) ++ xs) (Symbol (mul_mark o)) k (sym e) (mul_mark-is o)
  muls-same (Mul o p more) (Mul r q rest) xs ys h k e =
      let a = prim-same p q (muls_signs more ++ xs) (muls_signs rest ++ ys) (regroup (prim_signs p) (muls_signs more) xs (prim_signs q) (muls_signs rest) ys (tail-same e)) in
      let b = muls-same more rest xs ys h k a.1 in
      (ap (λ x. Mul x p more) (mul_mark-same o r (head-same e)) ∙ ap (λ x. Mul r x more) a.0 ∙ ap (λ x. Mul r q x) b.0, b.1)

  prim-same : (p q : Prim) (xs ys : List Sign) → prim_signs p ++ xs ≡ prim_signs q ++ ys → (p ≡ q) × (xs ≡ ys)
  prim-same (Num v) (Num w) xs ys e = let n : v ≡ w = cc in (ap (λ x. Num x) n, tail-same e)
  prim-same (Name v) (Name w) xs ys e = let n : v ≡ w = cc in (ap (λ x. Name x) n, tail-same e)
  prim-same Rank Rank xs ys e = (refl, tail-same e)
  prim-same Size Size xs ys e = (refl, tail-same e)
  prim-same (Paren p) (Paren q) xs ys e =
      let a = expr-same p q (Symbol mark.CloseParenthesis ∷ xs) (Symbol mark.CloseParenthesis ∷ ys) refl refl
      (regroup (expr_signs p) (Symbol mark.CloseParenthesis ∷ []) xs (expr_signs q) (Symbol mark.CloseParenthesis ∷ []) ys (tail-same e)) in
      (ap (λ x. Paren x) a.0, tail-same a.1)
  prim-same p q xs ys e = absurd cc

operands-same : (es fs : List Expr) (xs ys : List Sign) → length es ≡ length fs → NoHead is_op xs → NoHead is_op ys → operands_signs es ++ xs ≡ operands_signs fs ++ ys → (es ≡ fs) × (xs ≡ ys)
operands-same [] [] xs ys l h k e = (refl, e)
operands-same [] (f ∷ fs) xs ys l h k e = absurd (omega (arith, l))
operands-same (x ∷ es) [] xs ys l h k e = absurd (omega (arith, l))
operands-same (x ∷ es) (f ∷ fs) xs ys l h k e =
    let a = expr-same x f (operands_signs es ++ xs) (operands_signs fs ++ ys) (operands-no_op es xs h) (operands-no_op fs ys k) (regroup (expr_signs x) (operands_signs es) xs (expr_signs f) (operands_signs fs) ys e) in
    let b = operands-same es fs xs ys (omega (arith, l)) h k a.1 in
    (ap (λ (z : Expr). z ∷ es) a.0 ∙ ap (λ z. f ∷ z) b.0, b.1)

-- ---- bodies
call-same : (c d : Call) (xs ys : List Sign) → CallMay c → CallMay d → NoHead is_op xs → NoHead is_op ys → call_signs c ++ xs ≡ call_signs d ++ ys → (c ≡ d) × (xs ≡ ys)
call-same c d xs ys m n h k e =
    let v : c.verb ≡ d.verb = cc in
    let l : length c.operands ≡ length d.operands = m.count ∙ ap (λ (x : Verb). length (operands_of x)) v ∙ sym n.count in
    let a = operands-same c.operands d.operands xs ys l h k (tail-same e) in
    (ap (λ (x : Verb). made x c.operands) v ∙ ap (λ x. made d.verb x) a.0, a.1)
  where
    made : Verb → List Expr → Call
    made v es = record { verb = v; operands = es }

-- a verb that takes a gate isn't one that takes none
gate-or-not : {A : Type 0} (c d : Call) (xs ys : List Sign) → takes_gate c.verb.action ≡ true → takes_gate d.verb.action ≡ false → call_signs c ++ xs ≡ call_signs d ++ ys → A
gate-or-not c d xs ys t f e =
    let v : c.verb ≡ d.verb = cc in absurd (let k : takes_gate d.verb.action ≡ true = subst (λ (x : Verb). takes_gate x.action ≡ true) v t in cc)

-- what a loop's bounds and body begin with, and what is behind them
loop-group : (a b c xs : List Sign) (x y z : Sign) → (a ++ x ∷ (b ++ y ∷ (c ++ z ∷ []))) ++ xs ≡ a ++ x ∷ (b ++ y ∷ (c ++ z ∷ xs))
loop-group a b c xs x y z =
    append_assoc a (x ∷ (b ++ y ∷ (c ++ z ∷ []))) xs
    ∙ ap (λ w. a ++ x ∷ w) (append_assoc b (y ∷ (c ++ z ∷ [])) xs ∙ ap (λ w. b ++ y ∷ w) (append_assoc c (z ∷ []) xs))

-- the bounds of two loops, and what is behind them
bounds : (a c b d : Expr) (xs ys : List Sign) → expr_signs a ++ Symbol mark.Dots ∷ (expr_signs b ++ Symbol mark.OpenBrace ∷ xs) ≡ expr_signs c ++ Symbol mark.Dots ∷ (expr_signs d ++ Symbol mark.OpenBrace ∷ ys)
    → (a ≡ c) × (b ≡ d) × (xs ≡ ys)
bounds a c b d xs ys e =
    let one = expr-same a c (Symbol mark.Dots ∷ (expr_signs b ++ Symbol mark.OpenBrace ∷ xs)) (Symbol mark.Dots ∷ (expr_signs d ++ Symbol mark.OpenBrace ∷ ys)) refl refl e in
    let two = expr-same b d (Symbol mark.OpenBrace ∷ xs) (Symbol mark.OpenBrace ∷ ys) refl refl (tail-same one.1) in
    (one.0, two.0, tail-same two.1)

-- two loops, whose bodies are the same where they are spelled the same
loop-same : (u v : List ℕ) (a c b d : Expr) (body other : Body) (xs ys : List Sign) → stmt_signs (For u a b body) ++ xs ≡ stmt_signs (For v c d other) ++ ys
    → ((xs ys : List Sign) → body_signs body ++ Symbol mark.CloseBrace ∷ xs ≡ body_signs other ++ Symbol mark.CloseBrace ∷ ys → (body ≡ other) × (Symbol mark.CloseBrace ∷ xs ≡ Symbol mark.CloseBrace ∷ ys))
    → (For u a b body ≡ For v c d other) × (xs ≡ ys)
loop-same u v a c b d body other xs ys e inner = by_parts (bounds a c b d (body_signs body ++ Symbol mark.CloseBrace ∷ xs) (body_signs other ++ Symbol mark.CloseBrace ∷ ys) spelled)
  where
    spelled : expr_signs a ++ Symbol mark.Dots ∷ (expr_signs b ++ Symbol mark.OpenBrace ∷ (body_signs body ++ Symbol mark.CloseBrace ∷ xs))
        ≡ expr_signs c ++ Symbol mark.Dots ∷ (expr_signs d ++ Symbol mark.OpenBrace ∷ (body_signs other ++ Symbol mark.CloseBrace ∷ ys))
    spelled =
        sym (loop-group (expr_signs a) (expr_signs b) (body_signs body) xs (Symbol mark.Dots) (Symbol mark.OpenBrace) (Symbol mark.CloseBrace))
        ∙ tail-same (tail-same (tail-same e))
        ∙ loop-group (expr_signs c) (expr_signs d) (body_signs other) ys (Symbol mark.Dots) (Symbol mark.OpenBrace) (Symbol mark.CloseBrace)

    by_parts : (a ≡ c) × (b ≡ d) × (body_signs body ++ Symbol mark.CloseBrace ∷ xs ≡ body_signs other ++ Symbol mark.CloseBrace ∷ ys) → (For u a b body ≡ For v c d other) × (xs ≡ ys)
    by_parts r =
        let name : u ≡ v = name-same (head-same (tail-same e)) in
        let o = inner xs ys r.2 in
        (ap (λ x. For x a b body) name ∙ ap (λ x. For v x b body) r.0 ∙ ap (λ x. For v c x body) r.1 ∙ ap (λ x. For v c d x) o.0, tail-same o.1)

mutual
  body-same : (p q : Body) (xs ys : List Sign) → BodyMay p → BodyMay q → NoHead is_inner xs → NoHead is_inner ys → body_signs p ++ xs ≡ body_signs q ++ ys → (p ≡ q) × (xs ≡ ys)
  body-same Nothing Nothing xs ys m n h k e = (refl, e)
  body-same Nothing (Then (Do d) rest) xs ys m n h k e = absurd-head is_inner xs _ (Act d.verb) h e refl
  body-same Nothing (Then (DoUnder d g) rest) xs ys m n h k e = absurd-head is_inner xs _ (Act d.verb) h e refl
  body-same Nothing (Then (For name a b body) rest) xs ys m n h k e = absurd-head is_inner xs _ (Key keyword.For) h e refl
  body-same (Then (Do c) more) Nothing xs ys m n h k e = absurd-head is_inner ys _ (Act c.verb) k (sym e) refl
  body-same (Then (DoUnder c g) more) Nothing xs ys m n h k e = absurd-head is_inner ys _ (Act c.verb) k (sym e) refl
  body-same (Then (For name a b body) more) Nothing xs ys m n h k e = absurd-head is_inner ys _ (Key keyword.For) k (sym e) refl
  body-same (Then s more) (Then t rest) xs ys m n h k e =
      let a = stmt-same s t (body_signs more ++ xs) (body_signs rest ++ ys) m.0 n.0 (body-no_op more xs h) (body-no_op rest ys k) (regroup (stmt_signs s) (body_signs more) xs (stmt_signs t) (body_signs rest) ys e) in
      let b = body-same more rest xs ys m.1 n.1 h k a.1 in
      (ap (λ x. Then x more) a.0 ∙ ap (λ x. Then t x) b.0, b.1)

  stmt-same : (s t : Stmt) (xs ys : List Sign) → StmtMay s → StmtMay t → NoHead is_op xs → NoHead is_op ys → stmt_signs s ++ xs ≡ stmt_signs t ++ ys → (s ≡ t) × (xs ≡ ys)
  stmt-same (Do c) (Do d) xs ys m n h k e = let a = call-same c d xs ys m.1 n.1 h k e in (ap (λ x. Do x) a.0, a.1)
  stmt-same (Do c) (DoUnder d g) xs ys m n h k e = gate-or-not d c (call_signs g ++ ys) xs n.0 m.0 (sym (append_assoc (call_signs d) (call_signs g) ys) ∙ sym e)
  stmt-same (DoUnder c g) (Do d) xs ys m n h k e = gate-or-not c d (call_signs g ++ xs) ys m.0 n.0 (sym (append_assoc (call_signs c) (call_signs g) xs) ∙ e)
  stmt-same (DoUnder c g) (DoUnder d f) xs ys m n h k e =
      let a = call-same c d (call_signs g ++ xs) (call_signs f ++ ys) m.1 n.1 refl refl (regroup (call_signs c) (call_signs g) xs (call_signs d) (call_signs f) ys e) in
      let b = call-same g f xs ys m.3 n.3 h k a.1 in
      (ap (λ x. DoUnder x g) a.0 ∙ ap (λ x. DoUnder d x) b.0, b.1)
  stmt-same (For u a b body) (For v c d other) xs ys m n h k e =
      loop-same u v a c b d body other xs ys e
      (λ xs ys e. body-same body other (Symbol mark.CloseBrace ∷ xs) (Symbol mark.CloseBrace ∷ ys) m.2 n.2 refl refl e)
  stmt-same (Do c) (For v a b body) xs ys m n h k e = absurd cc
  stmt-same (DoUnder c g) (For v a b body) xs ys m n h k e = absurd cc
  stmt-same (For u a b body) (Do d) xs ys m n h k e = absurd cc
  stmt-same (For u a b body) (DoUnder d g) xs ys m n h k e = absurd cc

-- ---- programs
each-same : (rank : ℕ) (bs cs : List Body) (xs ys : List Sign) → length bs ≡ length cs → All BodyMay bs → All BodyMay cs → each_signs rank bs ++ xs ≡ each_signs rank cs ++ ys → (bs ≡ cs) × (xs ≡ ys)
each-same rank [] [] xs ys l m n e = (refl, e)
each-same rank [] (c ∷ cs) xs ys l m n e = absurd (omega (arith, l))
each-same rank (b ∷ bs) [] xs ys l m n e = absurd (omega (arith, l))
each-same rank (b ∷ bs) (c ∷ cs) xs ys l m n e =
    let a = body-same b c (Key keyword.End ∷ (each_signs (rank + 1) bs ++ xs)) (Key keyword.End ∷ (each_signs (rank + 1) cs ++ ys)) (All-head BodyMay b bs m) (All-head BodyMay c cs n) refl refl
    (regroup (body_signs b) (Key keyword.End ∷ each_signs (rank + 1) bs) xs (body_signs c) (Key keyword.End ∷ each_signs (rank + 1) cs) ys (tail-same (tail-same e))) in
    let o = each-same (rank + 1) bs cs xs ys (omega (arith, l)) (All-tail BodyMay b bs m) (All-tail BodyMay c cs n) (tail-same a.1) in
    (ap (λ (x : Body). x ∷ bs) a.0 ∙ ap (λ x. c ∷ x) o.0, o.1)

blocks-same : (ranks : ℕ) (b c : Blocks) (xs ys : List Sign) → 1 ≤ ranks → BlocksMay ranks b → BlocksMay ranks c → blocks_signs b ++ xs ≡ blocks_signs c ++ ys → (b ≡ c) × (xs ≡ ys)
blocks-same ranks (ForAll b) (ForAll c) xs ys some m n e =
    let a = body-same b c (Key keyword.End ∷ xs) (Key keyword.End ∷ ys) m n refl refl (regroup (body_signs b) (Key keyword.End ∷ []) xs (body_signs c) (Key keyword.End ∷ []) ys (tail-same e)) in
    (ap (λ x. ForAll x) a.0, tail-same a.1)
blocks-same ranks (ForEach bs) (ForEach cs) xs ys some m n e = let a = each-same 0 bs cs xs ys (m.0 ∙ sym n.0) m.1 n.1 e in (ap (λ x. ForEach x) a.0, a.1)
blocks-same ranks (ForAll b) (ForEach []) xs ys some m n e = absurd (omega (arith, some, n.0))
blocks-same ranks (ForEach []) (ForAll b) xs ys some m n e = absurd (omega (arith, some, m.0))
blocks-same ranks (ForAll b) (ForEach (c ∷ cs)) xs ys some m n e = absurd cc
blocks-same ranks (ForEach (c ∷ cs)) (ForAll b) xs ys some m n e = absurd cc

abbrev digit : Bool → ℕ
digit m = if m then 49 else 48

digits-same : (ms ns : List Bool) → map digit ms ≡ map digit ns → ms ≡ ns
digits-same [] [] e = refl
digits-same (true ∷ ms) (true ∷ ns) e = ap (λ z. true ∷ z) (digits-same ms ns (tail-same e))
digits-same (false ∷ ms) (false ∷ ns) e = ap (λ z. false ∷ z) (digits-same ms ns (tail-same e))
digits-same (true ∷ ms) (false ∷ ns) e = absurd (let h : 49 ≡ 48 = head-same e in omega (arith, h))
digits-same (false ∷ ms) (true ∷ ns) e = absurd (let h : 48 ≡ 49 = head-same e in omega (arith, h))
digits-same [] (n ∷ ns) e = absurd cc
digits-same (m ∷ ms) [] e = absurd cc

own-same : (a b : Bool) → Key (if a then keyword.Own else keyword.Protocol) ≡ Key (if b then keyword.Own else keyword.Protocol) → a ≡ b
own-same true true e = refl
own-same false false e = refl
own-same true false e = absurd cc
own-same false true e = absurd cc

abbrev line : Bool → ℕ → List Bool → TapeLine
line own rank outcomes = record { own = own; rank = rank; outcomes = outcomes }

tapes-same : (ts us : List TapeLine) → tapes_signs ts ≡ tapes_signs us → ts ≡ us
tapes-same [] [] e = refl
tapes-same [] (u ∷ us) e = absurd cc
tapes-same (t ∷ ts) [] e = absurd cc
tapes-same (t ∷ ts) (u ∷ us) e =
    let own = own-same t.own u.own (head-same e) in
    let rank : t.rank ≡ u.rank = number-same (head-same (tail-same e)) in
    let word : bits_word t.outcomes ≡ bits_word u.outcomes = name-same (head-same (tail-same (tail-same e))) in
    let outcomes = digits-same t.outcomes u.outcomes (tail-same word) in
    let rest = tapes-same ts us (tail-same (tail-same (tail-same e))) in
    ap (λ x. line x t.rank t.outcomes ∷ ts) own ∙ ap (λ x. line u.own x t.outcomes ∷ ts) rank ∙ ap (λ x. line u.own u.rank x ∷ ts) outcomes ∙ ap (λ x. u ∷ x) rest

numbers-same : (ms ns : List ℕ) (xs ys : List Sign) → length ms ≡ length ns → numbers_signs ms ++ xs ≡ numbers_signs ns ++ ys → (ms ≡ ns) × (xs ≡ ys)
numbers-same [] [] xs ys l e = (refl, e)
numbers-same [] (n ∷ ns) xs ys l e = absurd (omega (arith, l))
numbers-same (m ∷ ms) [] xs ys l e = absurd (omega (arith, l))
numbers-same (m ∷ ms) (n ∷ ns) xs ys l e =
    let one : m ≡ n = number-same (head-same e) in
    let more = numbers-same ms ns xs ys (omega (arith, l)) (tail-same e) in
    (ap (λ (x : ℕ). x ∷ ms) one ∙ ap (λ z. n ∷ z) more.0, more.1)

abbrev whole : Version → ℕ → List ℕ → List ℕ → Blocks → List TapeLine → Program
whole v ranks qubits buffers blocks tapes = record { version = v; ranks = ranks; qubits = qubits; buffers = buffers; blocks = blocks; tapes = tapes }

pub program-same : (signs : List Sign) (p q : Program) → Spells signs p → Spells signs q → p ≡ q
program-same signs p q s t =
    let e = s.spelled ∙ sym t.spelled in
    let v : p.version ≡ q.version = version-same p.version q.version (number-same (head-same (tail-same e))) in
    let f = tail-same (tail-same (tail-same e)) in
    let ranks : p.ranks ≡ q.ranks = number-same (head-same f) in
    let count : size_count p.version p.ranks ≡ size_count q.version q.ranks = ap (λ w. size_count w p.ranks) v ∙ ap (size_count q.version) ranks in
    let g = tail-same (tail-same f) in
    let a = numbers-same p.qubits q.qubits (Key keyword.Buffer ∷ (numbers_signs p.buffers ++ (blocks_signs p.blocks ++ tapes_signs p.tapes)))
    (Key keyword.Buffer ∷ (numbers_signs q.buffers ++ (blocks_signs q.blocks ++ tapes_signs q.tapes)))
    (s.may.qubits.count ∙ count ∙ sym t.may.qubits.count) g in
    let c = numbers-same p.buffers q.buffers (blocks_signs p.blocks ++ tapes_signs p.tapes) (blocks_signs q.blocks ++ tapes_signs q.tapes)
    (s.may.buffers.count ∙ count ∙ sym t.may.buffers.count) (tail-same a.1) in
    let b = blocks-same p.ranks p.blocks q.blocks (tapes_signs p.tapes) (tapes_signs q.tapes) s.may.some_ranks s.may.blocks (subst (λ n. BlocksMay n q.blocks) (sym ranks) t.may.blocks) c.1 in
    let tapes = tapes-same p.tapes q.tapes b.1 in
    ap (λ x. whole x p.ranks p.qubits p.buffers p.blocks p.tapes) v ∙ ap (λ x. whole q.version x p.qubits p.buffers p.blocks p.tapes) ranks
    ∙ ap (λ x. whole q.version q.ranks x p.buffers p.blocks p.tapes) a.0 ∙ ap (λ x. whole q.version q.ranks q.qubits x p.blocks p.tapes) c.0
    ∙ ap (λ x. whole q.version q.ranks q.qubits q.buffers x p.tapes) b.0 ∙ ap (λ x. whole q.version q.ranks q.qubits q.buffers q.blocks x) tapes
