-- The nodes that are written while the tokens are read are those of the source tree
use Rattle.std.proofs.Common.{◌≡◌, ℕ, suc, ◌+◌, List, [], ◌∷◌, ◌++◌, length, refl, sym, ap, ◌∙◌, append_assoc, arith, length-append, if◌then◌else◌}
use Rattle.std.proofs.lemmas.List.{append-nil}
use Rattle.qm_parse.specs.declared.tree.Node.{Node}
use Rattle.qm_parse.specs.declared.tree.What.{What}
use Rattle.qm_parse.specs.declared.tree.What.TheVariants as what
use Rattle.qm_parse.specs.Trees.{Expr, Sum, Adds, NoAdd, Add, Term, Product, Muls, NoMul, Mul, Prim, Num, Name, Rank, Size, Paren, Call, Body, Nothing, Then, Stmt, Do, DoUnder, For, Blocks, ForAll, ForEach, TapeLine, Program}
use Rattle.qm_parse.specs.declared.words.Keyword.TheVariants as keyword
use Rattle.qm_parse.specs.declared.words.Mark.TheVariants as mark
use Rattle.qm_parse.specs.Signs.{Sign, Number, Key, Ident, Symbol}
use Rattle.qm_parse.specs.Spelling.{expr_signs, adds_signs, term_signs, muls_signs, prim_signs, operands_signs, call_signs, body_signs, stmt_signs, each_signs, blocks_signs, tapes_signs}
use Rattle.qm_parse.specs.Words.{version_number}
use Rattle.qm_parse.specs.Nodes.{leaf, around, add_what, mul_what, expr_nodes, adds_nodes, term_nodes, muls_nodes, prim_nodes, operand_nodes, operands_nodes, call_nodes, body_nodes, stmt_nodes, each_nodes, blocks_nodes, tapes_nodes, numbers_nodes, rest_nodes, program_nodes}
use Rattle.qm_parse.specs.Reaching.{with_stop}
use Rattle.qm_parse.proofs.Behind.{Spot, spot, taken, leafed, noted, finished, behind_expr, behind_adds, behind_term, behind_muls, behind_prim, behind_operand, behind_operands, behind_call, behind_body, behind_stmt, behind_braced, behind_each, behind_blocks, behind_tape, behind_tapes, behind_numbers, behind_program}

-- ---- steps that write nodes
-- so many tokens further, with these nodes
abbrev wrote : Spot → ℕ → List Node → Spot
wrote s n xs = spot (s.at + n) (s.nodes ++ xs)

-- a step writes these nodes for so many tokens, wherever it begins
abbrev Writes : (Spot → Spot) → ℕ → (ℕ → ℕ → List Node) → Type 0
Writes f n xs = (s : Spot) → f s ≡ wrote s n (xs s.at (length s.nodes))

same-spot : (a b : ℕ) (xs ys : List Node) → a ≡ b → xs ≡ ys → spot a xs ≡ spot b ys
same-spot a b xs ys e f = ap (λ n. spot n xs) e ∙ ap (λ z. spot b z) f

writes-nothing : Writes (λ s. s) 0 (λ at base. [])
writes-nothing s = same-spot s.at (s.at + 0) s.nodes (s.nodes ++ []) (omega arith) (sym (append-nil s.nodes))

writes-as : (f : Spot → Spot) (n m : ℕ) (xs ys : ℕ → ℕ → List Node) → Writes f n xs → n ≡ m → ((at base : ℕ) → xs at base ≡ ys at base) → Writes f m ys
writes-as f n m xs ys p e k s =
    p s ∙ same-spot (s.at + n) (s.at + m) (s.nodes ++ xs s.at (length s.nodes)) (s.nodes ++ ys s.at (length s.nodes))
    (ap (λ i. s.at + i) e) (ap (λ z. s.nodes ++ z) (k s.at (length s.nodes)))

-- one step behind another
writes-then : (f g : Spot → Spot) (n m : ℕ) (xs ys : ℕ → ℕ → List Node) → Writes f n xs → Writes g m ys
    → Writes (λ s. g (f s)) (n + m) (λ at base. xs at base ++ ys (at + n) (base + length (xs at base)))
writes-then f g n m xs ys p q s =
    let zs = xs s.at (length s.nodes) in
    ap g (p s) ∙ q (wrote s n zs)
    ∙ same-spot (s.at + n + m) (s.at + (n + m)) ((s.nodes ++ zs) ++ ys (s.at + n) (length (s.nodes ++ zs))) (s.nodes ++ (zs ++ ys (s.at + n) (length s.nodes + length zs)))
    (omega arith)
    (append_assoc s.nodes zs (ys (s.at + n) (length (s.nodes ++ zs))) ∙ ap (λ b. s.nodes ++ (zs ++ ys (s.at + n) b)) (length-append s.nodes zs))

-- a token before a step, or behind it
writes-taken : (f : Spot → Spot) (n : ℕ) (xs : ℕ → ℕ → List Node) → Writes f n xs → Writes (λ s. f (taken s)) (1 + n) (λ at base. xs (at + 1) base)
writes-taken f n xs p s =
    let zs = s.nodes ++ xs (s.at + 1) (length s.nodes) in p (taken s) ∙ same-spot (s.at + 1 + n) (s.at + (1 + n)) zs zs (omega arith) refl

writes-taking : (f : Spot → Spot) (n : ℕ) (xs : ℕ → ℕ → List Node) → Writes f n xs → Writes (λ s. taken (f s)) (n + 1) xs
writes-taking f n xs p s =
    let zs = s.nodes ++ xs s.at (length s.nodes) in ap taken (p s) ∙ same-spot (s.at + n + 1) (s.at + (n + 1)) zs zs (omega arith) refl

writes-note : (w : What) (value : ℕ) → Writes (noted w value) 1 (λ at base. leaf w at value base ∷ [])
writes-note w value s = refl

-- ---- a node behind a step
writes-operator : (w : What) (f : Spot → Spot) (n : ℕ) (xs : ℕ → ℕ → List Node) → Writes f n xs
    → Writes (λ s. leafed w s.at 0 (f (taken s))) (1 + n) (λ at base. xs (at + 1) base ++ leaf w at 0 (base + length (xs (at + 1) base)) ∷ [])
writes-operator w f n xs p s =
    let zs = xs (s.at + 1) (length s.nodes) in
    ap (λ (t : Spot). leafed w s.at 0 t) (p (taken s))
    ∙ same-spot (s.at + 1 + n) (s.at + (1 + n)) ((s.nodes ++ zs) ++ leaf w s.at 0 (length (s.nodes ++ zs)) ∷ []) (s.nodes ++ (zs ++ leaf w s.at 0 (length s.nodes + length zs) ∷ []))
    (omega arith)
    (append_assoc s.nodes zs (leaf w s.at 0 (length (s.nodes ++ zs)) ∷ []) ∙ ap (λ b. s.nodes ++ (zs ++ leaf w s.at 0 b ∷ [])) (length-append s.nodes zs))

writes-end : (w : What) (f : Spot → Spot) (n : ℕ) (xs : ℕ → ℕ → List Node) → Writes f n xs
    → Writes (λ s. leafed w s.at 0 (f s)) n (λ at base. xs at base ++ leaf w at 0 (base + length (xs at base)) ∷ [])
writes-end w f n xs p s =
    let zs = xs s.at (length s.nodes) in
    ap (λ (t : Spot). leafed w s.at 0 t) (p s)
    ∙ ap (λ z. spot (s.at + n) z)
    (append_assoc s.nodes zs (leaf w s.at 0 (length (s.nodes ++ zs)) ∷ []) ∙ ap (λ b. s.nodes ++ (zs ++ leaf w s.at 0 b ∷ [])) (length-append s.nodes zs))

-- ---- a node around a step
with_stop-behind : (stop : ℕ) (ns : List Node) (x : Node) (inner : List Node) → with_stop stop (length ns) ((ns ++ x ∷ []) ++ inner) ≡ ns ++ record x { stop = stop } ∷ inner
with_stop-behind stop [] x inner = refl
with_stop-behind stop (n ∷ ns) x inner = ap (λ z. n ∷ z) (with_stop-behind stop ns x inner)

writes-around : (w : What) (f : Spot → Spot) (n : ℕ) (xs : ℕ → ℕ → List Node) → Writes f n xs
    → Writes (λ s. finished (length s.nodes) (f (noted w 0 s))) (1 + n) (λ at base. around w at base (xs (at + 1) (base + 1)))
writes-around w f n xs p s =
    let base = length s.nodes in
    let x : Node = leaf w s.at 0 base in
    let ns = s.nodes ++ x ∷ [] in
    let inner = xs (s.at + 1) (base + 1) in
    let one : length ns ≡ base + 1 = length-append s.nodes (x ∷ []) in
    let all : length (ns ++ inner) ≡ base + 1 + length inner = length-append ns inner ∙ ap (λ k. k + length inner) one in
    ap (λ (t : Spot). finished base t) (p (noted w 0 s) ∙ ap (λ b. spot (s.at + 1 + n) (ns ++ xs (s.at + 1) b)) one)
    ∙ same-spot (s.at + 1 + n) (s.at + (1 + n)) (with_stop (length (ns ++ inner)) base (ns ++ inner)) (s.nodes ++ around w s.at base inner)
    (omega arith)
    (ap (λ k. with_stop k base (ns ++ inner)) all ∙ with_stop-behind (base + 1 + length inner) s.nodes x inner)

-- ---- expressions
-- an operator with its right side, and what follows
chain : (w : What) (f g : Spot → Spot) (n m : ℕ) (xs ys : ℕ → ℕ → List Node) → Writes f n xs → Writes g m ys
    → Writes (λ s. g (leafed w s.at 0 (f (taken s)))) (1 + n + m)
    (λ at base. xs (at + 1) base ++ leaf w at 0 (base + length (xs (at + 1) base)) ∷ ys (at + 1 + n) (base + length (xs (at + 1) base) + 1))
chain w f g n m xs ys p q =
    writes-as (λ s. g (leafed w s.at 0 (f (taken s)))) (1 + n + m) (1 + n + m)
    (λ at base. (xs (at + 1) base ++ leaf w at 0 (base + length (xs (at + 1) base)) ∷ []) ++ ys (at + (1 + n)) (base + length (xs (at + 1) base ++ leaf w at 0 (base + length (xs (at + 1) base)) ∷ [])))
    (λ at base. xs (at + 1) base ++ leaf w at 0 (base + length (xs (at + 1) base)) ∷ ys (at + 1 + n) (base + length (xs (at + 1) base) + 1))
    (writes-then (λ s. leafed w s.at 0 (f (taken s))) g (1 + n) m (λ at base. xs (at + 1) base ++ leaf w at 0 (base + length (xs (at + 1) base)) ∷ []) ys (writes-operator w f n xs p) q)
    refl
    (λ at base.
    let zs = xs (at + 1) base in
    let x = leaf w at 0 (base + length zs) in
    append_assoc zs (x ∷ []) (ys (at + (1 + n)) (base + length (zs ++ x ∷ [])))
    ∙ ap (λ i. zs ++ x ∷ ys i (base + length (zs ++ x ∷ []))) (let e : at + (1 + n) ≡ at + 1 + n = omega arith in e)
    ∙ ap (λ b. zs ++ x ∷ ys (at + 1 + n) b) (let e : base + length (zs ++ x ∷ []) ≡ base + length zs + 1 = omega (arith, length-append zs (x ∷ [])) in e))

mutual
  expr-writes : (e : Expr) → Writes (behind_expr e) (length (expr_signs e)) (λ at base. expr_nodes at base e)
  expr-writes (Sum t more) =
      writes-as (behind_expr (Sum t more)) (length (term_signs t) + length (adds_signs more)) (length (expr_signs (Sum t more))) (λ at base. expr_nodes at base (Sum t more)) (λ at base. expr_nodes at base (Sum t more))
      (writes-then (behind_term t) (behind_adds more) (length (term_signs t)) (length (adds_signs more)) (λ at base. term_nodes at base t) (λ at base. adds_nodes at base more) (term-writes t) (adds-writes more))
      (sym (length-append (term_signs t) (adds_signs more))) (λ at base. refl)

  adds-writes : (a : Adds) → Writes (behind_adds a) (length (adds_signs a)) (λ at base. adds_nodes at base a)
  adds-writes NoAdd = writes-nothing
  adds-writes (Add op t more) =
      writes-as (behind_adds (Add op t more)) (1 + length (term_signs t) + length (adds_signs more)) (length (adds_signs (Add op t more))) (λ at base. adds_nodes at base (Add op t more)) (λ at base. adds_nodes at base (Add op t more))
      (chain (add_what op) (behind_term t) (behind_adds more) (length (term_signs t)) (length (adds_signs more)) (λ at base. term_nodes at base t) (λ at base. adds_nodes at base more) (term-writes t) (adds-writes more))
      (omega (arith, length-append (term_signs t) (adds_signs more))) (λ at base. refl)

  term-writes : (t : Term) → Writes (behind_term t) (length (term_signs t)) (λ at base. term_nodes at base t)
  term-writes (Product p more) =
      writes-as (behind_term (Product p more)) (length (prim_signs p) + length (muls_signs more)) (length (term_signs (Product p more))) (λ at base. term_nodes at base (Product p more)) (λ at base. term_nodes at base (Product p more))
      (writes-then (behind_prim p) (behind_muls more) (length (prim_signs p)) (length (muls_signs more)) (λ at base. prim_nodes at base p) (λ at base. muls_nodes at base more) (prim-writes p) (muls-writes more))
      (sym (length-append (prim_signs p) (muls_signs more))) (λ at base. refl)

  muls-writes : (m : Muls) → Writes (behind_muls m) (length (muls_signs m)) (λ at base. muls_nodes at base m)
  muls-writes NoMul = writes-nothing
  muls-writes (Mul op p more) =
      writes-as (behind_muls (Mul op p more)) (1 + length (prim_signs p) + length (muls_signs more)) (length (muls_signs (Mul op p more))) (λ at base. muls_nodes at base (Mul op p more)) (λ at base. muls_nodes at base (Mul op p more))
      (chain (mul_what op) (behind_prim p) (behind_muls more) (length (prim_signs p)) (length (muls_signs more)) (λ at base. prim_nodes at base p) (λ at base. muls_nodes at base more) (prim-writes p) (muls-writes more))
      (omega (arith, length-append (prim_signs p) (muls_signs more))) (λ at base. refl)

  prim-writes : (p : Prim) → Writes (behind_prim p) (length (prim_signs p)) (λ at base. prim_nodes at base p)
  prim-writes (Num v) = writes-note what.Num v
  prim-writes (Name bytes) = writes-note what.Name 0
  prim-writes Rank = writes-note what.Rank 0
  prim-writes Size = writes-note what.Size 0
  prim-writes (Paren e) =
      writes-as (behind_prim (Paren e)) (1 + length (expr_signs e) + 1) (length (prim_signs (Paren e))) (λ at base. expr_nodes (at + 1) base e) (λ at base. expr_nodes (at + 1) base e)
      (writes-taking (λ s. behind_expr e (taken s)) (1 + length (expr_signs e)) (λ at base. expr_nodes (at + 1) base e) (writes-taken (behind_expr e) (length (expr_signs e)) (λ at base. expr_nodes at base e) (expr-writes e)))
      (omega (arith, length-append (expr_signs e) (Symbol mark.CloseParenthesis ∷ []))) (λ at base. refl)

operand-writes : (e : Expr) → Writes (behind_operand e) (length (expr_signs e)) (λ at base. operand_nodes at base e)
operand-writes e = writes-end what.Arg (behind_expr e) (length (expr_signs e)) (λ at base. expr_nodes at base e) (expr-writes e)

operands-writes : (es : List Expr) → Writes (behind_operands es) (length (operands_signs es)) (λ at base. operands_nodes at base es)
operands-writes [] = writes-nothing
operands-writes (e ∷ es) =
    writes-as (behind_operands (e ∷ es)) (length (expr_signs e) + length (operands_signs es)) (length (operands_signs (e ∷ es))) (λ at base. operands_nodes at base (e ∷ es)) (λ at base. operands_nodes at base (e ∷ es))
    (writes-then (behind_operand e) (behind_operands es) (length (expr_signs e)) (length (operands_signs es)) (λ at base. operand_nodes at base e) (λ at base. operands_nodes at base es) (operand-writes e) (operands-writes es))
    (sym (length-append (expr_signs e) (operands_signs es))) (λ at base. refl)

-- ---- bodies
call-writes : (c : Call) → Writes (behind_call c) (length (call_signs c)) (λ at base. call_nodes at base c)
call-writes c =
    writes-as (behind_call c) (1 + length (operands_signs c.operands)) (length (call_signs c)) (λ at base. call_nodes at base c) (λ at base. call_nodes at base c)
    (writes-around what.Instr (behind_operands c.operands) (length (operands_signs c.operands)) (λ at base. operands_nodes at base c.operands) (operands-writes c.operands))
    (omega arith) (λ at base. refl)

under-writes : (c g : Call) → Writes (behind_stmt (DoUnder c g)) (length (stmt_signs (DoUnder c g))) (λ at base. stmt_nodes at base (DoUnder c g))
under-writes c g =
    let n = length (operands_signs c.operands) in
    writes-as (behind_stmt (DoUnder c g)) (1 + (n + length (call_signs g))) (length (stmt_signs (DoUnder c g)))
    (λ at base. around what.Instr at base (operands_nodes (at + 1) (base + 1) c.operands ++ call_nodes (at + 1 + n) (base + 1 + length (operands_nodes (at + 1) (base + 1) c.operands)) g))
    (λ at base. stmt_nodes at base (DoUnder c g))
    (writes-around what.Instr (λ s. behind_call g (behind_operands c.operands s)) (n + length (call_signs g))
    (λ at base. operands_nodes at base c.operands ++ call_nodes (at + n) (base + length (operands_nodes at base c.operands)) g)
    (writes-then (behind_operands c.operands) (behind_call g) n (length (call_signs g)) (λ at base. operands_nodes at base c.operands) (λ at base. call_nodes at base g) (operands-writes c.operands) (call-writes g)))
    (omega (arith, length-append (call_signs c) (call_signs g)))
    (λ at base.
    ap (λ i. around what.Instr at base (operands_nodes (at + 1) (base + 1) c.operands ++ call_nodes i (base + 1 + length (operands_nodes (at + 1) (base + 1) c.operands)) g))
    (let e : at + 1 + n ≡ at + length (call_signs c) = omega arith in e))

-- a loop's nodes, where its bounds and its body begin at these tokens
abbrev loop_nodes : ℕ → ℕ → Expr → Expr → Body → (i j k : ℕ) → List Node
loop_nodes at base a b body i j k =
    let first = operand_nodes i (base + 1) a in
    let end = operand_nodes j (base + 1 + length first) b in
    around what.For at base (first ++ (end ++ body_nodes k (base + 1 + length first + length end) body))

loop-assoc : (at base : ℕ) (a b : Expr) (body : Body) (i j k : ℕ)
    → let first = operand_nodes i (base + 1) a in
    let end = operand_nodes j (base + 1 + length first) b in
    loop_nodes at base a b body i j k ≡ around what.For at base (first ++ end ++ body_nodes k (base + 1 + length first + length end) body)
loop-assoc at base a b body i j k =
    let first = operand_nodes i (base + 1) a in
    let end = operand_nodes j (base + 1 + length first) b in
    ap (λ z. around what.For at base z) (sym (append_assoc first end (body_nodes k (base + 1 + length first + length end) body)))

for-count : (a b body : List Sign) (x y z u v w : Sign)
    → 1 + ((1 + (1 + length a)) + ((1 + length b) + (1 + length body + 1))) ≡ length (x ∷ y ∷ z ∷ (a ++ u ∷ (b ++ v ∷ (body ++ w ∷ []))))
for-count a b body x y z u v w =
    omega (arith, length-append a (u ∷ (b ++ v ∷ (body ++ w ∷ []))), length-append b (v ∷ (body ++ w ∷ [])), length-append body (w ∷ []))

mutual
  body-writes : (b : Body) → Writes (behind_body b) (length (body_signs b)) (λ at base. body_nodes at base b)
  body-writes Nothing = writes-nothing
  body-writes (Then first more) =
      writes-as (behind_body (Then first more)) (length (stmt_signs first) + length (body_signs more)) (length (body_signs (Then first more))) (λ at base. body_nodes at base (Then first more)) (λ at base. body_nodes at base (Then first more))
      (writes-then (behind_stmt first) (behind_body more) (length (stmt_signs first)) (length (body_signs more)) (λ at base. stmt_nodes at base first) (λ at base. body_nodes at base more) (stmt-writes first) (body-writes more))
      (sym (length-append (stmt_signs first) (body_signs more))) (λ at base. refl)

  stmt-writes : (s : Stmt) → Writes (behind_stmt s) (length (stmt_signs s)) (λ at base. stmt_nodes at base s)
  stmt-writes (Do c) = call-writes c
  stmt-writes (DoUnder c g) = under-writes c g
  stmt-writes (For name a b body) =
      let la = length (expr_signs a) in
      let lb = length (expr_signs b) in
      let lc = length (body_signs body) in
      let first : Writes (λ s. behind_operand a (taken (taken s))) (1 + (1 + la)) (λ at base. operand_nodes (at + 1 + 1) base a) =
      writes-taken (λ s. behind_operand a (taken s)) (1 + la) (λ at base. operand_nodes (at + 1) base a) (writes-taken (behind_operand a) la (λ at base. operand_nodes at base a) (operand-writes a)) in
      let end : Writes (λ s. behind_operand b (taken s)) (1 + lb) (λ at base. operand_nodes (at + 1) base b) =
      writes-taken (behind_operand b) lb (λ at base. operand_nodes at base b) (operand-writes b) in
      let rest : Writes (behind_braced body) (1 + lc + 1) (λ at base. body_nodes (at + 1) base body) =
      writes-taking (λ s. behind_body body (taken s)) (1 + lc) (λ at base. body_nodes (at + 1) base body) (writes-taken (behind_body body) lc (λ at base. body_nodes at base body) (body-writes body)) in
      writes-as (behind_stmt (For name a b body)) (1 + ((1 + (1 + la)) + ((1 + lb) + (1 + lc + 1)))) (length (stmt_signs (For name a b body)))
      (λ at base. loop_nodes at base a b body (at + 1 + 1 + 1) (at + 1 + (1 + (1 + la)) + 1) (at + 1 + (1 + (1 + la)) + (1 + lb) + 1))
      (λ at base. stmt_nodes at base (For name a b body))
      (writes-around what.For (λ s. behind_braced body (behind_operand b (taken (behind_operand a (taken (taken s)))))) ((1 + (1 + la)) + ((1 + lb) + (1 + lc + 1)))
      (λ at base.
      operand_nodes (at + 1 + 1) base a
      ++ (operand_nodes (at + (1 + (1 + la)) + 1) (base + length (operand_nodes (at + 1 + 1) base a)) b
      ++ body_nodes (at + (1 + (1 + la)) + (1 + lb) + 1)
      (base + length (operand_nodes (at + 1 + 1) base a) + length (operand_nodes (at + (1 + (1 + la)) + 1) (base + length (operand_nodes (at + 1 + 1) base a)) b)) body))
      (writes-then (λ s. behind_operand a (taken (taken s))) (λ s. behind_braced body (behind_operand b (taken s))) (1 + (1 + la)) ((1 + lb) + (1 + lc + 1))
      (λ at base. operand_nodes (at + 1 + 1) base a)
      (λ at base. operand_nodes (at + 1) base b ++ body_nodes (at + (1 + lb) + 1) (base + length (operand_nodes (at + 1) base b)) body) first
      (writes-then (λ s. behind_operand b (taken s)) (behind_braced body) (1 + lb) (1 + lc + 1) (λ at base. operand_nodes (at + 1) base b) (λ at base. body_nodes (at + 1) base body) end rest)))
      (for-count (expr_signs a) (expr_signs b) (body_signs body) (Key keyword.For) (Ident name) (Key keyword.In) _ _ _)
      (λ at base.
      ap (λ i. loop_nodes at base a b body i (at + 1 + (1 + (1 + la)) + 1) (at + 1 + (1 + (1 + la)) + (1 + lb) + 1)) (let e : at + 1 + 1 + 1 ≡ at + 3 = omega arith in e)
      ∙ ap (λ j. loop_nodes at base a b body (at + 3) j (at + 1 + (1 + (1 + la)) + (1 + lb) + 1)) (let e : at + 1 + (1 + (1 + la)) + 1 ≡ at + 4 + la = omega arith in e)
      ∙ ap (λ k. loop_nodes at base a b body (at + 3) (at + 4 + la) k) (let e : at + 1 + (1 + (1 + la)) + (1 + lb) + 1 ≡ at + 5 + la + lb = omega arith in e)
      ∙ loop-assoc at base a b body (at + 3) (at + 4 + la) (at + 5 + la + lb))

-- ---- programs
block-writes : (b : Body) → Writes (λ s. taken (finished (length s.nodes) (behind_body b (taken (noted what.Block 0 s))))) (length (body_signs b) + 3)
    (λ at base. around what.Block at base (body_nodes (at + 2) (base + 1) b))
block-writes b =
    let n = length (body_signs b) in
    writes-as (λ s. taken (finished (length s.nodes) (behind_body b (taken (noted what.Block 0 s))))) (1 + (1 + n) + 1) (n + 3) (λ at base. around what.Block at base (body_nodes (at + 1 + 1) (base + 1) b))
    (λ at base. around what.Block at base (body_nodes (at + 2) (base + 1) b))
    (writes-taking (λ s. finished (length s.nodes) (behind_body b (taken (noted what.Block 0 s)))) (1 + (1 + n)) (λ at base. around what.Block at base (body_nodes (at + 1 + 1) (base + 1) b))
    (writes-around what.Block (λ s. behind_body b (taken s)) (1 + n) (λ at base. body_nodes (at + 1) base b) (writes-taken (behind_body b) n (λ at base. body_nodes at base b) (body-writes b))))
    (omega arith) (λ at base. ap (λ i. around what.Block at base (body_nodes i (base + 1) b)) (let e : at + 1 + 1 ≡ at + 2 = omega arith in e))

each-count : (b more : List Sign) (x y z : Sign) → length b + 3 + length more ≡ length (x ∷ y ∷ (b ++ z ∷ more))
each-count b more x y z = omega (arith, length-append b (z ∷ more))

each-writes : (rank : ℕ) (bs : List Body) → Writes (behind_each bs) (length (each_signs rank bs)) (λ at base. each_nodes at base bs)
each-writes rank [] = writes-nothing
each-writes rank (b ∷ bs) =
    let n = length (body_signs b) in
    writes-as (behind_each (b ∷ bs)) (n + 3 + length (each_signs (rank + 1) bs)) (length (each_signs rank (b ∷ bs)))
    (λ at base.
    around what.Block at base (body_nodes (at + 2) (base + 1) b) ++ each_nodes (at + (n + 3)) (base + length (around what.Block at base (body_nodes (at + 2) (base + 1) b))) bs)
    (λ at base. each_nodes at base (b ∷ bs))
    (writes-then (λ s. taken (finished (length s.nodes) (behind_body b (taken (noted what.Block 0 s))))) (behind_each bs) (n + 3) (length (each_signs (rank + 1) bs))
    (λ at base. around what.Block at base (body_nodes (at + 2) (base + 1) b)) (λ at base. each_nodes at base bs) (block-writes b) (each-writes (rank + 1) bs))
    (each-count (body_signs b) (each_signs (rank + 1) bs) (Key keyword.Rank) (Number rank) _)
    (λ at base.
    ap (λ i. around what.Block at base (body_nodes (at + 2) (base + 1) b) ++ each_nodes i (base + length (around what.Block at base (body_nodes (at + 2) (base + 1) b))) bs)
    (let e : at + (n + 3) ≡ at + 3 + n = omega arith in e))

blocks-writes : (b : Blocks) → Writes (behind_blocks b) (length (blocks_signs b)) (λ at base. blocks_nodes at base b)
blocks-writes (ForEach bodies) = each-writes 0 bodies
blocks-writes (ForAll body) =
    let n = length (body_signs body) in
    writes-as (behind_blocks (ForAll body)) (1 + n + 1) (length (blocks_signs (ForAll body))) (λ at base. blocks_nodes at base (ForAll body)) (λ at base. blocks_nodes at base (ForAll body))
    (writes-taking (λ s. finished (length s.nodes) (behind_body body (noted what.All 0 s))) (1 + n) (λ at base. around what.All at base (body_nodes (at + 1) (base + 1) body))
    (writes-around what.All (behind_body body) n (λ at base. body_nodes at base body) (body-writes body)))
    (omega (arith, length-append (body_signs body) (Key keyword.End ∷ []))) (λ at base. refl)

abbrev line_nodes : TapeLine → ℕ → ℕ → (i j : ℕ) → List Node
line_nodes t at base i j =
    around (if t.own then what.Own else what.Protocol) at base (leaf what.Num (at + 1) t.rank (base + 1) ∷ leaf what.Bits i 0 j ∷ [])

tape-writes : (t : TapeLine) → Writes (behind_tape t) 3 (λ at base. line_nodes t at base (at + 2) (base + 2))
tape-writes t =
    let w = if t.own then what.Own else what.Protocol in
    writes-as (behind_tape t) 3 3 (λ at base. line_nodes t at base (at + 1 + 1) (base + 1 + 1)) (λ at base. line_nodes t at base (at + 2) (base + 2))
    (writes-around w (λ s. noted what.Bits 0 (noted what.Num t.rank s)) 2 (λ at base. leaf what.Num at t.rank base ∷ leaf what.Bits (at + 1) 0 (base + 1) ∷ [])
    (writes-then (noted what.Num t.rank) (noted what.Bits 0) 1 1 (λ at base. leaf what.Num at t.rank base ∷ []) (λ at base. leaf what.Bits at 0 base ∷ []) (writes-note what.Num t.rank) (writes-note what.Bits 0)))
    refl
    (λ at base.
    ap (λ i. line_nodes t at base i (base + 1 + 1)) (let e : at + 1 + 1 ≡ at + 2 = omega arith in e)
    ∙ ap (λ j. line_nodes t at base (at + 2) j) (let e : base + 1 + 1 ≡ base + 2 = omega arith in e))

tapes-writes : (ts : List TapeLine) → Writes (behind_tapes ts) (length (tapes_signs ts)) (λ at base. tapes_nodes at base ts)
tapes-writes [] = writes-nothing
tapes-writes (t ∷ ts) =
    writes-as (behind_tapes (t ∷ ts)) (3 + length (tapes_signs ts)) (length (tapes_signs (t ∷ ts))) (λ at base. tapes_nodes at base (t ∷ ts)) (λ at base. tapes_nodes at base (t ∷ ts))
    (writes-then (behind_tape t) (behind_tapes ts) 3 (length (tapes_signs ts)) (λ at base. line_nodes t at base (at + 2) (base + 2)) (λ at base. tapes_nodes at base ts) (tape-writes t) (tapes-writes ts))
    (omega arith) (λ at base. refl)

numbers-writes : (ns : List ℕ) → Writes (behind_numbers ns) (length ns) (λ at base. numbers_nodes at base ns)
numbers-writes [] = writes-nothing
numbers-writes (n ∷ ns) =
    writes-as (behind_numbers (n ∷ ns)) (1 + length ns) (length (n ∷ ns)) (λ at base. numbers_nodes at base (n ∷ ns)) (λ at base. numbers_nodes at base (n ∷ ns))
    (writes-then (noted what.Num n) (behind_numbers ns) 1 (length ns) (λ at base. leaf what.Num at n base ∷ []) (λ at base. numbers_nodes at base ns) (writes-note what.Num n) (numbers-writes ns))
    (omega arith) (λ at base. refl)

length-numbers : (at base : ℕ) (ns : List ℕ) → length (numbers_nodes at base ns) ≡ length ns
length-numbers at base [] = refl
length-numbers at base (n ∷ ns) = ap (λ k. suc k) (length-numbers (at + 1) (base + 1) ns)

-- the blocks and the tape lines
rest-writes : (p : Program) → Writes (λ s. behind_tapes p.tapes (behind_blocks p.blocks s)) (length (blocks_signs p.blocks) + length (tapes_signs p.tapes)) (λ at base. rest_nodes at base p)
rest-writes p =
    writes-then (behind_blocks p.blocks) (behind_tapes p.tapes) (length (blocks_signs p.blocks)) (length (tapes_signs p.tapes)) (λ at base. blocks_nodes at base p.blocks) (λ at base. tapes_nodes at base p.tapes)
    (blocks-writes p.blocks) (tapes-writes p.tapes)

-- the buffers, and what follows them
buffers-writes : (p : Program) → Writes (λ s. behind_tapes p.tapes (behind_blocks p.blocks (behind_numbers p.buffers s)))
    (length p.buffers + (length (blocks_signs p.blocks) + length (tapes_signs p.tapes)))
    (λ at base. numbers_nodes at base p.buffers ++ rest_nodes (at + length p.buffers) (base + length (numbers_nodes at base p.buffers)) p)
buffers-writes p =
    writes-then (behind_numbers p.buffers) (λ s. behind_tapes p.tapes (behind_blocks p.blocks s)) (length p.buffers) (length (blocks_signs p.blocks) + length (tapes_signs p.tapes))
    (λ at base. numbers_nodes at base p.buffers) (λ at base. rest_nodes at base p) (numbers-writes p.buffers) (rest-writes p)

-- the nodes behind the number of ranks, where the buffers and the rest begin at these tokens and nodes
abbrev sized_nodes : Program → (i j k l : ℕ) → List Node
sized_nodes p i j k l = numbers_nodes 5 2 p.qubits ++ (numbers_nodes i j p.buffers ++ rest_nodes k l p)

pub program-written : (p : Program) → (behind_program p).nodes ≡ program_nodes p
program-written p =
    let n = length p.qubits in
    let m = length p.buffers in
    let s = taken (noted what.Num p.ranks (taken (noted what.Num (version_number p.version) (taken (spot 0 []))))) in
    let head = leaf what.Num 1 (version_number p.version) 0 ∷ leaf what.Num 3 p.ranks 1 ∷ [] in
    let qubits = numbers_nodes 5 2 p.qubits in
    let i : 5 + (n + 1) ≡ 6 + n = omega arith in
    let j : 2 + length qubits ≡ 2 + n = ap (λ k. 2 + k) (length-numbers 5 2 p.qubits) in
    let k : 5 + (n + 1) + m ≡ 6 + n + m = omega arith in
    let l : 2 + length qubits + length (numbers_nodes (6 + n) (2 + n) p.buffers) ≡ 2 + n + m = omega (arith, j, length-numbers (6 + n) (2 + n) p.buffers) in
    ap (λ (t : Spot). t.nodes)
    (writes-then (λ t. taken (behind_numbers p.qubits t)) (λ t. behind_tapes p.tapes (behind_blocks p.blocks (behind_numbers p.buffers t)))
    (n + 1) (m + (length (blocks_signs p.blocks) + length (tapes_signs p.tapes)))
    (λ at base. numbers_nodes at base p.qubits)
    (λ at base. numbers_nodes at base p.buffers ++ rest_nodes (at + m) (base + length (numbers_nodes at base p.buffers)) p)
    (writes-taking (behind_numbers p.qubits) n (λ at base. numbers_nodes at base p.qubits) (numbers-writes p.qubits)) (buffers-writes p) s)
    ∙ ap (λ z. head ++ z)
    (ap (λ i. sized_nodes p i (2 + length qubits) (5 + (n + 1) + m) (2 + length qubits + length (numbers_nodes i (2 + length qubits) p.buffers))) i
    ∙ ap (λ j. sized_nodes p (6 + n) j (5 + (n + 1) + m) (2 + length qubits + length (numbers_nodes (6 + n) j p.buffers))) j
    ∙ ap (λ k. sized_nodes p (6 + n) (2 + n) k (2 + length qubits + length (numbers_nodes (6 + n) (2 + n) p.buffers))) k
    ∙ ap (λ l. sized_nodes p (6 + n) (2 + n) (6 + n + m) l) l)
