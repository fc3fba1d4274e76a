-- No number of a program is above 2147483647
use Rattle.std.proofs.Common.{ℕ, ◌+◌, ◌<◌, ◌≤◌, List, [], ◌∷◌, ◌++◌, length, arith}
use Rattle.std.specs.Prelude.{All}
use Rattle.std.proofs.lemmas.List.Elements.{All-head, All-tail}
use Rattle.qm_parse.specs.declared.words.Keyword.TheVariants as keyword
use Rattle.qm_parse.specs.declared.words.Mark.TheVariants as mark
use Rattle.qm_parse.specs.declared.words.Version.{Version}
use Rattle.qm_parse.specs.declared.words.Version.TheVariants as version
use Rattle.qm_parse.specs.Words.{version_number}
use Rattle.qm_parse.specs.Signs.{Sign, Number, Key, Symbol}
use Rattle.qm_parse.specs.Trees.{Expr, Sum, Adds, NoAdd, Add, Term, Product, Muls, NoMul, Mul, Prim, Num, Name, Rank, Size, Paren, Call, Body, Nothing, Then, Stmt, Do, DoUnder, For, Blocks, ForAll, ForEach, TapeLine, Program, ExprMay, AddsMay, TermMay, MulsMay, PrimMay, CallMay, BodyMay, StmtMay, BlocksMay, ProgramMay}
use Rattle.qm_parse.specs.Spelling.{expr_signs, adds_signs, term_signs, muls_signs, prim_signs, operands_signs, call_signs, body_signs, stmt_signs, each_signs, blocks_signs, tapes_signs, numbers_signs, program_signs}

abbrev pub SmallSign : Sign → Type 0
SmallSign (Number v) = v ≤ 2147483647
SmallSign t = Unit {0}

abbrev pub Small : List Sign → Type 0
Small [] = Unit {0}
Small (t ∷ ts) = SmallSign t × Small ts

small-append : (xs ys : List Sign) → Small xs → Small ys → Small (xs ++ ys)
small-append [] ys a b = b
small-append (x ∷ xs) ys a b = (a.0, small-append xs ys a.1 b)

pub small-at : (xs : List Sign) (t : Sign) (ys : List Sign) → Small (xs ++ t ∷ ys) → SmallSign t
small-at [] t ys h = h.0
small-at (x ∷ xs) t ys h = small-at xs t ys h.1

-- ---- expressions
mutual
  expr-small : (e : Expr) → ExprMay e → Small (expr_signs e)
  expr-small (Sum t more) m = small-append (term_signs t) (adds_signs more) (term-small t m.0) (adds-small more m.1)

  adds-small : (a : Adds) → AddsMay a → Small (adds_signs a)
  adds-small NoAdd m = tt
  adds-small (Add op t more) m = (tt, small-append (term_signs t) (adds_signs more) (term-small t m.0) (adds-small more m.1))

  term-small : (t : Term) → TermMay t → Small (term_signs t)
  term-small (Product p more) m = small-append (prim_signs p) (muls_signs more) (prim-small p m.0) (muls-small more m.1)

  muls-small : (a : Muls) → MulsMay a → Small (muls_signs a)
  muls-small NoMul m = tt
  muls-small (Mul op p more) m = (tt, small-append (prim_signs p) (muls_signs more) (prim-small p m.0) (muls-small more m.1))

  prim-small : (p : Prim) → PrimMay p → Small (prim_signs p)
  prim-small (Num v) m = (m, tt)
  prim-small (Name bytes) m = (tt, tt)
  prim-small Rank m = (tt, tt)
  prim-small Size m = (tt, tt)
  prim-small (Paren e) m = (tt, small-append (expr_signs e) (Symbol mark.CloseParenthesis ∷ []) (expr-small e m) (tt, tt))

operands-small : (es : List Expr) → All ExprMay es → Small (operands_signs es)
operands-small [] m = tt
operands-small (e ∷ es) m = small-append (expr_signs e) (operands_signs es) (expr-small e (All-head ExprMay e es m)) (operands-small es (All-tail ExprMay e es m))

call-small : (c : Call) → CallMay c → Small (call_signs c)
call-small c m = (tt, operands-small c.operands m.operands)

-- ---- bodies
mutual
  body-small : (b : Body) → BodyMay b → Small (body_signs b)
  body-small Nothing m = tt
  body-small (Then s more) m = small-append (stmt_signs s) (body_signs more) (stmt-small s m.0) (body-small more m.1)

  stmt-small : (s : Stmt) → StmtMay s → Small (stmt_signs s)
  stmt-small (Do c) m = call-small c m.1
  stmt-small (DoUnder c g) m = small-append (call_signs c) (call_signs g) (call-small c m.1) (call-small g m.3)
  stmt-small (For name a b body) m =
      let inner = small-append (body_signs body) (Symbol mark.CloseBrace ∷ []) (body-small body m.2) (tt, tt) in
      let end = small-append (expr_signs b) (Symbol mark.OpenBrace ∷ (body_signs body ++ Symbol mark.CloseBrace ∷ [])) (expr-small b m.1) (tt, inner) in
      (tt, (tt, (tt, small-append (expr_signs a) (Symbol mark.Dots ∷ (expr_signs b ++ Symbol mark.OpenBrace ∷ (body_signs body ++ Symbol mark.CloseBrace ∷ []))) (expr-small a m.0) (tt, end))))

-- ---- programs
each-small : (rank : ℕ) (bs : List Body) → rank + length bs ≤ 2147483647 → All BodyMay bs → Small (each_signs rank bs)
each-small rank [] l m = tt
each-small rank (b ∷ bs) l m =
    let more = each-small (rank + 1) bs (omega (arith, l)) (All-tail BodyMay b bs m) in
    (tt, (omega (arith, l), small-append (body_signs b) (Key keyword.End ∷ each_signs (rank + 1) bs) (body-small b (All-head BodyMay b bs m)) (tt, more)))

blocks-small : (ranks : ℕ) (b : Blocks) → ranks ≤ 16 → BlocksMay ranks b → Small (blocks_signs b)
blocks-small ranks (ForAll body) l m = (tt, small-append (body_signs body) (Key keyword.End ∷ []) (body-small body m) (tt, tt))
blocks-small ranks (ForEach bodies) l m = let n = m.0 in each-small 0 bodies (omega (arith, l, n)) m.1

tapes-small : (ranks : ℕ) (ts : List TapeLine) → ranks ≤ 16 → All (λ t. t.rank < ranks) ts → Small (tapes_signs ts)
tapes-small ranks [] l m = tt
tapes-small ranks (t ∷ ts) l m =
    let low = All-head (λ (t : TapeLine). t.rank < ranks) t ts m in
    (tt, (omega (arith, l, low), (tt, tapes-small ranks ts l (All-tail (λ (t : TapeLine). t.rank < ranks) t ts m))))

version-small : (v : Version) → version_number v ≤ 2147483647
version-small version.One = omega arith
version-small version.Two = omega arith

numbers-small : (most : ℕ) (ns : List ℕ) → most ≤ 16 → All (λ n. (1 ≤ n) × (n ≤ most)) ns → Small (numbers_signs ns)
numbers-small most [] l m = tt
numbers-small most (n ∷ ns) l m =
    let one = All-head (λ (n : ℕ). (1 ≤ n) × (n ≤ most)) n ns m in
    (omega (arith, l, one.1), numbers-small most ns l (All-tail (λ (n : ℕ). (1 ≤ n) × (n ≤ most)) n ns m))

pub program-small : (p : Program) → ProgramMay p → Small (program_signs p)
program-small p m =
    let ranks : p.ranks ≤ 2147483647 = omega (arith, m.few_ranks) in
    let a : 16 ≤ 16 = omega arith in
    let b : 8 ≤ 16 = omega arith in
    let rest = small-append (blocks_signs p.blocks) (tapes_signs p.tapes) (blocks-small p.ranks p.blocks m.few_ranks m.blocks) (tapes-small p.ranks p.tapes m.few_ranks m.tapes) in
    let buffers = small-append (numbers_signs p.buffers) (blocks_signs p.blocks ++ tapes_signs p.tapes) (numbers-small 8 p.buffers b m.buffers.each) rest in
    let qubits = small-append (numbers_signs p.qubits) (Key keyword.Buffer ∷ (numbers_signs p.buffers ++ (blocks_signs p.blocks ++ tapes_signs p.tapes)))
    (numbers-small 16 p.qubits a m.qubits.each) (tt, buffers) in
    (tt, (version-small p.version, (tt, (ranks, (tt, qubits)))))
