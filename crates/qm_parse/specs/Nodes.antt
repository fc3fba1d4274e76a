-- The nodes of a source tree. Those of a part stand from a node number on, and its first token has a number, too.
use Rattle.std.specs.Prelude.{ℕ, ◌+◌, if◌then◌else◌, List, [], ◌∷◌, ◌++◌, length}
use Rattle.qm_parse.specs.declared.tree.Node.{Node}
use Rattle.qm_parse.specs.declared.tree.What.{What}
use Rattle.qm_parse.specs.declared.tree.What.TheVariants as what
use Rattle.qm_parse.specs.Trees.{AddOp, Plus, Minus, MulOp, Times, Over, Rest, Expr, Sum, Adds, NoAdd, Add, Term, Product, Muls, NoMul, Mul, Prim, Num, Name, Rank, Size, Paren, Call, Body, Nothing, Then, Stmt, Do, DoUnder, For, Blocks, ForAll, ForEach, TapeLine, Program}
use Rattle.qm_parse.specs.Words.{version_number}
use Rattle.qm_parse.specs.Spelling.{expr_signs, term_signs, prim_signs, call_signs, body_signs, stmt_signs, blocks_signs}

-- a node with nothing behind it that belongs to it; number is its own
abbrev pub leaf : What → ℕ → ℕ → ℕ → Node
leaf w token value number = record { what = w; token = token; value = value; stop = number + 1 }

-- a node with these behind it that belong to it
abbrev pub around : What → ℕ → ℕ → List Node → List Node
around w token number inner = record { what = w; token = token; value = 0; stop = number + 1 + length inner } ∷ inner

-- the kind of an operator's node, for either level
abbrev pub add_what : AddOp → What
add_what Plus = what.Plus
add_what Minus = what.Minus

abbrev pub mul_what : MulOp → What
mul_what Times = what.Times
mul_what Over = what.Over
mul_what Rest = what.Rest

-- an operator stands behind its two sides
abbrev mutual
  pub expr_nodes : (at base : ℕ) → Expr → List Node
  expr_nodes at base (Sum t more) =
      let left = term_nodes at base t in left ++ adds_nodes (at + length (term_signs t)) (base + length left) more

  pub adds_nodes : (at base : ℕ) → Adds → List Node
  adds_nodes at base NoAdd = []
  adds_nodes at base (Add op t more) =
      let right = term_nodes (at + 1) base t in
      right ++ leaf (add_what op) at 0 (base + length right) ∷ adds_nodes (at + 1 + length (term_signs t)) (base + length right + 1) more

  pub term_nodes : (at base : ℕ) → Term → List Node
  term_nodes at base (Product p more) =
      let left = prim_nodes at base p in left ++ muls_nodes (at + length (prim_signs p)) (base + length left) more

  pub muls_nodes : (at base : ℕ) → Muls → List Node
  muls_nodes at base NoMul = []
  muls_nodes at base (Mul op p more) =
      let right = prim_nodes (at + 1) base p in
      right ++ leaf (mul_what op) at 0 (base + length right) ∷ muls_nodes (at + 1 + length (prim_signs p)) (base + length right + 1) more

  pub prim_nodes : (at base : ℕ) → Prim → List Node
  prim_nodes at base (Num v) = leaf what.Num at v base ∷ []
  prim_nodes at base (Name bytes) = leaf what.Name at 0 base ∷ []
  prim_nodes at base Rank = leaf what.Rank at 0 base ∷ []
  prim_nodes at base Size = leaf what.Size at 0 base ∷ []
  prim_nodes at base (Paren e) = expr_nodes (at + 1) base e

-- an operand or a bound: its expression, and its end
abbrev pub operand_nodes : (at base : ℕ) → Expr → List Node
operand_nodes at base e = let inner = expr_nodes at base e in inner ++ leaf what.Arg at 0 (base + length inner) ∷ []

-- operands or bounds, one behind the other
abbrev pub operands_nodes : (at base : ℕ) → List Expr → List Node
operands_nodes at base [] = []
operands_nodes at base (e ∷ es) =
    let first = operand_nodes at base e in first ++ operands_nodes (at + length (expr_signs e)) (base + length first) es

-- a call: a node around its operands
abbrev pub call_nodes : (at base : ℕ) → Call → List Node
call_nodes at base c = around what.Instr at base (operands_nodes (at + 1) (base + 1) c.operands)

-- a loop's node stands around its two bounds and its body, a bit's instruction around the gate under it
abbrev mutual
  pub body_nodes : (at base : ℕ) → Body → List Node
  body_nodes at base Nothing = []
  body_nodes at base (Then s more) =
      let first = stmt_nodes at base s in first ++ body_nodes (at + length (stmt_signs s)) (base + length first) more

  pub stmt_nodes : (at base : ℕ) → Stmt → List Node
  stmt_nodes at base (Do c) = call_nodes at base c
  stmt_nodes at base (DoUnder c g) =
      let own = operands_nodes (at + 1) (base + 1) c.operands in
      around what.Instr at base (own ++ call_nodes (at + length (call_signs c)) (base + 1 + length own) g)
  stmt_nodes at base (For name a b body) =
      let first = operand_nodes (at + 3) (base + 1) a in
      let end = operand_nodes (at + 4 + length (expr_signs a)) (base + 1 + length first) b in
      around what.For at base (first ++ end
      ++ body_nodes (at + 5 + length (expr_signs a) + length (expr_signs b)) (base + 1 + length first + length end) body)

-- the blocks of ranks
abbrev pub each_nodes : (at base : ℕ) → List Body → List Node
each_nodes at base [] = []
each_nodes at base (b ∷ bs) =
    let first = around what.Block at base (body_nodes (at + 2) (base + 1) b) in
    first ++ each_nodes (at + 3 + length (body_signs b)) (base + length first) bs

-- one block for all ranks, or one for each
abbrev pub blocks_nodes : (at base : ℕ) → Blocks → List Node
blocks_nodes at base (ForAll body) = around what.All at base (body_nodes (at + 1) (base + 1) body)
blocks_nodes at base (ForEach bodies) = each_nodes at base bodies

-- a tape line has three tokens and three nodes
abbrev pub tapes_nodes : (at base : ℕ) → List TapeLine → List Node
tapes_nodes at base [] = []
tapes_nodes at base (t ∷ ts) =
    around (if t.own then what.Own else what.Protocol) at base
    (leaf what.Num (at + 1) t.rank (base + 1) ∷ leaf what.Bits (at + 2) 0 (base + 2) ∷ [])
    ++ tapes_nodes (at + 3) (base + 3) ts

-- numbers, one behind the other
abbrev pub numbers_nodes : (at base : ℕ) → List ℕ → List Node
numbers_nodes at base [] = []
numbers_nodes at base (n ∷ ns) = leaf what.Num at n base ∷ numbers_nodes (at + 1) (base + 1) ns

-- the first token and the first node behind the head
abbrev pub head_tokens : Program → ℕ
head_tokens p = 6 + length p.qubits + length p.buffers

abbrev pub head_nodes : Program → ℕ
head_nodes p = 2 + length p.qubits + length p.buffers

-- the blocks, and the tape lines behind them
abbrev pub rest_nodes : (at base : ℕ) → Program → List Node
rest_nodes at base p =
    let blocks = blocks_nodes at base p.blocks in
    blocks ++ tapes_nodes (at + length (blocks_signs p.blocks)) (base + length blocks) p.tapes

-- the numbers of the head, the blocks, the tape lines
abbrev pub program_nodes : Program → List Node
program_nodes p =
    leaf what.Num 1 (version_number p.version) 0 ∷ leaf what.Num 3 p.ranks 1
    ∷ (numbers_nodes 5 2 p.qubits ++ (numbers_nodes (6 + length p.qubits) (2 + length p.qubits) p.buffers
    ++ rest_nodes (head_tokens p) (head_nodes p) p))
