-- The tokens that spell a source tree
use Rattle.std.specs.Prelude.{ℕ, ◌+◌, if◌then◌else◌, List, [], ◌∷◌, ◌++◌}
use Rattle.qm_parse.specs.declared.words.Keyword.TheVariants as keyword
use Rattle.qm_parse.specs.declared.words.Mark.{Mark}
use Rattle.qm_parse.specs.declared.words.Mark.TheVariants as mark
use Rattle.qm_parse.specs.Words.{bits_word, version_number}
use Rattle.qm_parse.specs.Signs.{Sign, Number, Key, Act, Ident, Symbol}
use Rattle.qm_parse.specs.Trees.{AddOp, Plus, Minus, MulOp, Times, Over, Rest, Expr, Sum, Adds, NoAdd, Add, Term, Product, Muls, NoMul, Mul, Prim, Num, Name, Rank, Size, Paren, Call, Body, Nothing, Then, Stmt, Do, DoUnder, For, Blocks, ForAll, ForEach, TapeLine, Program}

-- the symbol of an operator, for either level
abbrev pub add_mark : AddOp → Mark
add_mark Plus = mark.Plus
add_mark Minus = mark.Minus

abbrev pub mul_mark : MulOp → Mark
mul_mark Times = mark.Times
mul_mark Over = mark.Over
mul_mark Rest = mark.Rest

-- an expression, level by level
abbrev mutual
  pub expr_signs : Expr → List Sign
  expr_signs (Sum t more) = term_signs t ++ adds_signs more

  pub adds_signs : Adds → List Sign
  adds_signs NoAdd = []
  adds_signs (Add op t more) = Symbol (add_mark op) ∷ (term_signs t ++ adds_signs more)

  pub term_signs : Term → List Sign
  term_signs (Product p more) = prim_signs p ++ muls_signs more

  pub muls_signs : Muls → List Sign
  muls_signs NoMul = []
  muls_signs (Mul op p more) = Symbol (mul_mark op) ∷ (prim_signs p ++ muls_signs more)

  pub prim_signs : Prim → List Sign
  prim_signs (Num v) = Number v ∷ []
  prim_signs (Name bytes) = Ident bytes ∷ []
  prim_signs Rank = Key keyword.Rank ∷ []
  prim_signs Size = Key keyword.Size ∷ []
  prim_signs (Paren e) = Symbol mark.OpenParenthesis ∷ (expr_signs e ++ Symbol mark.CloseParenthesis ∷ [])

-- operands, one behind the other
abbrev pub operands_signs : List Expr → List Sign
operands_signs [] = []
operands_signs (e ∷ es) = expr_signs e ++ operands_signs es

-- a verb, and its operands
abbrev pub call_signs : Call → List Sign
call_signs c = Act c.verb ∷ operands_signs c.operands

-- the instructions and loops of a body; a loop's body stands in braces
abbrev mutual
  pub body_signs : Body → List Sign
  body_signs Nothing = []
  body_signs (Then s more) = stmt_signs s ++ body_signs more

  pub stmt_signs : Stmt → List Sign
  stmt_signs (Do c) = call_signs c
  stmt_signs (DoUnder c g) = call_signs c ++ call_signs g
  stmt_signs (For name a b body) =
      Key keyword.For ∷ Ident name ∷ Key keyword.In ∷ (expr_signs a ++ Symbol mark.Dots ∷ (expr_signs b
      ++ Symbol mark.OpenBrace ∷ (body_signs body ++ Symbol mark.CloseBrace ∷ [])))

-- the blocks of the ranks from this one on
abbrev pub each_signs : ℕ → List Body → List Sign
each_signs rank [] = []
each_signs rank (b ∷ bs) = Key keyword.Rank ∷ Number rank ∷ (body_signs b ++ Key keyword.End ∷ each_signs (rank + 1) bs)

-- one block for all ranks, or one for each from rank 0 on
abbrev pub blocks_signs : Blocks → List Sign
blocks_signs (ForAll body) = Key keyword.All ∷ (body_signs body ++ Key keyword.End ∷ [])
blocks_signs (ForEach bodies) = each_signs 0 bodies

-- a tape's line, and the lines of all tapes
abbrev pub tape_signs : TapeLine → List Sign
tape_signs t = Key (if t.own then keyword.Own else keyword.Protocol) ∷ Number t.rank ∷ Ident (bits_word t.outcomes) ∷ []

abbrev pub tapes_signs : List TapeLine → List Sign
tapes_signs [] = []
tapes_signs (t ∷ ts) = tape_signs t ++ tapes_signs ts

-- numbers, one behind the other
abbrev pub numbers_signs : List ℕ → List Sign
numbers_signs [] = []
numbers_signs (n ∷ ns) = Number n ∷ numbers_signs ns

-- behind the number of ranks: their sizes, the blocks, the tapes
abbrev pub sizes_signs : Program → List Sign
sizes_signs p =
    Key keyword.Qubits ∷ (numbers_signs p.qubits
    ++ Key keyword.Buffer ∷ (numbers_signs p.buffers ++ (blocks_signs p.blocks ++ tapes_signs p.tapes)))

-- a whole program: its head, its blocks, its tapes
abbrev pub program_signs : Program → List Sign
program_signs p =
    Key keyword.Qmpi ∷ Number (version_number p.version) ∷ Key keyword.Ranks ∷ Number p.ranks ∷ sizes_signs p
