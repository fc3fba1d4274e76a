-- Source trees
use Rattle.std.specs.Prelude.{◌≡◌, ℕ, ◌<◌, ◌≤◌, Bool, true, false, List, length, All}
use Rattle.qm_limits.specs.declared.TheConstants.{LARGEST_VALUE, MOST_RANKS, SLOTS, MOST_HALVES}
use Rattle.qm_parse.specs.declared.words.Verb.{Verb}
use Rattle.qm_parse.specs.declared.words.Version.{Version}
use Rattle.qm_parse.specs.Words.{operands_of, is_gate, takes_gate, size_count}

-- operators of one level
pub data AddOp : Type 0 where
  Plus : AddOp
  Minus : AddOp

-- and those of the level that binds more tightly
pub data MulOp : Type 0 where
  Times : MulOp
  Over : MulOp
  Rest : MulOp

-- expr = term ( ("+" | "-") term )*
-- term = prim ( ("*" | "/" | "%") prim )*
-- prim = NUM | NAME | "rank" | "size" | "(" expr ")"
mutual
  pub data Expr : Type 0 where
    Sum : (first : Term) (more : Adds) → Expr

  pub data Adds : Type 0 where
    NoAdd : Adds
    Add : (op : AddOp) (term : Term) (more : Adds) → Adds

  pub data Term : Type 0 where
    Product : (first : Prim) (more : Muls) → Term

  pub data Muls : Type 0 where
    NoMul : Muls
    Mul : (op : MulOp) (prim : Prim) (more : Muls) → Muls

  pub data Prim : Type 0 where
    Num : (value : ℕ) → Prim
    Name : (bytes : List ℕ) → Prim
    Rank : Prim
    Size : Prim
    Paren : (inner : Expr) → Prim

-- a verb followed by its operands
pub record Call : Type 0 where
  pub verb : Verb
  pub operands : List Expr

-- body = ( instr | "for" NAME "in" expr ".." expr "{" body "}" )*
-- An instr is a call, and behind `when` and its operand stands the call of a gate.
mutual
  pub data Body : Type 0 where
    Nothing : Body
    Then : (first : Stmt) (more : Body) → Body

  pub data Stmt : Type 0 where
    Do : (call : Call) → Stmt
    DoUnder : (call gate : Call) → Stmt
    For : (name : List ℕ) (first end : Expr) (body : Body) → Stmt

-- blocks = "all" body "end" | one "rank" NUM body "end" for each rank, in rising order from 0
pub data Blocks : Type 0 where
  ForAll : (body : Body) → Blocks
  ForEach : (bodies : List Body) → Blocks

-- a line of outcomes for the own or the protocol tape of a rank
pub record TapeLine : Type 0 where
  pub own : Bool
  pub rank : ℕ
  pub outcomes : List Bool

-- program = "qmpi" "1" "ranks" NUM "qubits" NUM "buffer" NUM blocks tapes
--         | "qmpi" "2" "ranks" NUM "qubits" NUM^N "buffer" NUM^N blocks tapes
-- NUM^N is a number for each rank, from rank 0 on.
pub record Program : Type 0 where
  pub version : Version
  pub ranks : ℕ
  pub qubits : List ℕ
  pub buffers : List ℕ
  pub blocks : Blocks
  pub tapes : List TapeLine

-- ---- the trees that may be: each number of an expression is at most the largest value
abbrev mutual
  pub ExprMay : Expr → Type 0
  ExprMay (Sum t more) = TermMay t × AddsMay more

  pub AddsMay : Adds → Type 0
  AddsMay NoAdd = Unit {0}
  AddsMay (Add op t more) = TermMay t × AddsMay more

  pub TermMay : Term → Type 0
  TermMay (Product p more) = PrimMay p × MulsMay more

  pub MulsMay : Muls → Type 0
  MulsMay NoMul = Unit {0}
  MulsMay (Mul op p more) = PrimMay p × MulsMay more

  pub PrimMay : Prim → Type 0
  PrimMay (Num v) = v ≤ LARGEST_VALUE
  PrimMay (Name bytes) = Unit {0}
  PrimMay Rank = Unit {0}
  PrimMay Size = Unit {0}
  PrimMay (Paren e) = ExprMay e

-- each verb has as many operands as its kinds say
pub record CallMay (c : Call) : Type 0 where
  pub count : length c.operands ≡ length (operands_of c.verb)
  pub operands : All ExprMay c.operands

-- a gate's call stands behind each call of `when`, and behind no other; the body of a loop may be, too
abbrev mutual
  pub BodyMay : Body → Type 0
  BodyMay Nothing = Unit {0}
  BodyMay (Then s more) = StmtMay s × BodyMay more

  pub StmtMay : Stmt → Type 0
  StmtMay (Do c) = (takes_gate c.verb.action ≡ false) × CallMay c
  StmtMay (DoUnder c g) =
      (takes_gate c.verb.action ≡ true) × CallMay c × (is_gate g.verb.action ≡ true) × CallMay g
  StmtMay (For name a b body) =
      ExprMay a × ExprMay b × BodyMay body

-- as many blocks as ranks, but where one is for all
abbrev pub BlocksMay : ℕ → Blocks → Type 0
BlocksMay ranks (ForAll body) = BodyMay body
BlocksMay ranks (ForEach bodies) = (length bodies ≡ ranks) × All BodyMay bodies

-- so many sizes, each from 1 to the largest
pub record SizesMay (many most : ℕ) (sizes : List ℕ) : Type 0 where
  pub count : length sizes ≡ many
  pub each : All (λ n. (1 ≤ n) × (n ≤ most)) sizes

-- some ranks, but not too many, with their sizes; each tape is that of a rank
pub record ProgramMay (p : Program) : Type 0 where
  pub some_ranks : 1 ≤ p.ranks
  pub few_ranks : p.ranks ≤ MOST_RANKS
  pub qubits : SizesMay (size_count p.version p.ranks) SLOTS p.qubits
  pub buffers : SizesMay (size_count p.version p.ranks) MOST_HALVES p.buffers
  pub blocks : BlocksMay p.ranks p.blocks
  pub tapes : All (λ t. t.rank < p.ranks) p.tapes
