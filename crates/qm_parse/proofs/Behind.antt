-- The nodes behind the parts of a source tree, as they are written one by one while the tokens are read
use Rattle.std.specs.Prelude.{ℕ, ◌+◌, if◌then◌else◌, List, [], ◌∷◌, ◌++◌, length}
use Rattle.qm_parse.specs.declared.goals.Goal.{Goal}
use Rattle.qm_parse.specs.declared.looks.Look.{Look}
use Rattle.qm_parse.specs.declared.tree.Node.{Node}
use Rattle.qm_parse.specs.declared.tree.What.{What}
use Rattle.qm_parse.specs.declared.tree.What.TheVariants as what
use Rattle.qm_parse.specs.Trees.{Expr, Sum, Adds, NoAdd, Add, Term, Product, Muls, NoMul, Mul, Prim, Num, Name, Rank, Size, Paren, Call, Body, Nothing, Then, Stmt, Do, DoUnder, For, Blocks, ForAll, ForEach, TapeLine, Program}
use Rattle.qm_parse.specs.Words.{version_number}
use Rattle.qm_parse.specs.Nodes.{leaf, add_what, mul_what}
use Rattle.qm_parse.specs.Reaching.{with_stop, written}
use Rattle.std.specs.Prelude.{Bool}

-- the number of the next token, and the nodes so far
pub record Spot : Type 0 where
  pub at : ℕ
  pub nodes : List Node

abbrev pub spot : ℕ → List Node → Spot
spot at nodes = record { at = at; nodes = nodes }

-- behind a goal that is met, with a token or without
abbrev pub met : Goal → Look → Bool → Spot → Spot
met g l takes s = spot (if takes then s.at + 1 else s.at) (written g l s.at s.nodes)

-- ---- one token, or one node
abbrev pub taken : Spot → Spot
taken s = spot (s.at + 1) s.nodes

abbrev pub leafed : What → (token value : ℕ) → Spot → Spot
leafed w token value s = spot s.at (s.nodes ++ leaf w token value (length s.nodes) ∷ [])

-- a node for a token
abbrev pub noted : What → ℕ → Spot → Spot
noted w value s = taken (leafed w s.at value s)

-- all that belongs to a node was written
abbrev pub finished : ℕ → Spot → Spot
finished node s = spot s.at (with_stop (length s.nodes) node s.nodes)

-- ---- expressions
abbrev mutual
  pub behind_expr : Expr → Spot → Spot
  behind_expr (Sum t more) s = behind_adds more (behind_term t s)

  pub behind_adds : Adds → Spot → Spot
  behind_adds NoAdd s = s
  behind_adds (Add op t more) s = behind_adds more (leafed (add_what op) s.at 0 (behind_term t (taken s)))

  pub behind_term : Term → Spot → Spot
  behind_term (Product p more) s = behind_muls more (behind_prim p s)

  pub behind_muls : Muls → Spot → Spot
  behind_muls NoMul s = s
  behind_muls (Mul op p more) s = behind_muls more (leafed (mul_what op) s.at 0 (behind_prim p (taken s)))

  pub behind_prim : Prim → Spot → Spot
  behind_prim (Num v) s = noted what.Num v s
  behind_prim (Name bytes) s = noted what.Name 0 s
  behind_prim Rank s = noted what.Rank 0 s
  behind_prim Size s = noted what.Size 0 s
  behind_prim (Paren e) s = taken (behind_expr e (taken s))

abbrev pub behind_operand : Expr → Spot → Spot
behind_operand e s = leafed what.Arg s.at 0 (behind_expr e s)

abbrev pub behind_operands : List Expr → Spot → Spot
behind_operands [] s = s
behind_operands (e ∷ es) s = behind_operands es (behind_operand e s)

-- ---- bodies
abbrev pub behind_call : Call → Spot → Spot
behind_call c s = finished (length s.nodes) (behind_operands c.operands (noted what.Instr 0 s))

abbrev mutual
  pub behind_body : Body → Spot → Spot
  behind_body Nothing s = s
  behind_body (Then first more) s = behind_body more (behind_stmt first s)

  pub behind_stmt : Stmt → Spot → Spot
  behind_stmt (Do c) s = behind_call c s
  behind_stmt (DoUnder c g) s = finished (length s.nodes) (behind_call g (behind_operands c.operands (noted what.Instr 0 s)))
  behind_stmt (For name a b body) s =
      finished (length s.nodes) (taken (behind_body body (taken (behind_operand b (taken (behind_operand a (taken (taken (noted what.For 0 s)))))))))

abbrev pub behind_braced : Body → Spot → Spot
behind_braced body s = taken (behind_body body (taken s))

-- ---- programs
abbrev pub behind_each : List Body → Spot → Spot
behind_each [] s = s
behind_each (b ∷ bs) s = behind_each bs (taken (finished (length s.nodes) (behind_body b (taken (noted what.Block 0 s)))))

abbrev pub behind_blocks : Blocks → Spot → Spot
behind_blocks (ForAll body) s = taken (finished (length s.nodes) (behind_body body (noted what.All 0 s)))
behind_blocks (ForEach bodies) s = behind_each bodies s

abbrev pub behind_tape : TapeLine → Spot → Spot
behind_tape t s =
    finished (length s.nodes) (noted what.Bits 0 (noted what.Num t.rank (noted (if t.own then what.Own else what.Protocol) 0 s)))

abbrev pub behind_tapes : List TapeLine → Spot → Spot
behind_tapes [] s = s
behind_tapes (t ∷ ts) s = behind_tapes ts (behind_tape t s)

abbrev pub behind_numbers : List ℕ → Spot → Spot
behind_numbers [] s = s
behind_numbers (n ∷ ns) s = behind_numbers ns (noted what.Num n s)

-- from the slots on
abbrev pub behind_sizes : Program → Spot → Spot
behind_sizes p s = behind_tapes p.tapes (behind_blocks p.blocks (behind_numbers p.buffers (taken (behind_numbers p.qubits s))))

-- from the number of ranks on
abbrev pub behind_rest : Program → Spot → Spot
behind_rest p s = behind_sizes p (taken (noted what.Num p.ranks s))

-- from the number of the version on
abbrev pub behind_version : Program → Spot → Spot
behind_version p s = behind_rest p (taken (noted what.Num (version_number p.version) s))

abbrev pub behind_program : Program → Spot
behind_program p = behind_version p (taken (spot 0 []))
