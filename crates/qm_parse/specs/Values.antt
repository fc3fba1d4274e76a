-- Trees of texts, by computation
use Rattle.std.specs.Prelude.{◌≡◌, ℕ, true, false, List, [], ◌∷◌, Result, Ok, Err, Some, None, codes, refl, replicate}
use Rattle.qm_lex.specs.declared.tokens.Token.{Token}
use Rattle.qm_lex.specs.Lexing.{tokens_of}
use Rattle.qm_instr.specs.declared.OneGate.TheVariants as one
use Rattle.qm_parse.specs.declared.tree.Node.{Node}
use Rattle.qm_parse.specs.declared.tree.What.{What}
use Rattle.qm_parse.specs.declared.tree.What.TheVariants as what
use Rattle.qm_parse.specs.declared.words.Action.{Action}
use Rattle.qm_parse.specs.declared.words.Action.TheVariants as action
use Rattle.qm_parse.specs.declared.words.Keyword.TheVariants as keyword
use Rattle.qm_parse.specs.declared.words.Mark.TheVariants as mark
use Rattle.qm_parse.specs.declared.words.Operand.TheVariants as operand
use Rattle.qm_parse.specs.declared.words.Reserved.TheVariants as reserved
use Rattle.qm_parse.specs.declared.words.Verb.{Verb}
use Rattle.qm_parse.specs.declared.words.Version.TheVariants as version
use Rattle.qm_parse.specs.Words.{reserved_of, operands_of, bits_word}
use Rattle.qm_parse.specs.Signs.{Sign, Symbol, signs_of}
use Rattle.qm_parse.specs.Trees.{Plus, Times, Expr, Sum, NoAdd, Add, Product, NoMul, Mul, Prim, Num, Name, Rank, Paren, Nothing, Then, Stmt, DoUnder, For, ForAll, ForEach, Program}
use Rattle.qm_parse.specs.Spelling.{program_signs}
use Rattle.qm_parse.specs.Nodes.{program_nodes}
use Rattle.qm_parse.specs.Faults.{open_after}

-- ---- words

-- three verbs: a gate, one that a gate follows, and a collective
abbrev verb_x : Verb
verb_x = record { action = action.One one.X; operands = Some operand.Slot ∷ None ∷ None ∷ None ∷ [] }

abbrev verb_when : Verb
verb_when = record { action = action.When; operands = Some operand.Bit ∷ None ∷ None ∷ None ∷ [] }

abbrev verb_bcast : Verb
verb_bcast = record { action = action.Bcast; operands = Some operand.Slot ∷ Some operand.Root ∷ Some operand.Tag ∷ None ∷ [] }

word_bcast : reserved_of version.One (codes "bcast") ≡ Some (reserved.Verb verb_bcast)
word_bcast = refl

operands_bcast : operands_of verb_bcast ≡ operand.Slot ∷ operand.Root ∷ operand.Tag ∷ []
operands_bcast = refl

word_protocol : reserved_of version.One (codes "protocol") ≡ Some (reserved.Keyword keyword.Protocol)
word_protocol = refl

-- in version 2 nothing begins with the word for undoing a reduction, and it is no name; the others are those of version 1
word_unreduce : reserved_of version.Two (codes "unreduce") ≡ Some (reserved.Keyword keyword.Unreduce)
word_unreduce = refl

word_reduce : reserved_of version.Two (codes "reduce") ≡ reserved_of version.One (codes "reduce")
word_reduce = refl

-- names: no beginning of a reserved word, no capital, no tree form of a broadcast
word_b : reserved_of version.One (codes "b") ≡ None
word_b = refl

word_H : reserved_of version.One (codes "H") ≡ None
word_H = refl

word_treecast : reserved_of version.One (codes "treecast") ≡ None
word_treecast = refl

word_untreecast : reserved_of version.One (codes "untreecast") ≡ None
word_untreecast = refl

-- in version 2 the tree forms are reserved, each with a slot, a root and a tag; their beginnings are names
abbrev tree_verb : Action → Verb
tree_verb does = record { action = does; operands = Some operand.Slot ∷ Some operand.Root ∷ Some operand.Tag ∷ None ∷ [] }

newer_treecast : reserved_of version.Two (codes "treecast") ≡ Some (reserved.Verb (tree_verb action.Treecast))
newer_treecast = refl

newer_untreecast : reserved_of version.Two (codes "untreecast") ≡ Some (reserved.Verb (tree_verb action.Untreecast))
newer_untreecast = refl

newer_tree : reserved_of version.Two (codes "tree") ≡ None
newer_tree = refl

outcomes_word : bits_word (false ∷ true ∷ []) ≡ codes "b01"
outcomes_word = refl

-- ---- a program
-- a loop with a gate under a bit, an empty block, and a tape
abbrev text : List ℕ
text = codes "qmpi 01 ranks 2 qubits 3 buffer 4 rank 0 for i in 0..2+(rank)*i { when i x 1 } end rank 1 end own 1 b01"

-- an expression without operators
abbrev single : Prim → Expr
single p = Sum (Product p NoMul) NoAdd

-- the loop of the text
abbrev loop : Stmt
loop = For (codes "i")
    (single (Num 0))
    (Sum (Product (Num 2) NoMul) (Add Plus (Product (Paren (single Rank)) (Mul Times (Name (codes "i")) NoMul)) NoAdd))
    (Then (DoUnder
    (record { verb = verb_when; operands = single (Name (codes "i")) ∷ [] })
    (record { verb = verb_x; operands = single (Num 1) ∷ [] })) Nothing)

-- the tree of the text
abbrev program : Program
program = record {
  version = version.One;
  ranks = 2;
  qubits = 3 ∷ [];
  buffers = 4 ∷ [];
  blocks = ForEach (Then loop Nothing ∷ Nothing ∷ []);
  tapes = record { own = true; rank = 1; outcomes = false ∷ true ∷ [] } ∷ [];
}

-- the tokens of a text, which has no bad byte
abbrev signs_in : List ℕ → Result (List Token) ℕ → List Sign
signs_in bytes (Ok tokens) = signs_of bytes tokens
signs_in bytes (Err line) = []

program_spelled : program_signs program ≡ signs_in text (tokens_of text)
program_spelled = refl

-- a node with its four parts
abbrev node : What → ℕ → ℕ → ℕ → Node
node w token value stop = record { what = w; token = token; value = value; stop = stop }

program_written : program_nodes program ≡
    node what.Num 1 1 1 ∷ node what.Num 3 2 2 ∷ node what.Num 5 3 3 ∷ node what.Num 7 4 4
    ∷ node what.Block 8 0 20
    ∷ node what.For 10 0 20
    ∷ node what.Num 13 0 7 ∷ node what.Arg 13 0 8
    ∷ node what.Num 15 2 9 ∷ node what.Rank 18 0 10 ∷ node what.Name 21 0 11 ∷ node what.Times 20 0 12 ∷ node what.Plus 16 0 13
    ∷ node what.Arg 15 0 14
    ∷ node what.Instr 23 0 20 ∷ node what.Name 24 0 16 ∷ node what.Arg 24 0 17
    ∷ node what.Instr 25 0 20 ∷ node what.Num 26 1 19 ∷ node what.Arg 26 0 20
    ∷ node what.Block 29 0 21
    ∷ node what.Own 32 0 24 ∷ node what.Num 33 1 23 ∷ node what.Bits 34 0 24 ∷ []
program_written = refl

-- ---- a program of version 2
-- two ranks, each with its own number of slots and its own buffer
abbrev wide_text : List ℕ
wide_text = codes "qmpi 02 ranks 2 qubits 3 16 buffer 4 1 all end protocol 0 b"

abbrev wide_program : Program
wide_program = record {
  version = version.Two;
  ranks = 2;
  qubits = 3 ∷ 16 ∷ [];
  buffers = 4 ∷ 1 ∷ [];
  blocks = ForAll Nothing;
  tapes = record { own = false; rank = 0; outcomes = [] } ∷ [];
}

wide_spelled : program_signs wide_program ≡ signs_in wide_text (tokens_of wide_text)
wide_spelled = refl

wide_written : program_nodes wide_program ≡
    node what.Num 1 2 1 ∷ node what.Num 3 2 2
    ∷ node what.Num 5 3 3 ∷ node what.Num 6 16 4 ∷ node what.Num 8 4 5 ∷ node what.Num 9 1 6
    ∷ node what.All 10 0 7
    ∷ node what.Protocol 12 0 10 ∷ node what.Num 13 0 9 ∷ node what.Bits 14 0 10 ∷ []
wide_written = refl

-- ---- open braces and parentheses
-- so many parentheses that open
abbrev opened : ℕ → List Sign
opened n = replicate n (Symbol mark.OpenParenthesis)

depth_of_thirty_two : open_after 0 (opened 32) ≡ 32
depth_of_thirty_two = refl

depth_reached :
    open_after 0 (Symbol mark.OpenBrace ∷ Symbol mark.OpenParenthesis ∷ Symbol mark.CloseParenthesis ∷ Symbol mark.Plus ∷ []) ≡ 1
depth_reached = refl
