-- What parsing a text may answer
use Rattle.std.specs.Prelude.{◌≡◌, ℕ, List, length, map, slice_get, Option, Some, Result, Ok, Err}
use Rattle.qm_lex.specs.declared.tokens.Token.{Token}
use Rattle.qm_lex.specs.Lexing.{end_line}
use Rattle.qm_parse.specs.declared.tree.Node.{Node}
use Rattle.qm_parse.specs.declared.tree.Tree.{Tree}
use Rattle.qm_parse.specs.declared.errors.ParseError.{ParseError}
use Rattle.qm_parse.specs.declared.errors.ParseError.TheVariants.{Unexpected, NumberTooLarge, TooDeep, Unended, Memory}
use Rattle.qm_parse.specs.declared.words.Verb.{Verb}
use Rattle.qm_parse.specs.Looks.{verb_seen}
use Rattle.qm_parse.specs.Signs.{Sign, signs_of}
use Rattle.qm_parse.specs.Trees.{Program}
use Rattle.qm_parse.specs.Nodes.{program_nodes}
use Rattle.qm_parse.specs.Faults.{Spells, StopsAt, IsUnexpected, IsTooLarge, IsTooDeep, IsUnended}

-- the nodes in their order
abbrev pub node_list : Tree → List Node
node_list tree = tree.items.items

-- the instruction or collective that each token names, by the token's number
abbrev pub verb_list : Tree → List (Option Verb)
verb_list tree = map verb_seen tree.looks.items

-- a program that the tokens spell, and these are its nodes
pub record IsTree (signs : List Sign) (nodes : List Node) : Type 0 where
  pub program : Program
  pub spells : Spells signs program
  pub nodes_are : nodes ≡ program_nodes program

-- the first token at which no program goes on is on this line, and this is the reason
pub record StopsOn (reason : List Sign → Sign → Type 0) (text : List ℕ) (tokens : List Token) (line : ℕ) : Type 0 where
  pub front : List Sign
  pub stop : Sign
  pub stops : StopsAt (signs_of text tokens) front stop
  pub why : reason front stop
  pub token : Token
  pub there : slice_get tokens (length front) ≡ Some token
  pub on : line ≡ token.line

-- what parsing these tokens may answer: the nodes of a program, or a line and a reason; want of memory says nothing of them
abbrev pub Parses : List ℕ → List Token → Result Tree ParseError → Type 0
Parses text tokens (Ok tree) = IsTree (signs_of text tokens) (node_list tree)
Parses text tokens (Err (Unexpected line)) = StopsOn IsUnexpected text tokens line
Parses text tokens (Err (NumberTooLarge line)) = StopsOn IsTooLarge text tokens line
Parses text tokens (Err (TooDeep line)) = StopsOn IsTooDeep text tokens line
Parses text tokens (Err (Unended line)) = IsUnended (signs_of text tokens) × (line ≡ end_line text)
Parses text tokens (Err Memory) = Unit {0}
