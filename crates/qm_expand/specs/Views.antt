-- The values of the code, as the definitions see them
use Rattle.std.specs.Prelude.{◌≡◌, ℕ, ◌+◌, ◌≤◌, ℤ, true, List, [], ◌∷◌, length, map, Result, Ok, Err}
use Rattle.qm_lex.specs.Lexing.{token_list}
use Rattle.qm_lex.specs.Spans.{LieIn}
use Rattle.qm_parse.specs.Parsing.{verb_list}
use Rattle.qm_limits.specs.declared.TheConstants.{MOST_RANKS, SLOTS, MOST_HALVES}
use Rattle.qm_parse.specs.Words.{size_count}
use Rattle.qm_expand.specs.declared.head.Head.{Head}
use Rattle.qm_expand.specs.declared.ReadError.{ReadError}
use Rattle.qm_expand.specs.declared.words.Source.{Source}
use Rattle.qm_expand.specs.declared.values.Scope.{Scope}
use Rattle.qm_expand.specs.declared.values.Context.{Context}
use Rattle.qm_expand.specs.declared.values.Binding.{Binding}
use Rattle.qm_expand.specs.declared.values.Valued.{Valued}
use Rattle.qm_expand.specs.declared.operands.Operands.{Operands}
use Rattle.qm_expand.specs.declared.draft.Draft.{Draft}
use Rattle.qm_expand.specs.Steps.{Outcome}
use Rattle.qm_expand.specs.Values as values
use Rattle.qm_expand.specs.Drafts as drafts
use Rattle.qm_expand.specs.Walk as walk

-- a rank's scope, with these names
abbrev pub scope_of : Scope → List values.Binding → values.Scope
scope_of s names = record { rank = s.rank; ranks = s.ranks; qubits = s.qubits; names = names }

-- the tokens of a source lie in its text; and what each of them is
abbrev pub AreWords : Source → Type 0
AreWords s = LieIn s.text.now (token_list s.tokens.now)

abbrev pub words_of : Source → walk.Words
words_of s = walk.words_in s.text.now (token_list s.tokens.now) (verb_list s.tree.now)

-- names, by their bytes
abbrev pub names_in : Source → List Binding → List values.Binding
names_in s names = map (λ (b : Binding). record { name = (words_of s).bytes b.token; value = b.value }) names

-- what a rank knows inside loops with these names
abbrev pub scope_in : Context → List Binding → values.Scope
scope_in c names = scope_of c.scope (names_in c.source names)

-- no rank of the code is wider than its numbers
abbrev pub widest : values.Scope
widest = record { rank = 0; ranks = 65535; qubits = 255; names = [] }

-- a value, and how many nodes it has
abbrev pub value_seen : Valued → walk.Valued
value_seen v = record { value = v.value; used = v.used }

-- a value that is pushed next, on what is left of the stack
abbrev pub IsPushed : List ℤ → Result ℤ ReadError → Outcome (List ℤ) → Type 0
IsPushed left (Ok z) o = o ≡ Ok (z ∷ left)
IsPushed left (Err e) o = walk.Fails e o

-- operands, and how many nodes they have
abbrev pub operands_seen : Operands → walk.Gathered
operands_seen o = record { values = record { small = o.small.items; wide = o.wide.items }; used = o.used }

-- how many operands there are
abbrev pub kept : Operands → ℕ
kept o = length o.small.items + length o.wide.items

-- the programs as far as they are expanded, and the turns of the loops
abbrev pub draft_seen : Draft → drafts.Draft
draft_seen d = record { programs = d.input; turns = d.turns }

-- a head of some ranks, but not too many, with as many nodes for slots and for buffers as its version has numbers for them
pub record AreCounted (h : Head) : Type 0 where
  pub some_ranks : 1 ≤ h.ranks
  pub few_ranks : h.ranks ≤ MOST_RANKS
  pub qubits : length h.qubits.now ≡ size_count h.version h.ranks
  pub buffers : length h.buffers.now ≡ size_count h.version h.ranks

-- and the sizes are in their ranges
pub record AreSized (h : Head) : Type 0 where
  pub counted : AreCounted h
  pub slots : walk.are_sizes SLOTS h.qubits.now ≡ true
  pub halves : walk.are_sizes MOST_HALVES h.buffers.now ≡ true
