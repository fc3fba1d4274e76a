-- The expansion as a walk over the nodes of a source tree, which is how it is computed. Lists of nodes that no tree has are refused too
use Rattle.std.specs.Prelude.{◌≡◌, ℕ, zero, suc, ◌+◌, ◌-◌, min, nat_le, nat_lt, ◌==◌, ◌&&◌, ℤ, pos, Bool, true, false, if◌then◌else◌, List, [], ◌∷◌, length, map, take, drop, slice_get, slice_index, get_or, Option, Some, None, Result, Ok, Err}
use Rattle.std.specs.List.{list_all}
use Rattle.qm_limits.specs.declared.TheConstants.{MOST_RANKS, SLOTS, MOST_HALVES, MOST_OUTCOMES}
use Rattle.qm_instr.specs.Programs.{Programs, RankProgram, rank_of}
use Rattle.qm_lex.specs.declared.tokens.Token.{Token}
use Rattle.qm_parse.specs.declared.tree.Node.{Node}
use Rattle.qm_parse.specs.declared.tree.What.{What}
use Rattle.qm_parse.specs.declared.tree.What.TheVariants as what
use Rattle.qm_parse.specs.declared.words.Operand.{Operand}
use Rattle.qm_parse.specs.declared.words.Verb.{Verb}
use Rattle.qm_parse.specs.declared.words.Version.{Version}
use Rattle.qm_parse.specs.declared.words.Version.TheVariants as version
use Rattle.qm_parse.specs.Words.{size_count}
use Rattle.qm_parse.specs.Signs.{bytes_of, verbs_of}
use Rattle.qm_parse.specs.Trees.{Program}
use Rattle.qm_parse.specs.Nodes.{program_nodes}
use Rattle.qm_expand.specs.Reading.{lines_of}
use Rattle.qm_expand.specs.declared.ReadError.{ReadError}
use Rattle.qm_expand.specs.declared.ReadError.TheVariants as errors
use Rattle.qm_expand.specs.declared.joint.Joint.{Joint}
use Rattle.qm_expand.specs.declared.made.Operation.{Operation}
use Rattle.qm_expand.specs.declared.made.Operation.TheVariants as operation
use Rattle.qm_expand.specs.Steps.{Outcome, ◌>>=◌, UnknownName, OutOfRange, TooMany}
use Rattle.qm_expand.specs.Values.{Scope, Values, no_values, with_value, ranged, named, computed, limit, within}
use Rattle.qm_expand.specs.Table.{made, gate_made}
use Rattle.qm_expand.specs.Drafts.{Draft, draft, with_each, with_turn, with_outcomes}
use Rattle.qm_expand.specs.Expansion.{Lines, can_be_called, part_of, with_made_by, under, each_turn, turn_count, inside, rank_scope, sized_programs}

-- what a call answers: a value, the first fault, or want of memory
abbrev pub Fails : {A : Type 0} → ReadError → Outcome A → Type 0
Fails errors.Memory o = Unit {0}
Fails (errors.UnknownName line) o = o ≡ Err (UnknownName line)
Fails (errors.OutOfRange line) o = o ≡ Err (OutOfRange line)
Fails (errors.TooMany line) o = o ≡ Err (TooMany line)
Fails e o = ⊥

-- what a call answers, where its value is seen in this way
abbrev pub Answers : {X A : Type 0} → (X → A) → Result X ReadError → Outcome A → Type 0
Answers view (Ok x) o = o ≡ Ok (view x)
Answers view (Err e) o = Fails e o

-- ---- the words of a text
-- the bytes of a token, where there is one
abbrev pub token_bytes : List ℕ → Option Token → List ℕ
token_bytes text None = []
token_bytes text (Some t) = bytes_of text t

-- what each token of a text is, by its number: its bytes, its line, and the instruction or collective that it names
pub record Words : Type 0 where
  pub bytes : ℕ → List ℕ
  pub lines : Lines
  pub verbs : ℕ → Option Verb

-- those of the tokens of a text, of which these name instructions
abbrev pub words_in : List ℕ → List Token → List (Option Verb) → Words
words_in text tokens verbs = record {
  bytes = λ j. token_bytes text (slice_get tokens j);
  lines = lines_of tokens;
  verbs = λ j. get_or verbs j None;
}

-- ---- values: the numbers that wait for an operator, the newest first
-- an operator takes two of them, and leaves its value
abbrev pub on_two : ℕ → What → List ℤ → Outcome (List ℤ)
on_two line op [] = Err (OutOfRange line)
on_two line op (right ∷ []) = Err (OutOfRange line)
on_two line op (right ∷ left ∷ stack) = computed line op left right >>= λ z. Ok (z ∷ stack)

-- one number more waits, where it has no fault
abbrev pub onto : List ℤ → Outcome ℤ → Outcome (List ℤ)
onto stack o = o >>= λ z. Ok (z ∷ stack)

-- a node of an expression: a number that waits, or an operator
abbrev pub pushed : Words → ℕ → Scope → What → (token value : ℕ) → List ℤ → Outcome (List ℤ)
pushed words line s what.Num token value stack = onto stack (ranged line (pos value))
pushed words line s what.Name token value stack = onto stack (named line s (words.bytes token))
pushed words line s what.Rank token value stack = onto stack (ranged line (pos s.rank))
pushed words line s what.Size token value stack = onto stack (ranged line (pos s.ranks))
pushed words line s op token value stack = on_two line op stack

-- whether an expression ends with the node
abbrev pub is_arg : What → Bool
is_arg what.Arg = true
is_arg _ = false

-- the value of an expression, and how many nodes were used for it
pub record Valued : Type 0 where
  pub value : ℤ
  pub used : ℕ

-- at the end of an expression the newest number is its value
abbrev pub ended : ℕ → ℕ → List ℤ → Outcome Valued
ended line used [] = Err (OutOfRange line)
ended line used (z ∷ stack) = Ok (record { value = z; used = used })

-- the value of an expression at the front of these nodes, and how many nodes it has with those used before
abbrev pub value_from : Words → ℕ → Scope → ℕ → List ℤ → List Node → Outcome Valued
value_from words line s used stack [] = Err (OutOfRange line)
value_from words line s used stack (n ∷ ns) =
    if is_arg n.what
    then ended line (used + 1) stack
    else pushed words line s n.what n.token n.value stack >>= λ next. value_from words line s (used + 1) next ns

-- the value of the expression at the front of these nodes
abbrev pub value_at : Words → ℕ → Scope → List Node → Outcome Valued
value_at words line s nodes = value_from words line s 0 [] nodes

-- ---- operands
-- the operands that have values, and how many nodes were used for them
pub record Gathered : Type 0 where
  pub values : Values
  pub used : ℕ

-- one operand more, of this kind, at the nodes that aren't used yet
abbrev pub with_operand : Words → ℕ → Scope → List Node → Operand → Gathered → Outcome Gathered
with_operand words line s nodes k g =
    value_at words line s (drop g.used nodes) >>= λ v. within line (limit s k) v.value
    >>= λ n. Ok (record { values = with_value k n g.values; used = g.used + v.used })

-- the operands of these kinds, behind those that have values
abbrev pub gathered : Words → ℕ → Scope → List Node → List (Option Operand) → Gathered → Outcome Gathered
gathered words line s nodes [] g = Ok g
gathered words line s nodes (None ∷ ks) g = gathered words line s nodes ks g
gathered words line s nodes (Some k ∷ ks) g = with_operand words line s nodes k g >>= λ h. gathered words line s nodes ks h

-- all operands of an instruction
abbrev pub gathered_all : Words → ℕ → Scope → List Node → List (Option Operand) → Outcome Gathered
gathered_all words line s nodes ks = gathered words line s nodes ks (record { values = no_values; used = 0 })

-- ---- instructions
-- the gate under a bit, by its verb
abbrev pub gated_by : Words → ℕ → Scope → ℕ → List Node → Draft → Option Verb → Outcome Draft
gated_by words line s bit own d None = Ok d
gated_by words line s bit own d (Some verb) =
    gathered_all words line s own verb.operands
    >>= λ u. with_each line s.rank (under bit (gate_made verb.action (slice_index u.values.small))) d

-- the gate at the front of these nodes, under a bit
abbrev pub gated : Words → ℕ → Scope → ℕ → List Node → Draft → Outcome Draft
gated words line s bit [] d = Ok d
gated words line s bit (n ∷ ns) d = gated_by words line s bit ns d (words.verbs n.token)

-- an instruction that has its operands: a `when` goes on with its gate
abbrev pub finished : Words → ℕ → Scope → List Node → Draft → Gathered → Operation → Outcome Draft
finished words line s own d g operation.Nothing = gated words line s (slice_index g.values.small 0) (drop g.used own) d
finished words line s own d g (operation.Core i) = with_made_by line s d (operation.Core i)
finished words line s own d g (operation.Shared c) = with_made_by line s d (operation.Shared c)

-- the call of a verb with its operands
abbrev pub called_by : Words → ℕ → Scope → List Node → Draft → Option Verb → Outcome Draft
called_by words line s own d None = Ok d
called_by words line s own d (Some verb) =
    gathered_all words line s own verb.operands
    >>= λ g. finished words line s own d g (made verb.action (slice_index g.values.small) (slice_index g.values.wide))

-- the call at a node, with the nodes that belong to it
abbrev pub called : Words → Scope → Node → List Node → Draft → Outcome Draft
called words s node own d = called_by words (words.lines node.token) s own d (words.verbs node.token)

-- ---- collectives
-- a rank's part of a call, where so many ranks can make it
abbrev pub shared : ℕ → ℕ → ℕ → Joint → Draft → Outcome Draft
shared line rank ranks c d = if can_be_called ranks c then with_each line rank (part_of c rank ranks) d else Err (OutOfRange line)

-- ---- sizes and tapes
-- the version with a number
abbrev pub version_numbered : ℕ → Version
version_numbered n = if n == 2 then version.Two else version.One

-- the numbers of nodes
abbrev pub numbers_in : List Node → List ℕ
numbers_in nodes = map (λ n. n.value) nodes

-- the size of a rank, where these are written
abbrev pub size_at : Version → List ℕ → ℕ → ℕ
size_at version.One sizes rank = slice_index sizes 0
size_at version.Two sizes rank = slice_index sizes rank

-- each of these nodes has a number from 1 up to the largest
abbrev pub are_sizes : ℕ → List Node → Bool
are_sizes most nodes = list_all (λ n. nat_le 1 n.value && nat_le n.value most) nodes

-- the own tape of a rank, or its protocol tape
abbrev pub tape_of : Bool → RankProgram → List Bool
tape_of own r = if own then r.own else r.protocol

-- outcomes at the end of a tape, which must not have too many
abbrev pub appended : ℕ → Bool → ℕ → List Bool → Programs → Outcome Programs
appended line own rank ms p =
    if nat_le (length (tape_of own (rank_of p rank)) + length ms) MOST_OUTCOMES
    then Ok (with_outcomes own rank ms p)
    else Err (TooMany line)

-- ---- loops
-- a body in a scope, whose first node has this number
abbrev pub Walking : Type 0
Walking = Scope → ℕ → List Node → Draft → Outcome Draft

-- one turn of a loop, counted before its body
abbrev pub turned : Walking → ℕ → Walking
turned body line s number inner d = with_turn line d >>= body s number inner

-- a loop: its first number and its end, then its turns
abbrev pub looped : Words → Walking → Scope → ℕ → Node → List Node → Draft → Outcome Draft
looped words body s number node own d =
    let line = words.lines node.token in
    value_at words line s own >>= λ a. value_at words line s (drop a.used own)
    >>= λ b. each_turn line (λ i e. body (inside s (words.bytes (node.token + 1)) i) (number + a.used + b.used) (drop b.used (drop a.used own)) e)
    (turn_count a.value b.value) a.value d

-- whether a loop begins with the node
abbrev pub is_for : What → Bool
is_for what.For = true
is_for _ = false

-- an instruction or a loop of a body
abbrev pub stepped : Words → Walking → Scope → ℕ → Node → List Node → Draft → Outcome Draft
stepped words body s number node own d =
    if is_for node.what then looped words body s number node own d else called words s node own d

-- how many of so many nodes belong to a node; the first of them has this number
abbrev pub own_len : Node → ℕ → ℕ → ℕ
own_len node number rest = min (node.stop - number) rest

-- a body, node by node; the bound is any number that is no less than the nodes
abbrev pub walk : Words → ℕ → Walking
walk words n s number [] d = Ok d
walk words zero s number (node ∷ rest) d = Ok d
walk words (suc n) s number (node ∷ rest) d =
    let len = own_len node (number + 1) (length rest) in
    stepped words (walk words n) s (number + 1) node (take len rest) d
    >>= λ e. walk words n s (number + 1 + len) (drop len rest) e

-- ---- programs
-- what the blocks make, and how many nodes were used for them
pub record Walked : Type 0 where
  pub draft : Draft
  pub used : ℕ

-- whether a block is that of all ranks
abbrev pub is_all : What → Bool
is_all what.All = true
is_all _ = false

-- the node at the front of a list, and those behind it
abbrev pub at_front : {A : Type 0} → A → (Node → List Node → A) → List Node → A
at_front none some [] = none
at_front none some (n ∷ ns) = some n ns

-- the blocks of so many ranks from this one on; behind the numbers of the head, of which there are so many, the next block stands at a
-- place, and so many nodes were used. A block for all ranks is walked again for the next one
abbrev pub blocks_walked : Words → List Node → (head left rank at used : ℕ) → Draft → Outcome Walked
blocks_walked words nodes head zero rank at used d = Ok (record { draft = d; used = used })
blocks_walked words nodes head (suc n) rank at used d =
    at_front (blocks_walked words nodes head n (rank + 1) at used d)
    (λ b rest. let len = own_len b (head + at + 1) (length rest) in
    walk words (length nodes) (rank_scope d.programs rank) (head + at + 1) (take len rest) d
    >>= λ e. blocks_walked words nodes head n (rank + 1) (if is_all b.what then at else at + 1 + len) (at + 1 + len) e)
    (drop at nodes)

-- whether a tape's line is that of an own tape
abbrev pub is_own : What → Bool
is_own what.Own = true
is_own _ = false

-- the outcomes of a word: a digit for each, behind its first letter
abbrev pub outcomes_in : List ℕ → List Bool
outcomes_in word = map (λ d. d == 49) (drop 1 word)

-- a tape's line: its own node, that of its rank, and that of its outcomes
abbrev pub tape_walked : Words → (line rank bits : Node) → Programs → Outcome Programs
tape_walked words l r b p =
    if nat_lt r.value (length p.ranks)
    then appended (words.lines l.token) (is_own l.what) r.value (outcomes_in (words.bytes b.token)) p
    else Err (OutOfRange (words.lines l.token))

-- the tape lines, three nodes each
abbrev pub tapes_walked : Words → List Node → Programs → Outcome Programs
tapes_walked words [] p = Ok p
tapes_walked words (l ∷ []) p = Ok p
tapes_walked words (l ∷ r ∷ []) p = Ok p
tapes_walked words (l ∷ r ∷ b ∷ rest) p = tape_walked words l r b p >>= λ q. tapes_walked words rest q

-- there are some ranks, but not too many, and nodes for their slots and their buffers
abbrev pub are_ranks : (ranks count nodes : ℕ) → Bool
are_ranks ranks count nodes = nat_le 1 ranks && nat_le ranks MOST_RANKS && nat_le (count + count) nodes

-- the blocks and the tape lines, once the sizes are known; the head has so many nodes
abbrev pub sized_walk : Words → Version → ℕ → (qubits buffers : List Node) → (head : ℕ) → List Node → Outcome Programs
sized_walk words v ranks qubits buffers head nodes =
    if are_sizes SLOTS qubits && are_sizes MOST_HALVES buffers
    then (blocks_walked words nodes head ranks 0 0 0 (draft (sized_programs v ranks (numbers_in qubits) (numbers_in buffers)) 0)
    >>= λ w. tapes_walked words (drop w.used nodes) w.draft.programs)
    else Err (OutOfRange 1)

-- the nodes behind the number of ranks: those of the slots, those of the buffers, and the others
abbrev pub ranks_walk : Words → Version → ℕ → List Node → Outcome Programs
ranks_walk words v ranks nodes =
    let count = size_count v ranks in
    if are_ranks ranks count (length nodes)
    then sized_walk words v ranks (take count nodes) (take count (drop count nodes)) (2 + count + count) (drop count (drop count nodes))
    else Err (OutOfRange 1)

-- the nodes of a whole tree: the version, the number of ranks, and what follows them
abbrev pub walked : Words → List Node → Outcome Programs
walked words [] = Err (OutOfRange 1)
walked words (a ∷ []) = Err (OutOfRange 1)
walked words (a ∷ r ∷ rest) = ranks_walk words (version_numbered a.value) r.value rest

-- the walk over the nodes of a source tree
abbrev pub tree_walked : List ℕ → List Token → Program → Outcome Programs
tree_walked text tokens program = walked (words_in text tokens (verbs_of text tokens)) (program_nodes program)
