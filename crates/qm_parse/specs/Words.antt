-- The reserved words, and what the bytes of words and numbers mean
use Rattle.std.specs.Prelude.{ℕ, ◌+◌, ◌*◌, ◌-◌, Bool, true, false, if◌then◌else◌, List, [], ◌∷◌, ◌++◌, map, fold, find, take, replicate, Option, Some, None, option_map, codes}
use Rattle.std.specs.Str.{bytes_eq}
use Rattle.std.specs.List.{filter_map}
use Rattle.qm_instr.specs.declared.OneGate.TheVariants as one
use Rattle.qm_parse.specs.declared.words.Action.{Action}
use Rattle.qm_parse.specs.declared.words.Action.TheVariants as action
use Rattle.qm_parse.specs.declared.words.Keyword.{Keyword}
use Rattle.qm_parse.specs.declared.words.Keyword.TheVariants as keyword
use Rattle.qm_parse.specs.declared.words.Operand.{Operand}
use Rattle.qm_parse.specs.declared.words.Operand.TheVariants.{Slot, Bit, Truth, Peer, Root, Tag}
use Rattle.qm_parse.specs.declared.words.Reserved.{Reserved}
use Rattle.qm_parse.specs.declared.words.Reserved.TheVariants as reserved
use Rattle.qm_parse.specs.declared.words.Verb.{Verb}
use Rattle.qm_parse.specs.declared.words.Version.{Version}
use Rattle.qm_parse.specs.declared.words.Version.TheVariants as version

-- ---- the table
-- a reserved word, and what it means
pub record Word : Type 0 where
  pub bytes : List ℕ
  pub means : Reserved

-- a word of the frame of a program, of a loop or of an expression
abbrev pub frame_word : List ℕ → Keyword → Word
frame_word bytes k = record { bytes = bytes; means = reserved.Keyword k }

-- four places for the kinds of operands, of which the first are filled
abbrev pub four_places : List Operand → List (Option Operand)
four_places kinds = take 4 (map Some kinds ++ replicate 4 None)

-- an instruction or a collective: its word, what it does, and the kinds of its operands from left to right
abbrev pub verb_word : List ℕ → Action → List Operand → Word
verb_word bytes does kinds = record { bytes = bytes; means = reserved.Verb (record { action = does; operands = four_places kinds }) }

-- the instructions of a rank. Behind the bit of a `when` stands a gate with operands of its own, which are not among these
abbrev pub instruction_words : List Word
instruction_words =
    verb_word (codes "alloc") action.Alloc (Slot ∷ [])
    ∷ verb_word (codes "free") action.Free (Slot ∷ [])
    ∷ verb_word (codes "x") (action.One one.X) (Slot ∷ [])
    ∷ verb_word (codes "z") (action.One one.Z) (Slot ∷ [])
    ∷ verb_word (codes "h") (action.One one.H) (Slot ∷ [])
    ∷ verb_word (codes "s") (action.One one.S) (Slot ∷ [])
    ∷ verb_word (codes "sdg") (action.One one.Sdg) (Slot ∷ [])
    ∷ verb_word (codes "t") (action.One one.T) (Slot ∷ [])
    ∷ verb_word (codes "tdg") (action.One one.Tdg) (Slot ∷ [])
    ∷ verb_word (codes "cx") action.Cx (Slot ∷ Slot ∷ [])
    ∷ verb_word (codes "cz") action.Cz (Slot ∷ Slot ∷ [])
    ∷ verb_word (codes "measure") action.Measure (Slot ∷ Bit ∷ [])
    ∷ verb_word (codes "set") action.Set (Bit ∷ Truth ∷ [])
    ∷ verb_word (codes "xor") action.Xor (Bit ∷ Bit ∷ [])
    ∷ verb_word (codes "when") action.When (Bit ∷ [])
    ∷ verb_word (codes "sendbit") action.SendBit (Bit ∷ Peer ∷ Tag ∷ [])
    ∷ verb_word (codes "recvbit") action.RecvBit (Bit ∷ Peer ∷ Tag ∷ [])
    ∷ verb_word (codes "copyto") action.CopyTo (Slot ∷ Peer ∷ Tag ∷ [])
    ∷ verb_word (codes "copyfrom") action.CopyFrom (Slot ∷ Peer ∷ Tag ∷ [])
    ∷ verb_word (codes "undoto") action.UndoTo (Slot ∷ Peer ∷ Tag ∷ [])
    ∷ verb_word (codes "undofrom") action.UndoFrom (Slot ∷ Peer ∷ Tag ∷ [])
    ∷ verb_word (codes "moveto") action.MoveTo (Slot ∷ Peer ∷ Tag ∷ [])
    ∷ verb_word (codes "movefrom") action.MoveFrom (Slot ∷ Peer ∷ Tag ∷ [])
    ∷ verb_word (codes "reachto") action.ReachTo (Slot ∷ Peer ∷ Tag ∷ [])
    ∷ verb_word (codes "reachfrom") action.ReachFrom (Slot ∷ Peer ∷ Tag ∷ [])
    ∷ []

-- the collectives, which every rank writes
abbrev pub collective_words : List Word
collective_words =
    verb_word (codes "bcast") action.Bcast (Slot ∷ Root ∷ Tag ∷ [])
    ∷ verb_word (codes "unbcast") action.Unbcast (Slot ∷ Root ∷ Tag ∷ [])
    ∷ verb_word (codes "scatter") action.Scatter (Slot ∷ Root ∷ Tag ∷ [])
    ∷ verb_word (codes "gather") action.Gather (Slot ∷ Root ∷ Tag ∷ [])
    ∷ verb_word (codes "unscatter") action.Unscatter (Slot ∷ Root ∷ Tag ∷ [])
    ∷ verb_word (codes "ungather") action.Ungather (Slot ∷ Root ∷ Tag ∷ [])
    ∷ verb_word (codes "reduce") action.Reduce (Slot ∷ Slot ∷ Root ∷ Tag ∷ [])
    ∷ verb_word (codes "unreduce") action.Unreduce (Slot ∷ Slot ∷ Root ∷ Tag ∷ [])
    ∷ []

-- the words of the frame of a program, of loops and of expressions
abbrev pub frame_words : List Word
frame_words =
    frame_word (codes "qmpi") keyword.Qmpi
    ∷ frame_word (codes "ranks") keyword.Ranks
    ∷ frame_word (codes "qubits") keyword.Qubits
    ∷ frame_word (codes "buffer") keyword.Buffer
    ∷ frame_word (codes "rank") keyword.Rank
    ∷ frame_word (codes "size") keyword.Size
    ∷ frame_word (codes "all") keyword.All
    ∷ frame_word (codes "end") keyword.End
    ∷ frame_word (codes "own") keyword.Own
    ∷ frame_word (codes "protocol") keyword.Protocol
    ∷ frame_word (codes "for") keyword.For
    ∷ frame_word (codes "in") keyword.In
    ∷ []

-- the words of version 1
abbrev pub older_words : List Word
older_words = instruction_words ++ collective_words ++ frame_words

-- the words of version 2 that mean something else there, before which those of version 1 don't count
abbrev pub newer_words : List Word
newer_words =
    frame_word (codes "unreduce") keyword.Unreduce
    ∷ verb_word (codes "treecast") action.Treecast (Slot ∷ Root ∷ Tag ∷ [])
    ∷ verb_word (codes "untreecast") action.Untreecast (Slot ∷ Root ∷ Tag ∷ [])
    ∷ []

-- all reserved words of a version
abbrev pub words : Version → List Word
words version.One = older_words
words version.Two = newer_words ++ older_words

-- ---- what words mean
-- what a word means by a table; none where the table hasn't it
abbrev pub meaning : List Word → List ℕ → Option Reserved
meaning table bytes = option_map (λ w. w.means) (find (λ w. bytes_eq bytes w.bytes) table)

-- what a word means in a text of a version; none where it isn't reserved
abbrev pub reserved_of : Version → List ℕ → Option Reserved
reserved_of v bytes = meaning (words v) bytes

-- the kinds of a verb's operands, from left to right
abbrev pub operands_of : Verb → List Operand
operands_of verb = filter_map (λ o. o) verb.operands

-- a gate, which may stand under a `when`
abbrev pub is_gate : Action → Bool
is_gate (action.One g) = true
is_gate action.Cx = true
is_gate action.Cz = true
is_gate _ = false

-- whether a gate follows the operands
abbrev pub takes_gate : Action → Bool
takes_gate action.When = true
takes_gate _ = false

-- ---- versions
-- the number that a text names its version by
abbrev pub version_number : Version → ℕ
version_number version.One = 1
version_number version.Two = 2

-- how many numbers give the slots of so many ranks, or their buffers: one for all, or one for each
abbrev pub size_count : Version → ℕ → ℕ
size_count version.One ranks = 1
size_count version.Two ranks = ranks

-- ---- numbers and outcomes
-- the value of decimal digits
abbrev pub value_of : List ℕ → ℕ
value_of digits = fold (λ n b. 10 * n + (b - 48)) 0 digits

-- the word of outcomes: the letter b, and a digit for each
abbrev pub bits_word : List Bool → List ℕ
bits_word ms = 98 ∷ map (λ m. if m then 49 else 48) ms
