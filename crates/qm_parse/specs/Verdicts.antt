-- What a token is to a goal
use Rattle.std.specs.Prelude.{ℕ, ◌+◌, Bool, true, false, ◌&&◌, nat_le, nat_lt, if◌then◌else◌, Option, Some, None, is_some}
use Rattle.qm_limits.specs.declared.TheConstants.{LARGEST_VALUE, MOST_OPEN, MOST_RANKS}
use Rattle.qm_parse.specs.declared.goals.Fixed.{Fixed}
use Rattle.qm_parse.specs.declared.goals.Fixed.TheVariants as fixed
use Rattle.qm_parse.specs.declared.goals.Goal.{Goal}
use Rattle.qm_parse.specs.declared.goals.Goal.TheVariants as goal
use Rattle.qm_parse.specs.declared.goals.Stop.TheVariants as stop
use Rattle.qm_parse.specs.declared.goals.Verdict.{Verdict}
use Rattle.qm_parse.specs.declared.goals.Verdict.TheVariants as verdict
use Rattle.qm_parse.specs.declared.looks.Look.{Look}
use Rattle.qm_parse.specs.declared.looks.Look.TheVariants as look
use Rattle.qm_parse.specs.declared.tree.What.{What}
use Rattle.qm_parse.specs.declared.tree.What.TheVariants as what
use Rattle.qm_parse.specs.declared.words.Keyword.TheVariants as keyword
use Rattle.qm_parse.specs.declared.words.Mark.TheVariants as mark
use Rattle.qm_parse.specs.declared.words.TheConstants.{NEWEST}
use Rattle.qm_parse.specs.Words.{is_gate}

-- whether a token is this word or symbol, which stands alone
abbrev pub is_fixed : Fixed → Look → Bool
is_fixed fixed.Qmpi (look.Keyword keyword.Qmpi) = true
is_fixed fixed.Ranks (look.Keyword keyword.Ranks) = true
is_fixed fixed.Qubits (look.Keyword keyword.Qubits) = true
is_fixed fixed.Buffer (look.Keyword keyword.Buffer) = true
is_fixed fixed.End (look.Keyword keyword.End) = true
is_fixed fixed.In (look.Keyword keyword.In) = true
is_fixed fixed.Dots (look.Mark mark.Dots) = true
is_fixed fixed.CloseBrace (look.Mark mark.CloseBrace) = true
is_fixed fixed.CloseParenthesis (look.Mark mark.CloseParenthesis) = true
is_fixed f l = false

-- a token that has to be of some kind: the goal begins with it, or no program goes on
abbrev pub verdict_if : Bool → Verdict
verdict_if b = if b then verdict.Take else verdict.Stop stop.Unexpected

-- a token that may be of some kind: the goal begins with it, or else leaves it
abbrev pub stay_unless : Bool → Verdict
stay_unless b = if b then verdict.Take else verdict.Stay

-- a number from least up to, and without, end
abbrev pub number_verdict : Look → ℕ → ℕ → Verdict
number_verdict (look.Number v) least end =
    if nat_lt LARGEST_VALUE v then verdict.Stop stop.NumberTooLarge else verdict_if (nat_le least v && nat_lt v end)
number_verdict l least end = verdict.Stop stop.Unexpected

-- one more brace or parenthesis, where so many are open
abbrev pub open_verdict : ℕ → Verdict
open_verdict depth = if nat_lt depth MOST_OPEN then verdict.Take else verdict.Stop stop.TooDeep

-- the first token of a `prim` of the grammar
abbrev pub prim_verdict : Look → ℕ → Verdict
prim_verdict (look.Number v) depth = number_verdict (look.Number v) 0 (LARGEST_VALUE + 1)
prim_verdict (look.Name b) depth = verdict.Take
prim_verdict (look.Keyword keyword.Rank) depth = verdict.Take
prim_verdict (look.Keyword keyword.Size) depth = verdict.Take
prim_verdict (look.Mark mark.OpenParenthesis) depth = open_verdict depth
prim_verdict l depth = verdict.Stop stop.Unexpected

-- the brace before a body
abbrev pub braced_verdict : Look → ℕ → Verdict
braced_verdict (look.Mark mark.OpenBrace) depth = open_verdict depth
braced_verdict l depth = verdict.Stop stop.Unexpected

-- the operator that a token is, on the level of `*`
abbrev pub mul_op : Look → Option What
mul_op (look.Mark mark.Times) = Some what.Times
mul_op (look.Mark mark.Over) = Some what.Over
mul_op (look.Mark mark.Rest) = Some what.Rest
mul_op l = None

-- the operator that a token is, on the level of `+`
abbrev pub add_op : Look → Option What
add_op (look.Mark mark.Plus) = Some what.Plus
add_op (look.Mark mark.Minus) = Some what.Minus
add_op l = None

-- whether a token names a gate
abbrev pub is_gate_verb : Look → Bool
is_gate_verb (look.Verb v) = is_gate v.action
is_gate_verb l = false

-- whether it is the word before a rank's block
abbrev pub is_rank : Look → Bool
is_rank (look.Keyword keyword.Rank) = true
is_rank l = false

-- whether it is the word before the block of all ranks
abbrev pub is_all : Look → Bool
is_all (look.Keyword keyword.All) = true
is_all l = false

-- whether a tape's line begins with it
abbrev pub is_tape : Look → Bool
is_tape (look.Keyword keyword.Own) = true
is_tape (look.Keyword keyword.Protocol) = true
is_tape l = false

-- whether it is a word of outcomes
abbrev pub is_bits_name : Look → Bool
is_bits_name (look.Name b) = b
is_bits_name l = false

-- whether it is a word that may name a loop's number
abbrev pub is_name : Look → Bool
is_name (look.Name b) = true
is_name l = false

-- an instruction or a loop begins with it
abbrev pub is_statement : Look → Bool
is_statement (look.Verb v) = true
is_statement (look.Keyword keyword.For) = true
is_statement l = false

-- what a token is to a goal, where so many braces and parentheses are open
abbrev pub verdict_of : Goal → Look → ℕ → Verdict
verdict_of (goal.Fixed f) l depth = verdict_if (is_fixed f l)
verdict_of (goal.Number least end written) l depth = number_verdict l least end
verdict_of goal.Version l depth = number_verdict l 1 (NEWEST + 1)
verdict_of (goal.Ranks v) l depth = number_verdict l 1 (MOST_RANKS + 1)
verdict_of (goal.Numbers left end) l depth = verdict.Stay
verdict_of (goal.Blocks ranks) l depth = stay_unless (is_all l)
verdict_of (goal.Each next ranks) l depth = if nat_lt next ranks then verdict_if (is_rank l) else verdict.Stay
verdict_of (goal.Tapes ranks) l depth = stay_unless (is_tape l)
verdict_of goal.Outcomes l depth = verdict_if (is_bits_name l)
verdict_of goal.Name l depth = verdict_if (is_name l)
verdict_of goal.Body l depth = stay_unless (is_statement l)
verdict_of goal.Braced l depth = braced_verdict l depth
verdict_of (goal.Operands left) l depth = verdict.Stay
verdict_of goal.Gate l depth = verdict_if (is_gate_verb l)
verdict_of goal.Prim l depth = prim_verdict l depth
verdict_of goal.Muls l depth = stay_unless (is_some (mul_op l))
verdict_of goal.Adds l depth = stay_unless (is_some (add_op l))
verdict_of (goal.Leaf w token) l depth = verdict.Stay
verdict_of (goal.Close node) l depth = verdict.Stay

-- ---- the node that is written: what it stands for, its token and its value
-- by the number of the token
abbrev pub leaf_at : ℕ → Option (What × ℕ) → Option (What × ℕ × ℕ)
leaf_at at None = None
leaf_at at (Some (w, value)) = Some (w, at, value)

-- for a number
abbrev pub number_leaf : Look → Option (What × ℕ)
number_leaf (look.Number v) = Some (what.Num, v)
number_leaf l = None

-- for the word at the front of a tape's line
abbrev pub tape_leaf : Look → Option (What × ℕ)
tape_leaf (look.Keyword keyword.Own) = Some (what.Own, 0)
tape_leaf (look.Keyword keyword.Protocol) = Some (what.Protocol, 0)
tape_leaf l = None

-- for the first token of an instruction or a loop
abbrev pub body_leaf : Look → Option (What × ℕ)
body_leaf (look.Verb v) = Some (what.Instr, 0)
body_leaf (look.Keyword keyword.For) = Some (what.For, 0)
body_leaf l = None

-- for the verb of a gate under a bit
abbrev pub gate_leaf : Look → Option (What × ℕ)
gate_leaf (look.Verb v) = Some (what.Instr, 0)
gate_leaf l = None

-- for a `prim` of one token
abbrev pub prim_leaf : Look → Option (What × ℕ)
prim_leaf (look.Number v) = Some (what.Num, v)
prim_leaf (look.Name b) = Some (what.Name, 0)
prim_leaf (look.Keyword keyword.Rank) = Some (what.Rank, 0)
prim_leaf (look.Keyword keyword.Size) = Some (what.Size, 0)
prim_leaf l = None

-- the node that each goal writes, where it writes one
abbrev pub leaf_of : Goal → Look → ℕ → Option (What × ℕ × ℕ)
leaf_of (goal.Fixed f) l at = None
leaf_of (goal.Number least end written) l at = if written then leaf_at at (number_leaf l) else None
leaf_of goal.Version l at = leaf_at at (number_leaf l)
leaf_of (goal.Ranks v) l at = leaf_at at (number_leaf l)
leaf_of (goal.Numbers left end) l at = None
leaf_of (goal.Blocks ranks) l at = if is_all l then Some (what.All, at, 0) else None
leaf_of (goal.Each next ranks) l at = if nat_lt next ranks then Some (what.Block, at, 0) else None
leaf_of (goal.Tapes ranks) l at = leaf_at at (tape_leaf l)
leaf_of goal.Outcomes l at = Some (what.Bits, at, 0)
leaf_of goal.Name l at = None
leaf_of goal.Body l at = leaf_at at (body_leaf l)
leaf_of goal.Braced l at = None
leaf_of (goal.Operands left) l at = None
leaf_of goal.Gate l at = leaf_at at (gate_leaf l)
leaf_of goal.Prim l at = leaf_at at (prim_leaf l)
leaf_of goal.Muls l at = None
leaf_of goal.Adds l at = None
leaf_of (goal.Leaf w token) l at = Some (w, token, 0)
leaf_of (goal.Close node) l at = None
