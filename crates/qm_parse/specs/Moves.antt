-- The goals that stand for a goal, or follow its first token
use Rattle.std.specs.Prelude.{ℕ, ◌+◌, ◌-◌, true, false, nat_lt, if◌then◌else◌, List, [], ◌∷◌, reverse, Option, Some, None, count_by, is_some}
use Rattle.qm_limits.specs.declared.TheConstants.{SLOTS, MOST_HALVES}
use Rattle.qm_parse.specs.declared.goals.Fixed.TheVariants as fixed
use Rattle.qm_parse.specs.declared.goals.Goal.{Goal}
use Rattle.qm_parse.specs.declared.goals.Goal.TheVariants as goal
use Rattle.qm_parse.specs.declared.looks.Look.{Look}
use Rattle.qm_parse.specs.declared.looks.Look.TheVariants as look
use Rattle.qm_parse.specs.declared.stack.Goals.{Goals}
use Rattle.qm_parse.specs.declared.tree.What.{What}
use Rattle.qm_parse.specs.declared.tree.What.TheVariants as what
use Rattle.qm_parse.specs.declared.words.Keyword.TheVariants as keyword
use Rattle.qm_parse.specs.declared.words.Mark.TheVariants as mark
use Rattle.qm_parse.specs.declared.words.Verb.{Verb}
use Rattle.qm_parse.specs.declared.words.Version.{Version}
use Rattle.qm_parse.specs.Words.{takes_gate, size_count}
use Rattle.qm_parse.specs.Looks.{version_seen}
use Rattle.qm_parse.specs.Verdicts.{is_all, is_tape, mul_op, add_op}

-- from the next goal to the last one
abbrev pub goals_left : Goals → List Goal
goals_left goals = reverse goals.items.items

-- of a whole text: the head as far as the number of its version, behind which the rest follows
abbrev pub start_goals : List Goal
start_goals = goal.Fixed fixed.Qmpi ∷ goal.Version ∷ []

-- ---- of the frame; base is the number of the next node
-- behind the version: the number of ranks, behind which the rest follows
abbrev pub version_goals : Version → List Goal
version_goals v = goal.Fixed fixed.Ranks ∷ goal.Ranks v ∷ []

-- behind the number of ranks: their slots, their buffers, the blocks and the tapes
abbrev pub ranks_goals : Version → Look → List Goal
ranks_goals v (look.Number ranks) =
    goal.Fixed fixed.Qubits ∷ goal.Numbers (size_count v ranks) (SLOTS + 1)
    ∷ goal.Fixed fixed.Buffer ∷ goal.Numbers (size_count v ranks) (MOST_HALVES + 1)
    ∷ goal.Blocks ranks ∷ goal.Tapes ranks ∷ []
ranks_goals v l = []

-- one number, and so many behind it
abbrev pub number_goals : ℕ → ℕ → List Goal
number_goals left end = goal.Number 1 end true ∷ goal.Numbers left end ∷ []

-- the rest of a rank's block, and the blocks of the ranks behind it
abbrev pub each_goals : ℕ → ℕ → ℕ → List Goal
each_goals next ranks base =
    goal.Number next (next + 1) false ∷ goal.Body ∷ goal.Close base ∷ goal.Fixed fixed.End ∷ goal.Each (next + 1) ranks ∷ []

-- of each goal of the frame
abbrev pub frame_goals : Goal → Look → ℕ → List Goal
frame_goals goal.Version l base = version_goals (version_seen l)
frame_goals (goal.Ranks v) l base = ranks_goals v l
frame_goals (goal.Numbers left end) l base = if nat_lt 0 left then number_goals (left - 1) end else []
frame_goals (goal.Blocks ranks) l base =
    if is_all l then goal.Body ∷ goal.Close base ∷ goal.Fixed fixed.End ∷ [] else goal.Each 0 ranks ∷ []
frame_goals (goal.Each next ranks) l base = if nat_lt next ranks then each_goals next ranks base else []
frame_goals (goal.Tapes ranks) l base =
    if is_tape l then goal.Number 0 ranks true ∷ goal.Outcomes ∷ goal.Close base ∷ goal.Tapes ranks ∷ [] else []
frame_goals g l base = []

-- ---- of bodies
-- a verb's operands, and what stands behind them
abbrev pub call_goals : Verb → List Goal → List Goal
call_goals v goals = goal.Operands (count_by is_some v.operands) ∷ goals

-- the rest of an instruction or of a loop, and of its body, by its first token
abbrev pub statement_goals : Look → ℕ → List Goal
statement_goals (look.Verb v) base =
    if takes_gate v.action
    then call_goals v (goal.Gate ∷ goal.Close base ∷ goal.Body ∷ [])
    else call_goals v (goal.Close base ∷ goal.Body ∷ [])
statement_goals (look.Keyword keyword.For) base =
    goal.Name ∷ goal.Fixed fixed.In ∷ goal.Operands 1 ∷ goal.Fixed fixed.Dots ∷ goal.Operands 1
    ∷ goal.Braced ∷ goal.Close base ∷ goal.Body ∷ []
statement_goals l base = []

-- the rest of a gate under a bit
abbrev pub gate_goals : Look → ℕ → List Goal
gate_goals (look.Verb v) base = call_goals v (goal.Close base ∷ [])
gate_goals l base = []

-- of each goal of a body
abbrev pub body_goals : Goal → Look → ℕ → List Goal
body_goals goal.Body l base = statement_goals l base
body_goals goal.Braced l base = goal.Body ∷ goal.Fixed fixed.CloseBrace ∷ []
body_goals goal.Gate l base = gate_goals l base
body_goals g l base = []

-- ---- of expressions; at is the number of the next token
-- behind an operator of the level of `*`: its right side, its node, and more operators of this level
abbrev pub muls_goals : Option What → ℕ → List Goal
muls_goals None at = []
muls_goals (Some w) at = goal.Prim ∷ goal.Leaf w at ∷ goal.Muls ∷ []

-- behind an operator of the level of `+`: its right side, its node, and more operators of this level
abbrev pub adds_goals : Option What → ℕ → List Goal
adds_goals None at = []
adds_goals (Some w) at = goal.Prim ∷ goal.Muls ∷ goal.Leaf w at ∷ goal.Adds ∷ []

-- behind a parenthesis that opens: an expression and the one that closes; behind another token, nothing
abbrev pub prim_goals : Look → List Goal
prim_goals (look.Mark mark.OpenParenthesis) = goal.Prim ∷ goal.Muls ∷ goal.Adds ∷ goal.Fixed fixed.CloseParenthesis ∷ []
prim_goals l = []

-- of each goal of an expression
abbrev pub expr_goals : Goal → Look → ℕ → List Goal
expr_goals (goal.Operands left) l at =
    if nat_lt 0 left then goal.Prim ∷ goal.Muls ∷ goal.Adds ∷ goal.Leaf what.Arg at ∷ goal.Operands (left - 1) ∷ [] else []
expr_goals goal.Prim l at = prim_goals l
expr_goals goal.Muls l at = muls_goals (mul_op l) at
expr_goals goal.Adds l at = adds_goals (add_op l) at
expr_goals g l at = []

-- ---- of each goal
-- what stands for a goal, or follows its first token
abbrev pub next_goals : Goal → Look → ℕ → ℕ → List Goal
next_goals goal.Body l at base = body_goals goal.Body l base
next_goals goal.Braced l at base = body_goals goal.Braced l base
next_goals goal.Gate l at base = body_goals goal.Gate l base
next_goals (goal.Operands left) l at base = expr_goals (goal.Operands left) l at
next_goals goal.Prim l at base = expr_goals goal.Prim l at
next_goals goal.Muls l at base = expr_goals goal.Muls l at
next_goals goal.Adds l at base = expr_goals goal.Adds l at
next_goals g l at base = frame_goals g l base
