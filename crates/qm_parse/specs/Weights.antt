-- How much is left to do: each step of the reading leaves less
use Rattle.std.specs.Prelude.{ℕ, ◌+◌, ◌*◌, ◌≤◌, List, count_by, is_some, sum_by}
use Rattle.qm_parse.specs.declared.goals.Goal.{Goal}
use Rattle.qm_parse.specs.declared.goals.Goal.TheVariants as goal
use Rattle.qm_parse.specs.declared.looks.Look.{Look}
use Rattle.qm_parse.specs.declared.looks.Look.TheVariants as look

-- how many steps a goal makes, without those of the tokens that it takes
abbrev pub weight_of : Goal → ℕ
weight_of (goal.Operands left) = 5 * left + 1
weight_of (goal.Numbers left end) = 2 * left + 1
weight_of (goal.Blocks ranks) = 2
weight_of g = 1

-- how many they make together
abbrev pub goals_weight : List Goal → ℕ
goals_weight gs = sum_by weight_of gs

-- a verb has at most four operands
abbrev pub HasFewOperands : Look → Type 0
HasFewOperands (look.Verb v) = count_by is_some v.operands ≤ 4
HasFewOperands l = Unit {0}
