-- How far the reading of tokens comes
use Rattle.std.specs.Prelude.{◌≡◌, ℕ, zero, suc, ◌+◌, Bool, true, false, if◌then◌else◌, List, [], ◌∷◌, ◌++◌, length, drop, Option, Some, None}
use Rattle.qm_parse.specs.declared.goals.Goal.{Goal}
use Rattle.qm_parse.specs.declared.goals.Goal.TheVariants as goal
use Rattle.qm_parse.specs.declared.goals.Verdict.TheVariants.{Take, Stay}
use Rattle.qm_parse.specs.declared.looks.Look.{Look}
use Rattle.qm_parse.specs.declared.looks.Look.TheVariants as look
use Rattle.qm_parse.specs.declared.tree.Node.{Node}
use Rattle.qm_parse.specs.declared.tree.What.{What}
use Rattle.qm_parse.specs.Signs.{Sign}
use Rattle.qm_parse.specs.Nodes.{leaf}
use Rattle.qm_parse.specs.Faults.{open_behind}
use Rattle.qm_parse.specs.Looks.{look_at}
use Rattle.qm_parse.specs.Verdicts.{verdict_of, leaf_of}
use Rattle.qm_parse.specs.Moves.{start_goals, next_goals}

-- the goals that are left, the nodes so far, the number of the next token, and how many braces and parentheses are open
pub record Place : Type 0 where
  pub goals : List Goal
  pub nodes : List Node
  pub at : ℕ
  pub depth : ℕ

-- before the first token
abbrev pub start_place : Place
start_place = record { goals = start_goals; nodes = []; at = 0; depth = 0 }

-- ---- what a goal writes
-- a node's stop is set
abbrev pub with_stop : ℕ → ℕ → List Node → List Node
with_stop stop n [] = []
with_stop stop zero (x ∷ xs) = record x { stop = stop } ∷ xs
with_stop stop (suc n) (x ∷ xs) = x ∷ with_stop stop n xs

-- a node is written at the end, where there is one to write
abbrev pub with_leaf : Option (What × ℕ × ℕ) → List Node → List Node
with_leaf None ns = ns
with_leaf (Some (w, token, value)) ns = ns ++ leaf w token value (length ns) ∷ []

-- all that belongs to a node was written
abbrev pub closed : Goal → List Node → List Node
closed (goal.Close node) ns = with_stop (length ns) node ns
closed g ns = ns

-- the nodes behind a goal: with its own node, or with the stop of the node that it ends
abbrev pub written : Goal → Look → ℕ → List Node → List Node
written g l at ns = closed g (with_leaf (leaf_of g l at) ns)

-- ---- one goal further
-- how many braces and parentheses are open behind a token, where so many were before it
abbrev pub depth_behind : Look → ℕ → ℕ
depth_behind (look.Mark m) n = open_behind m n
depth_behind l n = n

-- by meeting a goal, which takes the next token or none
abbrev pub moved : Goal → Look → Bool → Place → Place
moved g l takes p = record {
  goals = next_goals g l p.at (length p.nodes) ++ p.goals;
  nodes = written g l p.at p.nodes;
  at = if takes then p.at + 1 else p.at;
  depth = if takes then depth_behind l p.depth else p.depth;
}

-- the goals of a place but the first
abbrev pub behind_goal : Place → List Goal → Place
behind_goal p rest = record p { goals = rest }

-- the next token of a place
abbrev pub next_look : List Sign → Place → Look
next_look signs p = look_at (drop p.at signs)

-- the places to which the reading of tokens comes
pub data Reaches (signs : List Sign) : Place → Type 0 where
  AtStart : Reaches signs start_place
  Taking : (p : Place) (g : Goal) (rest : List Goal) → Reaches signs p → p.goals ≡ g ∷ rest
      → verdict_of g (next_look signs p) p.depth ≡ Take → Reaches signs (moved g (next_look signs p) true (behind_goal p rest))
  Staying : (p : Place) (g : Goal) (rest : List Goal) → Reaches signs p → p.goals ≡ g ∷ rest
      → verdict_of g (next_look signs p) p.depth ≡ Stay → Reaches signs (moved g (next_look signs p) false (behind_goal p rest))
