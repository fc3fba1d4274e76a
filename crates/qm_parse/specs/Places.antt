-- Where a reading stands, and what it came to
use Rattle.std.specs.Prelude.{◌≡◌, ℕ, ◌<◌, ◌≤◌, List, [], ◌∷◌, length, slice_get, Option, Some, None, option_map}
use Rattle.qm_lex.specs.declared.tokens.Token.{Token}
use Rattle.qm_lex.specs.Lexing.{end_line}
use Rattle.qm_parse.specs.declared.errors.ParseError.{ParseError}
use Rattle.qm_parse.specs.declared.errors.ParseError.TheVariants as errors
use Rattle.qm_parse.specs.declared.goals.Goal.{Goal}
use Rattle.qm_parse.specs.declared.goals.Stop.{Stop}
use Rattle.qm_parse.specs.declared.goals.Stop.TheVariants as stop
use Rattle.qm_parse.specs.declared.goals.Verdict.TheVariants as verdict
use Rattle.qm_parse.specs.declared.reading.Reading.{Reading}
use Rattle.qm_parse.specs.declared.tree.Node.{Node}
use Rattle.qm_parse.specs.Moves.{goals_left}
use Rattle.qm_parse.specs.Reaching.{Place, Reaches, next_look}
use Rattle.qm_parse.specs.Signs.{Sign, signs_of}
use Rattle.qm_parse.specs.Verdicts.{verdict_of}

-- where a reading stands
abbrev pub place_of : Reading → Place
place_of r = record { goals = goals_left r.goals; nodes = r.nodes.items; at = r.at; depth = r.depth }

-- a stop on a line, or at the end of the text
abbrev pub stop_on : List ℕ → Option ℕ → Stop → ParseError
stop_on text None s = errors.Unended (end_line text)
stop_on text (Some line) stop.Unexpected = errors.Unexpected line
stop_on text (Some line) stop.NumberTooLarge = errors.NumberTooLarge line
stop_on text (Some line) stop.TooDeep = errors.TooDeep line

-- a stop at a token
abbrev pub error_of : List ℕ → List Token → ℕ → Stop → ParseError
error_of text tokens at s = stop_on text (option_map (λ t. t.line) (slice_get tokens at)) s

-- why the reading of tokens ends at a place
pub data Halts (signs : List Sign) (p : Place) : Stop → Type 0 where
  AtGoal : (g : Goal) (rest : List Goal) (s : Stop) → p.goals ≡ g ∷ rest
      → verdict_of g (next_look signs p) p.depth ≡ verdict.Stop s → Halts signs p s
  Behind : p.goals ≡ [] → p.at < length signs → Halts signs p stop.Unexpected

-- the reading of a text ends at a place with an error
pub record Ends (text : List ℕ) (tokens : List Token) (e : ParseError) : Type 0 where
  pub place : Place
  pub reaches : Reaches (signs_of text tokens) place
  pub stop : Stop
  pub halts : Halts (signs_of text tokens) place stop
  pub error : e ≡ error_of text tokens place.at stop

-- the reading of a text comes to its end with these nodes
pub record Comes (text : List ℕ) (tokens : List Token) (nodes : List Node) : Type 0 where
  pub place : Place
  pub reaches : Reaches (signs_of text tokens) place
  pub done : place.goals ≡ []
  pub whole : length tokens ≤ place.at
  pub nodes_are : nodes ≡ place.nodes
