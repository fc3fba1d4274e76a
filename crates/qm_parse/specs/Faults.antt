-- The trees of token lists, and the first token at which no tree goes on
use Rattle.std.specs.Prelude.{◌≡◌, ℕ, ◌+◌, ◌-◌, ◌<◌, ◌⊎◌, List, [], ◌∷◌, ◌++◌}
use Rattle.qm_limits.specs.declared.TheConstants.{LARGEST_VALUE, MOST_OPEN}
use Rattle.qm_parse.specs.declared.words.Mark.{Mark}
use Rattle.qm_parse.specs.declared.words.Mark.TheVariants as mark
use Rattle.qm_parse.specs.Signs.{Sign, Number, Symbol}
use Rattle.qm_parse.specs.Trees.{Program, ProgramMay}
use Rattle.qm_parse.specs.Spelling.{program_signs}

-- ---- open braces and parentheses, which are counted together
-- how many are open behind a symbol, of which so many are before it
abbrev pub open_behind : Mark → ℕ → ℕ
open_behind mark.OpenBrace n = n + 1
open_behind mark.OpenParenthesis n = n + 1
open_behind mark.CloseBrace n = n - 1
open_behind mark.CloseParenthesis n = n - 1
open_behind _ n = n

-- how many are open behind tokens, of which so many are before them
abbrev pub open_after : ℕ → List Sign → ℕ
open_after n [] = n
open_after n (Symbol m ∷ ts) = open_after (open_behind m n) ts
open_after n (t ∷ ts) = open_after n ts

-- a symbol may stand where so many are open: a 33rd isn't opened
abbrev pub MayOpen : Mark → ℕ → Type 0
MayOpen mark.OpenBrace n = n < MOST_OPEN
MayOpen mark.OpenParenthesis n = n < MOST_OPEN
MayOpen _ n = Unit {0}

-- no more than may be open are open at once, where so many are before these tokens
abbrev pub IsShallow : ℕ → List Sign → Type 0
IsShallow n [] = Unit {0}
IsShallow n (Symbol m ∷ ts) = MayOpen m n × IsShallow (open_behind m n) ts
IsShallow n (t ∷ ts) = IsShallow n ts

-- ---- programs
-- these tokens are a program
pub record Spells (signs : List Sign) (p : Program) : Type 0 where
  pub spelled : program_signs p ≡ signs
  pub may : ProgramMay p
  pub shallow : IsShallow 0 signs

-- some program begins with these tokens, however many braces and parentheses it opens behind them
pub record CanGoOn (front : List Sign) : Type 0 where
  pub program : Program
  pub may : ProgramMay program
  pub rest : List Sign
  pub spelled : program_signs program ≡ front ++ rest

-- the tokens are these, one at which to stop, and others; a program may begin with those before the stop
pub record StopsAt (signs front : List Sign) (stop : Sign) : Type 0 where
  pub rest : List Sign
  pub whole : signs ≡ front ++ stop ∷ rest
  pub before : CanGoOn front
  pub shallow : IsShallow 0 front

-- ---- the reasons to stop at a token, behind those in front
-- a number above the largest value, where a number may stand
pub record IsTooLarge (front : List Sign) (stop : Sign) : Type 0 where
  pub value : ℕ
  pub number : stop ≡ Number value
  pub large : LARGEST_VALUE < value
  pub small : ℕ
  pub may : CanGoOn (front ++ Number small ∷ [])

-- a { or a (, which may stand there, but as many are open as may be
pub record IsTooDeep (front : List Sign) (stop : Sign) : Type 0 where
  pub opens : (stop ≡ Symbol mark.OpenBrace) ⊎ (stop ≡ Symbol mark.OpenParenthesis)
  pub deep : open_after 0 front ≡ MOST_OPEN
  pub may : CanGoOn (front ++ stop ∷ [])

-- a token with which no program goes on, and no number that is too large
pub record IsUnexpected (front : List Sign) (stop : Sign) : Type 0 where
  pub none : ¬ CanGoOn (front ++ stop ∷ [])
  pub other : ¬ IsTooLarge front stop

-- the tokens are the beginning of a program, and no program
pub record IsUnended (signs : List Sign) : Type 0 where
  pub before : CanGoOn signs
  pub shallow : IsShallow 0 signs
  pub short : (p : Program) → ¬ Spells signs p
