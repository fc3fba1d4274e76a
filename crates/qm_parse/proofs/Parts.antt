-- What goals stand for
use Rattle.std.specs.Prelude.{◌≡◌, ℕ, ◌-◌, ◌<◌, ◌≤◌, Bool, true, false, if◌then◌else◌, List, [], ◌∷◌, ◌++◌, length, All}
use Rattle.qm_parse.specs.declared.goals.Fixed.{Fixed}
use Rattle.qm_parse.specs.declared.goals.Fixed.TheVariants as fixed
use Rattle.qm_parse.specs.declared.goals.Goal.{Goal}
use Rattle.qm_parse.specs.declared.goals.Goal.TheVariants as goal
use Rattle.qm_parse.specs.declared.words.Keyword.TheVariants as keyword
use Rattle.qm_parse.specs.declared.words.Mark.TheVariants as mark
use Rattle.qm_parse.specs.declared.tree.What.TheVariants as what
use Rattle.qm_parse.specs.Words.{bits_word, is_gate, version_number}
use Rattle.qm_parse.specs.Signs.{Sign, Number, Key, Act, Ident, Symbol}
use Rattle.qm_parse.specs.Trees.{Expr, Adds, Muls, Prim, Call, Body, Blocks, TapeLine, Program, ExprMay, AddsMay, MulsMay, PrimMay, CallMay, BodyMay, BlocksMay, ProgramMay}
use Rattle.qm_parse.specs.Spelling.{adds_signs, muls_signs, prim_signs, operands_signs, call_signs, body_signs, each_signs, blocks_signs, tapes_signs, numbers_signs, sizes_signs}
use Rattle.qm_parse.proofs.Behind.{Spot, taken, leafed, noted, finished, behind_adds, behind_muls, behind_prim, behind_operands, behind_call, behind_body, behind_braced, behind_each, behind_blocks, behind_tapes, behind_numbers, behind_rest, behind_version}

-- ---- one goal
abbrev pub Part : Goal → Type 0
Part (goal.Fixed f) = Unit {0}
Part (goal.Number least end written) = ℕ
Part goal.Version = Program
Part (goal.Ranks v) = Program
Part (goal.Numbers left end) = List ℕ
Part (goal.Blocks ranks) = Blocks
Part (goal.Each next ranks) = List Body
Part (goal.Tapes ranks) = List TapeLine
Part goal.Outcomes = List Bool
Part goal.Name = List ℕ
Part goal.Body = Body
Part goal.Braced = Body
Part (goal.Operands left) = List Expr
Part goal.Gate = Call
Part goal.Prim = Prim
Part goal.Muls = Muls
Part goal.Adds = Adds
Part (goal.Leaf w token) = Unit {0}
Part (goal.Close node) = Unit {0}

abbrev pub fixed_sign : Fixed → Sign
fixed_sign fixed.Qmpi = Key keyword.Qmpi
fixed_sign fixed.Ranks = Key keyword.Ranks
fixed_sign fixed.Qubits = Key keyword.Qubits
fixed_sign fixed.Buffer = Key keyword.Buffer
fixed_sign fixed.End = Key keyword.End
fixed_sign fixed.In = Key keyword.In
fixed_sign fixed.Dots = Symbol mark.Dots
fixed_sign fixed.CloseBrace = Symbol mark.CloseBrace
fixed_sign fixed.CloseParenthesis = Symbol mark.CloseParenthesis

-- what follows the number of the version, and that number
abbrev pub rest_signs : Program → List Sign
rest_signs p = Number (version_number p.version) ∷ Key keyword.Ranks ∷ Number p.ranks ∷ sizes_signs p

abbrev pub part_signs : (g : Goal) → Part g → List Sign
part_signs (goal.Fixed f) p = fixed_sign f ∷ []
part_signs (goal.Number least end written) p = Number p ∷ []
part_signs goal.Version p = rest_signs p
part_signs (goal.Ranks v) p = Number p.ranks ∷ sizes_signs p
part_signs (goal.Numbers left end) p = numbers_signs p
part_signs (goal.Blocks ranks) p = blocks_signs p
part_signs (goal.Each next ranks) p = each_signs next p
part_signs (goal.Tapes ranks) p = tapes_signs p
part_signs goal.Outcomes p = Ident (bits_word p) ∷ []
part_signs goal.Name p = Ident p ∷ []
part_signs goal.Body p = body_signs p
part_signs goal.Braced p = Symbol mark.OpenBrace ∷ (body_signs p ++ Symbol mark.CloseBrace ∷ [])
part_signs (goal.Operands left) p = operands_signs p
part_signs goal.Gate p = call_signs p
part_signs goal.Prim p = prim_signs p
part_signs goal.Muls p = muls_signs p
part_signs goal.Adds p = adds_signs p
part_signs (goal.Leaf w token) p = []
part_signs (goal.Close node) p = []

abbrev pub PartMay : (g : Goal) → Part g → Type 0
PartMay (goal.Fixed f) p = Unit {0}
PartMay (goal.Number least end written) p = (least ≤ p) × (p < end)
PartMay goal.Version p = ProgramMay p
PartMay (goal.Ranks v) p = (p.version ≡ v) × ProgramMay p
PartMay (goal.Numbers left end) p = (length p ≡ left) × All (λ n. (1 ≤ n) × (n < end)) p
PartMay (goal.Blocks ranks) p = BlocksMay ranks p
PartMay (goal.Each next ranks) p = (length p ≡ ranks - next) × All BodyMay p
PartMay (goal.Tapes ranks) p = All (λ t. t.rank < ranks) p
PartMay goal.Outcomes p = Unit {0}
PartMay goal.Name p = Unit {0}
PartMay goal.Body p = BodyMay p
PartMay goal.Braced p = BodyMay p
PartMay (goal.Operands left) p = (length p ≡ left) × All ExprMay p
PartMay goal.Gate p = (is_gate p.verb.action ≡ true) × CallMay p
PartMay goal.Prim p = PrimMay p
PartMay goal.Muls p = MulsMay p
PartMay goal.Adds p = AddsMay p
PartMay (goal.Leaf w token) p = Unit {0}
PartMay (goal.Close node) p = Unit {0}

abbrev pub behind : (g : Goal) → Part g → Spot → Spot
behind (goal.Fixed f) p s = taken s
behind (goal.Number least end written) p s = if written then noted what.Num p s else taken s
behind goal.Version p s = behind_version p s
behind (goal.Ranks v) p s = behind_rest p s
behind (goal.Numbers left end) p s = behind_numbers p s
behind (goal.Blocks ranks) p s = behind_blocks p s
behind (goal.Each next ranks) p s = behind_each p s
behind (goal.Tapes ranks) p s = behind_tapes p s
behind goal.Outcomes p s = noted what.Bits 0 s
behind goal.Name p s = taken s
behind goal.Body p s = behind_body p s
behind goal.Braced p s = behind_braced p s
behind (goal.Operands left) p s = behind_operands p s
behind goal.Gate p s = behind_call p s
behind goal.Prim p s = behind_prim p s
behind goal.Muls p s = behind_muls p s
behind goal.Adds p s = behind_adds p s
behind (goal.Leaf w token) p s = leafed w token 0 s
behind (goal.Close node) p s = finished node s

-- what may follow: no token that would go on with it
abbrev pub NoHead : (Sign → Bool) → List Sign → Type 0
NoHead f [] = Unit {0}
NoHead f (t ∷ ts) = f t ≡ false

abbrev pub is_mul : Sign → Bool
is_mul (Symbol mark.Times) = true
is_mul (Symbol mark.Over) = true
is_mul (Symbol mark.Rest) = true
is_mul t = false

-- any operator
abbrev pub is_op : Sign → Bool
is_op (Symbol mark.Times) = true
is_op (Symbol mark.Over) = true
is_op (Symbol mark.Rest) = true
is_op (Symbol mark.Plus) = true
is_op (Symbol mark.Minus) = true
is_op t = false

-- an operator, or what a statement begins with
abbrev pub is_inner : Sign → Bool
is_inner (Act v) = true
is_inner (Key keyword.For) = true
is_inner (Symbol mark.Times) = true
is_inner (Symbol mark.Over) = true
is_inner (Symbol mark.Rest) = true
is_inner (Symbol mark.Plus) = true
is_inner (Symbol mark.Minus) = true
is_inner t = false

abbrev pub is_tape_sign : Sign → Bool
is_tape_sign (Key keyword.Own) = true
is_tape_sign (Key keyword.Protocol) = true
is_tape_sign t = false

abbrev pub PartEnds : Goal → List Sign → Type 0
PartEnds (goal.Tapes ranks) xs = NoHead is_tape_sign xs
PartEnds goal.Body xs = NoHead is_inner xs
PartEnds (goal.Operands left) xs = NoHead is_op xs
PartEnds goal.Gate xs = NoHead is_op xs
PartEnds goal.Muls xs = NoHead is_mul xs
PartEnds goal.Adds xs = NoHead is_op xs
PartEnds goal.Version xs = NoHead is_tape_sign xs
PartEnds (goal.Ranks v) xs = NoHead is_tape_sign xs
PartEnds g xs = Unit {0}

-- ---- goals in a row
abbrev pub Parts : List Goal → Type 0
Parts [] = Unit {0}
Parts (g ∷ gs) = Part g × Parts gs

-- their tokens, before others
abbrev pub before : (gs : List Goal) → Parts gs → List Sign → List Sign
before [] ps xs = xs
before (g ∷ gs) ps xs = part_signs g ps.0 ++ before gs ps.1 xs

abbrev pub PartsMay : (gs : List Goal) → Parts gs → Type 0
PartsMay [] ps = Unit {0}
PartsMay (g ∷ gs) ps = PartMay g ps.0 × PartsMay gs ps.1

abbrev pub PartsEnd : (gs : List Goal) → Parts gs → List Sign → Type 0
PartsEnd [] ps xs = Unit {0}
PartsEnd (g ∷ gs) ps xs = PartEnds g (before gs ps.1 xs) × PartsEnd gs ps.1 xs

-- the nodes behind them
abbrev pub behind_all : (gs : List Goal) → Parts gs → Spot → Spot
behind_all [] ps s = s
behind_all (g ∷ gs) ps s = behind_all gs ps.1 (behind g ps.0 s)

-- ---- a goal, and those that stand for it or follow its first token
-- the parts of those are a part of this. It begins at one spot, and they at the other
pub record Back (g : Goal) (front : List Sign) (gs : List Goal) (q : Parts gs) (s t : Spot) : Type 0 where
  pub part : Part g
  pub may : PartMay g part
  pub spelled : (xs : List Sign) → part_signs g part ++ xs ≡ front ++ before gs q xs
  pub written : behind g part s ≡ behind_all gs q t

-- a part of this, before tokens that may follow it, is parts of those
pub record Forth (gs : List Goal) (xs ys : List Sign) : Type 0 where
  pub parts : Parts gs
  pub may : PartsMay gs parts
  pub ends : PartsEnd gs parts xs
  pub spelled : before gs parts xs ≡ ys
