-- How many braces and parentheses may be open, at both sides of the bound
use Rattle.std.proofs.Common.{◌<◌, [], ◌∷◌, arith}
use Rattle.qm_parse.specs.declared.words.Mark.TheVariants as mark
use Rattle.qm_parse.specs.Signs.{Symbol}
use Rattle.qm_parse.specs.Faults.{IsShallow}

thirty_second : IsShallow 31 (Symbol mark.OpenBrace ∷ Symbol mark.Plus ∷ [])
thirty_second = let h : 31 < 32 = omega arith in (h, (tt, tt))

thirty_third : ¬ IsShallow 31 (Symbol mark.OpenBrace ∷ Symbol mark.OpenParenthesis ∷ [])
thirty_third h = let k = h.1 in absurd (omega (arith, k.0))

after_a_close : IsShallow 32 (Symbol mark.CloseBrace ∷ Symbol mark.OpenParenthesis ∷ [])
after_a_close = let h : 31 < 32 = omega arith in (tt, (h, tt))
