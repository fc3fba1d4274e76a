-- What each letter does to a list of numerators
use Rattle.qm_denot.specs.declared.Letter.{Letter}
use Rattle.qm_denot.specs.declared.Letter.TheVariants as letter
use Rattle.qm_tables.specs.declared.Case.{Case}
use Rattle.qm_tables.specs.declared.Case.TheVariants as case

-- the case of a letter, with its constants
abbrev pub case_of : Letter → Case
case_of (letter.Phase k w) = case.Turn k
case_of (letter.Flip w) = case.Swap
case_of (letter.Had w) = case.Mix
case_of (letter.Cx c t) = case.Cross
case_of (letter.Cz c t) = case.Sign
case_of (letter.Pair a b) = case.Double
case_of (letter.Keep w m) = case.Hold
case_of (letter.Take w m) = case.Shrink
case_of (letter.Rename a b) = case.Name
