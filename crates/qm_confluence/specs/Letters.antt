-- What may be asked of a store letter by letter: no letter names a wire that an earlier one took away
use Rattle.std.specs.Prelude.{◌≢◌, ℕ, List, [], ◌∷◌, ◌++◌, Contains}
use Rattle.qm_denot.specs.declared.Wire.{Wire}
use Rattle.qm_denot.specs.declared.Letter.{Letter}
use Rattle.qm_denot.specs.declared.Letter.TheVariants.{Pair, Take, Rename}
use Rattle.qm_denot.specs.Circuits.{Circuit}
use Rattle.qm_denot.specs.CircuitFacts.{IsProper}
use Rattle.qm_denot.specs.Weights.{operands, names}
use Rattle.qm_instr.specs.Programs.{Programs, IsInRange}
use Rattle.qm_check.specs.Checks.{IsReady}
use Rattle.qm_proto.specs.Model.Ideal.{ideal_replay, IsIdealRun}

-- the wires that a letter takes away: that of a Take, and the first of a Rename
abbrev pub gone_by : Letter → List Wire
gone_by (Take w m) = w ∷ []
gone_by (Rename a b) = a ∷ []
gone_by _ = []

-- the wires that a circuit's letters take away
abbrev pub all_gone : Circuit → List Wire
all_gone [] = []
all_gone (l ∷ ls) = gone_by l ++ all_gone ls

-- the wires that a letter must not find named: the second of a Rename
abbrev pub new_by : Letter → List Wire
new_by (Rename a b) = b ∷ []
new_by _ = []

-- after this circuit none of the wires is gone
abbrev pub NoneGone : Circuit → List Wire → Type 0
NoneGone c ws = (w : Wire) → Contains ws w → ¬ Contains (all_gone c) w

-- the letter is no pair, its operands are distinct, none of them is gone, and the second wire of a Rename is in no earlier letter
pub record IsGoodAfter (c : Circuit) (l : Letter) : Type 0 where
  pub here : NoneGone c (operands l)
  pub no_pair : (a b : Wire) → l ≢ Pair a b
  pub proper : IsProper l
  pub new : (w : Wire) → Contains (new_by l) w → ¬ Contains (names c) w

-- so is each of these letters, after those before it
abbrev pub AreGoodAfter : Circuit → List Letter → Type 0
AreGoodAfter c [] = Unit {0}
AreGoodAfter c (l ∷ ls) = IsGoodAfter c l × AreGoodAfter (c ++ l ∷ []) ls

-- each letter of an ideal run of programs that have no fault is
abbrev pub GoodLettersLaw : Type 0
GoodLettersLaw =
    (p : Programs) → IsReady p → IsInRange p → (rs : List ℕ) → IsIdealRun p rs → AreGoodAfter [] (ideal_replay p rs).circuit
