-- Letters with keys: which letters belong together
use Rattle.std.specs.Prelude.{Bool, cond, List, [], ◌∷◌}
use Rattle.qm_denot.specs.declared.Letter.{Letter}

-- letters, each with its key
abbrev pub Tagged : Type 0 → Type 0
Tagged K = List (K × Letter)

-- the letters without their keys
abbrev pub letters_of : {K : Type 0} → Tagged K → List Letter
letters_of [] = []
letters_of (t ∷ ts) = t.1 ∷ letters_of ts

-- the letters with the key k, in their order
abbrev pub letters_with : {K : Type 0} → (K → K → Bool) → K → Tagged K → List Letter
letters_with same k [] = []
letters_with same k (t ∷ ts) = cond (same k t.0) (t.1 ∷ letters_with same k ts) (letters_with same k ts)

-- the letters, all with the key k
abbrev pub tagged : {K : Type 0} → K → List Letter → Tagged K
tagged k [] = []
tagged k (l ∷ ls) = (k, l) ∷ tagged k ls

-- what has other keys than k
abbrev pub without_key : {K : Type 0} → (K → K → Bool) → K → Tagged K → Tagged K
without_key same k [] = []
without_key same k (t ∷ ts) = cond (same k t.0) (without_key same k ts) (t ∷ without_key same k ts)
