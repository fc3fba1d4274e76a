-- Programs with other own tapes: the outcomes that were drawn for them
use Rattle.std.specs.Prelude.{◌≡◌, ℕ, ◌+◌, Bool, List, [], ◌∷◌, length}
use Rattle.qm_instr.specs.Programs.{Programs, RankProgram, rank_of}

-- the ranks from number r on with these own tapes
abbrev pub with_tapes_from : ℕ → (ℕ → List Bool) → List RankProgram → List RankProgram
with_tapes_from r own [] = []
with_tapes_from r own (x ∷ xs) = record x { own = own r } ∷ with_tapes_from (r + 1) own xs

-- the programs with these own tapes
abbrev pub with_tapes : Programs → (ℕ → List Bool) → Programs
with_tapes p own = record p { ranks = with_tapes_from 0 own p.ranks }

-- the tapes have the lengths of those that the programs have
abbrev pub AreLong : Programs → (ℕ → List Bool) → Type 0
AreLong p own = (r : ℕ) → length (own r) ≡ length (rank_of p r).own
