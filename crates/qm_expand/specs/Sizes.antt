-- The sizes of ranks, by computation
use Rattle.std.specs.Prelude.{◌≡◌, [], ◌∷◌, refl}
use Rattle.qm_instr.specs.Programs.{idle_rank}
use Rattle.qm_parse.specs.declared.words.Version.TheVariants as version
use Rattle.qm_expand.specs.Expansion.{by_rank, sized_programs, rank_scope}

one_for_all : by_rank version.One 3 (4 ∷ []) ≡ 4 ∷ 4 ∷ 4 ∷ []
one_for_all = refl

one_for_each : by_rank version.Two 3 (4 ∷ 1 ∷ 2 ∷ []) ≡ 4 ∷ 1 ∷ 2 ∷ []
one_for_each = refl

uneven : sized_programs version.Two 2 (3 ∷ 16 ∷ []) (4 ∷ 1 ∷ []) ≡ record {
  version = 2;
  ranks = record idle_rank { qubits = 3; buffer = 4 } ∷ record idle_rank { qubits = 16; buffer = 1 } ∷ [];
}
uneven = refl

-- the slots of the rank whose body is expanded
own_slots : (rank_scope (sized_programs version.Two 2 (3 ∷ 16 ∷ []) (4 ∷ 1 ∷ [])) 1).qubits ≡ 16
own_slots = refl
