-- The signs of made programs' lines are those of their trees
use Rattle.std.proofs.Common.{◌≡◌, ℕ, zero, suc, ◌+◌, ◌<◌, ◌≤◌, ◌^◌, Bool, true, false, List, [], ◌∷◌, ◌++◌, map, Some, refl, sym, ap, ◌∙◌, arith, append_assoc}
use Rattle.std.specs.Prelude.{codes}
use Rattle.std.specs.Fmt.{digits}
use Rattle.qm_parse.specs.declared.words.Keyword.TheVariants as keyword
use Rattle.qm_parse.specs.Signs.{Sign, Number, Key}
use Rattle.qm_parse.specs.Trees.{TapeLine}
use Rattle.qm_parse.specs.Spelling.{each_signs, tape_signs, tapes_signs, program_signs}
use Rattle.qm_gen.specs.declared.GenKind.{GenKind}
use Rattle.qm_gen.specs.declared.GenKind.TheVariants.{Ring, Ghz, Parity}
use Rattle.qm_seed.specs.Seeds.{Words}
use Rattle.qm_gen.specs.Outcomes.{words_past, outcomes}
use Rattle.qm_gen.specs.Sizes.{ranks_of, IsSize}
use Rattle.qm_gen.specs.Made.{Tape, numbers, tape_lines, tapes_of, tapes, drawn_lines, program_lines, made_text}
use Rattle.qm_gen.proofs.TextSigns.{joined, lines_signs, lines_signs-append, HasTokens, lines-tokens}
use Rattle.qm_gen.proofs.PartSigns.{tape_line_signs, number_signs}
use Rattle.qm_gen.proofs.Deeds.{parts, part_body, tape_lines_in, drawn_tapes, made_tree}

-- ---- tapes
one_tape : (own : Bool) (rank : ℕ) (ms : List Bool) → rank < 2 ^ 64 → lines_signs (tape_lines own rank ms) ≡ Some (tapes_signs (tape_lines_in own rank ms))
one_tape own rank [] small = refl
one_tape own rank (m ∷ ms) small = ap (λ o. joined o (Some [])) (tape_line_signs own rank (m ∷ ms) small)

tapes_signs-append : (ts us : List TapeLine) → tapes_signs (ts ++ us) ≡ tapes_signs ts ++ tapes_signs us
tapes_signs-append [] us = refl
tapes_signs-append (t ∷ ts) us = ap (λ x. tape_signs t ++ x) (tapes_signs-append ts us) ∙ sym (append_assoc (tape_signs t) (tapes_signs ts) (tapes_signs us))

abbrev pub SmallRanks : List Tape → Type 0
SmallRanks [] = Unit {0}
SmallRanks (t ∷ ts) = (t.rank < 2 ^ 64) × SmallRanks ts

pub drawn_signs : (ts : List Tape) (w : Words) → SmallRanks ts → lines_signs (drawn_lines ts w) ≡ Some (tapes_signs (drawn_tapes ts w))
drawn_signs [] w small = refl
drawn_signs (t ∷ ts) w small =
    let ms : List Bool = outcomes t.len w in
    lines_signs-append (tape_lines t.own t.rank ms) (drawn_lines ts (words_past t.len w)) _ _ (one_tape t.own t.rank ms small.0) (drawn_signs ts (words_past t.len w) small.1)
    ∙ ap Some (sym (tapes_signs-append (tape_lines_in t.own t.rank ms) (drawn_tapes ts (words_past t.len w))))

-- ---- programs
abbrev pub head_signs : ℕ → List Sign
head_signs ranks = Key keyword.Qmpi ∷ Number 1 ∷ Key keyword.Ranks ∷ Number ranks ∷ Key keyword.Qubits ∷ Number 1 ∷ Key keyword.Buffer ∷ Number 1 ∷ []

abbrev pub HasProgramSigns : GenKind → ℕ → Type 0
HasProgramSigns kind size = lines_signs (program_lines kind size) ≡ Some (head_signs (ranks_of kind size) ++ each_signs 0 (map (part_body size) (parts kind size)))

-- sizes of a GHZ state, one by one
pub by_ghz_size : (P : ℕ → Type 0) → P 2 → P 3 → P 4 → P 5 → P 6 → P 7 → P 8 → P 9 → P 10 → (n : ℕ) → 2 ≤ n → n ≤ 10 → P n
by_ghz_size P a b c d e f g h i zero low high = absurd (omega arith)
by_ghz_size P a b c d e f g h i (suc zero) low high = absurd (omega arith)
by_ghz_size P a b c d e f g h i (suc (suc zero)) low high = a
by_ghz_size P a b c d e f g h i (suc (suc (suc zero))) low high = b
by_ghz_size P a b c d e f g h i (suc (suc (suc (suc zero)))) low high = c
by_ghz_size P a b c d e f g h i (suc (suc (suc (suc (suc zero))))) low high = d
by_ghz_size P a b c d e f g h i (suc (suc (suc (suc (suc (suc zero)))))) low high = e
by_ghz_size P a b c d e f g h i (suc (suc (suc (suc (suc (suc (suc zero))))))) low high = f
by_ghz_size P a b c d e f g h i (suc (suc (suc (suc (suc (suc (suc (suc zero)))))))) low high = g
by_ghz_size P a b c d e f g h i (suc (suc (suc (suc (suc (suc (suc (suc (suc zero))))))))) low high = h
by_ghz_size P a b c d e f g h i (suc (suc (suc (suc (suc (suc (suc (suc (suc (suc zero)))))))))) low high = i
by_ghz_size P a b c d e f g h i (suc (suc (suc (suc (suc (suc (suc (suc (suc (suc (suc n))))))))))) low high = absurd (omega arith)

ghz_signs : (size : ℕ) → 2 ≤ size → size ≤ 10 → HasProgramSigns Ghz size
unfolding digits
ghz_signs = by_ghz_size (HasProgramSigns Ghz) refl refl refl refl refl refl refl refl refl

ring_signs : (size : ℕ) → size < 2 ^ 64 → HasProgramSigns Ring size
unfolding digits
ring_signs size small = rw (number_signs size 3 32 (codes "{") small refl) refl

parity_signs : (size : ℕ) → size < 2 ^ 64 → HasProgramSigns Parity size
unfolding digits
parity_signs size small = rw (number_signs size 3 32 (codes "{") small refl) refl

pub program_signs-made : (kind : GenKind) (size : ℕ) → IsSize kind size → HasProgramSigns kind size
program_signs-made Ring size h = ring_signs size (omega (arith, h.few))
program_signs-made Ghz size h = ghz_signs size h.enough h.few
program_signs-made Parity size h = parity_signs size (omega (arith, h.few))

-- the tapes of made programs are those of small ranks
few_ranks : (kind : GenKind) (size : ℕ) (own : Bool) (from n : ℕ) → from + n < 2 ^ 64 → SmallRanks (tapes_of kind size own (numbers from n))
few_ranks kind size own from zero l = tt
few_ranks kind size own from (suc n) l = let here : from < 2 ^ 64 = omega (arith, l) in (here, few_ranks kind size own (from + 1) n (omega (arith, l)))

small-append : (ts us : List Tape) → SmallRanks ts → SmallRanks us → SmallRanks (ts ++ us)
small-append [] us a b = b
small-append (t ∷ ts) us a b = (a.0, small-append ts us a.1 b)

pub ranks-most : (kind : GenKind) (size : ℕ) → IsSize kind size → ranks_of kind size ≤ 10
ranks-most Ring size h = omega arith
ranks-most Ghz size h = h.few
ranks-most Parity size h = omega arith

pub small-tapes : (kind : GenKind) (size : ℕ) → IsSize kind size → SmallRanks (tapes kind size)
small-tapes kind size h =
    let most = ranks-most kind size h in
    small-append (tapes_of kind size true (numbers 0 (ranks_of kind size))) (tapes_of kind size false (numbers 0 (ranks_of kind size)))
    (few_ranks kind size true 0 (ranks_of kind size) (omega (arith, most))) (few_ranks kind size false 0 (ranks_of kind size) (omega (arith, most)))

-- the tokens of a made text spell its tree
pub made-tokens : (kind : GenKind) (size : ℕ) (w : Words) → IsSize kind size → HasTokens (made_text kind size w) (program_signs (made_tree kind size w))
made-tokens kind size w h =
    lines-tokens (program_lines kind size ++ drawn_lines (tapes kind size) w) (program_signs (made_tree kind size w))
    (lines_signs-append (program_lines kind size) (drawn_lines (tapes kind size) w) _ _ (program_signs-made kind size h) (drawn_signs (tapes kind size) w (small-tapes kind size h)))
