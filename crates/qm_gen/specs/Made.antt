-- The texts of made programs, line by line
use Rattle.std.specs.Prelude.{◌≡◌, ℕ, zero, suc, ◌+◌, ◌-◌, ◌*◌, ◌/◌, ◌%◌, ◌==◌, nat_lt, Bool, true, false, if◌then◌else◌, List, [], ◌∷◌, ◌++◌, length, map, filter, flat_map, codes, decimal}
use Rattle.qm_parse.specs.Words.{bits_word}
use Rattle.qm_gen.specs.declared.GenKind.{GenKind}
use Rattle.qm_gen.specs.declared.GenKind.TheVariants.{Ring, Ghz, Parity}
use Rattle.qm_seed.specs.Seeds.{Words}
use Rattle.qm_gen.specs.Outcomes.{words_past, outcomes}
use Rattle.qm_gen.specs.Sizes.{ranks_of}

-- ---- lines
-- lines without their line feeds
abbrev pub Lines : Type 0
Lines = List (List ℕ)

-- each line with a line feed
abbrev pub lines_text : Lines → List ℕ
lines_text [] = []
lines_text (l ∷ ls) = l ++ 10 ∷ lines_text ls

-- the new text is the old one with these lines at its end
abbrev pub Appends : List ℕ → List ℕ → Lines → Type 0
Appends old new ls = new ≡ old ++ lines_text ls

-- a line with a number between two texts
abbrev pub with_number : List ℕ → ℕ → List ℕ → List ℕ
with_number before n after = before ++ decimal n ++ after

-- SIZE turns of a body
abbrev pub loop : ℕ → Lines → Lines
loop size body = with_number (codes "for i in 0..") size (codes " {") ∷ (body ++ codes "}" ∷ [])

-- so many numbers from this one on
abbrev pub numbers : ℕ → ℕ → List ℕ
numbers from zero = []
numbers from (suc n) = from ∷ numbers (from + 1) n

-- ---- ring: a qubit goes round four ranks, SIZE times
-- rank 0 makes the qubit and begins; each rank takes it from the one before it, and gives it to the next
abbrev pub ring_body : ℕ → ℕ → Lines
ring_body size rank =
    if rank == 0
    then (codes "alloc 0" ∷ codes "h 0" ∷ codes "t 0"
    ∷ loop size (codes "moveto 0 1 1" ∷ codes "movefrom 0 3 1" ∷ []))
    else loop size
    (with_number (codes "movefrom 0 ") (rank - 1) (codes " 1")
    ∷ with_number (codes "moveto 0 ") ((rank + 1) % 4) (codes " 1") ∷ [])

-- ---- ghz: copies of one qubit, down a tree of SIZE ranks
-- the ranks below a rank in the tree
abbrev pub children : ℕ → ℕ → List ℕ
children size rank = filter (λ c. nat_lt c size) ((2 * rank + 1) ∷ (2 * rank + 2) ∷ [])

-- a copy to each of these ranks
abbrev pub copy_lines : List ℕ → Lines
copy_lines cs = map (λ c. with_number (codes "copyto 0 ") c (codes " 1")) cs

-- each rank but rank 0 takes its copy from the rank above it, and each gives one to the ranks below it
abbrev pub ghz_body : ℕ → ℕ → Lines
ghz_body size rank =
    (if rank == 0
    then codes "alloc 0" ∷ codes "h 0" ∷ []
    else with_number (codes "copyfrom 0 ") ((rank - 1) / 2) (codes " 1") ∷ [])
    ++ copy_lines (children size rank)

-- ---- parity: rank 0 measures the parity of three qubits, SIZE times
-- rank 0's qubit takes a controlled-not from that of each other rank, and is flipped where the outcome is one
abbrev pub parity_body : ℕ → ℕ → Lines
parity_body size rank =
    if rank == 0
    then (codes "alloc 0"
    ∷ loop size
    (codes "reachfrom 0 1 1" ∷ codes "reachfrom 0 2 1" ∷ codes "reachfrom 0 3 1"
    ∷ codes "measure 0 0" ∷ codes "when 0 x 0" ∷ []))
    else (codes "alloc 0" ∷ loop size (codes "h 0" ∷ codes "reachto 0 0 1" ∷ []))

-- ---- the programs of all ranks
-- the lines of a rank's instructions
abbrev pub body_of : GenKind → ℕ → ℕ → Lines
body_of Ring size rank = ring_body size rank
body_of Ghz size rank = ghz_body size rank
body_of Parity size rank = parity_body size rank

-- the block of a rank
abbrev pub rank_lines : GenKind → ℕ → ℕ → Lines
rank_lines kind size rank =
    with_number (codes "rank ") rank [] ∷ (body_of kind size rank ++ codes "end" ∷ [])

-- the head: so many ranks, each with one slot and a buffer of one
abbrev pub head_lines : ℕ → Lines
head_lines ranks =
    codes "qmpi 1" ∷ with_number (codes "ranks ") ranks [] ∷ codes "qubits 1" ∷ codes "buffer 1" ∷ []

-- ---- tapes
-- how many outcomes a rank's own tape has
abbrev pub own_len : GenKind → ℕ → ℕ → ℕ
own_len Ring size rank = 0
own_len Ghz size rank = 0
own_len Parity size rank = if rank == 0 then size else 0

-- how many its protocol tape has
abbrev pub protocol_len : GenKind → ℕ → ℕ → ℕ
protocol_len Ring size rank = 2 * size
protocol_len Ghz size rank = length (children size rank)
protocol_len Parity size rank = if rank == 0 then 3 * size else size

-- how many outcomes a tape has, the own or the protocol one
abbrev pub tape_len : GenKind → ℕ → Bool → ℕ → ℕ
tape_len kind size own rank = if own then own_len kind size rank else protocol_len kind size rank

-- a tape: of which kind and rank it is, and how many outcomes it has
pub record Tape : Type 0 where
  pub own : Bool
  pub rank : ℕ
  pub len : ℕ

-- the own tapes, or the protocol tapes, of these ranks
abbrev pub tapes_of : GenKind → ℕ → Bool → List ℕ → List Tape
tapes_of kind size own ranks = map (λ r. record { own = own; rank = r; len = tape_len kind size own r }) ranks

-- those of all ranks
abbrev pub rank_tapes : GenKind → ℕ → Bool → List Tape
rank_tapes kind size own = tapes_of kind size own (numbers 0 (ranks_of kind size))

-- own tapes come before protocol tapes, each by rank
abbrev pub tapes : GenKind → ℕ → List Tape
tapes kind size = rank_tapes kind size true ++ rank_tapes kind size false

-- the word at the front of a tape's line
abbrev pub tape_word : Bool → List ℕ
tape_word own = if own then codes "own " else codes "protocol "

-- a tape's line; one without outcomes has none
abbrev pub tape_lines : Bool → ℕ → List Bool → Lines
tape_lines own rank [] = []
tape_lines own rank (m ∷ ms) =
    with_number (tape_word own) rank (codes " " ++ bits_word (m ∷ ms)) ∷ []

-- the words that are left behind the outcomes of these tapes
abbrev pub words_left : List Tape → Words → Words
words_left [] w = w
words_left (t ∷ ts) w = words_left ts (words_past t.len w)

-- tapes, whose outcomes are drawn in their order
abbrev pub drawn_lines : List Tape → Words → Lines
drawn_lines [] w = []
drawn_lines (t ∷ ts) w = tape_lines t.own t.rank (outcomes t.len w) ++ drawn_lines ts (words_past t.len w)

-- ---- the text
-- the lines before those of the tapes
abbrev pub program_lines : GenKind → ℕ → Lines
program_lines kind size =
    let ranks = ranks_of kind size in head_lines ranks ++ flat_map (rank_lines kind size) (numbers 0 ranks)

-- the whole text: the head, the ranks' blocks, the tapes
abbrev pub made_text : GenKind → ℕ → Words → List ℕ
made_text kind size words = lines_text (program_lines kind size ++ drawn_lines (tapes kind size) words)
