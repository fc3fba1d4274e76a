-- Made texts are short
use Rattle.std.proofs.Common.{◌≡◌, ℕ, ◌+◌, ◌*◌, ◌<◌, ◌≤◌, ◌^◌, nat_le, Bool, true, false, ◌&&◌, List, [], ◌∷◌, ◌++◌, length, sum_by, refl, ap, ◌∙◌, arith, length-append}
use Rattle.std.specs.Prelude.{if◌then◌else◌, codes, decimal}
use Rattle.std.specs.Fmt.{digits}
use Rattle.std.specs.List.{list_all}
use Rattle.std.proofs.lemmas.Bool.{and_parts, leb-true, le-leb}
use Rattle.std.proofs.lemmas.List.Sums.{sum_by-cons}
use Rattle.std.proofs.lemmas.Fmt.{length-decimal-le}
use Rattle.qm_parse.specs.Words.{bits_word}
use Rattle.qm_gen.specs.declared.GenKind.{GenKind}
use Rattle.qm_gen.specs.declared.GenKind.TheVariants.{Ring, Ghz, Parity}
use Rattle.qm_seed.specs.Seeds.{Words}
use Rattle.qm_gen.specs.Outcomes.{words_past, outcomes}
use Rattle.qm_gen.specs.Sizes.{IsSize}
use Rattle.qm_gen.specs.Made.{Lines, Tape, lines_text, with_number, tape_lines, tapes, drawn_lines, program_lines, made_text}
use Rattle.qm_gen.proofs.LineLemmas.{lines_text-append}
use Rattle.qm_gen.proofs.MadeSigns.{SmallRanks, small-tapes, by_ghz_size}
use Rattle.qm_gen.proofs.MadeTapes.{length-outcomes}

-- ---- programs
-- lines of at most 40 bytes
is_short : List ℕ → Bool
is_short l = nat_le (length l) 40

short-text : (ls : Lines) → list_all is_short ls ≡ true → length (lines_text ls) ≤ 41 * length ls
unfolding is_short
short-text [] h = omega arith
short-text (l ∷ ls) h =
    let both = and_parts (is_short l) (list_all is_short ls) h in
    let here = leb-true (length l) 40 both.0 in
    let more = short-text ls both.1 in
    omega (arith, length-append l (10 ∷ lines_text ls))

IsShort : GenKind → ℕ → Type 0
IsShort kind size = (list_all is_short (program_lines kind size) && nat_le (length (program_lines kind size)) 100) ≡ true

-- the line that begins a loop
for-short : (size : ℕ) → size < 2 ^ 64 → nat_le (length (with_number (codes "for i in 0..") size (codes " {"))) 40 ≡ true
for-short size small =
    let d = length-decimal-le 20 size (omega arith) (omega arith) small in
    le-leb (length (with_number (codes "for i in 0..") size (codes " {"))) 40 (omega (arith, d, length-append (decimal size) (codes " {")))

program-short : (kind : GenKind) (size : ℕ) → IsSize kind size → IsShort kind size
unfolding IsShort is_short digits
program-short Ring size h = let few = h.few in rw (for-short size (omega arith)) refl
program-short Parity size h = let few = h.few in rw (for-short size (omega arith)) refl
program-short Ghz size h = by_ghz_size (IsShort Ghz) refl refl refl refl refl refl refl refl refl size h.enough h.few

program-length : (kind : GenKind) (size : ℕ) → IsSize kind size → length (lines_text (program_lines kind size)) ≤ 4100
unfolding IsShort
program-length kind size h =
    let both = and_parts (list_all is_short (program_lines kind size)) (nat_le (length (program_lines kind size)) 100) (program-short kind size h) in
    let few = leb-true (length (program_lines kind size)) 100 both.1 in
    let short = short-text (program_lines kind size) both.0 in
    omega arith

-- ---- tapes
word-length : (own : Bool) → length (if own then codes "own " else codes "protocol ") ≤ 9
word-length true = omega arith
word-length false = omega arith

tail-length : (ms : List Bool) → length (codes " " ++ bits_word ms) ≡ 2 + length ms
tail-length [] = refl
tail-length (m ∷ ms) = let more = tail-length ms in omega arith

tape-length : (own : Bool) (rank : ℕ) (ms : List Bool) → rank < 2 ^ 64 → length (lines_text (tape_lines own rank ms)) ≤ 40 + length ms
tape-length own rank [] small = omega arith
tape-length own rank (m ∷ ms) small =
    let word : List ℕ = if own then codes "own " else codes "protocol " in
    let tail : List ℕ = codes " " ++ bits_word (m ∷ ms) in
    let d = length-decimal-le 20 rank (omega arith) (omega arith) small in
    let first = word-length own in
    let bits = tail-length (m ∷ ms) in
    let whole : length (with_number word rank tail) ≡ length word + length (decimal rank) + length tail =
    length-append (word ++ decimal rank) tail ∙ ap (λ k. k + length tail) (length-append word (decimal rank))
    in
    let line : length (lines_text (tape_lines own rank (m ∷ ms))) ≡ length (with_number word rank tail) + 1 = length-append (with_number word rank tail) (10 ∷ []) in
    omega arith

drawn-length : (ts : List Tape) (w : Words) → SmallRanks ts → length (lines_text (drawn_lines ts w)) ≤ 40 * length ts + sum_by (λ t. t.len) ts
drawn-length [] w small = omega arith
drawn-length (t ∷ ts) w small =
    let first = tape-length t.own t.rank (outcomes t.len w) small.0 in
    let more = drawn-length ts (words_past t.len w) small.1 in
    let lines : length (lines_text (drawn_lines (t ∷ ts) w)) ≡ length (lines_text (tape_lines t.own t.rank (outcomes t.len w))) + length (lines_text (drawn_lines ts (words_past t.len w))) =
    ap length (lines_text-append (tape_lines t.own t.rank (outcomes t.len w)) (drawn_lines ts (words_past t.len w))) ∙ length-append (lines_text (tape_lines t.own t.rank (outcomes t.len w))) (lines_text (drawn_lines ts (words_past t.len w)))
    in
    omega (arith, lines, length-outcomes t.len w, sum_by-cons (λ (u : Tape). u.len) t ts)

AreFew : GenKind → ℕ → Type 0
AreFew kind size = 40 * length (tapes kind size) + sum_by (λ t. t.len) (tapes kind size) ≤ 1000000

ghz-few : (size : ℕ) → 2 ≤ size → size ≤ 10 → nat_le (40 * length (tapes Ghz size) + sum_by (λ t. t.len) (tapes Ghz size)) 1000000 ≡ true
ghz-few = by_ghz_size (λ n. nat_le (40 * length (tapes Ghz n) + sum_by (λ t. t.len) (tapes Ghz n)) 1000000 ≡ true) refl refl refl refl refl refl refl refl refl

tapes-few : (kind : GenKind) (size : ℕ) → IsSize kind size → AreFew kind size
unfolding AreFew
tapes-few Ring size h = let few = h.few in omega arith
tapes-few Parity size h = let few = h.few in omega arith
tapes-few Ghz size h = leb-true (40 * length (tapes Ghz size) + sum_by (λ t. t.len) (tapes Ghz size)) 1000000 (ghz-few size h.enough h.few)

-- ---- texts
pub made-short : (kind : GenKind) (size : ℕ) (w : Words) → IsSize kind size → length (made_text kind size w) ≤ 1048576
unfolding AreFew
made-short kind size w h =
    let program = program-length kind size h in
    let drawn = drawn-length (tapes kind size) w (small-tapes kind size h) in
    let few = tapes-few kind size h in
    let both : length (made_text kind size w) ≡ length (lines_text (program_lines kind size)) + length (lines_text (drawn_lines (tapes kind size) w)) =
    ap length (lines_text-append (program_lines kind size) (drawn_lines (tapes kind size) w)) ∙ length-append (lines_text (program_lines kind size)) (lines_text (drawn_lines (tapes kind size) w))
    in
    omega arith
