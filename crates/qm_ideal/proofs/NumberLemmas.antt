-- Bits and ranks as numbers
use Rattle.std.proofs.Common.{◌≡◌, ℕ, zero, suc, ◌+◌, ◌<◌, ◌≤◌, ◌^◌, List, [], ◌∷◌, length, map, slice_get, slice_index_or, Some, None, refl, sym, ap, ◌∙◌, arith}
use Rattle.std.proofs.Math.Nat.{pow-succ', pow-le-pow_right}
use Rattle.std.proofs.lemmas.Option.{slice_get_read}
use Rattle.qm_instr.specs.Programs.{Programs}
use Rattle.qm_proto.specs.Model.Ideal.{IdealTables, has_instr}
use Rattle.qm_ideal.specs.declared.tables.IdealRank.{IdealRank}
use Rattle.qm_instr.proofs.BitLemmas.{digit_few}
use Rattle.qm_ideal.specs.OneCircuits.{left_from, no_rank}
use Rattle.qm_ideal.specs.Views.{end_of, slot_in, bits_in}

pub left_from-below : (p : Programs) (t : IdealTables) (r n : ℕ) → left_from p t r n < 2 ^ n
left_from-below p t r zero = omega arith
left_from-below p t r (suc n) =
    let rest : left_from p t (r + 1) n < 2 ^ n = left_from-below p t (r + 1) n in
    omega (arith, digit_few (has_instr p t r), pow-succ' 2 n)

-- the ranks at the end are those of the tables
pub slot_at_end : (ranks : List IdealRank) (r q : ℕ) → slice_index_or (slice_index_or (map end_of ranks) r no_rank).slots q None ≡ slot_in (slice_get ranks r) q
slot_at_end [] r q = refl
slot_at_end (k ∷ ranks) zero q = refl
slot_at_end (k ∷ ranks) (suc r) q = slot_at_end ranks r q

pub bits_at_end : (ranks : List IdealRank) (r : ℕ) → r < length ranks → (slice_index_or (map end_of ranks) r no_rank).bits ≡ bits_in (slice_get ranks r)
bits_at_end [] r known = absurd (omega arith)
bits_at_end (k ∷ ranks) zero known = refl
bits_at_end (k ∷ ranks) (suc r) known = bits_at_end ranks r (omega (arith, known))

-- at most 15 ranks make a number below 2^15
pub left_few : (p : Programs) (t : IdealTables) (r n left : ℕ) → left ≡ left_from p t r n → n ≤ 15 → left < 2 ^ 15
left_few p t r n left is few =
    let below : left_from p t r n < 2 ^ n = left_from-below p t r n in
    let wide : 2 ^ n ≤ 2 ^ 15 = pow-le-pow_right {n = 2} (omega arith) few in
    omega (arith, is, below, wide)

-- the bits of a rank that was read
pub bits_read : (ranks : List IdealRank) (r i : ℕ) (k : IdealRank) → i ≡ r → r < length ranks → k ≡ slice_index_or ranks i k
    → k.bits ≡ (slice_index_or (map end_of ranks) r no_rank).bits
bits_read ranks r i k at known read =
    let here : slice_get ranks r ≡ Some k = slice_get_read ranks (length ranks) r k refl known (read ∙ ap (λ j. slice_index_or ranks j k) at) in
    sym (bits_at_end ranks r known ∙ ap bits_in here)
