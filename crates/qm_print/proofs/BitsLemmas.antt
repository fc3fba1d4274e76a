-- Hexadecimal digits, one by one
use Rattle.std.proofs.Common.{◌≡◌, ℕ, zero, suc, ◌-◌, ◌/◌, ◌%◌, ◌<◌, [], ◌∷◌, ◌++◌, refl, arith}
use Rattle.qm_print.specs.Bits.{hex_digit, hex_text}

-- the digits but the last, and the last
pub hex_text-last : (k n : ℕ) → 0 < k → hex_text (k - 1) (n / 16) ++ hex_digit (n % 16) ∷ [] ≡ hex_text k n
hex_text-last zero n h = absurd (omega arith)
hex_text-last (suc k) n h = let e : suc k - 1 ≡ k = omega arith in rw e refl
