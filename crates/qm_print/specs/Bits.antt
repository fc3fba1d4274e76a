-- The lines of the ranks' classical bits
use Rattle.std.specs.Prelude.{ℕ, zero, suc, ◌+◌, ◌/◌, ◌%◌, ◌∷◌, [], ◌++◌, List, nat_lt, if◌then◌else◌, codes, decimal}
use Rattle.qm_print.specs.Below.{text_below}

-- a lower-case hexadecimal digit
abbrev pub hex_digit : ℕ → ℕ
hex_digit n = if nat_lt n 10 then 48 + n else 87 + n

-- the last so many hexadecimal digits of a number
abbrev pub hex_text : ℕ → ℕ → List ℕ
hex_text zero n = []
hex_text (suc k) n = hex_text k (n / 16) ++ hex_digit (n % 16) ∷ []

-- the line of a rank's classical bits: the sum of 2^i over those that are 1, in eight digits
abbrev pub bits_line : ℕ → ℕ → List ℕ
bits_line r bits = codes "bits " ++ decimal r ++ codes " " ++ hex_text 8 bits ++ codes "\n"

-- the lines of the first n ranks
abbrev pub bits_lines : ℕ → (ℕ → ℕ) → List ℕ
bits_lines n bits = text_below (λ r. bits_line r (bits r)) n
