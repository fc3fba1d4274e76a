-- The classes of bytes
use Rattle.std.specs.Prelude.{ℕ, Bool, not, ◌&&◌, ◌||◌, nat_le, ◌==◌}

-- space, tab, carriage return and line feed
abbrev pub is_blank : ℕ → Bool
is_blank b = b == 32 || b == 9 || b == 13 || b == 10

-- 0 to 9
abbrev pub is_digit : ℕ → Bool
is_digit b = nat_le 48 b && nat_le b 57

-- a to z, and A to Z
abbrev pub is_letter : ℕ → Bool
is_letter b = (nat_le 97 b && nat_le b 122) || (nat_le 65 b && nat_le b 90)

-- what may follow the first letter of a word: a letter, a digit or _
abbrev pub is_word_byte : ℕ → Bool
is_word_byte b = is_letter b || is_digit b || b == 95

-- a symbol of one byte: { } ( ) + - * / %
abbrev pub is_symbol : ℕ → Bool
is_symbol b = b == 123 || b == 125 || b == 40 || b == 41 || b == 43 || b == 45 || b == 42 || b == 47 || b == 37

-- a byte that a comment may hold: each one but the line feed
abbrev pub is_comment_byte : ℕ → Bool
is_comment_byte b = not (b == 10)
