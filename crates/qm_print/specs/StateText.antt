-- The state text: the amplitudes of a circuit over the wires of the full slots, as bytes
use Rattle.std.specs.Prelude.{◌≡◌, ℕ, ◌+◌, ◌∷◌, [], ◌++◌, List, Bool, true, ◌&&◌, Option, if◌then◌else◌, length, codes, decimal, pos}
use Rattle.std.specs.Fmt.{signed_decimal}
use Rattle.std.specs.Ordering.{int_eq}
use Rattle.qm_zomega.specs.Numbers.{Number}
use Rattle.qm_denot.specs.declared.Wire.{Wire}
use Rattle.qm_denot.specs.Wires.{Wires, put, no_wires}
use Rattle.qm_denot.specs.Circuits.{Amplitudes, Circuit}
use Rattle.qm_denot.specs.Stores.{IsReducedForm}
use Rattle.qm_instr.specs.Programs.{Programs}
use Rattle.qm_proto.specs.Model.Schedules.{protocol_total}
use Rattle.qm_instr.specs.Bits.{number_of_bits}
use Rattle.qm_print.specs.declared.Live.{Live}
use Rattle.qm_print.specs.Slots.{full_slots, slots_text}
use Rattle.qm_print.specs.Bits.{bits_lines}

-- whether a branch with this number has no line: it is 0
abbrev pub is_zero_number : Number → Bool
is_zero_number z = int_eq z.a (pos 0) && (int_eq z.b (pos 0) && (int_eq z.c (pos 0) && int_eq z.d (pos 0)))

-- the bit string of a branch; the empty one is written `-`
abbrev pub bits_text : List ℕ → List ℕ
bits_text [] = codes "-"
bits_text (b ∷ bs) = b ∷ bs

-- the line of a branch: its bit string and its numerator
abbrev pub branch_line : List ℕ → Number → List ℕ
branch_line bits z =
    bits_text bits ++ codes " " ++ signed_decimal z.a ++ codes " " ++ signed_decimal z.b
    ++ codes " " ++ signed_decimal z.c ++ codes " " ++ signed_decimal z.d ++ codes "\n"

-- the lines of the branches that agree with x and these bits, in rising order of their bit strings, without those that are zero
abbrev pub branch_lines : Amplitudes → List ℕ → Wires → List Live → List ℕ
branch_lines u bits x [] = if is_zero_number (u x) then [] else branch_line bits (u x)
branch_lines u bits x (s ∷ ss) =
    branch_lines u (bits ++ codes "0") x ss ++ branch_lines u (bits ++ codes "1") (put x s.wire true) ss

-- how many of the branches that agree with x are not zero
abbrev pub branch_count : Amplitudes → Wires → List Live → ℕ
branch_count u x [] = if is_zero_number (u x) then 0 else 1
branch_count u x (s ∷ ss) = branch_count u x ss + branch_count u (put x s.wire true) ss

-- how many amplitude lines a state text has
abbrev pub line_count : Amplitudes → List Live → ℕ
line_count u live = branch_count u no_wires live

-- the lines before the bits
abbrev pub head_lines : ℕ → ℕ → ℕ → List ℕ
head_lines ranks protocol scale =
    codes "state 1\nranks " ++ decimal ranks ++ codes "\nprotocol " ++ decimal protocol ++ codes "\nscale " ++ decimal scale ++ codes "\n"

-- the state text: how many ranks there are, the protocol total, the scale, the number of each rank's bits, the full slots, and the
-- numerators over root2^scale
abbrev pub state_lines : ℕ → ℕ → ℕ → (ℕ → ℕ) → List Live → Amplitudes → List ℕ
state_lines ranks protocol scale bits live u =
    head_lines ranks protocol scale ++ bits_lines ranks bits ++ codes "live" ++ slots_text live ++ codes "\n"
    ++ branch_lines u [] no_wires live ++ codes "end\n"

-- the text is the state text of a circuit: its reduced form, with this much more in the exponent, over the ranks' full slots
pub record IsStateText
    (p : Programs) (c : Circuit) (more : ℕ) (bits : ℕ → List Bool) (slots : ℕ → ℕ → Option Wire) (text : List ℕ) : Type 0 where
  pub numerators : Amplitudes
  pub exponent : ℕ
  pub form : IsReducedForm numerators exponent c
  pub lines : text
      ≡ state_lines (length p.ranks) (protocol_total p) (exponent + more) (λ r. number_of_bits (bits r)) (full_slots p slots) numerators
