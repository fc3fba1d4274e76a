-- The circuit text: the letters of the programs' one circuit, and what the ranks have at its end
use Rattle.std.specs.Prelude.{ℕ, Bool, if◌then◌else◌, ◌++◌, List, length, codes, decimal}
use Rattle.std.specs.List.{flat_map}
use Rattle.qm_denot.specs.declared.Wire.{Wire}
use Rattle.qm_denot.specs.declared.Letter.{Letter}
use Rattle.qm_denot.specs.declared.Letter.TheVariants.{Phase, Flip, Had, Cx, Cz, Pair, Keep, Take, Rename}
use Rattle.qm_instr.specs.Programs.{Programs}
use Rattle.qm_proto.specs.Model.Schedules.{protocol_total}
use Rattle.qm_instr.specs.Bits.{number_of_bits}
use Rattle.qm_ideal.specs.OneCircuits.{OneView, bits_of, slot_of}
use Rattle.qm_print.specs.Bits.{bits_lines}
use Rattle.qm_print.specs.Slots.{full_slots, slot_lines, wire_text}

-- an outcome
abbrev pub outcome_text : Bool → List ℕ
outcome_text m = if m then codes "1" else codes "0"

-- the lines of letters: a phase, a letter on one wire, one on two, and a projection
abbrev pub phase_line : ℕ → Wire → List ℕ
phase_line k w = codes "phase " ++ decimal k ++ codes " " ++ wire_text w ++ codes "\n"

abbrev pub one_line : List ℕ → Wire → List ℕ
one_line name w = name ++ wire_text w ++ codes "\n"

abbrev pub two_line : List ℕ → Wire → Wire → List ℕ
two_line name a b = name ++ wire_text a ++ codes " " ++ wire_text b ++ codes "\n"

abbrev pub projection_line : List ℕ → Wire → Bool → List ℕ
projection_line name w m = name ++ wire_text w ++ codes " " ++ outcome_text m ++ codes "\n"

-- the line of a letter; the one circuit of programs has no pair
abbrev pub letter_line : Letter → List ℕ
letter_line (Phase k w) = phase_line k w
letter_line (Flip w) = one_line (codes "flip ") w
letter_line (Had w) = one_line (codes "had ") w
letter_line (Cx c t) = two_line (codes "cx ") c t
letter_line (Cz c t) = two_line (codes "cz ") c t
letter_line (Pair a b) = two_line (codes "pair ") a b
letter_line (Keep w m) = projection_line (codes "keep ") w m
letter_line (Take w m) = projection_line (codes "take ") w m
letter_line (Rename a b) = two_line (codes "rename ") a b

-- a line for each letter, in their order
abbrev pub letter_lines : List Letter → List ℕ
letter_lines ls = flat_map letter_line ls

-- the lines before the bits
abbrev pub circuit_head : ℕ → ℕ → List ℕ
circuit_head ranks protocol =
    codes "circuit 1\nranks " ++ decimal ranks ++ codes "\nprotocol " ++ decimal protocol ++ codes "\n"

-- the line that says how many letters follow
abbrev pub letters_head : ℕ → List ℕ
letters_head n = codes "letters " ++ decimal n ++ codes "\n"

-- the text of a circuit with these ends of the ranks of programs
abbrev pub circuit_text : Programs → OneView → List ℕ
circuit_text p m =
    circuit_head (length p.ranks) (protocol_total p) ++ bits_lines (length p.ranks) (λ r. number_of_bits (bits_of m r))
    ++ letters_head (length m.letters) ++ letter_lines m.letters ++ slot_lines (full_slots p (slot_of m)) ++ codes "end\n"
