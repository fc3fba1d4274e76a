-- The letters of the quantum messages, and what their laws take of the amplitudes
use Rattle.std.specs.Prelude.{◌≡◌, Bool, true, false, not, List, [], ◌∷◌, ◌++◌}
use Rattle.qm_zomega.specs.Numbers.{zero_number}
use Rattle.qm_denot.specs.declared.Wire.{Wire}
use Rattle.qm_denot.specs.declared.Letter.{Letter}
use Rattle.qm_denot.specs.declared.Letter.TheVariants.{Phase, Flip, Had, Cx, Pair, Take}
use Rattle.qm_denot.specs.Wires.{Wires, has}
use Rattle.qm_denot.specs.Circuits.{Amplitudes}

-- the letters where m is true, else none
abbrev pub letters_if : Bool → List Letter → List Letter
letters_if true ls = ls
letters_if false ls = []

-- the letter where m is true, else none
abbrev pub letter_if : Bool → Letter → List Letter
letter_if m l = letters_if m (l ∷ [])

-- a copy of q onto f by the EPR pair e, f, with the outcome m on e: f is corrected by m
abbrev pub copying : Wire → Wire → Wire → Bool → List Letter
copying q e f m = Pair e f ∷ Cx q e ∷ Take e m ∷ letter_if m (Flip f)

-- an uncopy of f, a copy of q, with the outcome m on f: q is corrected by m
abbrev pub uncopying : Wire → Wire → Bool → List Letter
uncopying q f m = Had f ∷ Take f m ∷ letter_if m (Phase 4 q)

-- a move of q to f by the EPR pair e, f, with the outcomes m on e and n on q: f is flipped by m and its sign changed by n
abbrev pub moving : Wire → Wire → Wire → Bool → Bool → List Letter
moving q e f m n = Pair e f ∷ Cx q e ∷ Had q ∷ Take e m ∷ Take q n ∷ (letter_if m (Flip f) ++ letter_if n (Phase 4 f))

-- a controlled-not of q on t, which another rank has: a copy of q onto f, the controlled-not of f on t, and an uncopy of f
abbrev pub reaching : Wire → Wire → Wire → Wire → Bool → Bool → List Letter
reaching q e f t m n = copying q e f m ++ Cx f t ∷ uncopying q f n

-- a controlled-not of each wire of the list on v
abbrev pub crossings : List Wire → Wire → List Letter
crossings [] v = []
crossings (w ∷ ws) v = Cx w v ∷ crossings ws v

-- a change of sign of each wire of the list
abbrev pub signs : List Wire → List Letter
signs [] = []
signs (w ∷ ws) = Phase 4 w ∷ signs ws

-- v, the parity of the wires of the list, is measured away with the outcome m: each of them is corrected by m
abbrev pub folding : Wire → List Wire → Bool → List Letter
folding v ws m = Had v ∷ Take v m ∷ letters_if m (signs ws)

-- whether exactly one of two bits is true
abbrev pub differing : Bool → Bool → Bool
differing true b = not b
differing false b = b

-- whether exactly one of v and w is in x
abbrev pub differ : Wire → Wire → Wires → Bool
differ v w x = differing (has x v) (has x w)

-- whether an odd number of the list's wires is in x
abbrev pub is_odd : List Wire → Wires → Bool
is_odd [] x = false
is_odd (w ∷ ws) x = differing (has x w) (is_odd ws x)

-- f is zero wherever exactly one of v and w is one
abbrev pub Agree : Amplitudes → Wire → Wire → Type 0
Agree f v w = (x : Wires) → differ v w x ≡ true → f x ≡ zero_number

-- f is zero wherever v is not the parity of the list's wires
abbrev pub IsParityOf : Amplitudes → Wire → List Wire → Type 0
IsParityOf f v ws = (x : Wires) → differing (has x v) (is_odd ws x) ≡ true → f x ≡ zero_number
