-- The letters of the collectives, and the sets of wires that their laws speak of
use Rattle.std.specs.Prelude.{Bool, true, false, ◌&&◌, ◌||◌, if◌then◌else◌, List, [], ◌∷◌}
use Rattle.qm_zomega.specs.Numbers.{zero_number}
use Rattle.qm_denot.specs.declared.Wire.{Wire}
use Rattle.qm_denot.specs.declared.Letter.{Letter}
use Rattle.qm_denot.specs.declared.Letter.TheVariants.{Cx, Take, Rename}
use Rattle.qm_denot.specs.Wires.{Wires, has, put}
use Rattle.qm_denot.specs.Places.{without}
use Rattle.qm_denot.specs.Circuits.{Amplitudes, IsBlankIn, same_bit}

-- a broadcast: q copied onto each wire of the list
abbrev pub broadcasting : Wire → List Wire → List Letter
broadcasting q [] = []
broadcasting q (c ∷ cs) = Cx q c ∷ broadcasting q cs

-- its undoing: each copy crossed by q and given up
abbrev pub unbroadcasting : Wire → List Wire → List Letter
unbroadcasting q [] = []
unbroadcasting q (c ∷ cs) = Cx q c ∷ Take c false ∷ unbroadcasting q cs

-- whether each wire of the list is b in x
abbrev pub are_all : Bool → List Wire → Wires → Bool
are_all b [] x = true
are_all b (c ∷ cs) x = same_bit (has x c) b && are_all b cs x

-- the amplitudes f with q copied onto the wires of the list: f at x without them where all are as q, and zero elsewhere
abbrev pub copied_onto : List Wire → Wire → Amplitudes → Amplitudes
copied_onto cs q f x = if are_all (has x q) cs x then f (without x cs) else zero_number

-- each wire of the list is blank
abbrev pub AreBlankIn : Amplitudes → List Wire → Type 0
AreBlankIn f [] = Unit {0}
AreBlankIn f (c ∷ cs) = IsBlankIn f c × AreBlankIn f cs

-- a scatter or a gather: the first wire of each pair called by the name of the second
abbrev pub renaming : List (Wire × Wire) → List Letter
renaming [] = []
renaming (p ∷ ps) = Rename p.0 p.1 ∷ renaming ps

-- the wires of the pairs
abbrev pub wires_in : List (Wire × Wire) → List Wire
wires_in [] = []
wires_in (p ∷ ps) = p.0 ∷ p.1 ∷ wires_in ps

-- whether the first wire of some pair is in x
abbrev pub has_old : List (Wire × Wire) → Wires → Bool
has_old [] x = false
has_old (p ∷ ps) x = has_old ps x || has x p.0

-- x with the second wire of each pair replaced by the first
abbrev pub with_old : List (Wire × Wire) → Wires → Wires
with_old [] x = x
with_old (p ∷ ps) x = let y = with_old ps x in put (put y p.0 (has y p.1)) p.1 false
