-- Lists of wires with nothing in common, and sets of wires that agree on a list
use Rattle.std.proofs.Common.{◌≡◌, Bool, List, [], ◌∷◌, ◌++◌, refl, sym, ◌∙◌}
use Rattle.qm_denot.specs.declared.Wire.{Wire}
use Rattle.qm_denot.specs.declared.Letter.{Letter}
use Rattle.qm_denot.specs.Wires.{Wires, has, put}
use Rattle.qm_denot.specs.WireLists.{Lacks}
use Rattle.qm_denot.specs.Weights.{operands, names}
use Rattle.qm_denot.specs.Circuits.{Circuit}
use Rattle.qm_denot.proofs.Sets.{has-put_other}
use Rattle.qm_denot.proofs.NameLists.{Lacks-where_also}

-- the second list lacks each wire of the first
abbrev pub Apart : List Wire → List Wire → Type 0
Apart [] vs = Unit {0}
Apart (w ∷ ws) vs = Lacks vs w × Apart ws vs

-- a wire that the list lacks is apart from it
pub apart_one : (ws : List Wire) (v : Wire) → Lacks ws v → Apart ws (v ∷ [])
apart_one [] v l = tt
apart_one (w ∷ ws) v l = (((λ e. l.0 (sym e)), tt), apart_one ws v l.1)

apart_none : (ws : List Wire) → Apart ws []
apart_none [] = tt
apart_none (w ∷ ws) = (tt, apart_none ws)

apart_more : (ws vs : List Wire) (v : Wire) → Lacks ws v → Apart ws vs → Apart ws (v ∷ vs)
apart_more [] vs v l a = tt
apart_more (w ∷ ws) vs v l a = (((λ e. l.0 (sym e)), a.0), apart_more ws vs v l.1 a.1)

-- being apart goes both ways
pub apart_sym : (ws vs : List Wire) → Apart ws vs → Apart vs ws
apart_sym [] vs a = apart_none vs
apart_sym (w ∷ ws) vs a = apart_more vs ws w a.0 (apart_sym ws vs a.1)

-- no operand of the letters is in the list
abbrev pub LettersApart : List Letter → List Wire → Type 0
LettersApart [] ws = Unit {0}
LettersApart (l ∷ ls) ws = Apart (operands l) ws × LettersApart ls ws

-- letters, and letters after them
pub LettersApart-append : (ls ms : List Letter) (ws : List Wire) → LettersApart ls ws → LettersApart ms ws → LettersApart (ls ++ ms) ws
LettersApart-append [] ms ws a b = b
LettersApart-append (l ∷ ls) ms ws a b = (a.0, LettersApart-append ls ms ws a.1 b)

-- x and y have the same wires of the list
abbrev pub AgreeOn : List Wire → Wires → Wires → Type 0
AgreeOn [] x y = Unit {0}
AgreeOn (w ∷ ws) x y = (has x w ≡ has y w) × AgreeOn ws x y

-- agreement on a list is an equivalence
pub AgreeOn-refl : (ws : List Wire) (x : Wires) → AgreeOn ws x x
AgreeOn-refl [] x = tt
AgreeOn-refl (w ∷ ws) x = (refl, AgreeOn-refl ws x)

pub AgreeOn-sym : (ws : List Wire) (x y : Wires) → AgreeOn ws x y → AgreeOn ws y x
AgreeOn-sym [] x y a = tt
AgreeOn-sym (w ∷ ws) x y a = (sym a.0, AgreeOn-sym ws x y a.1)

pub AgreeOn-trans : (ws : List Wire) (x y z : Wires) → AgreeOn ws x y → AgreeOn ws y z → AgreeOn ws x z
AgreeOn-trans [] x y z a b = tt
AgreeOn-trans (w ∷ ws) x y z a b = (a.0 ∙ b.0, AgreeOn-trans ws x y z a.1 b.1)

-- a wire outside the list may be put to any bit
pub AgreeOn-put : (ws : List Wire) (x : Wires) (w : Wire) (b : Bool) → Lacks ws w → AgreeOn ws x (put x w b)
AgreeOn-put [] x w b l = tt
AgreeOn-put (v ∷ ws) x w b l = (sym (has-put_other x w b v l.0), AgreeOn-put ws x w b l.1)

-- ---- the wires that letters name
-- a wire that C doesn't name is no operand of C's letters
pub LettersApart-unnamed : (c : Circuit) (w : Wire) → Lacks (names c) w → LettersApart c (w ∷ [])
LettersApart-unnamed [] w l = tt
LettersApart-unnamed (k ∷ c) w l =
    let r = Lacks-where_also (names c) (operands k) w l in
    (apart_one (operands k) w r.1, LettersApart-unnamed c w r.0)
