-- Messages that were worked out by hand: the amplitudes of both sides of each law
use Rattle.std.specs.Prelude.{Bool, true, false, List, [], ◌∷◌, ◌++◌, pos}
use Rattle.qm_zomega.specs.Numbers.{Number, number, zero_number, one_number}
use Rattle.qm_denot.specs.declared.Wire.{Wire}
use Rattle.qm_denot.specs.declared.Letter.{Letter}
use Rattle.qm_denot.specs.declared.Letter.TheVariants.{Phase, Flip, Had, Cx, Pair, Take, Rename}
use Rattle.qm_denot.specs.Circuits.{IsEqualUpTo}
use Rattle.qm_denot.specs.Protocols.{letter_if, copying, uncopying, moving, reaching}
use Rattle.qm_denot.specs.WorkedCircuits.{Shows}

-- a qubit of rank 0
abbrev pub q : Wire
q = record { rank = 0; made = 0; near = false }

-- the halves of an EPR pair that rank 0 made
abbrev pub e : Wire
e = record { rank = 0; made = 1; near = true }

abbrev pub f : Wire
f = record { rank = 0; made = 1; near = false }

-- a qubit of rank 1
abbrev pub t : Wire
t = record { rank = 1; made = 0; near = false }

-- the numbers 0, 1 and omega
abbrev pub O : Number
O = zero_number

abbrev pub I : Number
I = one_number

abbrev omega : Number
omega = number (pos 0) (pos 1) (pos 0) (pos 0)

-- q after Had and a turn: 1 and omega
abbrev turned_letters : List Letter
turned_letters = Had q ∷ Phase 1 q ∷ []

-- a move of q to f with its two corrections exchanged: f is flipped by the outcome on q, and its sign changed by the one on e
abbrev pub exchanged_letters : Bool → Bool → List Letter
exchanged_letters m n = Pair e f ∷ Cx q e ∷ Had q ∷ Take e m ∷ Take q n ∷ (letter_if n (Flip f) ++ letter_if m (Phase 4 f))

-- both sides of each law show the same amplitudes, the messages' outcomes as more halvings
pub record WorkedMessages : Type 0 where
  pub copy : Shows (turned_letters ++ copying q e f true) (q ∷ e ∷ f ∷ []) (I ∷ O ∷ O ∷ O ∷ O ∷ omega ∷ O ∷ O ∷ []) 2
  pub copied : Shows (turned_letters ++ Cx q f ∷ []) (q ∷ e ∷ f ∷ []) (I ∷ O ∷ O ∷ O ∷ O ∷ omega ∷ O ∷ O ∷ []) 1
  pub uncopy : Shows ((turned_letters ++ Cx q f ∷ []) ++ uncopying q f true) (q ∷ f ∷ []) (I ∷ O ∷ omega ∷ O ∷ []) 2
  pub uncopied : Shows ((turned_letters ++ Cx q f ∷ []) ++ Cx q f ∷ Take f false ∷ []) (q ∷ f ∷ []) (I ∷ O ∷ omega ∷ O ∷ []) 1
  pub move : Shows (turned_letters ++ moving q e f true false) (q ∷ e ∷ f ∷ []) (I ∷ omega ∷ O ∷ O ∷ O ∷ O ∷ O ∷ O ∷ []) 3
  pub moved : Shows (turned_letters ++ Rename q f ∷ []) (q ∷ e ∷ f ∷ []) (I ∷ omega ∷ O ∷ O ∷ O ∷ O ∷ O ∷ O ∷ []) 1
  pub reach : Shows (turned_letters ++ reaching q e f t true true) (q ∷ f ∷ t ∷ []) (I ∷ O ∷ O ∷ O ∷ O ∷ omega ∷ O ∷ O ∷ []) 3
  pub reached : Shows (turned_letters ++ Cx q t ∷ []) (q ∷ f ∷ t ∷ []) (I ∷ O ∷ O ∷ O ∷ O ∷ omega ∷ O ∷ O ∷ []) 1
  -- of q as one the exchanged corrections make f zero, which is no renaming
  pub exchange : Shows (Flip q ∷ exchanged_letters true false) (f ∷ []) (I ∷ O ∷ []) 2
  pub renamed : Shows (Flip q ∷ Rename q f ∷ []) (f ∷ []) (O ∷ I ∷ []) 0
  pub exchange_differs : ¬ (IsEqualUpTo 2 (Flip q ∷ exchanged_letters true false) (Flip q ∷ Rename q f ∷ []))
