-- Circuits that were worked out by hand: their amplitudes, and how many halvings they have
use Rattle.std.specs.Prelude.{◌≡◌, ℕ, true, false, List, [], ◌∷◌, ◌++◌, pos, negsuc}
use Rattle.qm_zomega.specs.Numbers.{Number, number, zero_number, one_number}
use Rattle.qm_denot.specs.declared.Wire.{Wire}
use Rattle.qm_denot.specs.declared.Letter.TheVariants.{Phase, Flip, Had, Cx, Cz, Pair, Keep, Take, Rename}
use Rattle.qm_denot.specs.Wires.{Wires, put, no_wires}
use Rattle.qm_denot.specs.Circuits.{Circuit, amp, halvings}

-- C's amplitudes at x with each choice of the wires of the list: the first wire counts highest, and without it comes before with it
abbrev pub column : List Wire → Circuit → Wires → List Number
column [] c x = amp c x ∷ []
column (w ∷ ws) c x = column ws c (put x w false) ++ column ws c (put x w true)

-- C's amplitudes at the sets of the wires ws, in that order, and C's halvings
pub record Shows (c : Circuit) (ws : List Wire) (numbers : List Number) (h : ℕ) : Type 0 where
  pub amplitudes : column ws c no_wires ≡ numbers
  pub halved : halvings c ≡ h

-- a qubit of rank 0
abbrev q : Wire
q = record { rank = 0; made = 0; near = false }

-- the halves of an EPR pair that rank 0 made
abbrev e : Wire
e = record { rank = 0; made = 1; near = true }

abbrev f : Wire
f = record { rank = 0; made = 1; near = false }

-- a qubit of rank 1
abbrev t : Wire
t = record { rank = 1; made = 0; near = false }

-- the numbers 0 and 1
abbrev O : Number
O = zero_number

abbrev I : Number
I = one_number

-- whole parts a and b of a + b omega
abbrev sum : ℕ → ℕ → Number
sum a b = number (pos a) (pos b) (pos 0) (pos 0)

-- the whole state vectors of small circuits, and their halvings
pub record WorkedCircuits : Type 0 where
  -- nothing done: all qubits are zero
  pub empty : Shows [] (q ∷ []) (I ∷ O ∷ []) 0
  pub had : Shows (Had q ∷ []) (q ∷ []) (I ∷ I ∷ []) 1
  -- twice Had: 2 over root2^2
  pub had_twice : Shows (Had q ∷ Had q ∷ []) (q ∷ []) (sum 2 0 ∷ O ∷ []) 2
  -- 1 + omega and 1 - omega
  pub turned : Shows (Had q ∷ Phase 1 q ∷ Had q ∷ []) (q ∷ []) (sum 1 1 ∷ number (pos 1) (negsuc 0) (pos 0) (pos 0) ∷ []) 2
  pub signed : Shows (Flip q ∷ Flip t ∷ Cz q t ∷ []) (q ∷ t ∷ []) (O ∷ O ∷ O ∷ number (negsuc 0) (pos 0) (pos 0) (pos 0) ∷ []) 0
  pub kept : Shows (Had q ∷ Keep q true ∷ []) (q ∷ []) (O ∷ I ∷ []) 1
  pub renamed : Shows (Flip q ∷ Rename q f ∷ []) (q ∷ f ∷ []) (O ∷ I ∷ O ∷ O ∷ []) 0
  -- a copy of q onto f: both zero or both one
  pub copied : Shows (Had q ∷ Pair e f ∷ Cx q e ∷ Take e true ∷ Flip f ∷ [])
      (q ∷ e ∷ f ∷ []) (I ∷ O ∷ O ∷ O ∷ O ∷ I ∷ O ∷ O ∷ []) 2
  -- the same copy with the other outcome
  pub copied_by_zero : Shows (Had q ∷ Pair e f ∷ Cx q e ∷ Take e false ∷ [])
      (q ∷ e ∷ f ∷ []) (I ∷ O ∷ O ∷ O ∷ O ∷ I ∷ O ∷ O ∷ []) 2
  -- a copy, and the uncopy of it
  pub uncopied : Shows (Had q ∷ Pair e f ∷ Cx q e ∷ Take e true ∷ Flip f ∷ Had f ∷ Take f true ∷ Phase 4 q ∷ [])
      (q ∷ e ∷ f ∷ []) (I ∷ O ∷ O ∷ O ∷ I ∷ O ∷ O ∷ O ∷ []) 3
  -- a move of q to f: 1 and omega
  pub moved : Shows (Had q ∷ Phase 1 q ∷ Pair e f ∷ Cx q e ∷ Had q ∷ Take e true ∷ Take q true ∷ Flip f ∷ Phase 4 f ∷ [])
      (q ∷ e ∷ f ∷ []) (I ∷ sum 0 1 ∷ O ∷ O ∷ O ∷ O ∷ O ∷ O ∷ []) 3
  -- a controlled-not from q, which is one, on t of another rank
  pub reached : Shows (Flip q ∷ Pair e f ∷ Cx q e ∷ Take e true ∷ Flip f ∷ Cx f t ∷ Had f ∷ Take f true ∷ Phase 4 q ∷ [])
      (q ∷ e ∷ f ∷ t ∷ []) (O ∷ O ∷ O ∷ O ∷ O ∷ O ∷ O ∷ O ∷ O ∷ I ∷ O ∷ O ∷ O ∷ O ∷ O ∷ O ∷ []) 2
