-- The letters of a call along a tree: each message's on one machine that has the wires of all ranks. A message's letters are those of the
-- collectives' messages, which are the ones of the ideal machine's steps at its two ends
use Rattle.std.specs.Prelude.{◌≡◌, ◌≢◌, ℕ, ◌∷◌, [], List, Contains, map}
use Rattle.std.specs.List.{flat_map}
use Rattle.std.specs.List.Sorted.{IsPermutation}
use Rattle.qm_denot.specs.declared.Wire.{Wire}
use Rattle.qm_denot.specs.declared.Letter.{Letter}
use Rattle.qm_instr.specs.declared.Instr.{Instr}
use Rattle.qm_collect.specs.Table.{others}
use Rattle.qm_collect.specs.Letters.{Wiring, letters_at}
use Rattle.qm_tree.specs.declared.TreeCall.{TreeCall}
use Rattle.qm_tree.specs.Trees.{parent, messages_up, instructions_at}

-- ---- the order of the messages
-- each rank of the list stands behind its parent, or its parent is among these ranks
abbrev pub IsDownFrom : (n root : ℕ) → List ℕ → List ℕ → Type 0
IsDownFrom n root done [] = Unit {0}
IsDownFrom n root done (d ∷ ds) = Contains done (parent d root n) × IsDownFrom n root (d ∷ done) ds

-- each rank of the list stands before its parent, which is the root or another rank of the list
abbrev pub IsUpTo : (n root : ℕ) → List ℕ → Type 0
IsUpTo n root [] = Unit {0}
IsUpTo n root (d ∷ ds) = Contains (root ∷ ds) (parent d root n) × IsUpTo n root ds

-- all ranks but the root in an order in which copies can come down: each behind its parent
pub record ComesDown (n root : ℕ) (order : List ℕ) : Type 0 where
  pub each : IsPermutation (others root n) order
  pub behind : IsDownFrom n root (root ∷ []) order

-- all ranks but the root in an order in which copies can go back: each before its parent
pub record GoesUp (n root : ℕ) (order : List ℕ) : Type 0 where
  pub each : IsPermutation (others root n) order
  pub before : IsUpTo n root order

-- ---- the letters
-- the letters of a rank's message with its parent, where each of n ranks calls in its own way
abbrev pub letters_up : Wiring → ℕ → (ℕ → TreeCall) → ℕ → List Letter
letters_up w n calls r =
    let programs : ℕ → List Instr = λ k. instructions_at (calls k) k n in flat_map (letters_at w programs r) (messages_up (calls r) r n)

-- the letters of all messages, rank by rank in an order
abbrev pub tree_letters : Wiring → ℕ → (ℕ → TreeCall) → List ℕ → List Letter
tree_letters w n calls order = flat_map (letters_up w n calls) order

-- ---- the wires
-- the copy that a rank gets, and the copies of all ranks but the root
abbrev pub copy_of : Wiring → (n root rank : ℕ) → Wire
copy_of w n root rank = w.sent (parent rank root n) rank

abbrev pub copies : Wiring → (n root : ℕ) → List Wire
copies w n root = map (copy_of w n root) (others root n)

-- slot q of each rank but the root has the rank's copy, as soon as it got it
abbrev pub IsHandedOn : Wiring → (n root : ℕ) → (q : ℕ → ℕ) → Type 0
IsHandedOn w n root q = (d : ℕ) → d ≢ root → w.slot d (q d) ≡ copy_of w n root d
