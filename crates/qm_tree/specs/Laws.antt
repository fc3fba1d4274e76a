-- The laws of broadcast along a tree, for every circuit and any number of ranks. Each rank names a slot of its own; root and tags are any
use Rattle.std.specs.Prelude.{◌≡◌, ◌≢◌, ℕ, ◌+◌, ◌^◌, ◌<◌, ◌≤◌, List, ◌∷◌, ◌++◌}
use Rattle.qm_denot.specs.Wires.{Wires}
use Rattle.qm_denot.specs.WireLists.{Distinct}
use Rattle.qm_denot.specs.Circuits.{Circuit, amp}
use Rattle.qm_denot.specs.Collectives.{AreBlankIn, copied_onto}
use Rattle.qm_collect.specs.Letters.{Wiring}
use Rattle.qm_tree.specs.declared.TreeOp.TheVariants.{Cast, Uncast}
use Rattle.qm_tree.specs.Trees.{IsDepth, call_of}
use Rattle.qm_tree.specs.Letters.{ComesDown, GoesUp, IsHandedOn, copies, copy_of, tree_letters}

-- after C a broadcast along a tree has C's amplitude at x less the copies where all copies agree with the root's qubit, and 0 elsewhere, in
-- whatever order the copies come down
abbrev pub TreecastLaw : Type 0
TreecastLaw = (c : Circuit) (w : Wiring) (n root tag : ℕ) (q : ℕ → ℕ) (down : List ℕ) → root < n → ComesDown n root down → IsHandedOn w n root q
    → Distinct (w.slot root (q root) ∷ copies w n root) → AreBlankIn (amp c) (copies w n root) → (x : Wires)
    → amp (c ++ tree_letters w n (λ r. call_of Cast (q r) root tag) down) x ≡ copied_onto (copies w n root) (w.slot root (q root)) (amp c) x

-- the copies are held in slots p, and their source in slot p of the root
pub record IsHeld (before after : Wiring) (n root : ℕ) (q p : ℕ → ℕ) : Type 0 where
  pub source : after.slot root (p root) ≡ before.slot root (q root)
  pub held : (d : ℕ) → d ≢ root → after.slot d (p d) ≡ copy_of before n root d

-- a broadcast along a tree that is undone leaves C's amplitudes, in whatever order the copies came down and go back
abbrev pub UntreecastLaw : Type 0
UntreecastLaw = (c : Circuit) (w v : Wiring) (n root tag end : ℕ) (q p : ℕ → ℕ) (down up : List ℕ) → root < n → ComesDown n root down
    → GoesUp n root up → IsHandedOn w n root q
    → Distinct (w.slot root (q root) ∷ copies w n root) → AreBlankIn (amp c) (copies w n root) → IsHeld w v n root q p → (x : Wires)
    → amp ((c ++ tree_letters w n (λ r. call_of Cast (q r) root tag) down) ++ tree_letters v n (λ r. call_of Uncast (p r) root end) up) x
    ≡ amp c x

-- a place that is so many copies from the root is below the next power of two, and not below this one, less 1
abbrev pub DepthLaw : Type 0
DepthLaw = (v depth : ℕ) → IsDepth v depth → (2 ^ depth ≤ v + 1) × (v + 1 < 2 ^ (depth + 1))
