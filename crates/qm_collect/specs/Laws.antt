-- The laws of the collectives, for every circuit and any number of ranks. Each rank names slots of its own; ranks, root and tags are any
use Rattle.std.specs.Prelude.{◌≡◌, ◌≢◌, ℕ, ◌+◌, List, ◌∷◌, ◌++◌, map, if◌then◌else◌}
use Rattle.qm_zomega.specs.Numbers.{zero_number}
use Rattle.qm_denot.specs.declared.Wire.{Wire}
use Rattle.qm_denot.specs.Wires.{Wires, toggled}
use Rattle.qm_denot.specs.WireLists.{Distinct}
use Rattle.qm_denot.specs.Circuits.{Circuit, amp}
use Rattle.qm_denot.specs.Protocols.{is_odd}
use Rattle.qm_denot.specs.Collectives.{AreBlankIn, copied_onto, renaming, wires_in, has_old, with_old}
use Rattle.qm_collect.specs.declared.Collective.TheVariants.{Bcast, Unbcast, Scatter, Gather, Unscatter, Ungather, Reduce, Unreduce}
use Rattle.qm_collect.specs.Table.{others}
use Rattle.qm_collect.specs.Letters.{Wiring, collective_letters}

-- the wires that the root's messages make, one for each other rank
abbrev pub copies : Wiring → ℕ → ℕ → List Wire
copies w n root = map (w.sent root) (others root n)

-- the copies are held in slots p of the other ranks, and their source in slot p of the root
pub record IsHeld (before after : Wiring) (root : ℕ) (q p : ℕ → ℕ) : Type 0 where
  pub source : after.slot root (p root) ≡ before.slot root (q root)
  pub held : (d : ℕ) → d ≢ root → after.slot d (p d) ≡ before.sent root d

-- after C a broadcast has C's amplitude at x less the copies where all copies agree with the root's qubit, and 0 elsewhere
abbrev pub BcastLaw : Type 0
BcastLaw = (c : Circuit) (w : Wiring) (n root tag : ℕ) (q : ℕ → ℕ)
    → Distinct (w.slot root (q root) ∷ copies w n root) → AreBlankIn (amp c) (copies w n root) → (x : Wires)
    → amp (c ++ collective_letters w n root (λ r. Bcast (q r) root tag)) x ≡ copied_onto (copies w n root) (w.slot root (q root)) (amp c) x

-- a broadcast that is undone leaves C's amplitudes
abbrev pub UnbcastLaw : Type 0
UnbcastLaw = (c : Circuit) (w v : Wiring) (n root tag end : ℕ) (q p : ℕ → ℕ)
    → Distinct (w.slot root (q root) ∷ copies w n root) → AreBlankIn (amp c) (copies w n root) → IsHeld w v root q p → (x : Wires)
    → amp ((c ++ collective_letters w n root (λ r. Bcast (q r) root tag)) ++ collective_letters v n root (λ r. Unbcast (p r) root end)) x
    ≡ amp c x

-- the operand qubits, the root's first
abbrev pub operands : Wiring → ℕ → ℕ → (ℕ → ℕ) → List Wire
operands w n root q = w.slot root (q root) ∷ map (λ d. w.slot d (q d)) (others root n)

-- after C a reduce has C's amplitude at x with the target toggled exactly where an odd number of the operand qubits is in x
abbrev pub ReduceLaw : Type 0
ReduceLaw = (c : Circuit) (w : Wiring) (n root tag : ℕ) (q t : ℕ → ℕ)
    → Distinct (w.slot root (t root) ∷ operands w n root q) → (x : Wires)
    → amp (c ++ collective_letters w n root (λ r. Reduce (q r) (t r) root tag)) x
    ≡ amp c (if is_odd (operands w n root q) x then toggled x (w.slot root (t root)) else x)

-- a reduce that is undone leaves C's amplitudes
abbrev pub UnreduceLaw : Type 0
UnreduceLaw = (c : Circuit) (w : Wiring) (n root tag end : ℕ) (q t : ℕ → ℕ)
    → Distinct (w.slot root (t root) ∷ operands w n root q) → (x : Wires)
    → amp ((c ++ collective_letters w n root (λ r. Reduce (q r) (t r) root tag))
    ++ collective_letters w n root (λ r. Unreduce (q r) (t r) root end)) x
    ≡ amp c x

-- what a scatter renames: the qubit in slot q + d of the root to the wire that rank d gets
abbrev pub dealt_wires : Wiring → ℕ → ℕ → ℕ → List (Wire × Wire)
dealt_wires w n root q = map (λ d. (w.slot root (q + d), w.sent root d)) (others root n)

-- what a gather renames: the qubit of rank d to the wire that the root gets from it
abbrev pub gathered_wires : Wiring → ℕ → ℕ → (ℕ → ℕ) → List (Wire × Wire)
gathered_wires w n root q = map (λ d. (w.slot d (q d), w.sent d root)) (others root n)

-- after C a scatter has C's amplitude with each wire's new name replaced by its old one, and 0 where an old name is one; so has a gather
pub record ScatterLaw : Type 0 where
  pub scatter : (w : Wiring) (n root tag : ℕ) (q : ℕ → ℕ)
      → collective_letters w n root (λ r. Scatter (q r) root tag) ≡ renaming (dealt_wires w n root (q root))
  pub gather : (w : Wiring) (n root tag : ℕ) (q : ℕ → ℕ)
      → collective_letters w n root (λ r. Gather (q r) root tag) ≡ renaming (gathered_wires w n root q)
  pub unscatter : (w : Wiring) (n root tag : ℕ) (q : ℕ → ℕ)
      → collective_letters w n root (λ r. Unscatter (q r) root tag) ≡ renaming (gathered_wires w n root q)
  pub ungather : (w : Wiring) (n root tag : ℕ) (q : ℕ → ℕ)
      → collective_letters w n root (λ r. Ungather (q r) root tag) ≡ renaming (dealt_wires w n root (q root))
  pub renamed : (c : Circuit) (ps : List (Wire × Wire)) → Distinct (wires_in ps) → (x : Wires)
      → amp (c ++ renaming ps) x ≡ if has_old ps x then zero_number else amp c (with_old ps x)
