-- The laws of the quantum messages. The letters of each message stand in qm_denot's `Protocols`
use Rattle.std.specs.Prelude.{◌≢◌, Bool, false, [], ◌∷◌, ◌++◌}
use Rattle.qm_denot.specs.declared.Wire.{Wire}
use Rattle.qm_denot.specs.declared.Letter.TheVariants.{Cx, Take, Rename}
use Rattle.qm_denot.specs.Circuits.{Circuit, amp, IsBlank, IsEqualUpTo}
use Rattle.qm_denot.specs.Protocols.{copying, uncopying, moving, reaching, Agree}

-- after C a copy of q onto f by the blank pair e, f equals a controlled-not of q on f, up to 1
abbrev pub CopyLaw : Type 0
CopyLaw = (c : Circuit) (q e f : Wire) (m : Bool) → q ≢ e → q ≢ f → e ≢ f → IsBlank c e → IsBlank c f
    → IsEqualUpTo 1 (c ++ copying q e f m) (c ++ Cx q f ∷ [])

-- after C, where q and f agree, an uncopy of f equals a controlled-not of q on f and f given up as zero, up to 1
abbrev pub UncopyLaw : Type 0
UncopyLaw = (c : Circuit) (q f : Wire) (m : Bool) → q ≢ f → Agree (amp c) q f
    → IsEqualUpTo 1 (c ++ uncopying q f m) (c ++ Cx q f ∷ Take f false ∷ [])

-- after C a move of q to f by the blank pair e, f equals a renaming of q to f, up to 2
abbrev pub MoveLaw : Type 0
MoveLaw = (c : Circuit) (q e f : Wire) (m n : Bool) → q ≢ e → q ≢ f → e ≢ f → IsBlank c e → IsBlank c f
    → IsEqualUpTo 2 (c ++ moving q e f m n) (c ++ Rename q f ∷ [])

-- after C a controlled-not of q on t through the blank pair e, f equals a controlled-not of q on t, up to 2
abbrev pub ReachLaw : Type 0
ReachLaw = (c : Circuit) (q e f t : Wire) (m n : Bool) → q ≢ e → q ≢ f → e ≢ f → t ≢ q → t ≢ e → t ≢ f → IsBlank c e → IsBlank c f
    → IsEqualUpTo 2 (c ++ reaching q e f t m n) (c ++ Cx q t ∷ [])
