-- The ideal machine without own tapes: each step is told an outcome, which a measurement takes
use Rattle.std.specs.Prelude.{ℕ, Bool, List, [], ◌∷◌, ◌++◌, drop, Option, Some, None, fold}
use Rattle.qm_instr.specs.declared.Instr.{Instr}
use Rattle.qm_instr.specs.declared.Instr.TheVariants as instr
use Rattle.qm_instr.specs.Programs.{Programs}
use Rattle.qm_proto.specs.Model.State.{with_at}
use Rattle.qm_proto.specs.Model.Ideal.{IdealTables, IdealState, IdealAct, OwnUsed, ideal_current, ideal_row_of, ideal_after_act, ideal_past_instr}

-- the tables with these outcomes left on the ranks' own tapes
abbrev pub filled : (ℕ → List Bool) → IdealTables → IdealTables
filled left t = record t { parts = λ r. record (t.parts r) { own = left r } }

-- with none left
abbrev pub untaped : IdealTables → IdealTables
untaped t = filled (λ r. []) t

-- with this one outcome
abbrev pub told : IdealTables → Bool → IdealTables
told t m = filled (λ r. m ∷ []) t

-- the acts but for the use of an outcome
abbrev pub without_own : List IdealAct → List IdealAct
without_own [] = []
without_own (OwnUsed ∷ acts) = without_own acts
without_own (a ∷ acts) = a ∷ without_own acts

-- the state after an instruction of rank r, where there is one, that is told an outcome
abbrev pub told_instr : Programs → IdealState → ℕ → Bool → Option Instr → IdealState
told_instr p s r m None = s
told_instr p s r m (Some i) =
    let x = ideal_row_of p (told s.tables m) r i in
    record { tables = ideal_past_instr (fold (ideal_after_act r) s.tables (without_own x.acts)) r; circuit = s.circuit ++ x.letters }

-- the state after the step of rank r
abbrev pub told_next : Programs → IdealState → ℕ → Bool → IdealState
told_next p s r m = told_instr p s r m (ideal_current p s.tables r)

-- the outcomes that an instruction of rank r leaves on the tapes
abbrev pub left_after : (ℕ → List Bool) → ℕ → Instr → ℕ → List Bool
left_after left r (instr.Measure q b) = with_at left r (drop 1 (left r))
left_after left r _ = left
