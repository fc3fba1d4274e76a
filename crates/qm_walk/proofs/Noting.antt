-- The lines of the table say what their instructions tell
use Rattle.std.proofs.Common.{◌≡◌, ℕ, zero, suc, Bool, true, false, List, [], ◌∷◌, Some, None, slice_get, refl, ap, ◌∙◌, map}
use Rattle.qm_denot.specs.declared.Letter.{Letter}
use Rattle.qm_denot.specs.declared.Letter.TheVariants.{Flip, Phase}
use Rattle.qm_instr.specs.declared.Instr.{Instr}
use Rattle.qm_instr.specs.declared.Instr.TheVariants as instr
use Rattle.qm_instr.specs.Programs.{Programs}
use Rattle.qm_proto.specs.declared.Event.{Event}
use Rattle.qm_proto.specs.declared.Event.TheVariants as event
use Rattle.qm_proto.specs.declared.Few.TheVariants.{Empty}
use Rattle.qm_proto.specs.declared.Row.{Row}
use Rattle.qm_proto.specs.declared.Rule.TheVariants.{Always}
use Rattle.qm_proto.specs.Events.{events_in}
use Rattle.qm_proto.specs.Model.State.{Tables, wire_in, bit_of, wire_of, first_bit, second_bit}
use Rattle.qm_proto.specs.Model.Rows.{row, rows, few_if, letter, gate_letter}
use Rattle.qm_proto.specs.Model.Runs.{row_in}
use Rattle.qm_walk.specs.Notes.{note_of, noted}
use Rattle.qm_walk.specs.Says.{note_at, note_from, NotesAgree}

-- a letter that is done where a bit is one puts, takes and gives nothing
plain : (r : ℕ) (e : Event) (b : Bool) (l : Letter)
    → note_of r (row e Always Empty (few_if b (letter l))) ≡ record { rank = r; event = e; partner = None; put = None; given = None; taken = None }
plain r e true l = refl
plain r e false l = refl

pub notes_agree : NotesAgree
notes_agree p t r (instr.Alloc q) = refl
notes_agree p t r (instr.Free q) = refl
notes_agree p t r (instr.Do g) = refl
notes_agree p t r (instr.Measure q b) = refl
notes_agree p t r (instr.Set b v) = refl
notes_agree p t r (instr.Xor b c) = refl
notes_agree p t r (instr.When b g) = ap (λ n. n ∷ []) (plain r event.When (bit_of t r b) (gate_letter (wire_in t r) g))
notes_agree p t r (instr.SendBit b to tag) = refl
notes_agree p t r (instr.RecvBit b from tag) = refl
notes_agree p t r (instr.CopyTo q to tag) = refl
notes_agree p t r (instr.CopyFrom q from tag) =
    let x = (t.parts r).taken in
    ap (λ n. note_at r (instr.CopyFrom q from tag) event.Deliver ∷ n ∷ []) (plain r event.FixX (first_bit x) (Flip (wire_of x)))
notes_agree p t r (instr.UndoTo q to tag) = refl
notes_agree p t r (instr.UndoFrom q from tag) =
    let x = (t.parts r).taken in
    ap (λ n. note_at r (instr.UndoFrom q from tag) event.Deliver ∷ n ∷ []) (plain r event.FixZ (first_bit x) (Phase 4 (wire_in t r q)))
notes_agree p t r (instr.MoveTo q to tag) = refl
notes_agree p t r (instr.MoveFrom q from tag) =
    let x = (t.parts r).taken in
    let i = instr.MoveFrom q from tag in
    let last = note_of r (row event.FixZ Always Empty (few_if (second_bit x) (letter (Phase 4 (wire_of x))))) in
    ap (λ n. note_at r i event.Deliver ∷ n ∷ last ∷ []) (plain r event.FixX (first_bit x) (Flip (wire_of x)))
    ∙ ap (λ n. note_at r i event.Deliver ∷ note_at r i event.FixX ∷ n ∷ []) (plain r event.FixZ (second_bit x) (Phase 4 (wire_of x)))
notes_agree p t r (instr.ReachTo q to tag) =
    let i = instr.ReachTo q to tag in
    ap (λ n. note_at r i event.Pair ∷ note_at r i event.Cross ∷ note_at r i event.Post ∷ note_at r i event.Deliver ∷ n ∷ [])
    (plain r event.FixZ (first_bit (t.parts r).taken) (Phase 4 (wire_in t r q)))
notes_agree p t r (instr.ReachFrom q from tag) =
    let i = instr.ReachFrom q from tag in
    let x = (t.parts r).taken in
    ap (λ n. note_at r i event.Deliver ∷ n ∷ note_at r i event.Cross ∷ note_at r i event.Had ∷ note_at r i event.Post ∷ [])
    (plain r event.FixX (first_bit x) (Flip (wire_of x)))

get_noted : (r : ℕ) (ws : List Row) (k : ℕ) → noted r (slice_get ws k) ≡ slice_get (map (note_of r) ws) k
get_noted r [] k = refl
get_noted r (w ∷ ws) zero = refl
get_noted r (w ∷ ws) (suc k) = get_noted r ws k

get_from : (r : ℕ) (i : Instr) (es : List Event) (k : ℕ) → slice_get (map (note_at r i) es) k ≡ note_from r i (slice_get es k)
get_from r i [] k = refl
get_from r i (e ∷ es) zero = refl
get_from r i (e ∷ es) (suc k) = get_from r i es k

-- the line at which a rank stands at instruction i says what the instruction alone tells of that stage, whatever the tables hold
pub line_noted : (p : Programs) (t : Tables) (r : ℕ) (i : Instr)
    → noted r (row_in p t r (Some i)) ≡ note_from r i (slice_get (events_in i) (t.parts r).stage)
line_noted p t r i =
    get_noted r (rows p t r i) (t.parts r).stage ∙ ap (λ l. slice_get l (t.parts r).stage) (notes_agree p t r i)
    ∙ get_from r i (events_in i) (t.parts r).stage
