use Rattle.std.proofs.Common.{◌≡◌, ℕ, Option, slice_get, ap, subst}
use Rattle.qm_instr.specs.declared.Instr.{Instr}
use Rattle.qm_instr.specs.declared.Instr.TheVariants.{CopyTo, CopyFrom, UndoTo, UndoFrom, MoveTo, MoveFrom, ReachTo, ReachFrom}
use Rattle.qm_instr.specs.Programs.{Programs}
use Rattle.qm_check.specs.Operands.{partner_of}
use Rattle.qm_proto.specs.declared.Row.{Row}
use Rattle.qm_proto.specs.Model.Rows.{rows}
use Rattle.qm_proto.specs.Model.State.{Tables}
use Rattle.qm_machine.specs.declared.messages.Message.{Message}
use Rattle.qm_machine.specs.Views.{tables}
use Rattle.qm_machine.proofs.rows.row_at.Goals as goal

-- a line of one message is that line of the same message
line_of : (o : Option Row) (p : Programs) (t : Tables) (i : ℕ → ℕ → ℕ → Instr) (stage : ℕ) (m n : Message) → m ≡ n
    → o ≡ slice_get (rows p t m.rank (i m.q m.other m.tag)) stage → o ≡ slice_get (rows p t n.rank (i n.q n.other n.tag)) stage
line_of o p t i stage m n e = subst (λ (x : Message). o ≡ slice_get (rows p t x.rank (i x.q x.other x.tag)) stage) e

pub undo_to-requires-clause-partner : goal.undo_to-requires-clause-partner
undo_to-requires-clause-partner c =
    rw (ap (λ (m : Message). m.other) c.of-in-UndoTo.ensures) (c.requires.partner c.in-UndoTo.to (ap partner_of c.in-UndoTo.is))

pub returns-in-CopyTo : goal.returns-in-CopyTo
returns-in-CopyTo c =
    let p = c.args.input.now in
    rw c.in-CopyTo.is (line_of _ p (tables c.args.books.now) CopyTo c.args.stage _ _ c.of.ensures (c.copy_to.ensures p))

pub returns-in-CopyFrom : goal.returns-in-CopyFrom
returns-in-CopyFrom c =
    let p = c.args.input.now in
    rw c.in-CopyFrom.is (line_of _ p (tables c.args.books.now) CopyFrom c.args.stage _ _ c.of-in-CopyFrom.ensures (c.copy_from.ensures p))

pub returns-in-UndoTo : goal.returns-in-UndoTo
returns-in-UndoTo c =
    let p = c.args.input.now in
    rw c.in-UndoTo.is (line_of _ p (tables c.args.books.now) UndoTo c.args.stage _ _ c.of-in-UndoTo.ensures c.undo_to.ensures)

pub returns-in-UndoFrom : goal.returns-in-UndoFrom
returns-in-UndoFrom c =
    let p = c.args.input.now in
    rw c.in-UndoFrom.is (line_of _ p (tables c.args.books.now) UndoFrom c.args.stage _ _ c.of-in-UndoFrom.ensures (c.undo_from.ensures p))

pub returns-in-MoveTo : goal.returns-in-MoveTo
returns-in-MoveTo c =
    let p = c.args.input.now in
    rw c.in-MoveTo.is (line_of _ p (tables c.args.books.now) MoveTo c.args.stage _ _ c.of-in-MoveTo.ensures (c.move_to.ensures p))

pub returns-in-MoveFrom : goal.returns-in-MoveFrom
returns-in-MoveFrom c =
    let p = c.args.input.now in
    rw c.in-MoveFrom.is (line_of _ p (tables c.args.books.now) MoveFrom c.args.stage _ _ c.of-in-MoveFrom.ensures (c.move_from.ensures p))

pub returns-in-ReachTo : goal.returns-in-ReachTo
returns-in-ReachTo c =
    let p = c.args.input.now in
    rw c.in-ReachTo.is (line_of _ p (tables c.args.books.now) ReachTo c.args.stage _ _ c.of-in-ReachTo.ensures (c.reach_to.ensures p))

pub returns-in-ReachFrom : goal.returns-in-ReachFrom
returns-in-ReachFrom c =
    let p = c.args.input.now in
    rw c.in-ReachFrom.is (line_of _ p (tables c.args.books.now) ReachFrom c.args.stage _ _ c.of-in-ReachFrom.ensures (c.reach_from.ensures p))
