-- The buffers have room for the halves of each line, and count those that it ends
use Rattle.std.proofs.Common.{◌≡◌, ◌≢◌, ℕ, ◌+◌, ◌<◌, ◌≤◌, Bool, true, false, List, slice_get, Some, ap, arith}
use Rattle.std.specs.List.{AllByRecursion}
use Rattle.qm_denot.specs.declared.Letter.{Letter}
use Rattle.qm_denot.specs.declared.Wire.{Wire}
use Rattle.qm_denot.specs.Wires.{has}
use Rattle.qm_denot.proofs.Sets.{how_many-less}
use Rattle.qm_instr.specs.declared.Instr.{Instr}
use Rattle.qm_instr.specs.declared.Instr.TheVariants as instr
use Rattle.qm_instr.specs.Programs.{Programs}
use Rattle.qm_proto.specs.declared.Row.{Row}
use Rattle.qm_proto.specs.Model.Acts.{list_of, after_acts, more_at}
use Rattle.qm_proto.specs.May.{Limits, AllMay}
use Rattle.qm_proto.specs.Model.Rows.{rows, letter, few_if}
use Rattle.qm_proto.specs.Model.State.{Tables, bit_of, first_bit, second_bit}
use Rattle.qm_proto.proofs.Changes.{by_rank, with_at-here}
use Rattle.qm_safety.specs.Tables.Well.{AreCounted}
use Rattle.qm_machine.specs.Facts.{size_at, AllMayCount}
use Rattle.qm_machine.proofs.RowsRead.{each_line}

-- one more is no less
grown : (f : ℕ → ℕ) (r k : ℕ) → f k ≤ more_at f r k
grown f r k = by_rank (λ n. f k ≤ n) f r (f r + 1) k (λ e. omega (arith, ap f e)) (λ _. omega arith)

module _ (p : Programs) (t : Tables) (r n : ℕ) (s : Limits) (sizes : List ℕ) (counted : (k : ℕ) → AreCounted t k) (known : r < n) (ranks : s.ranks ≡ n) where
  -- a half that a rank has is counted
  near_held : (w : Wire) → has (t.near r) w ≡ true → t.held r ≢ 0
  near_held w h none = omega (arith, none, counted r, how_many-less (t.near r) w h)

  far_held : (w : Wire) → has (t.far r) w ≡ true → t.held r ≢ 0
  far_held w h none = omega (arith, none, counted r, how_many-less (t.far r) w h)

  -- no buffer of these counts is too full
  abbrev Fit : (ℕ → ℕ) → Type 0
  Fit held = (k : ℕ) → k < n → held k ≤ size_at sizes k

  -- so both halves of a pair that was made found room
  pair_room : (to : ℕ) → to < s.ranks → Fit (more_at (more_at t.held r) to) → (t.held r < size_at sizes r) × (more_at t.held r to < size_at sizes to)
  pair_room to below fit = (
    omega (arith, fit r known, grown (more_at t.held r) to r, with_at-here t.held r (t.held r + 1)),
    omega (arith, fit to (omega (arith, below, ranks)), with_at-here (more_at t.held r) to (more_at t.held r to + 1)),
  )

  -- rank r may do the acts, and no buffer is too full after them
  abbrev IsCountable : Row → Type 0
  IsCountable w = AllMay s r (list_of w.acts) t → Fit (after_acts r (list_of w.acts) t).held → AllMayCount sizes r (list_of w.acts) t

  if_counted : (b : Bool) (l : Letter) → AllMayCount sizes r (list_of (few_if b (letter l))) t
  if_counted true l = (tt, tt)
  if_counted false l = tt

  rows_counted : (i : Instr) → AllByRecursion IsCountable (rows p t r i)
  rows_counted (instr.Alloc q) = (λ may fit. (tt, tt), tt)
  rows_counted (instr.Do g) = (λ may fit. (tt, tt), tt)
  rows_counted (instr.Free q) = (λ may fit. (tt, tt), tt)
  rows_counted (instr.Measure q b) = (λ may fit. (tt, (tt, (tt, tt))), tt)
  rows_counted (instr.Set b v) = (λ may fit. (tt, tt), tt)
  rows_counted (instr.Xor b c) = (λ may fit. (tt, tt), tt)
  rows_counted (instr.When b g) = (λ may fit. if_counted (bit_of t r b) _, tt)
  rows_counted (instr.SendBit b to tag) = (λ may fit. (tt, tt), tt)
  rows_counted (instr.RecvBit b from tag) = (λ may fit. (tt, (tt, tt)), tt)
  rows_counted (instr.CopyTo q to tag) = (
    λ may fit. (pair_room to may.0.known fit, (tt, tt)),
    (λ may fit. (tt, tt), (λ may fit. (tt, (near_held _ may.1.0.only.here, (tt, tt))), tt)),
  )
  rows_counted (instr.CopyFrom q from tag) = (λ may fit. (tt, (far_held _ may.1.0.only.here, tt)), (λ may fit. if_counted (first_bit (t.parts r).taken) _, tt))
  rows_counted (instr.UndoTo q to tag) = (λ may fit. (tt, tt), (λ may fit. (tt, (tt, (tt, tt))), tt))
  rows_counted (instr.UndoFrom q from tag) = (λ may fit. (tt, tt), (λ may fit. if_counted (first_bit (t.parts r).taken) _, tt))
  rows_counted (instr.MoveTo q to tag) = (
    λ may fit. (pair_room to may.0.known fit, (tt, tt)),
    (
      λ may fit. (tt, tt),
      (λ may fit. (tt, tt), (λ may fit. (tt, (near_held _ may.1.0.only.here, (tt, tt))), (λ may fit. (tt, (tt, (tt, tt))), tt))),
    ),
  )
  rows_counted (instr.MoveFrom q from tag) =
      let x = (t.parts r).taken in (
        λ may fit. (tt, (far_held _ may.1.0.only.here, tt)),
        (λ may fit. if_counted (first_bit x) _, (λ may fit. if_counted (second_bit x) _, tt)),
      )
  rows_counted (instr.ReachTo q to tag) = (
    λ may fit. (pair_room to may.0.known fit, (tt, tt)),
    (
      λ may fit. (tt, tt),
      (
        λ may fit. (tt, (near_held _ may.1.0.only.here, (tt, tt))),
        (λ may fit. (tt, tt), (λ may fit. if_counted (first_bit (t.parts r).taken) _, tt)),
      ),
    ),
  )
  rows_counted (instr.ReachFrom q from tag) = (
    λ may fit. (tt, tt),
    (
      λ may fit. if_counted (first_bit (t.parts r).taken) _,
      (λ may fit. (tt, tt), (λ may fit. (tt, tt), (λ may fit. (tt, (far_held _ may.1.0.only.here, (tt, tt))), tt))),
    ),
  )

  -- each line that is next
  pub line_counted : (i : Instr) (k : ℕ) (w : Row) → slice_get (rows p t r i) k ≡ Some w → IsCountable w
  line_counted i k w is = each_line IsCountable p t r i k w (rows_counted i) is
