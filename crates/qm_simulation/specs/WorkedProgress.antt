-- What schedules have begun, have still to correct, and have settled after each event, worked out by hand
use Rattle.std.specs.Prelude.{◌≡◌, ℕ, true, false, List, [], ◌∷◌}
use Rattle.qm_denot.specs.declared.Letter.{Letter}
use Rattle.qm_denot.specs.declared.Letter.TheVariants.{Phase, Flip, Had, Cx, Pair, Take}
use Rattle.qm_denot.specs.Tags.{Tagged}
use Rattle.qm_instr.specs.Programs.{Programs}
use Rattle.qm_proto.specs.Model.Schedules.{state_at_start, IsLegal}
use Rattle.qm_proto.specs.WorkedMessages.{q, e, f, t}
use Rattle.qm_proto.specs.WorkedPrograms.{copy_programs, uncopy_programs, move_programs, reach_programs, crossed_by}
use Rattle.qm_proto.specs.WorkedRun.{e_back, f_back}
use Rattle.qm_simulation.specs.Following.Debts.{Message, ByPair, BackTo}
use Rattle.qm_simulation.specs.Following.Deciding.{ideal_of}
use Rattle.qm_simulation.specs.Following.Simulation.{Progress, progress_next}

-- the letters begun, the corrections due, and the outcomes settled
abbrev pub Shown : Type 0
Shown = Tagged Message × Tagged Message × ℕ

-- what is shown after each event of a schedule, from this progress on
abbrev pub shown_from : Programs → Progress → List ℕ → List Shown
shown_from p x [] = []
shown_from p x (r ∷ rs) = let y = progress_next p x r in (y.begun, y.pending, y.settled) ∷ shown_from p y rs

-- after each event of a schedule
abbrev pub shown_after : Programs → List ℕ → List Shown
shown_after p schedule = shown_from p (record { state = state_at_start p; begun = []; pending = []; settled = 0 }) schedule

-- letters of the message of the first pair of rank 0, and of an undo to rank 0
abbrev of_pair : List Letter → Tagged Message
of_pair [] = []
of_pair (l ∷ ls) = (ByPair 0 1, l) ∷ of_pair ls

abbrev of_undo : List Letter → Tagged Message
of_undo [] = []
of_undo (l ∷ ls) = (BackTo 0, l) ∷ of_undo ls

-- nothing begun and nothing due, with so many outcomes settled
abbrev only_settled : ℕ → Shown
only_settled n = ([], [], n)

-- letters begun, and letters due, of the first pair's message, with so many outcomes settled
abbrev only_begun : List Letter → ℕ → Shown
only_begun ls n = (of_pair ls, [], n)

abbrev only_due : List Letter → ℕ → Shown
only_due ls n = ([], of_pair ls, n)

-- letters of the first pair's message of rank 0, and of that of rank 1
abbrev of_rank_0 : Letter → Message × Letter
of_rank_0 l = (ByPair 0 1, l)

abbrev of_rank_1 : Letter → Message × Letter
of_rank_1 l = (ByPair 1 1, l)

-- two copies that cross, with both outcomes one
abbrev pub crossed_ones : Programs
crossed_ones = crossed_by true true 3 2

-- both pairs are prepared, and rank 1, whose pair is the second, posts first
abbrev pub crossing : List ℕ
crossing = 0 ∷ 1 ∷ 0 ∷ 1 ∷ 0 ∷ 1 ∷ 1 ∷ 0 ∷ 0 ∷ 0 ∷ 1 ∷ 1 ∷ []

-- what a copy, a move, an undo and a reach show after each of their events
pub record WorkedProgress : Type 0 where
  -- a copy: made after two events of its rank alone, posted, delivered, and corrected where the outcome is one
  pub copy_by_one : shown_after (copy_programs true) (0 ∷ 0 ∷ 0 ∷ 0 ∷ 0 ∷ 1 ∷ 1 ∷ [])
      ≡ only_settled 0 ∷ only_settled 0 ∷ only_begun (Pair e f ∷ []) 0 ∷ only_begun (Pair e f ∷ Cx q e ∷ []) 0
      ∷ only_due (Flip f ∷ []) 1 ∷ only_due (Flip f ∷ []) 1 ∷ only_settled 1 ∷ []
  pub copy_by_zero : shown_after (copy_programs false) (0 ∷ 0 ∷ 0 ∷ 0 ∷ 0 ∷ 1 ∷ 1 ∷ [])
      ≡ only_settled 0 ∷ only_settled 0 ∷ only_begun (Pair e f ∷ []) 0 ∷ only_begun (Pair e f ∷ Cx q e ∷ []) 0
      ∷ only_settled 1 ∷ only_settled 1 ∷ only_settled 1 ∷ []
  -- a move: the outcome on the near half is flipped, the one on the qubit is a change of sign
  pub move_by_one_zero : shown_after (move_programs true false) (0 ∷ 0 ∷ 0 ∷ 0 ∷ 0 ∷ 0 ∷ 1 ∷ 1 ∷ 1 ∷ [])
      ≡ only_settled 0 ∷ only_begun (Pair e f ∷ []) 0 ∷ only_begun (Pair e f ∷ Cx q e ∷ []) 0
      ∷ only_begun (Pair e f ∷ Cx q e ∷ Had q ∷ []) 0
      ∷ only_begun (Pair e f ∷ Cx q e ∷ Had q ∷ Take e true ∷ []) 0
      ∷ only_due (Flip f ∷ []) 2 ∷ only_due (Flip f ∷ []) 2 ∷ only_settled 2 ∷ only_settled 2 ∷ []
  pub move_by_zero_one : shown_after (move_programs false true) (0 ∷ 0 ∷ 0 ∷ 0 ∷ 0 ∷ 0 ∷ 1 ∷ 1 ∷ 1 ∷ [])
      ≡ only_settled 0 ∷ only_begun (Pair e f ∷ []) 0 ∷ only_begun (Pair e f ∷ Cx q e ∷ []) 0
      ∷ only_begun (Pair e f ∷ Cx q e ∷ Had q ∷ []) 0
      ∷ only_begun (Pair e f ∷ Cx q e ∷ Had q ∷ Take e false ∷ []) 0
      ∷ only_due (Phase 4 f ∷ []) 2 ∷ only_due (Phase 4 f ∷ []) 2 ∷ only_due (Phase 4 f ∷ []) 2 ∷ only_settled 2 ∷ []
  -- with both, the flip is done first and stands last
  pub move_by_ones : shown_after (move_programs true true) (0 ∷ 0 ∷ 0 ∷ 0 ∷ 0 ∷ 0 ∷ 1 ∷ 1 ∷ 1 ∷ [])
      ≡ only_settled 0 ∷ only_begun (Pair e f ∷ []) 0 ∷ only_begun (Pair e f ∷ Cx q e ∷ []) 0
      ∷ only_begun (Pair e f ∷ Cx q e ∷ Had q ∷ []) 0
      ∷ only_begun (Pair e f ∷ Cx q e ∷ Had q ∷ Take e true ∷ []) 0
      ∷ only_due (Phase 4 f ∷ Flip f ∷ []) 2 ∷ only_due (Phase 4 f ∷ Flip f ∷ []) 2 ∷ only_due (Phase 4 f ∷ []) 2
      ∷ only_settled 2 ∷ []
  -- an undo after a copy that was corrected: begun by its test, and due at the source
  pub undo_by_one : shown_after (uncopy_programs false true) (0 ∷ 0 ∷ 0 ∷ 0 ∷ 1 ∷ 1 ∷ 1 ∷ 1 ∷ 0 ∷ 0 ∷ [])
      ≡ only_settled 0 ∷ only_begun (Pair e f ∷ []) 0 ∷ only_begun (Pair e f ∷ Cx q e ∷ []) 0 ∷ only_settled 1
      ∷ only_settled 1 ∷ only_settled 1
      ∷ (of_undo (Had f ∷ []), [], 1) ∷ ([], of_undo (Phase 4 q ∷ []), 2) ∷ ([], of_undo (Phase 4 q ∷ []), 2) ∷ only_settled 2 ∷ []
  pub undo_by_zero : shown_after (uncopy_programs true false) (0 ∷ 0 ∷ 0 ∷ 0 ∷ 1 ∷ 1 ∷ 1 ∷ 1 ∷ 0 ∷ 0 ∷ [])
      ≡ only_settled 0 ∷ only_begun (Pair e f ∷ []) 0 ∷ only_begun (Pair e f ∷ Cx q e ∷ []) 0 ∷ only_due (Flip f ∷ []) 1
      ∷ only_due (Flip f ∷ []) 1 ∷ only_settled 1
      ∷ (of_undo (Had f ∷ []), [], 1) ∷ only_settled 2 ∷ only_settled 2 ∷ only_settled 2 ∷ []
  -- a reach is begun up to its second Post, which settles both outcomes
  pub reach_by_one_zero : shown_after (reach_programs true false) (0 ∷ 1 ∷ 0 ∷ 0 ∷ 0 ∷ 1 ∷ 1 ∷ 1 ∷ 1 ∷ 1 ∷ 0 ∷ 0 ∷ [])
      ≡ only_settled 0 ∷ only_settled 0 ∷ only_begun (Pair e f ∷ []) 0 ∷ only_begun (Pair e f ∷ Cx q e ∷ []) 0
      ∷ only_begun (Pair e f ∷ Cx q e ∷ Take e true ∷ []) 0 ∷ only_begun (Pair e f ∷ Cx q e ∷ Take e true ∷ []) 0
      ∷ only_begun (Pair e f ∷ Cx q e ∷ Take e true ∷ Flip f ∷ []) 0
      ∷ only_begun (Pair e f ∷ Cx q e ∷ Take e true ∷ Flip f ∷ Cx f t ∷ []) 0
      ∷ only_begun (Pair e f ∷ Cx q e ∷ Take e true ∷ Flip f ∷ Cx f t ∷ Had f ∷ []) 0
      ∷ only_settled 2 ∷ only_settled 2 ∷ only_settled 2 ∷ []
  pub reach_by_zero_one : shown_after (reach_programs false true) (0 ∷ 1 ∷ 0 ∷ 0 ∷ 0 ∷ 1 ∷ 1 ∷ 1 ∷ 1 ∷ 1 ∷ 0 ∷ 0 ∷ [])
      ≡ only_settled 0 ∷ only_settled 0 ∷ only_begun (Pair e f ∷ []) 0 ∷ only_begun (Pair e f ∷ Cx q e ∷ []) 0
      ∷ only_begun (Pair e f ∷ Cx q e ∷ Take e false ∷ []) 0 ∷ only_begun (Pair e f ∷ Cx q e ∷ Take e false ∷ []) 0
      ∷ only_begun (Pair e f ∷ Cx q e ∷ Take e false ∷ []) 0 ∷ only_begun (Pair e f ∷ Cx q e ∷ Take e false ∷ Cx f t ∷ []) 0
      ∷ only_begun (Pair e f ∷ Cx q e ∷ Take e false ∷ Cx f t ∷ Had f ∷ []) 0
      ∷ only_due (Phase 4 q ∷ []) 2 ∷ only_due (Phase 4 q ∷ []) 2 ∷ only_settled 2 ∷ []
  -- of two messages the letters begun stand in the order of the schedule, and the corrections in that of the deciding Posts
  pub crossing_is_legal : IsLegal crossed_ones crossing
  pub crossed : shown_after crossed_ones crossing
      ≡ only_settled 0 ∷ only_settled 0 ∷ only_begun (Pair e f ∷ []) 0
      ∷ (of_rank_0 (Pair e f) ∷ of_rank_1 (Pair e_back f_back) ∷ [], [], 0)
      ∷ (of_rank_0 (Pair e f) ∷ of_rank_1 (Pair e_back f_back) ∷ of_rank_0 (Cx q e) ∷ [], [], 0)
      ∷ (of_rank_0 (Pair e f) ∷ of_rank_1 (Pair e_back f_back) ∷ of_rank_0 (Cx q e) ∷ of_rank_1 (Cx t e_back) ∷ [], [], 0)
      ∷ (of_rank_0 (Pair e f) ∷ of_rank_0 (Cx q e) ∷ [], of_rank_1 (Flip f_back) ∷ [], 1)
      ∷ ([], of_rank_1 (Flip f_back) ∷ of_rank_0 (Flip f) ∷ [], 2) ∷ ([], of_rank_1 (Flip f_back) ∷ of_rank_0 (Flip f) ∷ [], 2)
      ∷ only_due (Flip f ∷ []) 2 ∷ only_due (Flip f ∷ []) 2 ∷ only_settled 2 ∷ []
  -- the ranks of the deciding events: the Post of a copy, a move and an undo, and of a reach's receiver before the Deliver of its sender
  pub copy_ideal : ideal_of (copy_programs true) (0 ∷ 0 ∷ 0 ∷ 0 ∷ 0 ∷ 1 ∷ 1 ∷ []) ≡ 0 ∷ 0 ∷ 0 ∷ 1 ∷ []
  pub copy_not_yet : ideal_of (copy_programs true) (0 ∷ 0 ∷ 0 ∷ 0 ∷ []) ≡ 0 ∷ 0 ∷ []
  pub move_ideal : ideal_of (move_programs true false) (0 ∷ 0 ∷ 0 ∷ 0 ∷ 0 ∷ 0 ∷ 1 ∷ []) ≡ 0 ∷ 0 ∷ 1 ∷ []
  pub move_not_yet : ideal_of (move_programs true false) (0 ∷ 0 ∷ 0 ∷ 0 ∷ 0 ∷ []) ≡ 0 ∷ []
  pub undo_ideal : ideal_of (uncopy_programs true false) (0 ∷ 0 ∷ 0 ∷ 0 ∷ 1 ∷ 1 ∷ 1 ∷ 1 ∷ 0 ∷ []) ≡ 0 ∷ 0 ∷ 1 ∷ 1 ∷ 0 ∷ []
  pub undo_not_yet : ideal_of (uncopy_programs true false) (0 ∷ 0 ∷ 0 ∷ 0 ∷ 1 ∷ 1 ∷ 1 ∷ []) ≡ 0 ∷ 0 ∷ 1 ∷ []
  pub reach_ideal : ideal_of (reach_programs true false) (0 ∷ 1 ∷ 0 ∷ 0 ∷ 0 ∷ 1 ∷ 1 ∷ 1 ∷ 1 ∷ 1 ∷ 0 ∷ []) ≡ 0 ∷ 1 ∷ 1 ∷ 0 ∷ []
  pub reach_not_yet : ideal_of (reach_programs true false) (0 ∷ 1 ∷ 0 ∷ 0 ∷ 0 ∷ 1 ∷ 1 ∷ 1 ∷ 1 ∷ []) ≡ 0 ∷ 1 ∷ []
