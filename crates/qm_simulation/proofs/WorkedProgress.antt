-- The worked schedules compute
use Rattle.std.proofs.Common.{refl}
use Rattle.qm_instr.specs.Lanes.{is_lane}
use Rattle.qm_proto.specs.Model.Schedules.{state_at_start, IsLegal}
use Rattle.qm_proto.proofs.Meetings.{AllAllowed, legal_where_enabled}
use Rattle.qm_simulation.specs.Following.Debts.{is_message}
use Rattle.qm_simulation.specs.Following.Deciding.{ideal_of}
use Rattle.qm_simulation.specs.WorkedProgress.{crossed_ones, crossing, WorkedProgress}

-- no event of it has a test
allowed : AllAllowed crossed_ones (state_at_start crossed_ones) crossing
unfolding is_lane
allowed = (tt, (tt, (tt, (tt, (tt, (tt, (tt, (tt, (tt, (tt, (tt, (tt, tt))))))))))))

crossing_is_legal : IsLegal crossed_ones crossing
unfolding is_lane
crossing_is_legal = legal_where_enabled crossed_ones crossing refl allowed

pub worked_progress : WorkedProgress
unfolding is_lane is_message ideal_of
worked_progress = record {
  copy_by_one = refl;
  copy_by_zero = refl;
  move_by_one_zero = refl;
  move_by_zero_one = refl;
  move_by_ones = refl;
  undo_by_one = refl;
  undo_by_zero = refl;
  reach_by_one_zero = refl;
  reach_by_zero_one = refl;
  crossing_is_legal = crossing_is_legal;
  crossed = refl;
  copy_ideal = refl;
  copy_not_yet = refl;
  move_ideal = refl;
  move_not_yet = refl;
  undo_ideal = refl;
  undo_not_yet = refl;
  reach_ideal = refl;
  reach_not_yet = refl;
}
