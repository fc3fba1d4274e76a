-- The rendezvous run as the code keeps it
use Rattle.std.specs.Prelude.{ℕ, Option, Some, None, map, option_to_list, slice_get}
use Rattle.qm_ideal.specs.declared.shapes.EventShape as code_shape
use Rattle.qm_ideal.specs.declared.shapes.Move as code_move
use Rattle.qm_ideal.specs.declared.shapes.Move.TheVariants as variant
use Rattle.qm_ideal.specs.declared.meeting.Meeting.{Meeting}
use Rattle.qm_ideal.specs.declared.meeting.Position.{Position}
use Rattle.qm_ideal.specs.Lanes.{lanes_of}
use Rattle.qm_confluence.specs.Stuck.Shapes.{Move, Puts, Tells, Gets, Shape, shape}
use Rattle.qm_ideal.specs.Meetings.{Stand}

-- what an event does to a lane
abbrev pub move_meant : code_move.Move → Move
move_meant (variant.Puts a b) = Puts a b
move_meant (variant.Tells a) = Tells a
move_meant (variant.Gets a) = Gets a

-- what the code keeps of an event, as its shape
abbrev pub shape_meant : code_shape.EventShape → Shape
shape_meant x = shape x.rule (map move_meant (option_to_list x.act))

-- the same, where there is an event
abbrev pub maybe_shape : Option code_shape.EventShape → Option Shape
maybe_shape None = None
maybe_shape (Some x) = Some (shape_meant x)

-- a rank before its first event
abbrev pub position_at_start : Position
position_at_start = record { at = 0; stage = 0 }

-- where a rank stands; one that there isn't stands at its start
abbrev pub at_in : Option Position → ℕ
at_in None = 0
at_in (Some x) = x.at

abbrev pub stage_in : Option Position → ℕ
stage_in None = 0
stage_in (Some x) = x.stage

-- where all ranks stand, and what is on the lanes
abbrev pub stand_in : Meeting → Stand
stand_in m =
    record {
      at = λ r. at_in (slice_get m.positions.items r);
      stage = λ r. stage_in (slice_get m.positions.items r);
      lanes = lanes_of m.lanes;
    }
