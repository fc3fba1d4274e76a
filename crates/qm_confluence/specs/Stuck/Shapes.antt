-- What the events of an instruction wait for, and what they do to lanes: the same at all tables
use Rattle.std.specs.Prelude.{ℕ, Bool, true, false, List, [], ◌∷◌, is_some}
use Rattle.qm_instr.specs.declared.Instr.{Instr}
use Rattle.qm_instr.specs.declared.Instr.TheVariants as instr
use Rattle.qm_instr.specs.declared.Kind.TheVariants as kind
use Rattle.qm_instr.specs.declared.Lane.{Lane}
use Rattle.qm_instr.specs.Lanes.{lane}
use Rattle.qm_proto.specs.declared.Act.{Act}
use Rattle.qm_proto.specs.declared.Act.TheVariants.{Posts, Fills, Receives}
use Rattle.qm_proto.specs.declared.Row.{Row}
use Rattle.qm_proto.specs.declared.Rule.{Rule}
use Rattle.qm_proto.specs.declared.Rule.TheVariants.{Always, PairRoom, Engaged, Filled}
use Rattle.qm_proto.specs.Model.Acts.{list_of}

-- what an act does to a lane
pub data Move : Type 0 where
  Puts : (a : Lane) (told : Bool) → Move  -- a parcel goes to its end, with or without bits
  Tells : (a : Lane) → Move  -- its last parcel gets bits
  Gets : (a : Lane) → Move  -- its front parcel is taken

-- what acts do to lanes, in their order
abbrev pub moves : List Act → List Move
moves [] = []
moves (Posts a x ∷ acts) = Puts a (is_some x.bits) ∷ moves acts
moves (Fills a b ∷ acts) = Tells a ∷ moves acts
moves (Receives a ∷ acts) = Gets a ∷ moves acts
moves (_ ∷ acts) = moves acts

-- what an event waits for, and what it does to lanes
pub record Shape : Type 0 where
  pub rule : Rule
  pub moves : List Move

-- the shape with this rule and these moves
abbrev pub shape : Rule → List Move → Shape
shape rule ms = record { rule = rule; moves = ms }

-- the shape of a line of the event table
abbrev pub shape_of : Row → Shape
shape_of w = shape w.rule (moves (list_of w.acts))

-- an event that waits for nothing and moves no parcel
abbrev pub still_shape : Shape
still_shape = shape Always []

-- the events of an instruction of rank r
abbrev pub shapes : ℕ → Instr → List Shape
shapes r (instr.SendBit b to tag) = shape Always (Puts (lane r to kind.Bit tag) true ∷ []) ∷ []
shapes r (instr.RecvBit b from tag) = let a = lane from r kind.Bit tag in shape (Filled a) (Gets a ∷ []) ∷ []
shapes r (instr.CopyTo q to tag) =
    let a = lane r to kind.Copy tag in shape (PairRoom a) (Puts a false ∷ []) ∷ still_shape ∷ shape Always (Tells a ∷ []) ∷ []
shapes r (instr.CopyFrom q from tag) = let a = lane from r kind.Copy tag in shape (Filled a) (Gets a ∷ []) ∷ still_shape ∷ []
shapes r (instr.UndoTo q to tag) = let a = lane r to kind.Undo tag in shape (Engaged a) [] ∷ shape Always (Puts a true ∷ []) ∷ []
shapes r (instr.UndoFrom q from tag) = let a = lane from r kind.Undo tag in shape (Filled a) (Gets a ∷ []) ∷ still_shape ∷ []
shapes r (instr.MoveTo q to tag) =
    let a = lane r to kind.Move tag in
    shape (PairRoom a) (Puts a false ∷ []) ∷ still_shape ∷ still_shape ∷ still_shape ∷ shape Always (Tells a ∷ []) ∷ []
shapes r (instr.MoveFrom q from tag) = let a = lane from r kind.Move tag in shape (Filled a) (Gets a ∷ []) ∷ still_shape ∷ still_shape ∷ []
shapes r (instr.ReachTo q to tag) =
    let a = lane r to kind.Reach tag in
    let back = lane to r kind.Back tag in
    shape (PairRoom a) (Puts a false ∷ []) ∷ still_shape ∷ shape Always (Tells a ∷ [])
    ∷ shape (Filled back) (Gets back ∷ []) ∷ still_shape ∷ []
shapes r (instr.ReachFrom q from tag) =
    let a = lane from r kind.Reach tag in
    let back = lane r from kind.Back tag in
    shape (Filled a) (Gets a ∷ []) ∷ still_shape ∷ still_shape ∷ still_shape ∷ shape Always (Puts back true ∷ []) ∷ []
shapes r (instr.Alloc q) = still_shape ∷ []
shapes r (instr.Free q) = still_shape ∷ []
shapes r (instr.Do g) = still_shape ∷ []
shapes r (instr.Measure q b) = still_shape ∷ []
shapes r (instr.Set b v) = still_shape ∷ []
shapes r (instr.Xor b c) = still_shape ∷ []
shapes r (instr.When b g) = still_shape ∷ []
