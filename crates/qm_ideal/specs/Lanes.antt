-- What the lanes hold, as the code keeps it
use Rattle.std.specs.Prelude.{List, [], Option, Some, None}
use Rattle.std.specs.BTreeMap.{get}
use Rattle.std.specs.declared.alloc.Global.{Global}
use Rattle.std.specs.declared.collections.VecDeque.{VecDeque}
use Rattle.qm_instr.specs.declared.Lane.{Lane}
use Rattle.qm_instr.specs.Lanes.{code_order}
use Rattle.qm_ideal.specs.declared.lanes.Lanes as code

-- the elements of a queue, where there is one
abbrev pub items_in : {T : Type 0} → Option (VecDeque T Global) → List T
items_in None = []
items_in (Some q) = q.items

-- what a lane holds, the front first
abbrev pub lanes_of : {T : Type 0} → code.Lanes T → Lane → List T
lanes_of m a = items_in (get code_order m.queues a)
