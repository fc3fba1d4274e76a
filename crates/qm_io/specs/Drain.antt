-- What a sink that keeps nothing tells.
use Rattle.std.specs.Prelude.{None}
use Rattle.qm_io.specs.Ends.{SinkView}

-- no bytes, and no fault
abbrev pub drained : SinkView
drained = record { taken = None; faults = 0 }
