-- What the ends over std stand on, and what they tell.
use Rattle.std.specs.Prelude.{None}
use Rattle.qm_io.specs.declared.std_source.StdSource.{StdSource}
use Rattle.qm_io.specs.declared.std_sink.StdSink.{StdSink}
use Rattle.qm_io.specs.Ends.{SinkView, SourceView}

-- the reader under a source
abbrev pub reader_of : {R : Type 0} → StdSource R → R
reader_of s = s.reader

-- no bytes, and the faults
abbrev pub source_view : {R : Type 0} → StdSource R → SourceView
source_view s = record { left = None; faults = s.faults }

-- the writer under a sink
abbrev pub writer_of : {W : Type 0} → StdSink W → W
writer_of s = s.writer

-- no bytes, and the faults
abbrev pub sink_view : {W : Type 0} → StdSink W → SinkView
sink_view s = record { taken = None; faults = s.faults }
