-- What a `RealSink` shows.
use Rattle.std.specs.Prelude.{None}
use Rattle.outside.specs.declared.real_sink.RealSink.{RealSink}
use Rattle.outside.specs.State.{SinkState}

-- its count; it tells no bytes
abbrev pub real_sink_state : {P : Type 0} → RealSink P → SinkState
real_sink_state sink = record { taken = None; spare = 0; faults = sink.faults }
