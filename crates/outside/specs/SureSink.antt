-- What a `SureSink` shows.
use Rattle.std.specs.Prelude.{ℕ, List, length, ◌-◌, Option, Some, None, true, false}
use Rattle.outside.specs.declared.sure_sink.SureSink.{SureSink}
use Rattle.outside.specs.State.{SinkState}

-- the bytes that it holds
abbrev pub surely_taken : SureSink → List ℕ
surely_taken sink = sink.bytes.items

-- the same, until a piece did not fit
abbrev pub told_by : SureSink → Option (List ℕ)
told_by sink = elim sink.over [ true ↦ None | false ↦ Some (sink.bytes.items) ]

-- how many it takes in all
abbrev pub sure_room : SureSink → ℕ
sure_room sink = sink.room

-- its bytes, while it tells them, what is left of its room, and no fault ever
abbrev pub sure_sink_state : SureSink → SinkState
sure_sink_state sink = record {
  taken = told_by sink;
  spare = sure_room sink - length (surely_taken sink);
  faults = 0;
}
