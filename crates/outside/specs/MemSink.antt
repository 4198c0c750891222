-- What a `MemSink` shows.
use Rattle.std.specs.Prelude.{ℕ, List, length, ◌-◌, Some}
use Rattle.outside.specs.declared.mem_sink.MemSink.{MemSink}
use Rattle.outside.specs.Failing.{listed_in, next_in}
use Rattle.outside.specs.State.{SinkState}

-- the bytes that it took
abbrev pub taken_by : MemSink → List ℕ
taken_by sink = sink.bytes.items

-- how many it takes in all
abbrev pub room_of : MemSink → ℕ
room_of sink = sink.room

-- its bytes, which it tells, what is left of its room, and its count
abbrev pub mem_sink_state : MemSink → SinkState
mem_sink_state sink = record {
  taken = Some (taken_by sink);
  spare = room_of sink - length (taken_by sink);
  faults = sink.faults;
}

-- the numbers of the puts that are to fail
abbrev pub failing_puts : MemSink → List ℕ
failing_puts sink = listed_in sink.fail

-- the number of the next put
abbrev pub next_put : MemSink → ℕ
next_put sink = next_in sink.fail
