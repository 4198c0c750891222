-- Captured frames, without where they lie in memory.
use Rattle.std.specs.Prelude.{ℕ, List, map}
use Rattle.pcap_io.specs.declared.captured.Captured.{Captured}

-- a captured frame: its time, and its captured bytes
pub record Record : Type 0 where
  pub seconds : ℕ
  pub micros : ℕ
  pub bytes : List ℕ

-- the frame as a record
abbrev pub record_of : Captured → Record
record_of c = record { seconds = c.seconds; micros = c.micros; bytes = c.bytes.items }

-- the frames as records, in order
abbrev pub records_of : List Captured → List Record
records_of cs = map record_of cs
