-- The one file that is written for records.
use Rattle.std.specs.Prelude.{ℕ, List, ◌++◌, length}
use Rattle.std.specs.List.{flat_map}
use Rattle.byteorder.specs.Endian.{little_bytes}
use Rattle.pcap_io.specs.Record.{Record}

-- the file header: magic number, version 2.4, zone, accuracy, snapshot length, link type
unfoldable pub header_bytes : List ℕ
header_bytes =
    little_bytes 4 0xa1b2c3d4 ++ (little_bytes 2 2 ++ (little_bytes 2 4 ++ (little_bytes 4 0
    ++ (little_bytes 4 0 ++ (little_bytes 4 262144 ++ little_bytes 4 1)))))

-- a record: its time, the captured length, the original length, which is the same, and the bytes
unfoldable pub record_bytes : Record → List ℕ
record_bytes r =
    little_bytes 4 r.seconds ++ (little_bytes 4 r.micros ++ (little_bytes 4 (length r.bytes)
    ++ (little_bytes 4 (length r.bytes) ++ r.bytes)))

-- the file of the records: little-endian, in microseconds
abbrev pub capture_bytes : List Record → List ℕ
capture_bytes rs = header_bytes ++ flat_map record_bytes rs
