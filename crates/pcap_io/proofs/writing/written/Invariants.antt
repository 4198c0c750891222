use Rattle.std.proofs.Common.{◌≡◌, ◌++◌, take, All}
use Rattle.std.specs.List.{flat_map}
use Rattle.pcap_io.specs.Record.{record_of, records_of}
use Rattle.pcap_io.specs.Written.{header_bytes, record_bytes}
use Rattle.pcap_io.specs.Answer.{IsInRange}
use Rattle.pcap_io.proofs.writing.written.Given as goal

abbrev pub invariant-loop-captured : goal.invariant-loop-captured
invariant-loop-captured l = record {
  bytes : l.out.items ≡ header_bytes ++ flat_map record_bytes (records_of (take l.captured-index l.list));
  in_range : All (λ c. IsInRange (record_of c)) (take l.captured-index l.list);
}
