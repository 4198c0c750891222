use Rattle.std.proofs.Common.{◌≡◌, ◌≤◌, All, length, map, take}
use Rattle.pcap_io.specs.Record.{records_of}
use Rattle.load_maker.specs.Captures.{record_for, sent_by}
use Rattle.load_maker.proofs.captures.capture.Given as goal

abbrev pub invariant-loop-packet : goal.invariant-loop-packet
invariant-loop-packet l = record {
  made : records_of l.records.items ≡ map record_for (sent_by l.host (take l.packet-index l.packets));
  short : All (λ c. length c.bytes.items ≤ 289) l.records.items;
}
