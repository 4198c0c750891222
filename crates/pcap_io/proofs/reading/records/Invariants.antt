use Rattle.std.proofs.Common.{length, ◌-◌, ◌≤◌}
use Rattle.pcap_io.specs.Record.{records_of}
use Rattle.pcap_io.specs.Holds.{Run}
use Rattle.pcap_io.proofs.reading.records.Given as goal

abbrev pub invariant-loop-at : goal.invariant-loop-at
invariant-loop-at l = record {
  inside : l.at ≤ length l.file;
  run : Run l.form l.file (records_of l.list.items) 24 l.at;
}

abbrev pub decreases-loop-at : goal.decreases-loop-at
decreases-loop-at l = length l.file - l.at
