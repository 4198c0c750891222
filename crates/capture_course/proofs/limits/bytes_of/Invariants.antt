use Rattle.std.proofs.Common.{◌≡◌, ◌+◌, ◌≤◌, min, drop}
use Rattle.pcap_io.specs.Record.{records_of}
use Rattle.capture_course.specs.Files as files
use Rattle.capture_course.specs.Views.{lists_of}
use Rattle.capture_course.proofs.limits.bytes_of.Given as goal

-- what was counted, and what is left, is the whole
abbrev pub invariant-loop-captured : goal.invariant-loop-captured
invariant-loop-captured l = record {
  whole : min (l.count + files.bytes_of (drop l.captured-index (records_of l.list))) 18446744073709551615 ≡ min (files.bytes_of (records_of l.list)) 18446744073709551615;
  low : l.count ≤ 18446744073709551615;
}
