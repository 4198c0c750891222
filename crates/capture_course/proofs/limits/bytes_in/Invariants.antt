use Rattle.std.proofs.Common.{◌≡◌, ◌+◌, ◌≤◌, min, drop}
use Rattle.pcap_io.specs.Record.{records_of}
use Rattle.capture_course.specs.Files as files
use Rattle.capture_course.specs.Views.{lists_of}
use Rattle.capture_course.proofs.limits.bytes_in.Given as goal

-- what was counted, and what is left, is the whole
abbrev pub invariant-loop-list : goal.invariant-loop-list
invariant-loop-list l = record {
  whole : min (l.count + files.bytes_in (drop l.list-index (lists_of l.captures))) 18446744073709551615 ≡ min (files.bytes_in (lists_of l.captures)) 18446744073709551615;
  low : l.count ≤ 18446744073709551615;
}
