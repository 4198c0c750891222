use Rattle.std.proofs.Common.{◌≡◌, map, drop}
use Rattle.p4_meaning.specs.Pass.{no_headers}
use Rattle.p4_parts.specs.Headers.{header_in}
use Rattle.p4_packets.specs.Fields.{store_of}
use Rattle.p4_packets.proofs.begin.no_headers.Given as goal

abbrev pub invariant-loop-h : goal.invariant-loop-h
invariant-loop-h l = no_headers (map header_in (drop l.h-index l.headers)) (store_of l.s) ≡ no_headers (map header_in l.headers) (store_of l.initial.s)
