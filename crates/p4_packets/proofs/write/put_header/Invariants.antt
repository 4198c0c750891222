use Rattle.std.proofs.Common.{◌≡◌, ◌++◌, map, drop}
use Rattle.bit_writer.specs.Written.{bits_in}
use Rattle.p4_meaning.specs.Parsing.{header_bits}
use Rattle.p4_parts.specs.Headers.{header_in}
use Rattle.p4_packets.specs.Fields.{store_of}
use Rattle.p4_packets.proofs.write.put_header.Given as goal

abbrev pub invariant-loop-h : goal.invariant-loop-h
invariant-loop-h l = bits_in l.out ++ header_bits (map header_in (drop l.h-index l.headers)) l.path (store_of l.s) ≡ bits_in l.initial.out ++ header_bits (map header_in l.headers) l.path (store_of l.s)
