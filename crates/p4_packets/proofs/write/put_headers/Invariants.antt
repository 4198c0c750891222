use Rattle.std.proofs.Common.{◌≡◌, ◌++◌, map, drop}
use Rattle.bit_writer.specs.Written.{bits_in}
use Rattle.p4_meaning.specs.Parsing.{deparse_of}
use Rattle.p4_parts.specs.Headers.{header_in}
use Rattle.p4_parts.specs.Paths.{path_in}
use Rattle.p4_packets.specs.Fields.{store_of}
use Rattle.p4_packets.proofs.write.put_headers.Given as goal

abbrev pub invariant-loop-path : goal.invariant-loop-path
invariant-loop-path l = bits_in l.out ++ deparse_of (map header_in l.headers) (map path_in (drop l.path-index l.emits)) (store_of l.s) ≡ bits_in l.initial.out ++ deparse_of (map header_in l.headers) (map path_in l.emits) (store_of l.s)
