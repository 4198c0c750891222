use Rattle.std.proofs.Common.{◌≡◌, map, drop}
use Rattle.p4_meaning.specs.Parsing.{extracted_at}
use Rattle.p4_parts.specs.Headers.{header_in}
use Rattle.p4_packets.specs.Places.{reading_of}
use Rattle.p4_packets.proofs.parse.extract_at.Given as goal

abbrev pub invariant-loop-h : goal.invariant-loop-h
invariant-loop-h l = extracted_at (map header_in (drop l.h-index l.headers)) l.path (reading_of l.s l.frame l.at) ≡ extracted_at (map header_in l.headers) l.path (reading_of l.initial.s l.frame l.at)
