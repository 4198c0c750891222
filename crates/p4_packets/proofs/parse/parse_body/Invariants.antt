use Rattle.std.proofs.Common.{◌≡◌, ◌≤◌, ◌*◌, length, map, drop}
use Rattle.p4_tree.specs.View.{stmt_of}
use Rattle.p4_meaning.specs.Parsing.{body_parsed}
use Rattle.p4_parts.specs.Headers.{header_in}
use Rattle.p4_packets.specs.Places.{reading_of}
use Rattle.p4_packets.proofs.parse.parse_body.Given as goal

abbrev pub invariant-loop-st : goal.invariant-loop-st
invariant-loop-st l = record {
  parsed : body_parsed (map header_in l.headers) (map stmt_of (drop l.st-index l.body)) (reading_of l.s l.frame l.here) ≡ body_parsed (map header_in l.headers) (map stmt_of l.body) (reading_of l.initial.s l.frame l.at);
  within : l.here ≤ 8 * length l.frame;
}
