use Rattle.std.proofs.Common.{◌≡◌, map, take, drop}
use Rattle.p4_tree.specs.View.{stmt_of}
use Rattle.p4_parts.specs.PartsIn.{parts_in}
use Rattle.slot_terms.specs.Places.{places_of}
use Rattle.slot_parsers.specs.Code.{step_of}
use Rattle.slot_parsers.specs.Parses.{DoSteps, heads_of}
use Rattle.slot_parser_codes.specs.KnownParsers.{are_known_stmts}
use Rattle.slot_parser_codes.proofs.making.steps_code.Given as goal

abbrev pub invariant-loop-st : goal.invariant-loop-st
invariant-loop-st l = record {
  done : DoSteps (places_of l.places) (heads_of (parts_in l.p)) (parts_in l.p).headers (map step_of l.steps.items) (map stmt_of (take l.st-index l.body));
  known : are_known_stmts (places_of l.places) (map stmt_of (drop l.st-index l.body)) ≡ are_known_stmts (places_of l.places) (map stmt_of l.body);
}
