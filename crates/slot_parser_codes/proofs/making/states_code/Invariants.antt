use Rattle.std.proofs.Common.{◌≡◌, map, take, drop}
use Rattle.p4_tree.specs.View.{state_of}
use Rattle.p4_parts.specs.PartsIn.{parts_in}
use Rattle.slot_terms.specs.Places.{places_of}
use Rattle.slot_parsers.specs.Code.{state_in}
use Rattle.slot_parsers.specs.Parses.{AreStatesOf, heads_of}
use Rattle.slot_parser_codes.specs.KnownParsers.{are_known_states}
use Rattle.slot_parser_codes.proofs.making.states_code.Given as goal

abbrev pub invariant-loop-st : goal.invariant-loop-st
invariant-loop-st l = record {
  done : AreStatesOf (places_of l.places) (heads_of (parts_in l.p)) (parts_in l.p).headers (parts_in l.p).states (map state_in l.codes.items) (map state_of (take l.st-index l.states));
  known : are_known_states (places_of l.places) (map state_of (drop l.st-index l.states)) ≡ are_known_states (places_of l.places) (map state_of l.states);
}
