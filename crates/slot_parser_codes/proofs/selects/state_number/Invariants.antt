use Rattle.std.proofs.Common.{◌≡◌, ◌+◌, map, drop}
use Rattle.std.specs.Option.{option_map}
use Rattle.p4_tree.specs.View.{state_of}
use Rattle.slot_parsers.specs.Parses.{state_number}
use Rattle.slot_parser_codes.proofs.selects.state_number.Given as goal

abbrev pub invariant-loop-i : goal.invariant-loop-i
invariant-loop-i l = option_map (λ n. l.i + n) (state_number (map state_of (drop l.i l.states)) l.name) ≡ state_number (map state_of l.states) l.name
