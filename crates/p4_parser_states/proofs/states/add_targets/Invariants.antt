use Rattle.std.proofs.Common.{◌≡◌, ◌++◌, map, take}
use Rattle.std.specs.List.{filter_map}
use Rattle.p4_tree.specs.View.{case_of}
use Rattle.p4_parser_states.specs.Cycles.{case_targets}
use Rattle.p4_parser_states.specs.Numbers.{number_in}
use Rattle.p4_parser_states.proofs.states.add_targets.Given as goal

abbrev pub invariant-loop-case : goal.invariant-loop-case
invariant-loop-case l = l.row.items ≡ l.initial.row.items ++ filter_map (number_in l.names.keys) (case_targets (map case_of (take l.case-index l.case-items)))
