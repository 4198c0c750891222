use Rattle.std.proofs.Common.{◌≡◌, ℕ, List, ◌||◌, drop, map}
use Rattle.p4_tree.specs.View.{state_of}
use Rattle.p4_parser_states.specs.Cycles.{is_among, state_names}
use Rattle.p4_declaration_rules.specs.Loops.{named}
use Rattle.p4_declaration_rules.proofs.parsers.state_table.Given as goal

abbrev pub invariant-loop-state : goal.invariant-loop-state
invariant-loop-state l = (x : List ℕ) → (is_among (named l.table.keys) x || is_among (state_names (map state_of (drop l.state-index l.states))) x) ≡ is_among (state_names (map state_of l.states)) x
