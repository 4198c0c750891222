use Rattle.std.proofs.Common.{◌≡◌, drop, map}
use Rattle.p4_tree.specs.View.{state_of}
use Rattle.link_faults.specs.WrittenNames.{first_taken, names_of_states}
use Rattle.link_checks.proofs.text.in_states.Given as goal

-- what is left from here has the first of all
abbrev pub invariant-loop-s : goal.invariant-loop-s
invariant-loop-s l = first_taken (names_of_states (map state_of (drop l.s-index l.list))) ≡ first_taken (names_of_states (map state_of l.list))
