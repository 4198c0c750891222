use Rattle.std.proofs.Common.{◌≡◌, drop, map}
use Rattle.p4_tree.specs.View.{key_of}
use Rattle.link_faults.specs.WrittenNames.{first_taken, names_of_keys}
use Rattle.link_checks.proofs.text.in_keys.Given as goal

-- what is left from here has the first of all
abbrev pub invariant-loop-key : goal.invariant-loop-key
invariant-loop-key l = first_taken (names_of_keys (map key_of (drop l.key-index l.keys))) ≡ first_taken (names_of_keys (map key_of l.keys))
