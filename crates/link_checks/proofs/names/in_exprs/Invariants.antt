use Rattle.std.proofs.Common.{◌≡◌, drop, map}
use Rattle.p4_tree.specs.View.{expr_of}
use Rattle.link_faults.specs.WrittenNames.{first_taken, names_of_exprs}
use Rattle.link_checks.proofs.names.in_exprs.Given as goal

-- what is left from here has the first of all
abbrev pub invariant-loop-e : goal.invariant-loop-e
invariant-loop-e l = first_taken (names_of_exprs (map expr_of (drop l.e-index l.list))) ≡ first_taken (names_of_exprs (map expr_of l.list))
