use Rattle.std.proofs.Common.{◌≡◌, drop, map}
use Rattle.p4_tree.specs.View.{arg_of}
use Rattle.link_faults.specs.WrittenNames.{first_taken, names_of_args}
use Rattle.link_checks.proofs.names.in_args.Given as goal

-- what is left from here has the first of all
abbrev pub invariant-loop-arg : goal.invariant-loop-arg
invariant-loop-arg l = first_taken (names_of_args (map arg_of (drop l.arg-index l.args))) ≡ first_taken (names_of_args (map arg_of l.args))
