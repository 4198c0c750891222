use Rattle.std.proofs.Common.{◌≡◌, drop}
use Rattle.link_faults.specs.WrittenNames.{first_taken}
use Rattle.link_checks.proofs.first.in_names.Given as goal

-- what is left from here has the first of all
abbrev pub invariant-loop-x : goal.invariant-loop-x
invariant-loop-x l = first_taken (drop l.x-index l.names) ≡ first_taken l.names
