use Rattle.std.proofs.Common.{◌≡◌, drop}
use Rattle.link_faults.specs.WrittenNames.{first_taken, names_of_params}
use Rattle.link_checks.proofs.text.in_params.Given as goal

-- what is left from here has the first of all
abbrev pub invariant-loop-p : goal.invariant-loop-p
invariant-loop-p l = first_taken (names_of_params (drop l.p-index l.params)) ≡ first_taken (names_of_params l.params)
