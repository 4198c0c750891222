use Rattle.std.proofs.Common.{◌≡◌, drop, map}
use Rattle.p4_tree.specs.View.{case_of}
use Rattle.link_faults.specs.WrittenNames.{first_taken, names_of_cases}
use Rattle.link_checks.proofs.text.in_cases.Given as goal

-- what is left from here has the first of all
abbrev pub invariant-loop-case : goal.invariant-loop-case
invariant-loop-case l = first_taken (names_of_cases (map case_of (drop l.case-index l.list))) ≡ first_taken (names_of_cases (map case_of l.list))
