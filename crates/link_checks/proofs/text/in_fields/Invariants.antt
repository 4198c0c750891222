use Rattle.std.proofs.Common.{◌≡◌, drop}
use Rattle.link_faults.specs.WrittenNames.{first_taken, names_of_fields}
use Rattle.link_checks.proofs.text.in_fields.Given as goal

-- what is left from here has the first of all
abbrev pub invariant-loop-f : goal.invariant-loop-f
invariant-loop-f l = first_taken (names_of_fields (drop l.f-index l.fields)) ≡ first_taken (names_of_fields l.fields)
