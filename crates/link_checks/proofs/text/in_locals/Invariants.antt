use Rattle.std.proofs.Common.{◌≡◌, drop, map}
use Rattle.p4_tree.specs.View.{local_of}
use Rattle.link_faults.specs.WrittenNames.{first_taken, names_of_locals}
use Rattle.link_checks.proofs.text.in_locals.Given as goal

-- what is left from here has the first of all
abbrev pub invariant-loop-l : goal.invariant-loop-l
invariant-loop-l l = first_taken (names_of_locals (map local_of (drop l.l-index l.list))) ≡ first_taken (names_of_locals (map local_of l.list))
