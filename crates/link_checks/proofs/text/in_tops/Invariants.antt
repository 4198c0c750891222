use Rattle.std.proofs.Common.{◌≡◌, drop, map}
use Rattle.p4_tree.specs.View.{top_of}
use Rattle.link_faults.specs.WrittenNames.{first_taken, names_of_tops}
use Rattle.link_checks.proofs.text.in_tops.Given as goal

-- what is left from here has the first of all
abbrev pub invariant-loop-top : goal.invariant-loop-top
invariant-loop-top l = first_taken (names_of_tops (map top_of (drop l.top-index l.tops))) ≡ first_taken (names_of_tops (map top_of l.tops))
