use Rattle.std.proofs.Common.{◌≡◌, drop}
use Rattle.p4_tree.specs.View.{stmts_of}
use Rattle.link_faults.specs.WrittenNames.{first_taken, names_of_stmts}
use Rattle.link_checks.proofs.names.+in_stmts.Given as goal

-- what is left from here has the first of all
abbrev pub invariant-in_stmts-loop-s : goal.invariant-in_stmts-loop-s
invariant-in_stmts-loop-s l = first_taken (names_of_stmts (stmts_of (drop l.s-index l.list))) ≡ first_taken (names_of_stmts (stmts_of l.list))
