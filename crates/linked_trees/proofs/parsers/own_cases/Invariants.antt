use Rattle.std.proofs.Common.{◌≡◌, map, take}
use Rattle.p4_tree.specs.View.{case_of}
use Rattle.p4_resolved.specs.Scopes.{roots_in}
use Rattle.linked_halves.specs.ParserStates.{renamed_case}
use Rattle.linked_programs.specs.Rewritten.{case_with}
use Rattle.linked_trees.proofs.parsers.own_cases.Given as goal

abbrev pub invariant-loop-case : goal.invariant-loop-case
invariant-loop-case l = map case_of l.copies.items ≡ map renamed_case (map (case_with (roots_in l.roots)) (map case_of (take l.case-index l.list)))
