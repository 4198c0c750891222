use Rattle.std.proofs.Common.{◌≡◌, ◌++◌, map, take}
use Rattle.p4_tree.specs.View.{case_of}
use Rattle.p4_printer.specs.Layout.{written, in_row}
use Rattle.p4_printer.specs.Programs.{lexemes_of_case}
use Rattle.p4_printer.proofs.parser.put_cases.Given as goal

abbrev pub invariant-loop-case : goal.invariant-loop-case
invariant-loop-case l = l.out ≡ written l.initial.out (in_row (map lexemes_of_case (map case_of (take l.case-index l.cases))))
