use Rattle.std.proofs.Common.{◌≡◌, ◌++◌, map, take}
use Rattle.p4_tree.specs.View.{top_of}
use Rattle.p4_printer.specs.Layout.{written, in_row}
use Rattle.p4_printer.specs.Programs.{lexemes_of_top}
use Rattle.p4_printer.proofs.program.put_tops.Given as goal

abbrev pub invariant-loop-top : goal.invariant-loop-top
invariant-loop-top l = l.out ≡ written l.initial.out (in_row (map lexemes_of_top (map top_of (take l.top-index l.tops))))
