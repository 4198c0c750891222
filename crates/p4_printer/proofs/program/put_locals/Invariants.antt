use Rattle.std.proofs.Common.{◌≡◌, ◌++◌, map, take}
use Rattle.p4_tree.specs.View.{local_of}
use Rattle.p4_printer.specs.Layout.{written, in_row}
use Rattle.p4_printer.specs.Programs.{lexemes_of_local}
use Rattle.p4_printer.proofs.program.put_locals.Given as goal

abbrev pub invariant-loop-local : goal.invariant-loop-local
invariant-loop-local l = l.out ≡ written l.initial.out (in_row (map lexemes_of_local (map local_of (take l.local-index l.locals))))
