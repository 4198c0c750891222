use Rattle.std.proofs.Common.{◌≡◌, ◌++◌, map, take}
use Rattle.p4_tree.specs.View.{key_of}
use Rattle.p4_printer.specs.Layout.{written, in_row}
use Rattle.p4_printer.specs.Programs.{lexemes_of_key}
use Rattle.p4_printer.proofs.table.put_key_row.Given as goal

abbrev pub invariant-loop-key : goal.invariant-loop-key
invariant-loop-key l = l.out ≡ written l.initial.out (in_row (map lexemes_of_key (map key_of (take l.key-index l.keys))))
