use Rattle.std.proofs.Common.{◌≡◌, ◌++◌, map, take}
use Rattle.p4_printer.specs.Layout.{written, in_row}
use Rattle.p4_printer.specs.Programs.{lexemes_of_listed}
use Rattle.p4_printer.proofs.table.put_action_row.Given as goal

abbrev pub invariant-loop-action : goal.invariant-loop-action
invariant-loop-action l = l.out ≡ written l.initial.out (in_row (map lexemes_of_listed (take l.action-index l.actions)))
