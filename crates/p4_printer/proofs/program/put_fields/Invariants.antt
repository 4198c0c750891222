use Rattle.std.proofs.Common.{◌≡◌, ◌++◌, map, take}
use Rattle.p4_printer.specs.Layout.{written, in_row}
use Rattle.p4_printer.specs.Programs.{lexemes_of_field}
use Rattle.p4_printer.proofs.program.put_fields.Given as goal

abbrev pub invariant-loop-field : goal.invariant-loop-field
invariant-loop-field l = l.out ≡ written l.initial.out (in_row (map lexemes_of_field (take l.field-index l.fields)))
