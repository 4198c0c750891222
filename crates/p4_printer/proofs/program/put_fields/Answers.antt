use Rattle.std.proofs.Common.{map, refl}
use Rattle.p4_printer.specs.Layout.{in_row}
use Rattle.p4_printer.specs.Programs.{lexemes_of_field}
use Rattle.p4_printer.proofs.Loops.{step}
use Rattle.p4_printer.proofs.program.put_fields.Goals as goal

pub loop-field-preserved : goal.loop-field-preserved
loop-field-preserved c =
    step (λ xs. in_row (map lexemes_of_field xs)) (λ x. lexemes_of_field x) refl (λ x xs. refl) c.args.out.now c.loop-field.out c.put_field.new.out c.args.fields.now c.field-item.result c.loop-field.field-index
    c.loop-field-test.true c.field-item.is c.loop-field.invariant c.in_ok-put_field.ensures
