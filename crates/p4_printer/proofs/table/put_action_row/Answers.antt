use Rattle.std.proofs.Common.{map, refl}
use Rattle.p4_printer.specs.Layout.{in_row}
use Rattle.p4_printer.specs.Programs.{lexemes_of_listed}
use Rattle.p4_printer.proofs.Loops.{step}
use Rattle.p4_printer.proofs.table.put_action_row.Goals as goal

pub loop-action-preserved : goal.loop-action-preserved
loop-action-preserved c =
    step (λ xs. in_row (map lexemes_of_listed xs)) (λ x. lexemes_of_listed x) refl (λ x xs. refl) c.args.out.now c.loop-action.out c.put_listed.new.out c.args.actions.now c.action-item.result c.loop-action.action-index
    c.loop-action-test.true c.action-item.is c.loop-action.invariant c.in_ok-put_listed.ensures
