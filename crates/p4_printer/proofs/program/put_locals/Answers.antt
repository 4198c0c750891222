use Rattle.std.proofs.Common.{map, refl}
use Rattle.p4_tree.specs.View.{local_of}
use Rattle.p4_printer.specs.Layout.{in_row}
use Rattle.p4_printer.specs.Programs.{lexemes_of_local}
use Rattle.p4_printer.proofs.Loops.{step}
use Rattle.p4_printer.proofs.program.put_locals.Goals as goal

pub loop-local-preserved : goal.loop-local-preserved
loop-local-preserved c =
    step (λ xs. in_row (map lexemes_of_local (map local_of xs))) (λ x. lexemes_of_local (local_of x)) refl (λ x xs. refl) c.args.out.now c.loop-local.out c.put_local.new.out c.args.locals.now c.local-item.result c.loop-local.local-index
    c.loop-local-test.true c.local-item.is c.loop-local.invariant c.in_ok-put_local.ensures
