use Rattle.std.proofs.Common.{map, refl}
use Rattle.p4_tree.specs.View.{top_of}
use Rattle.p4_printer.specs.Layout.{in_row}
use Rattle.p4_printer.specs.Programs.{lexemes_of_top}
use Rattle.p4_printer.proofs.Loops.{step}
use Rattle.p4_printer.proofs.program.put_tops.Goals as goal

pub loop-top-preserved : goal.loop-top-preserved
loop-top-preserved c =
    step (λ xs. in_row (map lexemes_of_top (map top_of xs))) (λ x. lexemes_of_top (top_of x)) refl (λ x xs. refl) c.args.out.now c.loop-top.out c.put_top.new.out c.args.tops.now c.top-item.result c.loop-top.top-index
    c.loop-top-test.true c.top-item.is c.loop-top.invariant c.in_ok-put_top.ensures
