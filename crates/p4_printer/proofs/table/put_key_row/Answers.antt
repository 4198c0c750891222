use Rattle.std.proofs.Common.{map, refl}
use Rattle.p4_tree.specs.View.{key_of}
use Rattle.p4_printer.specs.Layout.{in_row}
use Rattle.p4_printer.specs.Programs.{lexemes_of_key}
use Rattle.p4_printer.proofs.Loops.{step}
use Rattle.p4_printer.proofs.table.put_key_row.Goals as goal

pub loop-key-preserved : goal.loop-key-preserved
loop-key-preserved c =
    step (λ xs. in_row (map lexemes_of_key (map key_of xs))) (λ x. lexemes_of_key (key_of x)) refl (λ x xs. refl) c.args.out.now c.loop-key.out c.put_key.new.out c.args.keys.now c.key-item.result c.loop-key.key-index
    c.loop-key-test.true c.key-item.is c.loop-key.invariant c.in_ok-put_key.ensures
