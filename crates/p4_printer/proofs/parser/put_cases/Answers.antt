use Rattle.std.proofs.Common.{map, refl}
use Rattle.p4_tree.specs.View.{case_of}
use Rattle.p4_printer.specs.Layout.{in_row}
use Rattle.p4_printer.specs.Programs.{lexemes_of_case}
use Rattle.p4_printer.proofs.Loops.{step}
use Rattle.p4_printer.proofs.parser.put_cases.Goals as goal

pub loop-case-preserved : goal.loop-case-preserved
loop-case-preserved c =
    step (λ xs. in_row (map lexemes_of_case (map case_of xs))) (λ x. lexemes_of_case (case_of x)) refl (λ x xs. refl) c.args.out.now c.loop-case.out c.put_case.new.out c.args.cases.now c.case-item.result c.loop-case.case-index
    c.loop-case-test.true c.case-item.is c.loop-case.invariant c.in_ok-put_case.ensures
