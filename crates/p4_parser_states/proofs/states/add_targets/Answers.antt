use Rattle.p4_tree.specs.View.{case_of}
use Rattle.p4_parser_states.specs.Numbers.{number_in}
use Rattle.p4_parser_states.proofs.Numbered.{row_more}
use Rattle.p4_parser_states.proofs.states.add_targets.Goals as goal

pub loop-case-preserved : goal.loop-case-preserved
loop-case-preserved c =
    row_more case_of (number_in c.args.names.now.keys) c.deref-case-items.result.now c.loop-case.case-index c.case-item.result c.args.row.now.items c.loop-case.row.items c.add_name-in-loop-case.new.row.items
    c.loop-case-test.true c.case-item.is c.loop-case.invariant c.in_ok-add_name-in-Select.ensures
