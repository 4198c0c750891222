use Rattle.std.proofs.Common.{map, ◌∙◌}
use Rattle.p4_tree.specs.View.{top_of}
use Rattle.p4_declaration_rules.specs.Loops.{named}
use Rattle.p4_rules.proofs.LeftOut.{left_out_same}
use Rattle.p4_rules.proofs.mains.leaves_some_out.Goals as goal

pub returns : goal.returns
returns c = c.table_leaves_out.ensures ∙ left_out_same (named c.in_ok-table.table.keys) c.args.main.now c.in_ok-table.ensures (map top_of c.args.tops.now)
