use Rattle.std.proofs.Common.{◌∙◌, ap}
use Rattle.p4_tree.specs.Tree.{otherwise}
use Rattle.lower_code.proofs.Blocks.{some_else}
use Rattle.lower_code.proofs.statements.maybe_else.Goals as goal

pub returns : goal.returns
returns c = ap otherwise c.in_ok-block.ensures ∙ some_else c.args.list.items _ c.is_empty.result c.args.list.ok.0 c.is_empty.ensures c.if-is_empty.false
