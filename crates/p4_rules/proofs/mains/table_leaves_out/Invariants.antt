use Rattle.std.proofs.Common.{◌≡◌, drop, map}
use Rattle.p4_tree.specs.View.{top_of}
use Rattle.p4_declaration_rules.specs.Loops.{named}
use Rattle.p4_rules.specs.Mains.{leaves_some_out}
use Rattle.p4_rules.proofs.mains.table_leaves_out.Given as goal

abbrev pub invariant-loop-top : goal.invariant-loop-top
invariant-loop-top l = leaves_some_out (named l.table.keys) (map top_of (drop l.top-index l.tops)) ≡ leaves_some_out (named l.table.keys) (map top_of l.tops)
