use Rattle.std.proofs.Common.{◌≡◌, ◌++◌, map, drop}
use Rattle.p4_tree.specs.View.{top_of}
use Rattle.p4_meaning.specs.Tables.{tables_of}
use Rattle.p4_meaning.specs.Under.{no_scope}
use Rattle.p4_parts.specs.PartsIn.{action_in, table_in}
use Rattle.p4_resolved.specs.Scopes.{at_top}
use Rattle.p4_parts.proofs.tables.tables_of.Given as goal

abbrev pub invariant-loop-top : goal.invariant-loop-top
invariant-loop-top l = map table_in l.tables.items ++ tables_of (at_top l.layer.value) (map action_in l.actions) (map top_of (drop l.top-index l.tops)) ≡ tables_of no_scope (map action_in l.actions) (map top_of l.tops)
