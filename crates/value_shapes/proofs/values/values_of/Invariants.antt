use Rattle.std.proofs.Common.{◌≡◌, ◌++◌, map, drop}
use Rattle.p4_tree.specs.View.{top_of}
use Rattle.p4_scopes.specs.Scopes.{core}
use Rattle.p4_scopes.specs.View.{scope_of}
use Rattle.value_shapes.specs.Values.{tops_values, lists_in}
use Rattle.value_shapes.proofs.values.values_of.Given as goal

abbrev pub invariant-loop-top : goal.invariant-loop-top
invariant-loop-top l = lists_in l.values.items ++ tops_values l.holder (scope_of l.scope) (map top_of (drop l.top-index l.tops)) ≡ tops_values l.holder core (map top_of l.tops)
