use Rattle.std.proofs.Common.{◌≡◌, ◌≤◌, ◌++◌, map, drop, take, length}
use Rattle.p4_tree.specs.View.{local_of}
use Rattle.p4_scopes.specs.View.{scope_of}
use Rattle.value_shapes.specs.Values.{locals_values, lists_in}
use Rattle.value_shapes.proofs.values.add_locals.Given as goal

abbrev pub invariant-loop-local : goal.invariant-loop-local
invariant-loop-local l = record {
  kept : take (length l.initial.scope) l.scope ≡ l.initial.scope;
  longer : length l.initial.scope ≤ length l.scope;
  rest : lists_in l.values.items ++ locals_values l.holder (scope_of l.scope) (map local_of (drop l.local-index l.locals)) ≡ lists_in l.initial.values.items ++ locals_values l.holder (scope_of l.initial.scope) (map local_of l.locals);
}
