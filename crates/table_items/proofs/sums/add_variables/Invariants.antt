use Rattle.std.proofs.Common.{◌≡◌, map, drop, ◌≤◌}
use Rattle.indus_tree.specs.View.{decl_of, property_of}
use Rattle.network_file.specs.Events.{event_of}
use Rattle.table_items.specs.Steps.{with_variables}
use Rattle.table_items.specs.Views.{contents_view}
use Rattle.table_items.proofs.sums.add_variables.Given as goal

abbrev pub invariant-loop-variable : goal.invariant-loop-variable
invariant-loop-variable l = record {
  so_far : with_variables (property_of l.p) (map contents_view l.control) (map event_of l.events) l.variable l.seat l.sums (map decl_of (drop l.variable l.decl-items)) ≡ with_variables (property_of l.p) (map contents_view l.control) (map event_of l.events) 0 0 l.initial.sums (map decl_of l.decl-items);
  seats : l.seat ≤ l.variable;
}
