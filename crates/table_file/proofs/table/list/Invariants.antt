use Rattle.std.proofs.Common.{◌≡◌, ◌<◌, map, drop, length}
use Rattle.serde_json.specs.View.{view}
use Rattle.json_parts.specs.Turns.{in_turn}
use Rattle.p4_tables.specs.Programs.{shapes}
use Rattle.table_file.specs.Tables.{with_entry, with_list}
use Rattle.table_file.specs.Views.{place_view}
use Rattle.table_file.proofs.table.list.Given as goal

abbrev pub invariant-loop-i : goal.invariant-loop-i
invariant-loop-i l = record {
  so_far : in_turn (with_entry (place_view l.place) l.path) l.state l.i (drop l.i (map view l.list)) ≡ with_list (place_view l.place) l.path l.initial.state (map view l.list);
  same : shapes l.state ≡ shapes l.initial.state;
  within : l.place.table < length (shapes l.state);
}
