use Rattle.std.proofs.Common.{◌≡◌}
use Rattle.json_parts.specs.Turns.{each_in_turn}
use Rattle.json_parts.specs.Views.{fields}
use Rattle.p4_tree.specs.View.{program_of}
use Rattle.p4_tables.specs.Programs.{shapes, IsStateOf}
use Rattle.table_file.specs.Tables.{with_table}
use Rattle.table_file.proofs.load.each_table.Given as goal

abbrev pub invariant-loop-name : goal.invariant-loop-name
invariant-loop-name l = record {
  can : (goal.iterator-loop-name).can_next l.name-iterator;
  finite : (goal.iterator-loop-name).is_finite l.name-iterator;
  so_far : each_in_turn (with_table (program_of l.program) l.path) l.state (fields l.name-iterator) ≡ each_in_turn (with_table (program_of l.program) l.path) l.initial.state (fields l.object.entries);
  same : shapes l.state ≡ shapes l.initial.state;
  of_program : IsStateOf (program_of l.program) l.state;
}
