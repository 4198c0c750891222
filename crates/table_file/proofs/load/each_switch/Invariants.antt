use Rattle.std.proofs.Common.{◌≡◌}
use Rattle.json_parts.specs.Turns.{each_in_turn}
use Rattle.json_parts.specs.Views.{fields}
use Rattle.p4_tree.specs.View.{program_of}
use Rattle.table_file.specs.Entries.{with_switch}
use Rattle.table_file.specs.Laws.{AreOf}
use Rattle.table_file.proofs.load.each_switch.Given as goal

abbrev pub invariant-loop-name : goal.invariant-loop-name
invariant-loop-name l = record {
  can : (goal.iterator-loop-name).can_next l.name-iterator;
  finite : (goal.iterator-loop-name).is_finite l.name-iterator;
  so_far : each_in_turn (with_switch (program_of l.program) l.network.names) l.states.items (fields l.name-iterator) ≡ each_in_turn (with_switch (program_of l.program) l.network.names) l.initial.states.items (fields l.object.entries);
  kept : AreOf (program_of l.program) l.network.names l.states.items;
}
