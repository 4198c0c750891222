use Rattle.std.proofs.Common.{◌≡◌, map}
use Rattle.json_parts.specs.Turns.{each_in_turn}
use Rattle.json_parts.specs.Views.{fields}
use Rattle.control_file.specs.Control.{set_switch, all_unset}
use Rattle.control_file.specs.Views.{switches_view, decls_of}
use Rattle.control_file.proofs.file.set_switches.Given as goal

abbrev pub invariant-loop-name : goal.invariant-loop-name
invariant-loop-name l = record {
  can : (goal.iterator-loop-name).can_next l.name-iterator;
  finite : (goal.iterator-loop-name).is_finite l.name-iterator;
  so_far : each_in_turn (set_switch (decls_of l.property) l.network.names) (switches_view l.held) (fields l.name-iterator) ≡ each_in_turn (set_switch (decls_of l.property) l.network.names) (map (λ name. all_unset (decls_of l.property)) l.network.names) (fields l.object.entries);
}
