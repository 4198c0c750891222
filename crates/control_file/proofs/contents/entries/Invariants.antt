-- The keys that were seen are those that were found, and what is left to do is what there was to do from the start.
use Rattle.std.proofs.Common.{◌≡◌, map, drop}
use Rattle.serde_json.specs.View.{view}
use Rattle.json_parts.specs.Turns.{in_turn}
use Rattle.indus_values.specs.View.{entry_of}
use Rattle.control_file.specs.Contents.{entry_numbers, with_new, dict_entry_at, entries_of}
use Rattle.control_file.specs.Views.{seen_numbers}
use Rattle.control_file.proofs.contents.entries.Given as goal

abbrev pub invariant-loop-i : goal.invariant-loop-i
invariant-loop-i l =
    (seen_numbers l.seen.keys ≡ map entry_numbers (map entry_of l.entries.items))
    × (in_turn (with_new entry_numbers (dict_entry_at l.path l.types l.ty)) (map entry_of l.entries.items) l.i (drop l.i (map view l.list)) ≡ entries_of l.path l.types l.ty (map view l.list))
