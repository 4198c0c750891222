-- The keys that were seen are those that were found, and what is left to do is what there was to do from the start.
use Rattle.std.proofs.Common.{◌≡◌, map, drop}
use Rattle.serde_json.specs.View.{view}
use Rattle.json_parts.specs.Turns.{in_turn}
use Rattle.indus_values.specs.View.{cells_of}
use Rattle.control_file.specs.Keys.{numbers_of}
use Rattle.control_file.specs.Contents.{with_new, set_key_at, keys_of}
use Rattle.control_file.specs.Views.{seen_numbers}
use Rattle.control_file.proofs.contents.keys.Given as goal

abbrev pub invariant-loop-i : goal.invariant-loop-i
invariant-loop-i l =
    (seen_numbers l.seen.keys ≡ map numbers_of (map cells_of l.keys.items))
    × (in_turn (with_new numbers_of (set_key_at l.path l.types)) (map cells_of l.keys.items) l.i (drop l.i (map view l.list)) ≡ keys_of l.path l.types (map view l.list))
