use Rattle.std.proofs.Common.{◌≡◌, map, string_bytes}
use Rattle.std.specs.BTreeMap.{keys}
use Rattle.json_parts.specs.Views.{texts}
use Rattle.json_parts.specs.Object.{first_unknown}
use Rattle.json_parts.proofs.names.first_unknown.Given as goal

abbrev pub invariant-loop-key : goal.invariant-loop-key
invariant-loop-key l = record {
  can : (goal.iterator-loop-key).can_next l.key-iterator;
  finite : (goal.iterator-loop-key).is_finite l.key-iterator;
  so_far : first_unknown (texts l.names) (map string_bytes l.key-iterator) ≡ first_unknown (texts l.names) (map string_bytes (keys l.object));
}
