use Rattle.std.proofs.Common.{◌≡◌, map, take, drop}
use Rattle.p4_parts.specs.PartsIn.{key_in}
use Rattle.slot_terms.specs.Typed.{typed_of}
use Rattle.slot_terms.specs.Places.{places_of}
use Rattle.slot_statements.specs.Tables.{MeanKeys}
use Rattle.slot_statements.specs.Known.{are_known_keys}
use Rattle.slot_statements.proofs.tables.key_terms.Given as goal

abbrev pub invariant-loop-k : goal.invariant-loop-k
invariant-loop-k l = record {
  mean : MeanKeys (places_of l.places) (map key_in (take l.k-index l.keys)) (map typed_of l.all.items);
  known : are_known_keys (places_of l.places) (map key_in (drop l.k-index l.keys)) ≡ are_known_keys (places_of l.places) (map key_in l.keys);
}
