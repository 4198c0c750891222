use Rattle.std.proofs.Common.{◌≡◌, ◌++◌, map, drop}
use Rattle.p4_parts.specs.PartsIn.{param_in}
use Rattle.slot_terms.specs.Places.{places_of}
use Rattle.slot_statements.specs.Parameters.{with_params, slots_from}
use Rattle.slot_statements.specs.Known.{are_free}
use Rattle.slot_statements.proofs.calls.parameters.Given as goal

abbrev pub invariant-loop-p : goal.invariant-loop-p
invariant-loop-p l = record {
  places : with_params (places_of l.places) (map param_in (drop l.p-index l.params)) ≡ with_params (places_of l.fn.places) (map param_in l.params);
  free : are_free (places_of l.places) (map param_in (drop l.p-index l.params)) ≡ are_free (places_of l.fn.places) (map param_in l.params);
  slots : l.slots.items ++ slots_from (places_of l.places).next (map param_in (drop l.p-index l.params)) ≡ l.fn.slots.items ++ slots_from (places_of l.fn.places).next (map param_in l.params);
}
