use Rattle.std.proofs.Common.{◌≡◌, map, take, drop}
use Rattle.p4_tree.specs.View.{expr_of}
use Rattle.p4_parts.specs.PartsIn.{param_in}
use Rattle.slot_terms.specs.Terms.{term_of}
use Rattle.slot_terms.specs.Places.{places_of}
use Rattle.slot_statements.specs.Parameters.{FillAll}
use Rattle.slot_statements.specs.Known.{are_known_args}
use Rattle.slot_statements.proofs.calls.arguments.Given as goal

abbrev pub invariant-loop-i : goal.invariant-loop-i
invariant-loop-i l = record {
  fill : FillAll (places_of l.places) (map param_in (take l.i l.params)) (map expr_of (take l.i l.args)) (map term_of l.terms.items);
  known : are_known_args (places_of l.places) (map param_in (drop l.i l.params)) (map expr_of (drop l.i l.args)) ≡ are_known_args (places_of l.places) (map param_in l.params) (map expr_of l.args);
}
