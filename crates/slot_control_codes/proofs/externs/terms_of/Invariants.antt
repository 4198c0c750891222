use Rattle.std.proofs.Common.{◌≡◌, map, take, drop}
use Rattle.p4_tree.specs.View.{expr_of}
use Rattle.slot_terms.specs.Typed.{typed_of}
use Rattle.slot_terms.specs.Places.{places_of}
use Rattle.slot_controls.specs.StepRuns.{MeanAll}
use Rattle.slot_control_codes.specs.Known.{are_known}
use Rattle.slot_control_codes.proofs.externs.terms_of.Given as goal

abbrev pub invariant-loop-e : goal.invariant-loop-e
invariant-loop-e l = record {
  mean : MeanAll (places_of l.places) (map expr_of (take l.e-index l.list)) (map typed_of l.terms.items);
  known : are_known (places_of l.places) (map expr_of (drop l.e-index l.list)) ≡ are_known (places_of l.places) (map expr_of l.list);
}
