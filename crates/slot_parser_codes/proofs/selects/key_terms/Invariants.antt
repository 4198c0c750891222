use Rattle.std.proofs.Common.{◌≡◌, map, take, drop}
use Rattle.p4_tree.specs.View.{expr_of}
use Rattle.slot_terms.specs.Typed.{typed_of}
use Rattle.slot_terms.specs.Places.{places_of}
use Rattle.slot_parsers.specs.Selects.{TermsMean}
use Rattle.slot_parser_codes.specs.KnownParsers.{are_known}
use Rattle.slot_parser_codes.proofs.selects.key_terms.Given as goal

abbrev pub invariant-loop-e : goal.invariant-loop-e
invariant-loop-e l = record {
  means : TermsMean (places_of l.places) (map expr_of (take l.e-index l.list)) (map typed_of l.terms.items);
  known : are_known (places_of l.places) (map expr_of (drop l.e-index l.list)) ≡ are_known (places_of l.places) (map expr_of l.list);
}
