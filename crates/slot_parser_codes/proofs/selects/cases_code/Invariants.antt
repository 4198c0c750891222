use Rattle.std.proofs.Common.{◌≡◌, map, take, drop}
use Rattle.p4_tree.specs.View.{case_of as tree_case_of, state_of}
use Rattle.slot_terms.specs.Typed.{typed_of}
use Rattle.slot_terms.specs.Places.{places_of}
use Rattle.slot_parsers.specs.Code.{case_of}
use Rattle.slot_parsers.specs.Selects.{CasesAlike}
use Rattle.slot_parser_codes.specs.KnownParsers.{are_known_cases}
use Rattle.slot_parser_codes.proofs.selects.cases_code.Given as goal

abbrev pub invariant-loop-case : goal.invariant-loop-case
invariant-loop-case l = record {
  alike : CasesAlike (places_of l.places) (map state_of l.states) (map typed_of l.terms) (map case_of l.made.items) (map tree_case_of (take l.case-index l.cases));
  known : are_known_cases (places_of l.places) (map tree_case_of (drop l.case-index l.cases)) ≡ are_known_cases (places_of l.places) (map tree_case_of l.cases);
}
