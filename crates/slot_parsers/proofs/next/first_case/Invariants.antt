use Rattle.std.proofs.Common.{◌≡◌, map, drop}
use Rattle.slot_terms.specs.States.{state_of}
use Rattle.slot_terms.specs.Terms.{term_of}
use Rattle.slot_parsers.specs.ParserCodes.{values_of, first_case}
use Rattle.slot_parsers.specs.Code.{case_of}
use Rattle.slot_parsers.proofs.next.first_case.Given as goal

abbrev pub invariant-loop-c : goal.invariant-loop-c
invariant-loop-c l =
    first_case (map case_of (drop l.c-index l.cases)) (values_of (map term_of l.terms) (state_of l.s)) (state_of l.s)
    ≡ first_case (map case_of l.cases) (values_of (map term_of l.terms) (state_of l.s)) (state_of l.s)
