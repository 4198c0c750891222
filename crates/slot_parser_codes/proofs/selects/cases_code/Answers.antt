use Rattle.std.proofs.Common.{map, take}
use Rattle.p4_tree.specs.View.{case_of as tree_case_of, state_of}
use Rattle.slot_terms.specs.Typed.{typed_of}
use Rattle.slot_terms.specs.Places.{places_of}
use Rattle.slot_parsers.specs.Code.{case_of}
use Rattle.slot_parsers.specs.Selects.{CasesAlike}
use Rattle.slot_parsers.proofs.StepLemmas.{cases_more}
use Rattle.slot_parser_codes.specs.KnownParsers.{are_known_cases, is_known_case}
use Rattle.slot_parser_codes.proofs.LoopLemmas.{passed_more, one_more_made}
use Rattle.slot_parser_codes.proofs.selects.cases_code.Goals as goal

pub loop-case-preserved : goal.loop-case-preserved
loop-case-preserved c =
    let m = places_of c.args.places.now in
    let all = map state_of c.args.states.now in
    let ts = map typed_of c.args.terms.now in
    record {
      known = passed_more tree_case_of (is_known_case m) (are_known_cases m (map tree_case_of c.args.cases.now)) c.args.cases.now c.loop-case.case-index c.case-item.result c.loop-case-test.true c.case-item.is c.in_ok-c.ensures.known c.loop-case.invariant.known;
      alike =
          one_more_made (CasesAlike m all ts) case_of tree_case_of c.args.cases.now c.loop-case.case-index c.case-item.result c.loop-case.made.items c.push.new.list.items c.in_ok-c.c c.loop-case-test.true c.case-item.is c.in_ok-push.ensures
          (cases_more m all ts (map case_of c.loop-case.made.items) (map tree_case_of (take c.loop-case.case-index c.args.cases.now)) (case_of c.in_ok-c.c) (tree_case_of c.case-item.result) c.loop-case.invariant.alike c.in_ok-c.ensures.alike);
    }
