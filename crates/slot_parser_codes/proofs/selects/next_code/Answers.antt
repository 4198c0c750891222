use Rattle.std.proofs.Common.{map, sym, ap, subst}
use Rattle.p4_tree.specs.Tree as tree
use Rattle.p4_tree.specs.View.{expr_of, case_of as tree_case_of, state_of, transition_of}
use Rattle.slot_terms.specs.Terms.{term_of}
use Rattle.slot_terms.specs.Typed.{typed_of}
use Rattle.slot_terms.specs.Places.{places_of}
use Rattle.slot_parsers.specs.ParserCodes.{select}
use Rattle.slot_parsers.specs.Code.{case_of}
use Rattle.slot_parsers.specs.Parses.{Leads}
use Rattle.slot_parsers.proofs.StepLemmas.{selects_lead}
use Rattle.slot_parser_codes.proofs.selects.next_code.Goals as goal

pub returns-in_ok-terms-in-Select-2-clause-leads : goal.returns-in_ok-terms-in-Select-2-clause-leads
returns-in_ok-terms-in-Select-2-clause-leads c =
    let m = places_of c.args.places.now in
    let all = map state_of c.args.states.now in
    let ts = map typed_of c.in_ok-terms-in-Select.terms.items in
    let cs = map case_of c.in_ok-cases-in-Select.cases.items in
    let es = map expr_of c.in-Select.list.items in
    let cases = map tree_case_of c.in-Select.cases.items in
    subst (λ t. Leads m all (select (map term_of c.in_ok-terms-in-Select-2.terms.items) cs) t) (sym (ap transition_of c.in-Select.is))
    (subst (λ l. Leads m all (select l cs) (tree.select c.in-Select.field-0 es cases)) (sym c.in_ok-terms-in-Select-2.ensures)
    (selects_lead m all c.in-Select.field-0 es ts cs cases (rw c.deref.ensures.value at c.in_ok-terms-in-Select.ensures.means) (rw (c.deref-in-Select.ensures.value, c.deref-in-Select-2.ensures.value) at c.in_ok-cases-in-Select.ensures.alike)))
