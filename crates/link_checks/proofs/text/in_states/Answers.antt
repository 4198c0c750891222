use Rattle.std.proofs.Common.{List, [], ◌∷◌, map, ap, sym, ◌∙◌}
use Rattle.p4_tree.specs.View.{state_of}
use Rattle.p4_tree.specs.declared.program.ParserState as code
use Rattle.link_checks.proofs.Firsts.{state_step}
use Rattle.link_faults.specs.WrittenNames.{first_taken, names_of_states}
use Rattle.link_checks.proofs.Walks.{stops, goes}
use Rattle.link_checks.proofs.text.in_states.Goals as goal

pub returns-then-is_some : goal.returns-then-is_some
returns-then-is_some c =
    stops (λ (xs : List code.ParserState). names_of_states (map state_of xs)) (λ (x : code.ParserState). names_of_states (state_of x ∷ [])) (λ x xs. ap first_taken (state_step (state_of x) (map state_of xs))) c.args.list.now c.loop-s.s-index c.s-item.result c.loop-s-test.true c.s-item.is c.loop-s.invariant
    c.in_state-taken.result (c.in_state-taken.ensures) (sym c.is_some.ensures ∙ c.if-is_some.true)

pub loop-s-preserved : goal.loop-s-preserved
loop-s-preserved c =
    goes (λ (xs : List code.ParserState). names_of_states (map state_of xs)) (λ (x : code.ParserState). names_of_states (state_of x ∷ [])) (λ x xs. ap first_taken (state_step (state_of x) (map state_of xs))) c.args.list.now c.loop-s.s-index c.s-item.result c.loop-s-test.true c.s-item.is c.loop-s.invariant
    c.in_state-taken.result (c.in_state-taken.ensures) (sym c.is_some.ensures ∙ c.if-is_some.false)
