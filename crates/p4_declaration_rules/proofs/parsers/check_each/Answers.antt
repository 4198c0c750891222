use Rattle.std.proofs.Common.{ap, ◌∙◌}
use Rattle.p4_declaration_rules.specs.Parsers.{state_tests}
use Rattle.p4_tree.specs.View.{state_of}
use Rattle.p4_scopes.specs.View.{scope_of}
use Rattle.p4_statement_rules.specs.Ranks.{first_from}
use Rattle.p4_declaration_rules.proofs.Cyclic.{states_next}
use Rattle.p4_declaration_rules.proofs.parsers.check_each.Goals as goal

pub loop-i-preserved : goal.loop-i-preserved
loop-i-preserved c = record {
  kept = c.in_ok-check_state.ensures.kept ∙ c.loop-i.invariant.kept;
  rest = λ all n h. states_next (scope_of c.args.scope.now) c.loop-i.found.first c.check_state.new.found.first _ all c.args.cyclic.now c.args.states.now c.loop-i.i c.index-states-i.result c.answer.result
      c.loop-i-test.true c.index-states-i.is h c.answer.ensures
      (λ e. c.in_ok-check_state.ensures.found all n e ∙ ap (λ ds. first_from c.loop-i.found.first (state_tests all (scope_of ds) (state_of c.index-states-i.result))) c.loop-i.invariant.kept)
      (c.loop-i.invariant.rest all n h);
}
