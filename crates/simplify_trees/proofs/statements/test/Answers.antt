use Rattle.std.proofs.Common.{◌≡◌, true, false}
use Rattle.p4_tree.specs.View.{expr_of}
use Rattle.p4_rule_laws.specs.Replaced.{is_outcome}
use Rattle.simplify_rules.specs.Simplified.{IsSimplified}
use Rattle.simplify_trees.proofs.Built.{outcome_built, test_built}
use Rattle.simplify_trees.proofs.statements.test.Goals as goal

pub returns-then-is_outcome : goal.returns-then-is_outcome
returns-then-is_outcome g c =
    let found = c.is_outcome.ensures in
    let so = c.if-is_outcome.true in
    let is : is_outcome (expr_of c.args.e.now) ≡ true = cc in
    outcome_built (IsSimplified (g.R.Offers.Answers c.args.rules.now)) (expr_of c.args.e.now) c.copy.result is c.copy.ensures

pub returns-else-is_outcome : goal.returns-else-is_outcome
returns-else-is_outcome g c =
    let found = c.is_outcome.ensures in
    let so = c.if-is_outcome.false in
    let is : is_outcome (expr_of c.args.e.now) ≡ false = cc in
    test_built (IsSimplified (g.R.Offers.Answers c.args.rules.now)) (expr_of c.args.e.now) c.simplified.result is c.simplified.ensures.walked
