use Rattle.std.proofs.Common.{Option, ap}
use Rattle.std.specs.Option.{option_map}
use Rattle.p4_tree.specs.View.{expr_of}
use Rattle.p4_tree.specs.declared.statement.Expr as code
use Rattle.simplify_rules.specs.Simplified.{IsSimplified}
use Rattle.simplify_trees.proofs.Built.{no_start_built, start_built}
use Rattle.simplify_trees.proofs.statements.start.Goals as goal

pub returns-in-None : goal.returns-in-None
returns-in-None g c = no_start_built (IsSimplified (g.R.Offers.Answers c.args.rules.now)) (option_map expr_of c.args.e.now) (ap (λ (o : Option code.Expr). option_map expr_of o) c.in-None.is)

pub returns-in_ok-simplified-in-Some : goal.returns-in_ok-simplified-in-Some
returns-in_ok-simplified-in-Some g c =
    start_built (IsSimplified (g.R.Offers.Answers c.args.rules.now)) (option_map expr_of c.args.e.now) (expr_of c.in-Some.e) (expr_of c.in_ok-simplified-in-Some.field-0)
    (ap (λ (o : Option code.Expr). option_map expr_of o) c.in-Some.is) c.in_ok-simplified-in-Some.ensures.walked
