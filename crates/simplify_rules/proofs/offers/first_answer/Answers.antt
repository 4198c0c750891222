use Rattle.std.proofs.Common.{Option, subst}
use Rattle.std.specs.Option.{option_map}
use Rattle.p4_tree.specs.View.{expr_of}
use Rattle.p4_tree.specs.declared.statement.Expr as code
use Rattle.simplify_rules.proofs.FirstAnswers.{answer_found, none_found, none_left}
use Rattle.simplify_rules.proofs.offers.first_answer.Goals as goal

pub loop-rule-init : goal.loop-rule-init
loop-rule-init g c = λ o f. f

pub returns-in-Some : goal.returns-in-Some
returns-in-Some g c =
    answer_found g.R.Offers.Answers (expr_of c.args.e.now) c.args.rules.now c.loop-rule.rule-index c.rule-item.result c.loop-rule-test.true c.rule-item.is c.loop-rule.invariant (expr_of c.in-Some.f)
    (subst (λ (o : Option code.Expr). g.R.Offers.Answers c.rule-item.result (expr_of c.args.e.now) (option_map expr_of o)) c.in-Some.is c.in_ok-f.ensures)

pub loop-rule-preserved : goal.loop-rule-preserved
loop-rule-preserved g c =
    none_found g.R.Offers.Answers (expr_of c.args.e.now) c.args.rules.now c.loop-rule.rule-index c.rule-item.result c.loop-rule-test.true c.rule-item.is c.loop-rule.invariant
    (subst (λ (o : Option code.Expr). g.R.Offers.Answers c.rule-item.result (expr_of c.args.e.now) (option_map expr_of o)) c.in_default.is c.in_ok-f.ensures)

pub returns : goal.returns
returns g c = none_left g.R.Offers.Answers (expr_of c.args.e.now) c.args.rules.now c.loop-rule.rule-index c.loop-rule-test.false c.loop-rule.invariant
