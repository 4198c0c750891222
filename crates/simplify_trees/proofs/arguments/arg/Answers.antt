use Rattle.std.proofs.Common.{◌≡◌, List, map, true, false, ap, sym, ◌∙◌}
use Rattle.p4_tree.specs.Tree.{many}
use Rattle.p4_tree.specs.declared.statement.Expr as code
use Rattle.p4_tree.specs.View.{arg_of, expr_of}
use Rattle.rewritten_programs.specs.Rewritten.{in_one, in_many}
use Rattle.simplify_rules.specs.Simplified.{IsSimplified}
use Rattle.simplify_trees.proofs.ArgumentLists.{left_arg, value_arg}
use Rattle.simplify_trees.proofs.arguments.arg.Goals as goal

pub returns-then-not-value : goal.returns-then-not-value
returns-then-not-value g c =
    let so = c.if-not-value.true in
    let no : c.args.value ≡ false = cc in
    left_arg (IsSimplified (g.R.Offers.Answers c.args.rules.now)) c.args.value no (arg_of c.args.a.now) c.copy.result c.copy.ensures

pub returns-in_ok-simplified-in-One : goal.returns-in_ok-simplified-in-One
returns-in_ok-simplified-in-One g c =
    let so = c.if-not-value.false in
    let yes : c.args.value ≡ true = cc in
    value_arg (IsSimplified (g.R.Offers.Answers c.args.rules.now)) c.args.value yes (arg_of c.args.a.now) _ _ (ap arg_of c.in-One.is) (in_one c.in-One.at c.in_ok-simplified-in-One.ensures.walked)

pub returns-in_ok-exprs-in-Many : goal.returns-in_ok-exprs-in-Many
returns-in_ok-exprs-in-Many g c =
    let so = c.if-not-value.false in
    let yes : c.args.value ≡ true = cc in
    value_arg (IsSimplified (g.R.Offers.Answers c.args.rules.now)) c.args.value yes (arg_of c.args.a.now) _ _ (ap arg_of c.in-Many.is ∙ ap (λ (es : List code.Expr). many c.in-Many.at (map expr_of es)) (sym c.deref.ensures.value)) (in_many c.in-Many.at c.in_ok-exprs-in-Many.ensures)
