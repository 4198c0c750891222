use Rattle.std.proofs.Common.{ap, ◌∙◌, map}
use Rattle.std.proofs.Math.Seq.{take_all}
use Rattle.indus_tree.specs.Tree.{exprs_from}
use Rattle.indus_tree.specs.View.{decl_of, expr_of}
use Rattle.indus_tree.specs.declared.tree.Expr as code
use Rattle.lower_lists.specs.Flat.{flat_expr}
use Rattle.lower_lists.proofs.Views.{all_flat}
use Rattle.lower_lists.proofs.expressions.+flat_expr.Goals as goal

pub flat_exprs-returns : goal.flat_exprs-returns
flat_exprs-returns t c =
    let ds = map decl_of c.args.typed.now.decls.items in
    ap exprs_from (c.loop-e.invariant ∙ ap (map (λ (e : code.Expr). flat_expr ds c.args.bounds.now (expr_of e))) (take_all c.loop-e.e-index c.args.all.now c.loop-e-test.false))
    ∙ all_flat ds c.args.bounds.now c.args.all.now
