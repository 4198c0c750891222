use Rattle.lex_words.specs.declared.key.Key.TheVariants as k
use Rattle.lex_words.specs.Seen.{key}
use Rattle.std.proofs.Common.{◌∷◌, [], map, refl}
use Rattle.p4_tree.specs.View.{expr_of}
use Rattle.p4_printer.specs.Layout.{each_after}
use Rattle.p4_printer.specs.Expressions.{lexemes_of_expr}
use Rattle.p4_printer.proofs.Texts.{follows}
use Rattle.p4_printer.proofs.Loops.{step}
use Rattle.p4_printer.proofs.expression.put_more_exprs.Goals as goal

pub loop-expr-preserved : goal.loop-expr-preserved
loop-expr-preserved c =
    step (λ xs. each_after (key k.Comma) (map lexemes_of_expr (map expr_of xs))) (λ x. key k.Comma ∷ lexemes_of_expr (expr_of x)) refl (λ x xs. refl) c.args.out.now c.loop-expr.out c.put_expr.new.out c.args.exprs.now c.expr-item.result c.loop-expr.expr-index
    c.loop-expr-test.true c.expr-item.is c.loop-expr.invariant (follows c.loop-expr.out c.put.new.out c.put_expr.new.out (key k.Comma ∷ []) (lexemes_of_expr (expr_of c.expr-item.result)) c.in_ok-put.ensures c.in_ok-put_expr.ensures)
