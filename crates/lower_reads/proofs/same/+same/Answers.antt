use Rattle.std.proofs.Common.{◌∙◌, List, drop_of_length-le, sym, ap, arith}
use Rattle.indus_tree.specs.View.{exprs_of}
use Rattle.indus_tree.specs.declared.tree.Expr.{Expr}
use Rattle.lowered_code.specs.Same.{same_exprs}
use Rattle.lower_reads.proofs.Sides.{none_left}
use Rattle.lower_reads.proofs.same.+same.Goals as goal

pub same_exprs-returns : goal.same_exprs-returns
same_exprs-returns t c =
    c.is_empty.ensures ∙ none_left c.loop-a.right.now
    ∙ ap (λ (es : List Expr). same_exprs (exprs_of es) (exprs_of c.loop-a.right.now)) (sym (drop_of_length-le c.args.es.now c.loop-a-test.false))
    ∙ c.loop-a.invariant
