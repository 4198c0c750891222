use Rattle.lex_words.specs.declared.key.Key.TheVariants as k
use Rattle.lex_words.specs.Seen.{key}
use Rattle.std.proofs.Common.{map, refl}
use Rattle.p4_tree.specs.View.{expr_of}
use Rattle.p4_printer.specs.Expressions.{lexemes_of_expr}
use Rattle.p4_printer.proofs.Loops.{none_put, some_put}
use Rattle.p4_printer.proofs.expression.put_exprs.Goals as goal

pub returns-in_default : goal.returns-in_default
returns-in_default c = none_put (key k.Comma) (λ xs. map lexemes_of_expr (map expr_of xs)) refl c.args.out.now c.args.exprs.now c.in_default.len_below

pub returns-in_ok-put_more_exprs : goal.returns-in_ok-put_more_exprs
returns-in_ok-put_more_exprs c =
    some_put (key k.Comma) (λ xs. map lexemes_of_expr (map expr_of xs)) (λ x. lexemes_of_expr (expr_of x)) (λ x xs. refl) c.args.out.now c.put_expr.new.out c.put_more_exprs.new.out c.args.exprs.now c.first-item.result
    c.in-len1-up.len_at_least c.first-item.is c.in_ok-put_expr.ensures c.in_ok-put_more_exprs.ensures
