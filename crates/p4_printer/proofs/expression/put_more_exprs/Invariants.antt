use Rattle.lex_words.specs.declared.key.Key.TheVariants as k
use Rattle.lex_words.specs.Seen.{key}
use Rattle.std.proofs.Common.{◌≡◌, ◌++◌, map, take}
use Rattle.p4_tree.specs.View.{expr_of}
use Rattle.p4_printer.specs.Layout.{written, each_after}
use Rattle.p4_printer.specs.Expressions.{lexemes_of_expr}
use Rattle.p4_printer.proofs.expression.put_more_exprs.Given as goal

abbrev pub invariant-loop-expr : goal.invariant-loop-expr
invariant-loop-expr l = l.out ≡ written l.initial.out (each_after (key k.Comma) (map lexemes_of_expr (map expr_of (take l.expr-index l.exprs))))
