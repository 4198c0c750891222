use Rattle.lex_words.specs.declared.key.Key.TheVariants as k
use Rattle.lex_words.specs.Seen.{key}
use Rattle.std.proofs.Common.{◌∷◌, [], map, refl}
use Rattle.p4_tree.specs.View.{arg_of}
use Rattle.p4_printer.specs.Layout.{each_after}
use Rattle.p4_printer.specs.Expressions.{lexemes_of_arg}
use Rattle.p4_printer.proofs.Texts.{follows}
use Rattle.p4_printer.proofs.Loops.{step}
use Rattle.p4_printer.proofs.expression.put_more_args.Goals as goal

pub loop-arg-preserved : goal.loop-arg-preserved
loop-arg-preserved c =
    step (λ xs. each_after (key k.Comma) (map lexemes_of_arg (map arg_of xs))) (λ x. key k.Comma ∷ lexemes_of_arg (arg_of x)) refl (λ x xs. refl) c.args.out.now c.loop-arg.out c.put_arg.new.out c.args.args.now c.arg-item.result c.loop-arg.arg-index
    c.loop-arg-test.true c.arg-item.is c.loop-arg.invariant (follows c.loop-arg.out c.put.new.out c.put_arg.new.out (key k.Comma ∷ []) (lexemes_of_arg (arg_of c.arg-item.result)) c.in_ok-put.ensures c.in_ok-put_arg.ensures)
