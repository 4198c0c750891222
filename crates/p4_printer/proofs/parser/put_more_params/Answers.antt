use Rattle.lex_words.specs.declared.key.Key.TheVariants as k
use Rattle.lex_words.specs.Seen.{key}
use Rattle.std.proofs.Common.{◌∷◌, [], map, refl}
use Rattle.p4_printer.specs.Layout.{each_after}
use Rattle.p4_printer.specs.Programs.{lexemes_of_param}
use Rattle.p4_printer.proofs.Texts.{follows}
use Rattle.p4_printer.proofs.Loops.{step}
use Rattle.p4_printer.proofs.parser.put_more_params.Goals as goal

pub loop-param-preserved : goal.loop-param-preserved
loop-param-preserved c =
    step (λ xs. each_after (key k.Comma) (map lexemes_of_param xs)) (λ x. key k.Comma ∷ lexemes_of_param x) refl (λ x xs. refl) c.args.out.now c.loop-param.out c.put_param.new.out c.args.params.now c.param-item.result c.loop-param.param-index
    c.loop-param-test.true c.param-item.is c.loop-param.invariant (follows c.loop-param.out c.put.new.out c.put_param.new.out (key k.Comma ∷ []) (lexemes_of_param c.param-item.result) c.in_ok-put.ensures c.in_ok-put_param.ensures)
