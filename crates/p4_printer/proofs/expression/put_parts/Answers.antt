use Rattle.lex_words.specs.declared.key.Key.TheVariants as k
use Rattle.lex_words.specs.Seen.{key}
use Rattle.std.proofs.Common.{◌∷◌, [], map, refl}
use Rattle.p4_printer.specs.Layout.{each_after}
use Rattle.p4_printer.specs.Expressions.{lexemes_of_name}
use Rattle.p4_printer.proofs.Texts.{follows}
use Rattle.p4_printer.proofs.Loops.{step}
use Rattle.p4_printer.proofs.expression.put_parts.Goals as goal

pub loop-name-preserved : goal.loop-name-preserved
loop-name-preserved c =
    step (λ xs. each_after (key k.Dot) (map lexemes_of_name xs)) (λ x. key k.Dot ∷ lexemes_of_name x) refl (λ x xs. refl) c.args.out.now c.loop-name.out c.put_name.new.out c.args.names.now c.name-item.result c.loop-name.name-index
    c.loop-name-test.true c.name-item.is c.loop-name.invariant (follows c.loop-name.out c.put.new.out c.put_name.new.out (key k.Dot ∷ []) (lexemes_of_name c.name-item.result) c.in_ok-put.ensures c.in_ok-put_name.ensures)
