use Rattle.lex_words.specs.declared.key.Key.TheVariants as k
use Rattle.lex_words.specs.Seen.{key}
use Rattle.std.proofs.Common.{◌∷◌, [], map, refl}
use Rattle.p4_printer.specs.Layout.{each_after}
use Rattle.p4_printer.specs.Programs.{lexemes_of_part}
use Rattle.p4_printer.proofs.Texts.{follows}
use Rattle.p4_printer.proofs.Loops.{step}
use Rattle.p4_printer.proofs.program.put_more_parts.Goals as goal

pub loop-name-preserved : goal.loop-name-preserved
loop-name-preserved c =
    step (λ xs. each_after (key k.Comma) (map lexemes_of_part xs)) (λ x. key k.Comma ∷ lexemes_of_part x) refl (λ x xs. refl) c.args.out.now c.loop-name.out c.put_part.new.out c.args.names.now c.name-item.result c.loop-name.name-index
    c.loop-name-test.true c.name-item.is c.loop-name.invariant (follows c.loop-name.out c.put.new.out c.put_part.new.out (key k.Comma ∷ []) (lexemes_of_part c.name-item.result) c.in_ok-put.ensures c.in_ok-put_part.ensures)
