use Rattle.lex_words.specs.declared.key.Key.TheVariants as k
use Rattle.lex_words.specs.Seen.{key}
use Rattle.std.proofs.Common.{◌∷◌, [], map, refl}
use Rattle.p4_tree.specs.View.{keyset_of}
use Rattle.p4_printer.specs.Layout.{each_after}
use Rattle.p4_printer.specs.Programs.{lexemes_of_keyset}
use Rattle.p4_printer.proofs.Texts.{follows}
use Rattle.p4_printer.proofs.Loops.{step}
use Rattle.p4_printer.proofs.parser.put_more_keysets.Goals as goal

pub loop-key-preserved : goal.loop-key-preserved
loop-key-preserved c =
    step (λ xs. each_after (key k.Comma) (map lexemes_of_keyset (map keyset_of xs))) (λ x. key k.Comma ∷ lexemes_of_keyset (keyset_of x)) refl (λ x xs. refl) c.args.out.now c.loop-key.out c.put_keyset.new.out c.args.keys.now c.key-item.result c.loop-key.key-index
    c.loop-key-test.true c.key-item.is c.loop-key.invariant (follows c.loop-key.out c.put.new.out c.put_keyset.new.out (key k.Comma ∷ []) (lexemes_of_keyset (keyset_of c.key-item.result)) c.in_ok-put.ensures c.in_ok-put_keyset.ensures)
