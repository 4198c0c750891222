use Rattle.lex_words.specs.declared.key.Key.TheVariants as k
use Rattle.lex_words.specs.Seen.{key}
use Rattle.std.proofs.Common.{map, refl}
use Rattle.p4_tree.specs.View.{keyset_of}
use Rattle.p4_printer.specs.Programs.{lexemes_of_keyset}
use Rattle.p4_printer.proofs.Loops.{none_put, some_put}
use Rattle.p4_printer.proofs.parser.put_keysets.Goals as goal

pub returns-in_default : goal.returns-in_default
returns-in_default c = none_put (key k.Comma) (λ xs. map lexemes_of_keyset (map keyset_of xs)) refl c.args.out.now c.args.keys.now c.in_default.len_below

pub returns-in_ok-put_more_keysets : goal.returns-in_ok-put_more_keysets
returns-in_ok-put_more_keysets c =
    some_put (key k.Comma) (λ xs. map lexemes_of_keyset (map keyset_of xs)) (λ x. lexemes_of_keyset (keyset_of x)) (λ x xs. refl) c.args.out.now c.put_keyset.new.out c.put_more_keysets.new.out c.args.keys.now c.first-item.result
    c.in-len1-up.len_at_least c.first-item.is c.in_ok-put_keyset.ensures c.in_ok-put_more_keysets.ensures
