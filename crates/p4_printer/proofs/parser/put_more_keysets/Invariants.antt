use Rattle.lex_words.specs.declared.key.Key.TheVariants as k
use Rattle.lex_words.specs.Seen.{key}
use Rattle.std.proofs.Common.{◌≡◌, ◌++◌, map, take}
use Rattle.p4_tree.specs.View.{keyset_of}
use Rattle.p4_printer.specs.Layout.{written, each_after}
use Rattle.p4_printer.specs.Programs.{lexemes_of_keyset}
use Rattle.p4_printer.proofs.parser.put_more_keysets.Given as goal

abbrev pub invariant-loop-key : goal.invariant-loop-key
invariant-loop-key l = l.out ≡ written l.initial.out (each_after (key k.Comma) (map lexemes_of_keyset (map keyset_of (take l.key-index l.keys))))
