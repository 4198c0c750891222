use Rattle.lex_words.specs.declared.key.Key.TheVariants as k
use Rattle.lex_words.specs.Seen.{key}
use Rattle.std.proofs.Common.{◌≡◌, ◌++◌, map, take}
use Rattle.p4_printer.specs.Layout.{written, each_after}
use Rattle.p4_printer.specs.Programs.{lexemes_of_part}
use Rattle.p4_printer.proofs.program.put_more_parts.Given as goal

abbrev pub invariant-loop-name : goal.invariant-loop-name
invariant-loop-name l = l.out ≡ written l.initial.out (each_after (key k.Comma) (map lexemes_of_part (take l.name-index l.names)))
