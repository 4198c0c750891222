use Rattle.lex_words.specs.declared.key.Key.TheVariants as k
use Rattle.lex_words.specs.Seen.{key}
use Rattle.std.proofs.Common.{◌≡◌, ◌++◌, map, take}
use Rattle.p4_printer.specs.Layout.{written, each_after}
use Rattle.p4_printer.specs.Programs.{lexemes_of_action_param}
use Rattle.p4_printer.proofs.declaration.put_more_params.Given as goal

abbrev pub invariant-loop-param : goal.invariant-loop-param
invariant-loop-param l = l.out ≡ written l.initial.out (each_after (key k.Comma) (map lexemes_of_action_param (take l.param-index l.params)))
