use Rattle.lex_words.specs.declared.key.Key.TheVariants as k
use Rattle.lex_words.specs.Seen.{key}
use Rattle.std.proofs.Common.{◌≡◌, ◌++◌, map, take}
use Rattle.p4_tree.specs.View.{arg_of}
use Rattle.p4_printer.specs.Layout.{written, each_after}
use Rattle.p4_printer.specs.Expressions.{lexemes_of_arg}
use Rattle.p4_printer.proofs.expression.put_more_args.Given as goal

abbrev pub invariant-loop-arg : goal.invariant-loop-arg
invariant-loop-arg l = l.out ≡ written l.initial.out (each_after (key k.Comma) (map lexemes_of_arg (map arg_of (take l.arg-index l.args))))
