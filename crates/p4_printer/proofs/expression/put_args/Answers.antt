use Rattle.lex_words.specs.declared.key.Key.TheVariants as k
use Rattle.lex_words.specs.Seen.{key}
use Rattle.std.proofs.Common.{map, refl}
use Rattle.p4_tree.specs.View.{arg_of}
use Rattle.p4_printer.specs.Expressions.{lexemes_of_arg}
use Rattle.p4_printer.proofs.Loops.{none_put, some_put}
use Rattle.p4_printer.proofs.expression.put_args.Goals as goal

pub returns-in_default : goal.returns-in_default
returns-in_default c = none_put (key k.Comma) (λ xs. map lexemes_of_arg (map arg_of xs)) refl c.args.out.now c.args.args.now c.in_default.len_below

pub returns-in_ok-put_more_args : goal.returns-in_ok-put_more_args
returns-in_ok-put_more_args c =
    some_put (key k.Comma) (λ xs. map lexemes_of_arg (map arg_of xs)) (λ x. lexemes_of_arg (arg_of x)) (λ x xs. refl) c.args.out.now c.put_arg.new.out c.put_more_args.new.out c.args.args.now c.first-item.result
    c.in-len1-up.len_at_least c.first-item.is c.in_ok-put_arg.ensures c.in_ok-put_more_args.ensures
