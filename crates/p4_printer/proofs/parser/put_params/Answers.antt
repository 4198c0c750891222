use Rattle.lex_words.specs.declared.key.Key.TheVariants as k
use Rattle.lex_words.specs.Seen.{key}
use Rattle.std.proofs.Common.{map, refl}
use Rattle.p4_printer.specs.Programs.{lexemes_of_param}
use Rattle.p4_printer.proofs.Loops.{none_put, some_put}
use Rattle.p4_printer.proofs.parser.put_params.Goals as goal

pub returns-in_default : goal.returns-in_default
returns-in_default c = none_put (key k.Comma) (λ xs. map lexemes_of_param xs) refl c.args.out.now c.args.params.now c.in_default.len_below

pub returns-in_ok-put_more_params : goal.returns-in_ok-put_more_params
returns-in_ok-put_more_params c =
    some_put (key k.Comma) (λ xs. map lexemes_of_param xs) (λ x. lexemes_of_param x) (λ x xs. refl) c.args.out.now c.put_param.new.out c.put_more_params.new.out c.args.params.now c.first-item.result
    c.in-len1-up.len_at_least c.first-item.is c.in_ok-put_param.ensures c.in_ok-put_more_params.ensures
