use Rattle.lex_words.specs.declared.key.Key.TheVariants as k
use Rattle.lex_words.specs.Seen.{key}
use Rattle.std.proofs.Common.{map, refl}
use Rattle.p4_printer.specs.Expressions.{lexemes_of_name}
use Rattle.p4_printer.proofs.Loops.{none_put, some_put}
use Rattle.p4_printer.proofs.expression.put_path.Goals as goal

pub returns-in_default : goal.returns-in_default
returns-in_default c = none_put (key k.Dot) (λ xs. map lexemes_of_name xs) refl c.args.out.now c.args.names.now c.in_default.len_below

pub returns-in_ok-put_parts : goal.returns-in_ok-put_parts
returns-in_ok-put_parts c =
    some_put (key k.Dot) (λ xs. map lexemes_of_name xs) (λ x. lexemes_of_name x) (λ x xs. refl) c.args.out.now c.put_name.new.out c.put_parts.new.out c.args.names.now c.first-item.result
    c.in-len1-up.len_at_least c.first-item.is c.in_ok-put_name.ensures c.in_ok-put_parts.ensures
