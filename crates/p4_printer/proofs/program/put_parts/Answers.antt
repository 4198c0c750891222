use Rattle.lex_words.specs.declared.key.Key.TheVariants as k
use Rattle.lex_words.specs.Seen.{key}
use Rattle.std.proofs.Common.{map, refl}
use Rattle.p4_printer.specs.Programs.{lexemes_of_part}
use Rattle.p4_printer.proofs.Loops.{none_put, some_put}
use Rattle.p4_printer.proofs.program.put_parts.Goals as goal

pub returns-in_default : goal.returns-in_default
returns-in_default c = none_put (key k.Comma) (λ xs. map lexemes_of_part xs) refl c.args.out.now c.args.names.now c.in_default.len_below

pub returns-in_ok-put_more_parts : goal.returns-in_ok-put_more_parts
returns-in_ok-put_more_parts c =
    some_put (key k.Comma) (λ xs. map lexemes_of_part xs) (λ x. lexemes_of_part x) (λ x xs. refl) c.args.out.now c.put_part.new.out c.put_more_parts.new.out c.args.names.now c.first-item.result
    c.in-len1-up.len_at_least c.first-item.is c.in_ok-put_part.ensures c.in_ok-put_more_parts.ensures
