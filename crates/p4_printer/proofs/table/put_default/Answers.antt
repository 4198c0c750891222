use Rattle.lex_words.specs.declared.key.Key.TheVariants as k
use Rattle.lex_words.specs.Seen.{name, key}
use Rattle.std.proofs.Common.{◌++◌, ◌∷◌, [], sym, ap, ◌∙◌}
use Rattle.std.specs.Option.{option_map}
use Rattle.p4_spelling.specs.Words.{default_name}
use Rattle.p4_tree.specs.View.{default_of}
use Rattle.p4_printer.specs.Layout.{written}
use Rattle.p4_printer.specs.Programs.{lexemes_of_default, lexemes_of_given, lexemes_of_fixed}
use Rattle.p4_printer.proofs.Texts.{follows}
use Rattle.p4_printer.proofs.table.put_default.Goals as goal

pub returns-in_ok-put_given : goal.returns-in_ok-put_given
returns-in_ok-put_given c =
    follows c.args.out.now c.put_fixed.new.out c.put_given.new.out (lexemes_of_fixed c.args.fixed) ((name default_name ∷ []) ++ ((key k.Assign ∷ []) ++ (lexemes_of_given (default_of c.in-Some.given)))) c.in_ok-put_fixed.ensures
    (follows c.put_fixed.new.out c.put_word.new.out c.put_given.new.out (name default_name ∷ []) ((key k.Assign ∷ []) ++ (lexemes_of_given (default_of c.in-Some.given))) c.in_ok-put_word.ensures
    (follows c.put_word.new.out c.put.new.out c.put_given.new.out (key k.Assign ∷ []) (lexemes_of_given (default_of c.in-Some.given)) c.in_ok-put.ensures
    c.in_ok-put_given.ensures))
    ∙ ap (λ o. written c.args.out.now (lexemes_of_default c.args.fixed (option_map default_of o))) (sym c.in-Some.is)
