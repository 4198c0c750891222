use Rattle.lex_words.specs.declared.key.Key.TheVariants as k
use Rattle.lex_words.specs.Seen.{name, key}
use Rattle.std.proofs.Common.{◌++◌, ◌∷◌, []}
use Rattle.p4_spelling.specs.Words.{valid_name}
use Rattle.p4_printer.specs.Expressions.{lexemes_of_path}
use Rattle.p4_printer.proofs.Texts.{follows}
use Rattle.p4_printer.proofs.expression.put_valid.Goals as goal

pub returns : goal.returns
returns c =
    follows c.args.out.now c.put_path.new.out c.put-3.new.out (lexemes_of_path c.args.header.now) ((key k.Dot ∷ []) ++ ((name valid_name ∷ []) ++ ((key k.Open ∷ []) ++ (key k.Close ∷ [])))) c.in_ok-put_path.ensures
    (follows c.put_path.new.out c.put.new.out c.put-3.new.out (key k.Dot ∷ []) ((name valid_name ∷ []) ++ ((key k.Open ∷ []) ++ (key k.Close ∷ []))) c.in_ok-put.ensures
    (follows c.put.new.out c.put_word.new.out c.put-3.new.out (name valid_name ∷ []) ((key k.Open ∷ []) ++ (key k.Close ∷ [])) c.in_ok-put_word.ensures
    (follows c.put_word.new.out c.put-2.new.out c.put-3.new.out (key k.Open ∷ []) (key k.Close ∷ []) c.in_ok-put-2.ensures
    c.in_ok-put-3.ensures)))
