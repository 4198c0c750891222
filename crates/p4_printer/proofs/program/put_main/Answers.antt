use Rattle.lex_words.specs.declared.key.Key.TheVariants as k
use Rattle.lex_words.specs.Seen.{name, key}
use Rattle.std.proofs.Common.{◌++◌, ◌∷◌, [], map}
use Rattle.p4_spelling.specs.Words.{main_name}
use Rattle.p4_printer.specs.Layout.{separated}
use Rattle.p4_printer.specs.Programs.{lexemes_of_part}
use Rattle.p4_printer.proofs.Texts.{follows}
use Rattle.p4_printer.proofs.program.put_main.Goals as goal

pub returns : goal.returns
returns c =
    follows c.args.out.now c.put.new.out c.put-4.new.out (key k.V1Switch ∷ []) ((key k.Open ∷ []) ++ ((separated (key k.Comma) (map lexemes_of_part c.args.names.now)) ++ ((key k.Close ∷ []) ++ ((name main_name ∷ []) ++ (key k.Semicolon ∷ []))))) c.in_ok-put.ensures
    (follows c.put.new.out c.put-2.new.out c.put-4.new.out (key k.Open ∷ []) ((separated (key k.Comma) (map lexemes_of_part c.args.names.now)) ++ ((key k.Close ∷ []) ++ ((name main_name ∷ []) ++ (key k.Semicolon ∷ [])))) c.in_ok-put-2.ensures
    (follows c.put-2.new.out c.put_parts.new.out c.put-4.new.out (separated (key k.Comma) (map lexemes_of_part c.args.names.now)) ((key k.Close ∷ []) ++ ((name main_name ∷ []) ++ (key k.Semicolon ∷ []))) c.in_ok-put_parts.ensures
    (follows c.put_parts.new.out c.put-3.new.out c.put-4.new.out (key k.Close ∷ []) ((name main_name ∷ []) ++ (key k.Semicolon ∷ [])) c.in_ok-put-3.ensures
    (follows c.put-3.new.out c.put_word.new.out c.put-4.new.out (name main_name ∷ []) (key k.Semicolon ∷ []) c.in_ok-put_word.ensures
    c.in_ok-put-4.ensures))))
