use Rattle.lex_words.specs.declared.key.Key.TheVariants as k
use Rattle.lex_words.specs.Seen.{name, key}
use Rattle.std.proofs.Common.{◌++◌, ◌∷◌, [], map}
use Rattle.p4_tree.specs.View.{keyset_of}
use Rattle.p4_printer.specs.Programs.{lexemes_of_keys}
use Rattle.p4_printer.proofs.Texts.{follows}
use Rattle.p4_printer.proofs.parser.put_case.Goals as goal

pub returns : goal.returns
returns c =
    follows c.args.out.now c.put_keys.new.out c.put-2.new.out (lexemes_of_keys (map keyset_of c.args.case.now.0.items)) ((key k.Colon ∷ []) ++ ((name c.args.case.now.1 ∷ []) ++ (key k.Semicolon ∷ []))) (rw c.deref.ensures.value at c.in_ok-put_keys.ensures)
    (follows c.put_keys.new.out c.put.new.out c.put-2.new.out (key k.Colon ∷ []) ((name c.args.case.now.1 ∷ []) ++ (key k.Semicolon ∷ [])) c.in_ok-put.ensures
    (follows c.put.new.out c.put_name.new.out c.put-2.new.out (name c.args.case.now.1 ∷ []) (key k.Semicolon ∷ []) c.in_ok-put_name.ensures
    c.in_ok-put-2.ensures))
