use Rattle.lex_words.specs.declared.key.Key.TheVariants as k
use Rattle.lex_words.specs.Seen.{name, key}
use Rattle.std.proofs.Common.{◌++◌, ◌∷◌, []}
use Rattle.p4_printer.proofs.Texts.{follows}
use Rattle.p4_printer.proofs.parser.put_next.Goals as goal

pub returns : goal.returns
returns c =
    follows c.args.out.now c.put.new.out c.put-2.new.out (key k.Transition ∷ []) ((name c.args.name.now ∷ []) ++ (key k.Semicolon ∷ [])) c.in_ok-put.ensures
    (follows c.put.new.out c.put_name.new.out c.put-2.new.out (name c.args.name.now ∷ []) (key k.Semicolon ∷ []) c.in_ok-put_name.ensures
    c.in_ok-put-2.ensures)
