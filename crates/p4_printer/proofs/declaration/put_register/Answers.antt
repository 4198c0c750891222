use Rattle.lex_words.specs.declared.key.Key.TheVariants as k
use Rattle.lex_words.specs.Seen.{name, number, key}
use Rattle.p4_printer.specs.Layout.{bare}
use Rattle.std.proofs.Common.{◌++◌, ◌∷◌, []}
use Rattle.p4_printer.specs.Expressions.{lexemes_of_type}
use Rattle.p4_printer.proofs.Texts.{follows}
use Rattle.p4_printer.proofs.declaration.put_register.Goals as goal

pub returns : goal.returns
returns c =
    follows c.args.out.now c.put.new.out c.put-3.new.out (key k.Register ∷ []) ((key k.Less ∷ []) ++ ((lexemes_of_type c.args.register.now.ty) ++ ((key k.More ∷ key k.Open ∷ number (bare c.args.register.now.count) ∷ key k.Close ∷ []) ++ ((name c.args.register.now.name ∷ []) ++ (key k.Semicolon ∷ []))))) c.in_ok-put.ensures
    (follows c.put.new.out c.put-2.new.out c.put-3.new.out (key k.Less ∷ []) ((lexemes_of_type c.args.register.now.ty) ++ ((key k.More ∷ key k.Open ∷ number (bare c.args.register.now.count) ∷ key k.Close ∷ []) ++ ((name c.args.register.now.name ∷ []) ++ (key k.Semicolon ∷ [])))) c.in_ok-put-2.ensures
    (follows c.put-2.new.out c.put_type.new.out c.put-3.new.out (lexemes_of_type c.args.register.now.ty) ((key k.More ∷ key k.Open ∷ number (bare c.args.register.now.count) ∷ key k.Close ∷ []) ++ ((name c.args.register.now.name ∷ []) ++ (key k.Semicolon ∷ []))) c.in_ok-put_type.ensures
    (follows c.put_type.new.out c.put_count.new.out c.put-3.new.out (key k.More ∷ key k.Open ∷ number (bare c.args.register.now.count) ∷ key k.Close ∷ []) ((name c.args.register.now.name ∷ []) ++ (key k.Semicolon ∷ [])) c.in_ok-put_count.ensures
    (follows c.put_count.new.out c.put_name.new.out c.put-3.new.out (name c.args.register.now.name ∷ []) (key k.Semicolon ∷ []) c.in_ok-put_name.ensures
    c.in_ok-put-3.ensures))))
