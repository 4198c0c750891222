use Rattle.lex_words.specs.declared.key.Key.TheVariants as k
use Rattle.lex_words.specs.Seen.{name, key}
use Rattle.std.specs.Option.{option_map}
use Rattle.std.proofs.Common.{◌++◌, ◌∷◌, []}
use Rattle.p4_tree.specs.View.{expr_of}
use Rattle.p4_printer.specs.Expressions.{lexemes_of_type}
use Rattle.p4_printer.specs.Statements.{lexemes_of_start}
use Rattle.p4_printer.proofs.Texts.{follows}
use Rattle.p4_printer.proofs.statement.put_var.Goals as goal

pub returns : goal.returns
returns c =
    follows c.args.out.now c.put_type.new.out c.put.new.out (lexemes_of_type c.args.ty.now) ((name c.args.name.now ∷ []) ++ ((lexemes_of_start (option_map expr_of c.args.start.now)) ++ (key k.Semicolon ∷ []))) c.in_ok-put_type.ensures
    (follows c.put_type.new.out c.put_name.new.out c.put.new.out (name c.args.name.now ∷ []) ((lexemes_of_start (option_map expr_of c.args.start.now)) ++ (key k.Semicolon ∷ [])) c.in_ok-put_name.ensures
    (follows c.put_name.new.out c.put_start.new.out c.put.new.out (lexemes_of_start (option_map expr_of c.args.start.now)) (key k.Semicolon ∷ []) c.in_ok-put_start.ensures
    c.in_ok-put.ensures))
