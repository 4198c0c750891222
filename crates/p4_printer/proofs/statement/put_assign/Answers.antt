use Rattle.lex_words.specs.declared.key.Key.TheVariants as k
use Rattle.lex_words.specs.Seen.{key}
use Rattle.std.proofs.Common.{◌++◌, ◌∷◌, []}
use Rattle.p4_tree.specs.View.{expr_of}
use Rattle.p4_printer.specs.Expressions.{lexemes_of_path, lexemes_of_expr}
use Rattle.p4_printer.proofs.Texts.{follows}
use Rattle.p4_printer.proofs.statement.put_assign.Goals as goal

pub returns : goal.returns
returns c =
    follows c.args.out.now c.put_path.new.out c.put-2.new.out (lexemes_of_path c.args.target.now) ((key k.Assign ∷ []) ++ ((lexemes_of_expr (expr_of c.args.e.now)) ++ (key k.Semicolon ∷ []))) c.in_ok-put_path.ensures
    (follows c.put_path.new.out c.put.new.out c.put-2.new.out (key k.Assign ∷ []) ((lexemes_of_expr (expr_of c.args.e.now)) ++ (key k.Semicolon ∷ [])) c.in_ok-put.ensures
    (follows c.put.new.out c.put_expr.new.out c.put-2.new.out (lexemes_of_expr (expr_of c.args.e.now)) (key k.Semicolon ∷ []) c.in_ok-put_expr.ensures
    c.in_ok-put-2.ensures))
