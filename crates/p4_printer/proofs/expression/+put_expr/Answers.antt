use Rattle.lex_words.specs.declared.key.Key.TheVariants as k
use Rattle.lex_words.specs.Seen.{key}
use Rattle.std.proofs.Common.{append_assoc, ◌++◌, ◌∷◌, [], sym, ap, ◌∙◌}
use Rattle.p4_tree.specs.View.{expr_of}
use Rattle.p4_printer.specs.Layout.{written}
use Rattle.p4_printer.specs.Expressions.{lexemes_of_expr, key_of_op}
use Rattle.p4_printer.proofs.Texts.{follows}
use Rattle.p4_printer.proofs.Views.{expr_of-Bin, expr_of-Choice}
use Rattle.p4_printer.proofs.expression.+put_expr.Goals as goal

pub put_expr-returns-in_ok-put_right-in-Bin : goal.put_expr-returns-in_ok-put_right-in-Bin
put_expr-returns-in_ok-put_right-in-Bin t c =
    follows c.args.out.now c.put_left.new.out c.put_right.new.out (key k.Open ∷ lexemes_of_expr (expr_of c.in-Bin.a.value)) (key (key_of_op c.in-Bin.op) ∷ (lexemes_of_expr (expr_of c.in-Bin.b.value) ++ key k.Close ∷ []))
    (rw c.deref-in-Bin.ensures at c.in_ok-put_left-in-Bin.ensures) (rw c.deref-in-Bin-2.ensures at c.in_ok-put_right-in-Bin.ensures)
    ∙ ap (λ z. written c.args.out.now (key k.Open ∷ z)) (sym (append_assoc (lexemes_of_expr (expr_of c.in-Bin.a.value)) (key (key_of_op c.in-Bin.op) ∷ lexemes_of_expr (expr_of c.in-Bin.b.value)) (key k.Close ∷ [])))
    ∙ ap (λ z. written c.args.out.now (lexemes_of_expr z)) (sym (ap expr_of c.in-Bin.is ∙ expr_of-Bin c.in-Bin.field-0 c.in-Bin.op c.in-Bin.a c.in-Bin.b))

pub put_expr-returns-in_ok-put_elsewhere-in-Choice : goal.put_expr-returns-in_ok-put_elsewhere-in-Choice
put_expr-returns-in_ok-put_elsewhere-in-Choice t c =
    follows c.args.out.now c.put_left-in-Choice.new.out c.put_elsewhere.new.out (key k.Open ∷ lexemes_of_expr (expr_of c.in-Choice.test.value)) ((key k.Question ∷ lexemes_of_expr (expr_of c.in-Choice.a.value)) ++ (key k.Colon ∷ (lexemes_of_expr (expr_of c.in-Choice.b.value) ++ key k.Close ∷ [])))
    (rw c.deref-in-Choice.ensures at c.in_ok-put_left-in-Choice.ensures)
    (follows c.put_left-in-Choice.new.out c.put_held.new.out c.put_elsewhere.new.out (key k.Question ∷ lexemes_of_expr (expr_of c.in-Choice.a.value)) (key k.Colon ∷ (lexemes_of_expr (expr_of c.in-Choice.b.value) ++ key k.Close ∷ []))
    (rw c.deref-in-Choice-2.ensures at c.in_ok-put_held-in-Choice.ensures) (rw c.deref-in-Choice-3.ensures at c.in_ok-put_elsewhere-in-Choice.ensures))
    ∙ ap (λ z. written c.args.out.now (key k.Open ∷ (lexemes_of_expr (expr_of c.in-Choice.test.value) ++ key k.Question ∷ z))) (sym (append_assoc (lexemes_of_expr (expr_of c.in-Choice.a.value)) (key k.Colon ∷ lexemes_of_expr (expr_of c.in-Choice.b.value)) (key k.Close ∷ [])))
    ∙ ap (λ z. written c.args.out.now (key k.Open ∷ z)) (sym (append_assoc (lexemes_of_expr (expr_of c.in-Choice.test.value)) (key k.Question ∷ (lexemes_of_expr (expr_of c.in-Choice.a.value) ++ key k.Colon ∷ lexemes_of_expr (expr_of c.in-Choice.b.value))) (key k.Close ∷ [])))
    ∙ ap (λ z. written c.args.out.now (lexemes_of_expr z)) (sym (ap expr_of c.in-Choice.is ∙ expr_of-Choice c.in-Choice.field-0 c.in-Choice.test c.in-Choice.a c.in-Choice.b))
