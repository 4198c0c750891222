use Rattle.lex_words.specs.declared.key.Key.TheVariants as k
use Rattle.lex_words.specs.Seen.{key}
use Rattle.std.proofs.Common.{append_assoc, [], ◌++◌, ◌∷◌, refl, sym, ap, ◌∙◌}
use Rattle.p4_tree.specs.View.{expr_of, stmt_of, stmts_of, else_of}
use Rattle.p4_printer.specs.Layout.{written, bracketed}
use Rattle.p4_printer.specs.Expressions.{lexemes_of_expr}
use Rattle.p4_printer.specs.Statements.{lexemes_of_stmt, lexemes_of_stmts, lexemes_of_else}
use Rattle.p4_printer.proofs.Texts.{follows}
use Rattle.p4_printer.proofs.Loops.{step}
use Rattle.p4_printer.proofs.Views.{stmt_of-If}
use Rattle.p4_printer.proofs.statement.+put_stmt.Goals as goal

pub put_stmt-returns-in_ok-put_else-in-If : goal.put_stmt-returns-in_ok-put_else-in-If
put_stmt-returns-in_ok-put_else-in-If t c =
    follows c.args.out.now c.put_test.new.out c.put_else.new.out (key k.If ∷ bracketed (lexemes_of_expr (expr_of c.in-If.e))) (lexemes_of_stmt (stmt_of c.in-If.a.value) ++ lexemes_of_else (else_of c.in-If.b))
    c.in_ok-put_test-in-If.ensures
    (follows c.put_test.new.out c.put_stmt.new.out c.put_else.new.out (lexemes_of_stmt (stmt_of c.in-If.a.value)) (lexemes_of_else (else_of c.in-If.b))
    (rw c.deref-in-If.ensures at c.in_ok-put_stmt-in-If.ensures) c.in_ok-put_else-in-If.ensures)
    ∙ ap (λ z. written c.args.out.now (key k.If ∷ key k.Open ∷ z)) (append_assoc (lexemes_of_expr (expr_of c.in-If.e)) (key k.Close ∷ []) (lexemes_of_stmt (stmt_of c.in-If.a.value) ++ lexemes_of_else (else_of c.in-If.b)))
    ∙ ap (λ z. written c.args.out.now (lexemes_of_stmt z)) (sym (ap stmt_of c.in-If.is ∙ stmt_of-If c.in-If.field-0 c.in-If.e c.in-If.a c.in-If.b))

pub put_stmts-loop-s-preserved : goal.put_stmts-loop-s-preserved
put_stmts-loop-s-preserved t c =
    step (λ xs. lexemes_of_stmts (stmts_of xs)) (λ x. lexemes_of_stmt (stmt_of x)) refl (λ x xs. refl) c.args.out.now c.loop-s.out c.put_stmt.new.out c.args.list.now c.s-item.result c.loop-s.s-index
    c.loop-s-test.true c.s-item.is c.loop-s.invariant c.in_ok-put_stmt.ensures
