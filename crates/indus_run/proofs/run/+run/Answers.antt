use Rattle.std.proofs.Common.{rules, ◌≡◌, ℕ, List, map, ap, sym, ◌∙◌}
use Rattle.indus_tree.specs.Meaning.{stmt_run, turns_of}
use Rattle.indus_tree.specs.View.{block_of, stmt_of}
use Rattle.indus_tree.specs.declared.tree.DeclKind.TheVariants.{Tele}
use Rattle.indus_tree.specs.Tree.{Stmt, loop}
use Rattle.indus_tree.specs.declared.tree.Stmt as code_stmt
use Rattle.indus_tree.specs.declared.tree.Stmt.TheViews.{the_lemmas}
use Rattle.indus_tree.specs.declared.tree.Stmt.TheFolds.{fold_out-Stmt}
use Rattle.indus_values.specs.View.{Cells, cells_in, cells_of, decls_of, doing_of, hop_of}
use Rattle.indus_run.proofs.RunLemmas.{on_ok, same_turns}
use Rattle.indus_run.proofs.run.+run.Goals as goal

pub stmt_run-returns-in_ok-turns-in-For-clause-does :
    goal.stmt_run-returns-in_ok-turns-in-For-clause-does
stmt_run-returns-in_ok-turns-in-For-clause-does t c =
    let shape : stmt_of (code_stmt.For c.in-For.field-0 c.in-For.names c.in-For.lists c.in-For.a) ≡ loop c.in-For.field-0 c.in-For.names.items c.in-For.lists.items (block_of c.in-For.a.items) = search (rules, the_lemmas, fold_out-Stmt) in
    on_ok c.run_turns.result _
    (doing_of (decls_of c.args.env.now) c.run_turns.new.tele c.run_turns.new.sensors c.run_turns.new.out ≡ stmt_run (hop_of c.args.env.now) c.args.items.now (stmt_of c.args.s.now) (doing_of (decls_of c.args.env.now) c.args.tele.now c.args.sensors.now c.args.out.now))
    (same_turns (hop_of c.args.env.now) c.args.items.now _ c.in-For.names.items _ (block_of c.in-For.a.items) _
    (turns_of (map (cells_in Tele (decls_of c.args.env.now) c.args.tele.now.items.items) c.in-For.lists.items))
    (doing_of (decls_of c.args.env.now) c.args.tele.now c.args.sensors.now c.args.out.now)
    (doing_of (decls_of c.args.env.now) c.run_turns.new.tele c.run_turns.new.sensors c.run_turns.new.out)
    (stmt_run (hop_of c.args.env.now) c.args.items.now (stmt_of c.args.s.now) (doing_of (decls_of c.args.env.now) c.args.tele.now c.args.sensors.now c.args.out.now))
    c.deref-in-For-2.ensures.value
    (ap block_of c.deref-in-For-4.ensures.value)
    (ap (λ (z : List Cells). map cells_of z) c.deref-in-For-3.ensures.value
    ∙ c.in_ok-turns-in-For.ensures
    ∙ ap (λ (z : List (List ℕ)). turns_of (map (cells_in Tele (decls_of c.args.env.now) c.args.tele.now.items.items) z)) c.deref-in-For.ensures.value)
    (ap (λ (z : Stmt). stmt_run (hop_of c.args.env.now) c.args.items.now z (doing_of (decls_of c.args.env.now) c.args.tele.now c.args.sensors.now c.args.out.now)) (sym shape ∙ ap stmt_of (sym c.in-For.is))))
    c.run_turns.ensures.does
