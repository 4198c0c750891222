use Rattle.std.proofs.Common.{◌≡◌, ℕ, List, Option, map, sym, ap, ap₂, ◌∙◌}
use Rattle.std.specs.Option.{option_map}
use Rattle.p4_tree.specs.Tree.{nothing, block, var, assign, choice, return_, exit_, call, otherwise}
use Rattle.p4_tree.specs.View.{arg_of, else_of, expr_of, stmt_of, stmts_of}
use Rattle.p4_tree.specs.declared.statement.PTy.{PTy}
use Rattle.p4_tree.specs.declared.statement.Arg as code_arg
use Rattle.p4_tree.specs.declared.statement.Stmt as code
use Rattle.rewritten_programs.specs.Rewritten.{StmtRewritten, lone, returns, exits, in_block, in_var, in_assign, in_choice, in_call}
use Rattle.simplify_rules.specs.Simplified.{IsSimplified}
use Rattle.simplify_trees.proofs.Lists.{one_more, all_gone}
use Rattle.simplify_trees.proofs.Built.{stmt_built, no_else_built, else_built, block_built}
use Rattle.simplify_trees.proofs.Nodes.{nothing_node, return_node, exit_node, block_node, var_node, assign_node, choice_node, call_node}
use Rattle.simplify_trees.proofs.statements.+rewritten.Goals as goal

pub other-returns-in-None : goal.other-returns-in-None
other-returns-in-None g t c = no_else_built (IsSimplified (g.R.Offers.Answers c.args.rules.now)) _ (ap else_of c.in-None.is)

pub other-returns-in_ok-in_box-in-Some : goal.other-returns-in_ok-in_box-in-Some
other-returns-in_ok-in_box-in-Some g t c =
    else_built (IsSimplified (g.R.Offers.Answers c.args.rules.now)) _ (stmt_of c.deref.result.now) _ (stmt_of c.in_ok-d-in-Some.d) (ap else_of c.in-Some.is ∙ ap (λ (x : code.Stmt). otherwise (stmt_of x)) (sym c.deref.ensures)) c.in_ok-d-in-Some.ensures (ap stmt_of c.in_ok-in_box-in-Some.ensures)

pub stmt-returns-in_ok-stmts-in-Block : goal.stmt-returns-in_ok-stmts-in-Block
stmt-returns-in_ok-stmts-in-Block g t c =
    stmt_built (IsSimplified (g.R.Offers.Answers c.args.rules.now)) _ (block c.in-Block.at (stmts_of c.deref.result.now)) (block c.in-Block.at (stmts_of c.in_ok-stmts-in-Block.field-0.items)) _
    (ap stmt_of c.in-Block.is ∙ (block_node _ _ ∙ ap (λ (xs : List code.Stmt). block c.in-Block.at (stmts_of xs)) (sym c.deref.ensures.value))) (block_node _ _)
    (in_block _ c.in_ok-stmts-in-Block.ensures)

pub stmt-returns-in_ok-start-in-Var : goal.stmt-returns-in_ok-start-in-Var
stmt-returns-in_ok-start-in-Var g t c =
    stmt_built (IsSimplified (g.R.Offers.Answers c.args.rules.now)) _ (var c.in-Var.at c.in-Var.ty c.in-Var.name (option_map expr_of c.in-Var.e)) (var c.in-Var.at c.in-Var.ty c.in-Var.name (option_map expr_of c.in_ok-start-in-Var.field-0)) _
    (ap stmt_of c.in-Var.is ∙ var_node _ _ _ _)
    (var_node _ _ _ _ ∙ ap₂ (λ (y : PTy) (x : List ℕ). var c.in-Var.at y x (option_map expr_of c.in_ok-start-in-Var.field-0)) c.in_ok-ty-in-Var.ensures c.in_ok-name-in-Var.ensures)
    (in_var _ _ _ c.in_ok-start-in-Var.ensures)

pub stmt-returns-in_ok-simplified-in-Assign : goal.stmt-returns-in_ok-simplified-in-Assign
stmt-returns-in_ok-simplified-in-Assign g t c =
    stmt_built (IsSimplified (g.R.Offers.Answers c.args.rules.now)) _ (assign c.in-Assign.at c.in-Assign.path.items (expr_of c.in-Assign.e)) (assign c.in-Assign.at c.in-Assign.path.items (expr_of c.in_ok-simplified-in-Assign.field-0)) _
    (ap stmt_of c.in-Assign.is ∙ assign_node _ _ _)
    (assign_node _ _ _ ∙ ap (λ (x : List (List ℕ)). assign c.in-Assign.at x (expr_of c.in_ok-simplified-in-Assign.field-0)) (c.in_ok-path-in-Assign.ensures ∙ c.deref-in-Assign.ensures.value))
    (in_assign _ _ c.in_ok-simplified-in-Assign.ensures.walked)

pub stmt-returns-in_ok-test-in-If : goal.stmt-returns-in_ok-test-in-If
stmt-returns-in_ok-test-in-If g t c =
    stmt_built (IsSimplified (g.R.Offers.Answers c.args.rules.now)) _ (choice c.in-If.at (expr_of c.in-If.e) (stmt_of c.in-If.a.value) (else_of c.in-If.b)) (choice c.in-If.at (expr_of c.in_ok-test-in-If.field-0) (stmt_of c.in_ok-a-in-If.a.value) (else_of c.in_ok-b-in-If.b)) _
    (ap stmt_of c.in-If.is ∙ choice_node _ _ _ _) (choice_node _ _ _ _)
    (in_choice _ c.in_ok-test-in-If.ensures c.in_ok-a-in-If.ensures c.in_ok-b-in-If.ensures)

pub stmt-returns-in_ok-copy_path-in-Call : goal.stmt-returns-in_ok-copy_path-in-Call
stmt-returns-in_ok-copy_path-in-Call g t c =
    let x = c.deref-in-Call.result.now in
    stmt_built (IsSimplified (g.R.Offers.Answers c.args.rules.now)) _ (call c.in-Call.at x (map arg_of c.deref-in-Call-2.result.now)) (call c.in-Call.at x (map arg_of c.in_ok-list-in-Call.list.items)) _
    (ap stmt_of c.in-Call.is ∙ (call_node _ _ _ ∙ ap₂ (λ (y : List (List ℕ)) (xs : List code_arg.Arg). call c.in-Call.at y (map arg_of xs)) (sym c.deref-in-Call.ensures.value) (sym c.deref-in-Call-2.ensures.value)))
    (call_node _ _ _ ∙ ap (λ (y : List (List ℕ)). call c.in-Call.at y (map arg_of c.in_ok-list-in-Call.list.items)) (c.in_ok-copy_path-in-Call.ensures ∙ (c.deref-in-Call-3.ensures.value ∙ sym c.deref-in-Call.ensures.value)))
    (in_call _ x c.in_ok-list-in-Call.ensures)

pub stmt-returns-in-Nothing : goal.stmt-returns-in-Nothing
stmt-returns-in-Nothing g t c = stmt_built (IsSimplified (g.R.Offers.Answers c.args.rules.now)) _ (nothing c.in-Nothing.at) (nothing c.in-Nothing.at) _ (ap stmt_of c.in-Nothing.is ∙ nothing_node _) (nothing_node _) (lone _)

pub stmt-returns-in-Return : goal.stmt-returns-in-Return
stmt-returns-in-Return g t c = stmt_built (IsSimplified (g.R.Offers.Answers c.args.rules.now)) _ (return_ c.in-Return.at) (return_ c.in-Return.at) _ (ap stmt_of c.in-Return.is ∙ return_node _) (return_node _) (returns _)

pub stmt-returns-in-Exit : goal.stmt-returns-in-Exit
stmt-returns-in-Exit g t c = stmt_built (IsSimplified (g.R.Offers.Answers c.args.rules.now)) _ (exit_ c.in-Exit.at) (exit_ c.in-Exit.at) _ (ap stmt_of c.in-Exit.is ∙ exit_node _) (exit_node _) (exits _)

pub stmts-loop-s-preserved : goal.stmts-loop-s-preserved
stmts-loop-s-preserved g t c =
    one_more stmt_of (StmtRewritten (IsSimplified (g.R.Offers.Answers c.args.rules.now))) c.args.list.now c.loop-s.made.items c.push.new.self.items c.loop-s.s-index c.s-item.result c.in_ok-stmt.field-0
    c.loop-s-test.true c.s-item.is c.loop-s.invariant c.in_ok-stmt.ensures c.in_ok-push.ensures.items

pub stmts-returns : goal.stmts-returns
stmts-returns g t c =
    let E = IsSimplified (g.R.Offers.Answers c.args.rules.now) in
    block_built E c.args.list.now c.loop-s.made.items (all_gone stmt_of (StmtRewritten E) c.args.list.now c.loop-s.made.items c.loop-s.s-index c.loop-s-test.false c.loop-s.invariant)
