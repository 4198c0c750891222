-- Statements without exits declare the variables of the given ones.
use Rattle.std.proofs.Common.{◌≡◌, ℕ, List, [], ◌++◌, Bool, true, false, ◌||◌, refl, ap₂, ◌∙◌}
use Rattle.std.proofs.lemmas.List.{append-nil}
use Rattle.p4_tree.specs.Tree.{Stmt, Stmts, MaybeStmt, nothing, block, var, assign, choice, return_, exit_, call, done, next, without, otherwise}
use Rattle.p4_meaning.specs.Scope.{names_in_stmt, names_in_else, names_in}
use Rattle.exit_statements.specs.Without.{Body, in_action, in_control, Flags, exit_in, Exits, test_leaves, stmt_leaves, is_var, in_list, in_branch, stmt_without, else_without, stmts_without}
use Rattle.exit_statements.specs.Written.{DeclareSame}

module _ (n : Flags) (m : Exits) (body : Body) where
  list_names : (l v : Bool) (s : Stmt) → names_in_stmt (in_list n m body l v s) ≡ names_in_stmt s
  list_names true false s = append-nil (names_in_stmt s)
  list_names true true s = refl
  list_names false v s = refl

  branch_names : (l : Bool) (s : Stmt) → names_in_stmt (in_branch n m body l s) ≡ names_in_stmt s
  branch_names true s = append-nil (names_in_stmt s ++ []) ∙ append-nil (names_in_stmt s)
  branch_names false s = refl

  exit_names : (body : Body) → names_in_stmt (exit_in n body) ≡ []
  exit_names in_action = refl
  exit_names in_control = refl

  mutual
    stmt_names : (s : Stmt) → names_in_stmt (stmt_without n m body s) ≡ names_in_stmt s
    stmt_names (nothing p) = refl
    stmt_names (block p ss) = list_same false ss
    stmt_names (var p ty x e) = refl
    stmt_names (assign p target e) = refl
    stmt_names (choice p e s t) = ap₂ (λ (a b : List (List ℕ)). a ++ b) (branch_names (test_leaves m e) (stmt_without n m body s) ∙ stmt_names s) (else_names (test_leaves m e) t)
    stmt_names (return_ p) = refl
    stmt_names (exit_ p) = exit_names body
    stmt_names (call p callee args) = refl

    else_names : (l : Bool) (s : MaybeStmt) → names_in_else (else_without n m body l s) ≡ names_in_else s
    else_names l without = refl
    else_names l (otherwise s) = branch_names l (stmt_without n m body s) ∙ stmt_names s

    list_same : (l : Bool) (ss : Stmts) → names_in (stmts_without n m body l ss) ≡ names_in ss
    list_same l done = refl
    list_same l (next s ss) = ap₂ (λ (a b : List (List ℕ)). a ++ b) (list_names l (is_var s) (stmt_without n m body s) ∙ stmt_names s) (list_same (l || stmt_leaves m s) ss)

pub declare_same : DeclareSame
declare_same n m body left ss = list_same n m body left ss
