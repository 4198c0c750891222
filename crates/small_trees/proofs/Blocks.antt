-- Blocks as lists.
use Rattle.std.proofs.Common.{◌≡◌, List, [], ◌∷◌, ◌++◌, refl, ap}
use Rattle.p4_tree.specs.Tree.{next, and_then}
use Rattle.p4_tree.specs.View.{stmt_of, stmts_of}
use Rattle.p4_tree.specs.declared.statement.Stmt as code

pub stmts_append : (xs ys : List code.Stmt) → stmts_of (xs ++ ys) ≡ and_then (stmts_of xs) (stmts_of ys)
stmts_append [] ys = refl
stmts_append (x ∷ xs) ys = ap (next (stmt_of x)) (stmts_append xs ys)
