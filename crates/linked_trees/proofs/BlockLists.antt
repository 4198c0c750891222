-- Lists of statements with reads of the packet's length rewritten.
use Rattle.std.proofs.Common.{◌≡◌, List, [], ◌∷◌, map, refl, ap}
use Rattle.p4_tree.specs.Tree.{Stmt, Stmts, stmts_from, done, next, and_then}
use Rattle.p4_meaning.specs.Scope.{Roots}
use Rattle.linked_programs.specs.Rewritten.{stmt_with, stmts_with}

-- one by one
pub with_list : (r : Roots) (ss : List Stmt) → stmts_from (map (stmt_with r) ss) ≡ stmts_with r (stmts_from ss)
with_list r [] = refl
with_list r (s ∷ ss) = ap (next (stmt_with r s)) (with_list r ss)

-- of two lists
pub with_both : (r : Roots) (a b : Stmts) → and_then (stmts_with r a) (stmts_with r b) ≡ stmts_with r (and_then a b)
with_both r done b = refl
with_both r (next s a) b = ap (next (stmt_with r s)) (with_both r a b)
