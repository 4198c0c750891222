-- Lists of statements under a scope.
use Rattle.std.proofs.Common.{◌≡◌, List, [], ◌∷◌, map, refl, ap}
use Rattle.p4_tree.specs.Tree.{Stmt, stmts_from, next}
use Rattle.p4_meaning.specs.Scope.{Scope}
use Rattle.p4_meaning.specs.Under.{stmt_under, stmts_under}

-- a list of statements one by one
pub under-list : (sc : Scope) (ss : List Stmt) → stmts_from (map (stmt_under sc) ss) ≡ stmts_under sc (stmts_from ss)
under-list sc [] = refl
under-list sc (s ∷ ss) = ap (next (stmt_under sc s)) (under-list sc ss)
