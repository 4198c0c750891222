-- The variables of a control, as a list of statements.
use Rattle.std.specs.Prelude.{List, [], ◌∷◌}
use Rattle.p4_tree.specs.Tree.{Local, local_var, Stmt, var}
use Rattle.p4_meaning.specs.Scope.{Scope}
use Rattle.p4_meaning.specs.Under.{stmt_under, behind_local}

-- the statements that set a control's variables
abbrev pub settings : Scope → List Local → List Stmt
settings sc [] = []
settings sc (local_var p ty x e ∷ ls) = stmt_under sc (var p ty x e) ∷ settings sc ls
settings sc (l ∷ ls) = settings (behind_local sc l) ls
