-- The statements that set a control's variables, as a list.
use Rattle.std.proofs.Common.{◌≡◌, List, [], ◌∷◌, map, refl, ap}
use Rattle.p4_tree.specs.Tree.{stmts_from, next, Local, local_action, local_table, local_register, local_const, local_var, var}
use Rattle.p4_meaning.specs.Scope.{Scope}
use Rattle.p4_meaning.specs.Under.{stmt_under, behind_local, settings_under}
use Rattle.p4_parts.specs.Locals.{settings}

pub settings_list : (sc : Scope) (ls : List Local) → stmts_from (settings sc ls) ≡ settings_under sc ls
settings_list sc [] = refl
settings_list sc (local_action p a ∷ ls) = settings_list sc ls
settings_list sc (local_table p t ∷ ls) = settings_list sc ls
settings_list sc (local_register p x ∷ ls) = settings_list sc ls
settings_list sc (local_const p ty x e ∷ ls) = settings_list (behind_local sc (local_const p ty x e)) ls
settings_list sc (local_var p ty x e ∷ ls) = ap (next (stmt_under sc (var p ty x e))) (settings_list sc ls)
